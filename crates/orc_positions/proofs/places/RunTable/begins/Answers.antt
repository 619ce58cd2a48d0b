use Rattle.std.proofs.Common.{◌≡◌, ℕ, List, length, Ok, Err, ap, sym, subst, ◌∙◌, get_or}
use Rattle.std.proofs.lemmas.List.Sorted.{searched}
use Rattle.orc_positions.specs.RunTable.{Places, Rises}
use Rattle.orc_positions.proofs.PlaceLemmas.{up_in, found_in, missed_in}
use Rattle.orc_positions.proofs.places.RunTable.begins.Goals as goal

pub returns-in-Some-checked_sub : goal.returns-in-Some-checked_sub
returns-in-Some-checked_sub c =
    let places = c.args.self.now in
    let ds = c.deref.result.now in
    let offsets_are = ap (λ (p : Places). p.offsets) c.self.view_is in
    let counts_are = ap (λ (p : Places). p.counts) c.self.view_is in
    let rises : Rises places.offsets = subst (λ (t : List ℕ). Rises t) offsets_are c.self.invariant.0 in
    let alike : length places.counts ≡ length places.offsets = sym (ap length counts_are) ∙ (c.self.invariant.1 ∙ ap length offsets_are) in
    let e : ds ≡ places.offsets = c.deref.ensures.value ∙ offsets_are in
    let s = searched ds c.args.offset (Ok c.in-Ok.place) c.in-Ok.ensures.position (up_in ds places e rises) in
    let got : c.in-Some.count.now ≡ get_or places.counts c.in-Ok.place c.in-Some.count.now =
    c.in-Some.ensures.lookup.1 ∙ ap (λ (t : List ℕ). get_or t c.in-Ok.place c.in-Some.count.now) (c.deref-in-Ok.ensures.value ∙ counts_are) in
    found_in ds places e rises alike c.args.offset c.args.skip c.args.n c.in-Ok.place c.in-Some-checked_sub.before c.in-Some.count.now s c.in-Some-checked_sub.ensures got

pub returns-in-Err : goal.returns-in-Err
returns-in-Err c =
    let places = c.args.self.now in
    let ds = c.deref.result.now in
    let offsets_are = ap (λ (p : Places). p.offsets) c.self.view_is in
    let rises : Rises places.offsets = subst (λ (t : List ℕ). Rises t) offsets_are c.self.invariant.0 in
    let e : ds ≡ places.offsets = c.deref.ensures.value ∙ offsets_are in
    let s = searched ds c.args.offset (Err c.in-Err.field-0) c.in-Err.ensures.position (up_in ds places e rises) in
    missed_in ds places e c.args.offset c.args.skip c.args.n c.in-Err.field-0 s.1 s.2
