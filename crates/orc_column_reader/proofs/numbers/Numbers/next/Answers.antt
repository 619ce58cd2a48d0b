use Rattle.std.proofs.Common.{◌≡◌, suc, ℤ, pos, [], ◌∷◌, drop, get_or, length, ◌+◌, ◌<◌, ap, sym, ◌∙◌, rules, w64, to_z, of_z}
use Rattle.std.proofs.lemmas.Int.{to_z-of_z}
use Rattle.orc_column_reader.specs.Numbers.{NumbersLeft, NumbersFirst, is_run}
use Rattle.orc_column_reader.specs.RunFaults.{no_run}
use Rattle.orc_column_reader.proofs.RunsMetLemmas.{met_value}
use Rattle.orc_column_reader.proofs.Fronts.{one_after_other}
use Rattle.orc_column_reader.proofs.RunsLemmas.{one_taken, head_at}
use Rattle.orc_column_reader.proofs.FirstLemmas.{first_taken, first_after}
use Rattle.orc_column_reader.proofs.numbers.Numbers.next.Goals as goal

pub returns-clause-found : goal.returns-clause-found
returns-clause-found c =
    let r = c.ready.new.self in
    let n : ℤ = get_or c.values.result.now r.used (pos 0) in
    let z : to_z w64 (of_z w64 n) ≡ n = to_z-of_z w64 n (search rules) in
    let there : r.used < length r.run.values = c.in_ok-ready.ensures.some in
    let same : get_or r.run.values r.used (pos 0) ≡ n = ap (λ xs. get_or xs r.used (pos 0)) (sym c.values.ensures.values) in
    let e = head_at r.run.values r.used (pos 0) there ∙ ap (λ m. m ∷ drop (r.used + 1) r.run.values) same in
    rw z (one_after_other (NumbersLeft c.args.self.now) (NumbersLeft r) _ [] (n ∷ []) c.in_ok-ready.ensures.found (one_taken (is_run r.version r.sign) r.run.values r.used (drop r.at r.bytes.now) n e))

pub returns-clause-first : goal.returns-clause-first
returns-clause-first c =
    let r = c.ready.new.self in
    let n : ℤ = get_or c.values.result.now r.used (pos 0) in
    let z : to_z w64 (of_z w64 n) ≡ n = to_z-of_z w64 n (search rules) in
    let there : r.used < length r.run.values = c.in_ok-ready.ensures.some in
    let same : get_or r.run.values r.used (pos 0) ≡ n = ap (λ xs. get_or xs r.used (pos 0)) (sym c.values.ensures.values) in
    let e = head_at r.run.values r.used (pos 0) there ∙ ap (λ m. m ∷ drop (r.used + 1) r.run.values) same in
    rw z (first_after (NumbersFirst c.args.self.now) (NumbersFirst r) _ [] (n ∷ []) c.in_ok-ready.ensures.first (first_taken (is_run r.version r.sign) r.run.values r.used (drop r.at r.bytes.now) n e))

pub returns-clause-before : goal.returns-clause-before
returns-clause-before c =
    λ m f h.
    let r = c.ready.new.self in
    let n : ℤ = get_or c.values.result.now r.used (pos 0) in
    let there : r.used < length r.run.values = c.in_ok-ready.ensures.some in
    let same : get_or r.run.values r.used (pos 0) ≡ n = ap (λ xs. get_or xs r.used (pos 0)) (sym c.values.ensures.values) in
    let e = head_at r.run.values r.used (pos 0) there ∙ ap (λ m. m ∷ drop (r.used + 1) r.run.values) same in
    c.in_ok-ready.ensures.before (suc m) f (met_value (is_run r.version r.sign) (no_run r.version r.sign) n (drop (r.used + 1) r.run.values) (drop r.used r.run.values) (drop r.at r.bytes.now) r.start r.at (length r.bytes.now) m f e h)
