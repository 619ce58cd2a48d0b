use Rattle.std.proofs.Common.{◌≡◌, ◌<◌, ℕ, inl, inr, Err, List, [], ◌∷◌, ◌++◌, map, sym, ap, arith}
use Rattle.std.proofs.Math.Seq.{map-set_same}
use Rattle.std.proofs.lemmas.Result.{err_from_is_err_and}
use Rattle.orc_tail.specs.declared.tail.Tail.{Tail}
use Rattle.orc_merger.specs.SoFar.{IsNext}
use Rattle.orc_merger.specs.Inputs.{CountsFailure}
use Rattle.orc_merger.proofs.InputsRead.{one_more, open_refused, open_counted, next_refused, no_memory, no_memory_counted, open_named, no_memory_named}
use Rattle.orc_merger.proofs.FailureCounts.{above, no_tail_own, input_counts, refused_counts}
use Rattle.orc_merger.proofs.NextTests.{kind_of, kind_counted, end_few, kind_refused, join_refused, join_counted, kind_named, join_named}
use Rattle.orc_merger.proofs.gathering.gather_next.Goals as goal

pub returns-in_err-tail-clause-told : goal.returns-in_err-tail-clause-told
returns-in_err-tail-clause-told g c =
    map-set_same g.S.Source.told c.args.inputs.now c.args.number c.tail_of.new.input c.index-inputs-number.result c.tail_of.ensures.source.told

pub returns-in_err-tail-clause-sizes : goal.returns-in_err-tail-clause-sizes
returns-in_err-tail-clause-sizes g c =
    map-set_same g.S.Source.size c.args.inputs.now c.args.number c.tail_of.new.input c.index-inputs-number.result c.tail_of.ensures.source.size

pub returns-in_err-compare-clause-told : goal.returns-in_err-compare-clause-told
returns-in_err-compare-clause-told g c =
    map-set_same g.S.Source.told c.args.inputs.now c.args.number c.tail_of.new.input c.index-inputs-number.result c.tail_of.ensures.source.told

pub returns-in_err-compare-clause-sizes : goal.returns-in_err-compare-clause-sizes
returns-in_err-compare-clause-sizes g c =
    map-set_same g.S.Source.size c.args.inputs.now c.args.number c.tail_of.new.input c.index-inputs-number.result c.tail_of.ensures.source.size

pub returns-in_err-add-clause-told : goal.returns-in_err-add-clause-told
returns-in_err-add-clause-told g c =
    map-set_same g.S.Source.told c.args.inputs.now c.args.number c.tail_of.new.input c.index-inputs-number.result c.tail_of.ensures.source.told

pub returns-in_err-add-clause-sizes : goal.returns-in_err-add-clause-sizes
returns-in_err-add-clause-sizes g c =
    map-set_same g.S.Source.size c.args.inputs.now c.args.number c.tail_of.new.input c.index-inputs-number.result c.tail_of.ensures.source.size

pub returns-clause-told : goal.returns-clause-told
returns-clause-told g c =
    map-set_same g.S.Source.told c.args.inputs.now c.args.number c.tail_of.new.input c.index-inputs-number.result c.tail_of.ensures.source.told

pub returns-clause-sizes : goal.returns-clause-sizes
returns-clause-sizes g c =
    map-set_same g.S.Source.size c.args.inputs.now c.args.number c.tail_of.new.input c.index-inputs-number.result c.tail_of.ensures.source.size

pub returns-in_err-tail-clause-refused : goal.returns-in_err-tail-clause-refused
returns-in_err-tail-clause-refused g c =
    let s = c.requires.before in
    let p = err_from_is_err_and c.from_residual.result c.from_residual.ensures.1 in
    rw (p.1, p.2) (open_refused g.S.Source.told (map g.S.Source.size c.args.inputs.now) c.args.inputs.now c.args.number c.index-inputs-number.result (s.first ∷ s.rest) _ c.requires.number s.tails_are s.merges c.in_err-tail.ensures.fault)

pub returns-in_err-tail-clause-counted : goal.returns-in_err-tail-clause-counted
returns-in_err-tail-clause-counted g c =
    let p = err_from_is_err_and c.from_residual.result c.from_residual.ensures.1 in
    rw (p.1, p.2) (open_counted g.S.Source.failures c.args.inputs.now c.args.number c.index-inputs-number.result c.tail_of.new.input _ _ c.requires.number c.in_err-tail.ensures.fault (λ is. above _ _ (c.in_err-tail.ensures.source.failed (ap Err is))))

pub returns-in_err-compare-clause-refused : goal.returns-in_err-compare-clause-refused
returns-in_err-compare-clause-refused g c =
    let s = c.requires.before in
    let t : Tail = c.in_ok-tail.tail in
    let p = err_from_is_err_and c.from_residual-in_err-compare.result c.from_residual-in_err-compare.ensures.1 in
    rw (p.1, p.2) (next_refused g.S.Source.told (map g.S.Source.size c.args.inputs.now) c.args.inputs.now c.args.number c.index-inputs-number.result (s.first ∷ s.rest) t _ c.requires.number s.tails_are s.merges c.in_ok-tail.ensures.found (kind_refused s.first c.args.gathered.now.first s.rest t c.args.number _ s.gathered.first_is s.tails_are.many c.in_err-compare.ensures.fault))

pub add-requires-clause-end : goal.add-requires-clause-end
add-requires-clause-end g c =
    let s = c.requires.before in
    end_few s.first (s.first ∷ s.rest) c.args.gathered.now s.merges s.gathered

pub returns-in_err-add-clause-refused : goal.returns-in_err-add-clause-refused
returns-in_err-add-clause-refused g c =
    let s = c.requires.before in
    let t : Tail = c.in_ok-tail.tail in
    let next : IsNext s.first (s.first ∷ s.rest) t c.args.number c.take_lists-lists.result c.args.gathered.now = record {
      number_is = sym s.tails_are.many;
      gathered = s.gathered;
      merges = s.merges;
      first_within = s.tails_are.limits.0;
      tails_within = s.tails_are.limits;
      tail_within = c.in_ok-tail.ensures.limits;
      kind = kind_of s.first c.args.gathered.now.first t s.gathered.first_is c.in_ok-compare.ensures.alike;
      lists_are = c.take_lists-lists.ensures.lists;
    } in
    let p = err_from_is_err_and c.from_residual-in_err-add.result c.from_residual-in_err-add.ensures.1 in
    rw (p.1, p.2) (elim c.in_err-add.ensures.fault [
      | inl is ↦ no_memory _ is _
      | inr fails ↦ next_refused g.S.Source.told (map g.S.Source.size c.args.inputs.now) c.args.inputs.now c.args.number c.index-inputs-number.result (s.first ∷ s.rest) t _ c.requires.number s.tails_are s.merges c.in_ok-tail.ensures.found (join_refused s.first s.rest t c.args.number _ s.tails_are.many next.kind (fails s.first t (s.first ∷ s.rest) next))
    ])

pub returns-in_err-add-clause-counted : goal.returns-in_err-add-clause-counted
returns-in_err-add-clause-counted g c =
    let s = c.requires.before in
    let t : Tail = c.in_ok-tail.tail in
    let next : IsNext s.first (s.first ∷ s.rest) t c.args.number c.take_lists-lists.result c.args.gathered.now = record {
      number_is = sym s.tails_are.many;
      gathered = s.gathered;
      merges = s.merges;
      first_within = s.tails_are.limits.0;
      tails_within = s.tails_are.limits;
      tail_within = c.in_ok-tail.ensures.limits;
      kind = kind_of s.first c.args.gathered.now.first t s.gathered.first_is c.in_ok-compare.ensures.alike;
      lists_are = c.take_lists-lists.ensures.lists;
    } in
    let p = err_from_is_err_and c.from_residual-in_err-add.result c.from_residual-in_err-add.ensures.1 in
    rw (p.1, p.2) (elim c.in_err-add.ensures.fault [
      | inl is ↦ no_memory_counted _ _ _ is
      | inr fails ↦ join_counted _ _ s.first t (s.first ∷ (s.rest ++ t ∷ [])) c.args.number _ (fails s.first t (s.first ∷ s.rest) next)
    ])

pub returns-clause-found : goal.returns-clause-found
returns-clause-found g c =
    let s = c.requires.before in
    let t : Tail = c.in_ok-tail.tail in
    let next : IsNext s.first (s.first ∷ s.rest) t c.args.number c.take_lists-lists.result c.args.gathered.now = record {
      number_is = sym s.tails_are.many;
      gathered = s.gathered;
      merges = s.merges;
      first_within = s.tails_are.limits.0;
      tails_within = s.tails_are.limits;
      tail_within = c.in_ok-tail.ensures.limits;
      kind = kind_of s.first c.args.gathered.now.first t s.gathered.first_is c.in_ok-compare.ensures.alike;
      lists_are = c.take_lists-lists.ensures.lists;
    } in
    record {
      first = s.first;
      rest = s.rest ++ t ∷ [];
      tails_are = one_more g.S.Source.told g.S.Source.size c.args.inputs.now c.args.number c.index-inputs-number.result (s.first ∷ s.rest) t c.requires.number s.tails_are c.in_ok-tail.ensures.limits c.in_ok-tail.ensures.within c.in_ok-tail.ensures.found;
      merges = c.in_ok-add.ensures.merges s.first t (s.first ∷ s.rest) next;
      gathered = c.in_ok-add.ensures.gathered s.first t (s.first ∷ s.rest) next;
    }

pub returns-clause-kept : goal.returns-clause-kept
returns-clause-kept g c =
    map-set_same g.S.Source.failures c.args.inputs.now c.args.number c.tail_of.new.input c.index-inputs-number.result c.in_ok-tail.ensures.source.kept

pub returns-in_err-tail-clause-sources : goal.returns-in_err-tail-clause-sources
returns-in_err-tail-clause-sources g c =
    let p = err_from_is_err_and c.from_residual.result c.from_residual.ensures.1 in
    let e = c.in_err-tail.ensures in
    rw (p.1, p.2) (input_counts g.S.Source.failures c.args.inputs.now c.args.number c.index-inputs-number.result c.tail_of.new.input _ c.requires.number (no_tail_own _ _ _ e.fault) (λ is. e.source.failed (ap Err is)) e.source.others)

pub returns-in_err-compare-clause-sources : goal.returns-in_err-compare-clause-sources
returns-in_err-compare-clause-sources g c =
    let p = err_from_is_err_and c.from_residual-in_err-compare.result c.from_residual-in_err-compare.ensures.1 in
    rw (p.1, p.2) (refused_counts g.S.Source.failures c.args.inputs.now c.args.number c.index-inputs-number.result c.tail_of.new.input _ c.in_ok-tail.ensures.source.kept (kind_counted _ _ c.args.gathered.now.first c.in_ok-tail.tail c.args.number _ c.in_err-compare.ensures.fault))

pub returns-in_err-add-clause-sources : goal.returns-in_err-add-clause-sources
returns-in_err-add-clause-sources g c =
    let s = c.requires.before in
    let t : Tail = c.in_ok-tail.tail in
    let next : IsNext s.first (s.first ∷ s.rest) t c.args.number c.take_lists-lists.result c.args.gathered.now = record {
      number_is = sym s.tails_are.many;
      gathered = s.gathered;
      merges = s.merges;
      first_within = s.tails_are.limits.0;
      tails_within = s.tails_are.limits;
      tail_within = c.in_ok-tail.ensures.limits;
      kind = kind_of s.first c.args.gathered.now.first t s.gathered.first_is c.in_ok-compare.ensures.alike;
      lists_are = c.take_lists-lists.ensures.lists;
    } in
    let p = err_from_is_err_and c.from_residual-in_err-add.result c.from_residual-in_err-add.ensures.1 in
    let counts : List ℕ = map g.S.Source.failures c.args.inputs.now in
    let counted : CountsFailure counts counts c.in_err-add.field-0.0 = elim c.in_err-add.ensures.fault [
      | inl is ↦ no_memory_counted _ _ _ is
      | inr fails ↦ join_counted _ _ s.first t (s.first ∷ (s.rest ++ t ∷ [])) c.args.number _ (fails s.first t (s.first ∷ s.rest) next)
    ] in
    rw (p.1, p.2) (refused_counts g.S.Source.failures c.args.inputs.now c.args.number c.index-inputs-number.result c.tail_of.new.input _ c.in_ok-tail.ensures.source.kept counted)

pub returns-in_err-tail-clause-named : goal.returns-in_err-tail-clause-named
returns-in_err-tail-clause-named g c =
    let p = err_from_is_err_and c.from_residual.result c.from_residual.ensures.1 in
    rw (p.1, p.2) (open_named _ c.args.number _ _ c.requires.number c.in_err-tail.ensures.fault)

pub returns-in_err-compare-clause-named : goal.returns-in_err-compare-clause-named
returns-in_err-compare-clause-named g c =
    let many = c.requires.before.tails_are.many in
    let later : 0 < c.args.number = omega (arith, many) in
    let p = err_from_is_err_and c.from_residual-in_err-compare.result c.from_residual-in_err-compare.ensures.1 in
    rw (p.1, p.2) (kind_named _ c.args.gathered.now.first c.in_ok-tail.tail c.args.number _ later c.requires.number c.in_err-compare.ensures.fault)

pub returns-in_err-add-clause-named : goal.returns-in_err-add-clause-named
returns-in_err-add-clause-named g c =
    let s = c.requires.before in
    let t : Tail = c.in_ok-tail.tail in
    let next : IsNext s.first (s.first ∷ s.rest) t c.args.number c.take_lists-lists.result c.args.gathered.now = record {
      number_is = sym s.tails_are.many;
      gathered = s.gathered;
      merges = s.merges;
      first_within = s.tails_are.limits.0;
      tails_within = s.tails_are.limits;
      tail_within = c.in_ok-tail.ensures.limits;
      kind = kind_of s.first c.args.gathered.now.first t s.gathered.first_is c.in_ok-compare.ensures.alike;
      lists_are = c.take_lists-lists.ensures.lists;
    } in
    let p = err_from_is_err_and c.from_residual-in_err-add.result c.from_residual-in_err-add.ensures.1 in
    rw (p.1, p.2) (elim c.in_err-add.ensures.fault [
      | inl is ↦ no_memory_named _ c.args.number _ c.requires.number is
      | inr fails ↦ join_named _ s.first t (s.first ∷ (s.rest ++ t ∷ [])) c.args.number _ c.requires.number (fails s.first t (s.first ∷ s.rest) next)
    ])
