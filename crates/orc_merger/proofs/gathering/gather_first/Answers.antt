use Rattle.std.proofs.Common.{◌≡◌, ℕ, inl, inr, Err, List, [], ◌∷◌, map, refl, ap}
use Rattle.std.proofs.Math.Seq.{map-set_same}
use Rattle.std.proofs.lemmas.Result.{err_from_is_err_and}
use Rattle.orc_tail.specs.declared.tail.Tail.{Tail}
use Rattle.orc_merger.specs.SoFar.{IsNext}
use Rattle.orc_merger.specs.Inputs.{CountsFailure}
use Rattle.orc_merger.proofs.InputsRead.{no_tails, one_more, open_refused, open_counted, next_refused, no_memory, no_memory_counted, open_named, no_memory_named}
use Rattle.orc_merger.proofs.FailureCounts.{above, no_tail_own, input_counts, refused_counts}
use Rattle.orc_merger.proofs.NextTests.{own_kind, none_merge, end_few, rows_few, first_refused, join_counted, join_named}
use Rattle.orc_merger.proofs.gathering.gather_first.Goals as goal

pub returns-in_err-tail-clause-told : goal.returns-in_err-tail-clause-told
returns-in_err-tail-clause-told g c =
    map-set_same g.S.Source.told c.args.inputs.now 0 c.tail_of.new.input c.index-inputs-0.result c.tail_of.ensures.source.told

pub returns-in_err-tail-clause-sizes : goal.returns-in_err-tail-clause-sizes
returns-in_err-tail-clause-sizes g c =
    map-set_same g.S.Source.size c.args.inputs.now 0 c.tail_of.new.input c.index-inputs-0.result c.tail_of.ensures.source.size

pub returns-in_err-add-clause-told : goal.returns-in_err-add-clause-told
returns-in_err-add-clause-told g c =
    map-set_same g.S.Source.told c.args.inputs.now 0 c.tail_of.new.input c.index-inputs-0.result c.tail_of.ensures.source.told

pub returns-in_err-add-clause-sizes : goal.returns-in_err-add-clause-sizes
returns-in_err-add-clause-sizes g c =
    map-set_same g.S.Source.size c.args.inputs.now 0 c.tail_of.new.input c.index-inputs-0.result c.tail_of.ensures.source.size

pub returns-clause-told : goal.returns-clause-told
returns-clause-told g c =
    map-set_same g.S.Source.told c.args.inputs.now 0 c.tail_of.new.input c.index-inputs-0.result c.tail_of.ensures.source.told

pub returns-clause-sizes : goal.returns-clause-sizes
returns-clause-sizes g c =
    map-set_same g.S.Source.size c.args.inputs.now 0 c.tail_of.new.input c.index-inputs-0.result c.tail_of.ensures.source.size

pub returns-in_err-tail-clause-refused : goal.returns-in_err-tail-clause-refused
returns-in_err-tail-clause-refused g c =
    let p = err_from_is_err_and c.from_residual.result c.from_residual.ensures.1 in
    rw (p.1, p.2) (open_refused g.S.Source.told (map g.S.Source.size c.args.inputs.now) c.args.inputs.now 0 c.index-inputs-0.result [] _ c.requires (no_tails _ _) tt c.in_err-tail.ensures.fault)

pub returns-in_err-tail-clause-counted : goal.returns-in_err-tail-clause-counted
returns-in_err-tail-clause-counted g c =
    let p = err_from_is_err_and c.from_residual.result c.from_residual.ensures.1 in
    rw (p.1, p.2) (open_counted g.S.Source.failures c.args.inputs.now 0 c.index-inputs-0.result c.tail_of.new.input _ _ c.requires c.in_err-tail.ensures.fault (λ is. above _ _ (c.in_err-tail.ensures.source.failed (ap Err is))))

pub add-requires-clause-end : goal.add-requires-clause-end
add-requires-clause-end g c =
    let t : Tail = c.in_ok-tail.tail in
    end_few t [] c.new-gathered.result (none_merge t c.in_ok-tail.ensures.limits) (c.new-gathered.ensures t c.take_lists-lists.ensures.left)

pub add-requires-clause-rows : goal.add-requires-clause-rows
add-requires-clause-rows g c =
    let t : Tail = c.in_ok-tail.tail in
    rows_few t [] c.new-gathered.result (none_merge t c.in_ok-tail.ensures.limits) (c.new-gathered.ensures t c.take_lists-lists.ensures.left)

pub returns-in_err-add-clause-refused : goal.returns-in_err-add-clause-refused
returns-in_err-add-clause-refused g c =
    let t : Tail = c.in_ok-tail.tail in
    let next : IsNext t [] t 0 c.take_lists-lists.result c.new-gathered.result = record {
      number_is = refl;
      gathered = c.new-gathered.ensures t c.take_lists-lists.ensures.left;
      merges = none_merge t c.in_ok-tail.ensures.limits;
      first_within = c.in_ok-tail.ensures.limits;
      tails_within = tt;
      tail_within = c.in_ok-tail.ensures.limits;
      kind = own_kind t;
      lists_are = c.take_lists-lists.ensures.lists;
    } in
    let p = err_from_is_err_and c.from_residual-in_err-add.result c.from_residual-in_err-add.ensures.1 in
    rw (p.1, p.2) (elim c.in_err-add.ensures.fault [
      | inl is ↦ no_memory _ is _
      | inr fails ↦ next_refused g.S.Source.told (map g.S.Source.size c.args.inputs.now) c.args.inputs.now 0 c.index-inputs-0.result [] t _ c.requires (no_tails _ _) tt c.in_ok-tail.ensures.found (first_refused t _ (fails t t [] next))
    ])

pub returns-in_err-add-clause-counted : goal.returns-in_err-add-clause-counted
returns-in_err-add-clause-counted g c =
    let t : Tail = c.in_ok-tail.tail in
    let next : IsNext t [] t 0 c.take_lists-lists.result c.new-gathered.result = record {
      number_is = refl;
      gathered = c.new-gathered.ensures t c.take_lists-lists.ensures.left;
      merges = none_merge t c.in_ok-tail.ensures.limits;
      first_within = c.in_ok-tail.ensures.limits;
      tails_within = tt;
      tail_within = c.in_ok-tail.ensures.limits;
      kind = own_kind t;
      lists_are = c.take_lists-lists.ensures.lists;
    } in
    let p = err_from_is_err_and c.from_residual-in_err-add.result c.from_residual-in_err-add.ensures.1 in
    rw (p.1, p.2) (elim c.in_err-add.ensures.fault [
      | inl is ↦ no_memory_counted _ _ _ is
      | inr fails ↦ join_counted _ _ t t (t ∷ []) 0 _ (fails t t [] next)
    ])

pub returns-clause-found : goal.returns-clause-found
returns-clause-found g c =
    let t : Tail = c.in_ok-tail.tail in
    let limits = c.in_ok-tail.ensures.limits in
    let next : IsNext t [] t 0 c.take_lists-lists.result c.new-gathered.result = record {
      number_is = refl;
      gathered = c.new-gathered.ensures t c.take_lists-lists.ensures.left;
      merges = none_merge t limits;
      first_within = limits;
      tails_within = tt;
      tail_within = limits;
      kind = own_kind t;
      lists_are = c.take_lists-lists.ensures.lists;
    } in
    record {
      first = t;
      rest = [];
      tails_are = one_more g.S.Source.told g.S.Source.size c.args.inputs.now 0 c.index-inputs-0.result [] t c.requires (no_tails _ _) limits c.in_ok-tail.ensures.within c.in_ok-tail.ensures.found;
      merges = c.in_ok-add.ensures.merges t t [] next;
      gathered = c.in_ok-add.ensures.gathered t t [] next;
    }

pub returns-clause-kept : goal.returns-clause-kept
returns-clause-kept g c =
    map-set_same g.S.Source.failures c.args.inputs.now 0 c.tail_of.new.input c.index-inputs-0.result c.in_ok-tail.ensures.source.kept

pub returns-in_err-tail-clause-sources : goal.returns-in_err-tail-clause-sources
returns-in_err-tail-clause-sources g c =
    let p = err_from_is_err_and c.from_residual.result c.from_residual.ensures.1 in
    let e = c.in_err-tail.ensures in
    rw (p.1, p.2) (input_counts g.S.Source.failures c.args.inputs.now 0 c.index-inputs-0.result c.tail_of.new.input _ c.requires (no_tail_own _ _ _ e.fault) (λ is. e.source.failed (ap Err is)) e.source.others)

pub returns-in_err-add-clause-sources : goal.returns-in_err-add-clause-sources
returns-in_err-add-clause-sources g c =
    let t : Tail = c.in_ok-tail.tail in
    let next : IsNext t [] t 0 c.take_lists-lists.result c.new-gathered.result = record {
      number_is = refl;
      gathered = c.new-gathered.ensures t c.take_lists-lists.ensures.left;
      merges = none_merge t c.in_ok-tail.ensures.limits;
      first_within = c.in_ok-tail.ensures.limits;
      tails_within = tt;
      tail_within = c.in_ok-tail.ensures.limits;
      kind = own_kind t;
      lists_are = c.take_lists-lists.ensures.lists;
    } in
    let p = err_from_is_err_and c.from_residual-in_err-add.result c.from_residual-in_err-add.ensures.1 in
    let counts : List ℕ = map g.S.Source.failures c.args.inputs.now in
    let counted : CountsFailure counts counts c.in_err-add.field-0.0 = elim c.in_err-add.ensures.fault [
      | inl is ↦ no_memory_counted _ _ _ is
      | inr fails ↦ join_counted _ _ t t (t ∷ []) 0 _ (fails t t [] next)
    ] in
    rw (p.1, p.2) (refused_counts g.S.Source.failures c.args.inputs.now 0 c.index-inputs-0.result c.tail_of.new.input _ c.in_ok-tail.ensures.source.kept counted)

pub returns-in_err-tail-clause-named : goal.returns-in_err-tail-clause-named
returns-in_err-tail-clause-named g c =
    let p = err_from_is_err_and c.from_residual.result c.from_residual.ensures.1 in
    rw (p.1, p.2) (open_named _ 0 _ _ c.requires c.in_err-tail.ensures.fault)

pub returns-in_err-add-clause-named : goal.returns-in_err-add-clause-named
returns-in_err-add-clause-named g c =
    let t : Tail = c.in_ok-tail.tail in
    let next : IsNext t [] t 0 c.take_lists-lists.result c.new-gathered.result = record {
      number_is = refl;
      gathered = c.new-gathered.ensures t c.take_lists-lists.ensures.left;
      merges = none_merge t c.in_ok-tail.ensures.limits;
      first_within = c.in_ok-tail.ensures.limits;
      tails_within = tt;
      tail_within = c.in_ok-tail.ensures.limits;
      kind = own_kind t;
      lists_are = c.take_lists-lists.ensures.lists;
    } in
    let p = err_from_is_err_and c.from_residual-in_err-add.result c.from_residual-in_err-add.ensures.1 in
    rw (p.1, p.2) (elim c.in_err-add.ensures.fault [
      | inl is ↦ no_memory_named _ 0 _ c.requires is
      | inr fails ↦ join_named _ t t (t ∷ []) 0 _ c.requires (fails t t [] next)
    ])
