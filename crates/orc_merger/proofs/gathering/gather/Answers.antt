use Rattle.std.proofs.Common.{◌≡◌, ℕ, ◌∷◌, length, map, sym, ap, ◌∙◌, subst, arith}
use Rattle.std.proofs.lemmas.List.{length-map}
use Rattle.std.proofs.lemmas.Result.{err_from_is_err_and}
use Rattle.orc_merger.proofs.InputsRead.{no_memory, as_long}
use Rattle.orc_merger.specs.Faults.{IsOfMerge}
use Rattle.orc_merger.specs.Outcomes.{counts_after}
use Rattle.orc_merger.proofs.FailureCounts.{memory_counts}
use Rattle.orc_merger.proofs.Finished.{ok_gives, err_gives, gathered_kinds, merged_file, merged_limits, merged_laid, gathered_inputs, gathered_within}
use Rattle.orc_merger.proofs.gathering.gather.Goals as goal

pub returns-in_err-gather_next-clause-refused : goal.returns-in_err-gather_next-clause-refused
returns-in_err-gather_next-clause-refused g c =
    let p = err_from_is_err_and c.from_residual-in_err-gather_next.result c.from_residual-in_err-gather_next.ensures.1 in
    rw (p.1, p.2) (λ files same. c.in_err-gather_next.ensures.refused files (c.loop-number.invariant.told ∙ same))

pub finish-requires : goal.finish-requires
finish-requires g c =
    λ column lt. gathered_kinds (map g.S.Source.told c.args.inputs.now) (map g.S.Source.size c.args.inputs.now) c.loop-number.number c.loop-number.gathered c.loop-number.invariant.gathered column

pub returns-clause-found : goal.returns-clause-found
returns-clause-found g c =
    let s = c.loop-number.invariant.gathered in
    let told : length c.args.inputs.now ≡ length c.loop-number.inputs =
    sym (length-map c.args.inputs.now g.S.Source.told) ∙ ap length (sym c.loop-number.invariant.told) ∙ length-map c.loop-number.inputs g.S.Source.told in
    let all : length c.args.inputs.now ≡ c.loop-number.number = omega (arith, told, c.loop-number.invariant.in_range, c.loop-number-test.false) in
    ok_gives c.finish.result _ _ _ c.finish.ensures.tail c.finish.ensures.pieces (λ found is are.
    merged_file (map g.S.Source.told c.args.inputs.now) (map g.S.Source.size c.args.inputs.now) c.loop-number.number c.loop-number.gathered s found.0 found.1.items (length-map c.args.inputs.now g.S.Source.told ∙ all) (is s.first (s.first ∷ s.rest) s.gathered) (are s.first (s.first ∷ s.rest) s.gathered))

pub returns-clause-limits : goal.returns-clause-limits
returns-clause-limits g c =
    let s = c.loop-number.invariant.gathered in
    ok_gives c.finish.result _ _ _ c.finish.ensures.tail c.finish.ensures.pieces (λ found is are.
    merged_limits (map g.S.Source.told c.args.inputs.now) (map g.S.Source.size c.args.inputs.now) c.loop-number.number c.loop-number.gathered s found.0 (is s.first (s.first ∷ s.rest) s.gathered))

pub returns-clause-laid : goal.returns-clause-laid
returns-clause-laid g c =
    let s = c.loop-number.invariant.gathered in
    ok_gives c.finish.result _ _ _ c.finish.ensures.tail c.finish.ensures.pieces (λ found is are.
    merged_laid (map g.S.Source.told c.args.inputs.now) (map g.S.Source.size c.args.inputs.now) c.loop-number.number c.loop-number.gathered s found.0 (is s.first (s.first ∷ s.rest) s.gathered))

pub returns-clause-inputs : goal.returns-clause-inputs
returns-clause-inputs g c =
    let s = c.loop-number.invariant.gathered in
    let told : length c.args.inputs.now ≡ length c.loop-number.inputs =
    sym (length-map c.args.inputs.now g.S.Source.told) ∙ ap length (sym c.loop-number.invariant.told) ∙ length-map c.loop-number.inputs g.S.Source.told in
    let all : length c.args.inputs.now ≡ c.loop-number.number = omega (arith, told, c.loop-number.invariant.in_range, c.loop-number-test.false) in
    ok_gives c.finish.result _ _ _ c.finish.ensures.tail c.finish.ensures.pieces (λ found is are.
    gathered_inputs (map g.S.Source.told c.args.inputs.now) (map g.S.Source.size c.args.inputs.now) c.loop-number.number c.loop-number.gathered s found.1.items (length c.args.inputs.now) (omega (arith, all)) (are s.first (s.first ∷ s.rest) s.gathered))

pub returns-clause-within : goal.returns-clause-within
returns-clause-within g c =
    let s = c.loop-number.invariant.gathered in
    ok_gives c.finish.result _ _ _ c.finish.ensures.tail c.finish.ensures.pieces (λ found is are.
    gathered_within (map g.S.Source.told c.args.inputs.now) (map g.S.Source.size c.args.inputs.now) c.loop-number.number c.loop-number.gathered s found.1.items (are s.first (s.first ∷ s.rest) s.gathered))

pub returns-clause-refused : goal.returns-clause-refused
returns-clause-refused g c =
    err_gives c.finish.result _ _ c.finish.ensures.fault (λ e is. no_memory e is (map g.S.Source.told c.args.inputs.now))

pub returns-in_err-gather_next-clause-named : goal.returns-in_err-gather_next-clause-named
returns-in_err-gather_next-clause-named g c =
    let p = err_from_is_err_and c.from_residual-in_err-gather_next.result c.from_residual-in_err-gather_next.ensures.1 in
    rw (p.1, p.2) (subst (λ (n : ℕ). IsOfMerge n c.in_err-gather_next.field-0.0) (as_long g.S.Source.told c.args.inputs.now c.loop-number.inputs c.loop-number.invariant.told) c.in_err-gather_next.ensures.named)

pub returns-in_err-gathered-clause-sources : goal.returns-in_err-gathered-clause-sources
returns-in_err-gathered-clause-sources g c =
    let p = err_from_is_err_and c.from_residual.result c.from_residual.ensures.1 in
    rw (p.1, p.2) c.in_err-gathered.ensures.sources

pub returns-in_err-gather_next-clause-sources : goal.returns-in_err-gather_next-clause-sources
returns-in_err-gather_next-clause-sources g c =
    let p = err_from_is_err_and c.from_residual-in_err-gather_next.result c.from_residual-in_err-gather_next.ensures.1 in
    rw (p.1, p.2) (c.in_err-gather_next.ensures.sources ∙ ap (counts_after c.in_err-gather_next.field-0.0) c.loop-number.invariant.failures)

pub returns-clause-sources : goal.returns-clause-sources
returns-clause-sources g c =
    let counts = map g.S.Source.failures c.args.inputs.now in
    err_gives c.finish.result _ _ c.finish.ensures.fault (λ e is. c.loop-number.invariant.failures ∙ sym (memory_counts e is counts))
