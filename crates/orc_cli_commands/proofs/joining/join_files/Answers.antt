use Rattle.std.proofs.Common.{◌≡◌, ◌∙◌, ℕ, List, [], Bor, Some, Ok, Err, IsSome, map, ap, inl, inr, refl, sym}
use Rattle.std.specs.List.{Any}
use Rattle.orc_cli_commands.specs.Places.{CanFail, CanFailAt}
use Rattle.orc_cli_commands.proofs.PlaceLemmas.{merge_of}
use Rattle.orc_cli_commands.proofs.joining.join_files.Goals as goal

pub returns-in-Ok-joined-clause-answered : goal.returns-in-Ok-joined-clause-answered
returns-in-Ok-joined-clause-answered g c =
    let names : List (List ℕ) = map (λ (path : Bor (List ℕ)). path.now) c.args.inputs.now in
    let output = g.P.Output.Sink.told c.in_ok-out.out in
    let found : Any (g.P.Place.lacks c.args.place.now) names → ⊥ = λ any. let e = c.in_ok-sources.ensures.lacking any in cc in
    let there : IsSome (g.P.Place.told c.args.place.now c.args.output.now) → ⊥ = λ some. let e = c.in_ok-out.ensures.there some in cc in
    let starts : g.P.Place.lacks c.args.place.now c.args.output.now → output ≡ Some [] = λ lacks. (c.in_ok-out.ensures.made lacks).0 in
    let inputs = ap (map g.P.Input.Source.told) c.deref_mut.ensures.value ∙ c.in_ok-sources.ensures.told in
    let said = merge_of (CanFailAt g.P.Input.Source.failures) (CanFail g.P.Output.Sink.failures) output _ _ _ _ _ (Ok c.in-Ok-joined.outcome)
    inputs (sym c.in-Ok.ensures.made) refl c.in-Ok-joined.ensures in
    inl (found, inl (there, (output, starts, inl said)))

pub returns-in-Ok-clause-answered : goal.returns-in-Ok-clause-answered
returns-in-Ok-clause-answered g c =
    let names : List (List ℕ) = map (λ (path : Bor (List ℕ)). path.now) c.args.inputs.now in
    let output = g.P.Output.Sink.told c.in_ok-out.out in
    let found : Any (g.P.Place.lacks c.args.place.now) names → ⊥ = λ any. let e = c.in_ok-sources.ensures.lacking any in cc in
    let there : IsSome (g.P.Place.told c.args.place.now c.args.output.now) → ⊥ = λ some. let e = c.in_ok-out.ensures.there some in cc in
    let starts : g.P.Place.lacks c.args.place.now c.args.output.now → output ≡ Some [] = λ lacks. (c.in_ok-out.ensures.made lacks).0 in
    let inputs = ap (map g.P.Input.Source.told) c.deref_mut.ensures.value ∙ c.in_ok-sources.ensures.told in
    let said = merge_of (CanFailAt g.P.Input.Source.failures) (CanFail g.P.Output.Sink.failures) output _ _ _ _ _ (Err c.in-Err-joined.fault)
    inputs (sym c.in-Ok.ensures.made) refl c.in-Err-joined.ensures in
    inl (found, inl (there, (output, starts, inl said)))

pub returns-clause-answered : goal.returns-clause-answered
returns-clause-answered g c =
    let names : List (List ℕ) = map (λ (path : Bor (List ℕ)). path.now) c.args.inputs.now in
    let output = g.P.Output.Sink.told c.in_ok-out.out in
    let found : Any (g.P.Place.lacks c.args.place.now) names → ⊥ = λ any. let e = c.in_ok-sources.ensures.lacking any in cc in
    let there : IsSome (g.P.Place.told c.args.place.now c.args.output.now) → ⊥ = λ some. let e = c.in_ok-out.ensures.there some in cc in
    let starts : g.P.Place.lacks c.args.place.now c.args.output.now → output ≡ Some [] = λ lacks. (c.in_ok-out.ensures.made lacks).0 in
    let unclosed : g.P.Place.lacks c.args.place.now c.args.output.now → ⊥ = λ lacks. let e = c.in-Err.ensures.only (c.in_ok-out.ensures.made lacks).1 in cc in
    inl (found, inl (there, (output, starts, inr (unclosed, refl))))
