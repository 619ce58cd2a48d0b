use Rattle.std.proofs.Common.{◌≡◌, ◌∙◌, ◌<◌, ◌≤◌, ℕ, List, [], Bor, Option, IsSome, map, take, get_or, length, false, true, refl, sym, ap, inr, subst, arith, add-one}
use Rattle.std.proofs.lemmas.List.{get_or-map, length-map, take_all}
use Rattle.std.proofs.lemmas.Result.{err_from_is_err_and}
use Rattle.std.proofs.Math.Nat.{eq-or-lt_of_le}
use Rattle.orc_cli_commands.proofs.OpenLemmas.{told_step, none_up_to, not_any}
use Rattle.orc_cli_commands.proofs.joining.open_all.Goals as goal

abbrev text : Bor (List ℕ) → List ℕ
text path = path.now

pub loop-path-init : goal.loop-path-init
loop-path-init g c = rw c.new-sources.ensures.items (record { told = refl; there = λ k d less lacks. omega (arith, less) })

pub loop-path-preserved : goal.loop-path-preserved
loop-path-preserved g c =
    let i = c.loop-path.path-index in
    let names : List (List ℕ) = map text c.args.paths.now in
    let tells = g.P.Place.told c.args.place.now in
    let inv = c.loop-path.invariant in
    let test : i < length c.args.paths.now = c.loop-path-test.true in
    let less : i < length names = rw (length-map c.args.paths.now text) test in
    let is : g.P.Input.Source.told c.in_ok-source.source ≡ tells (get_or names i []) =
    c.in_ok-source.ensures.told ∙ ap tells (sym (get_or-map text c.args.paths.now i _ [] test)) in
    let step = told_step g.P.Input.Source.told tells c.loop-path.sources.items names i c.in_ok-source.source [] less inv.told is in
    let here : (d : List ℕ) → g.P.Place.lacks c.args.place.now (get_or names i d) → ⊥ = λ d lacks.
    let e = c.in_ok-source.ensures.lacking (subst (g.P.Place.lacks c.args.place.now) (get_or-map text c.args.paths.now i _ d test) lacks) in cc in record {
      told = ap (map g.P.Input.Source.told) c.in-Ok.ensures.items ∙ (step ∙ ap (λ (n : ℕ). map tells (take n names)) (sym (add-one i)));
      there = λ k d below. none_up_to (g.P.Place.lacks c.args.place.now) names i k d (eq-or-lt_of_le (omega (arith, below))) inv.there here;
    }

pub returns-in_err-source-clause-fault : goal.returns-in_err-source-clause-fault
returns-in_err-source-clause-fault g c =
    let p = err_from_is_err_and c.from_residual.result c.from_residual.ensures.1 in
    let i = c.loop-path.path-index in
    let names : List (List ℕ) = map text c.args.paths.now in
    let test : i < length c.args.paths.now = c.loop-path-test.true in
    let less : i < length names = rw (length-map c.args.paths.now text) test in
    rw (p.1, p.2) (inr (
      c.in_err-source.ensures.fault,
      λ all.
          let some = subst (λ (t : List ℕ). IsSome (g.P.Place.told c.args.place.now t)) (get_or-map text c.args.paths.now i _ [] test) (all i [] less) in
          let e = c.in_err-source.ensures.only some in cc,
    ))

pub returns-clause-told : goal.returns-clause-told
returns-clause-told g c =
    let names : List (List ℕ) = map text c.args.paths.now in
    let past : length c.args.paths.now ≤ c.loop-path.path-index = c.loop-path-test.false in
    let all : take c.loop-path.path-index names ≡ names = take_all c.loop-path.path-index names (rw (length-map c.args.paths.now text) past) in
    c.loop-path.invariant.told ∙ ap (map (g.P.Place.told c.args.place.now)) all

pub returns-clause-lacking : goal.returns-clause-lacking
returns-clause-lacking g c = λ any.
    let names : List (List ℕ) = map text c.args.paths.now in
    let past : length c.args.paths.now ≤ c.loop-path.path-index = c.loop-path-test.false in
    let many : length names ≤ c.loop-path.path-index = rw (length-map c.args.paths.now text) past in
    absurd (not_any (g.P.Place.lacks c.args.place.now) names (λ k d less. c.loop-path.invariant.there k d (omega (arith, less, many))) any)
