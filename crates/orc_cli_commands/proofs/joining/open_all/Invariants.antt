use Rattle.std.proofs.Common.{◌≡◌, ◌<◌, ℕ, List, Bor, map, take, get_or}
use Rattle.orc_cli_commands.proofs.joining.open_all.Given as goal

-- as many inputs are opened as the loop has passed, and none of them is lacked
abbrev pub invariant-loop-path : goal.invariant-loop-path
invariant-loop-path g l =
    let names : List (List ℕ) = map (λ (path : Bor (List ℕ)). path.now) l.paths in record {
      told : map g.P.Input.Source.told l.sources.items ≡ map (g.P.Place.told l.place) (take l.path-index names);
      there : (k : ℕ) (d : List ℕ) → k < l.path-index → g.P.Place.lacks l.place (get_or names k d) → ⊥;
    }
