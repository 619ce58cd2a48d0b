use Rattle.std.proofs.Common.{◌≡◌, ◌≢◌, ◌∙◌, ap, sym, ℕ, List, ◌++◌, Option, None, Some}
use denote.Ref.{Bor}
use Rattle.std.specs.Prelude.{MatchOption}
use Rattle.std.specs.Str.Pattern.{FindsTextPrefix, StripsPrefix}
use Rattle.orc_trees.proofs.words.text_behind.Goals as goal

strips : (w s : List ℕ) (r : Option (Bor (List ℕ))) → MatchOption r (FindsTextPrefix w s None) (λ x. StripsPrefix (FindsTextPrefix w) s x.now) → MatchOption r ((rest : List ℕ) → s ≢ w ++ rest) (λ x. s ≡ w ++ x.now)
strips w s None h = h
strips w s (Some x) (n, (is, at, cut), e, l) = at ∙ ap (λ (r : List ℕ). w ++ r) (sym e)

pub returns : goal.returns
returns c = strips c.args.word.now c.args.text.now c.strip_prefix.result c.strip_prefix.ensures.cases
