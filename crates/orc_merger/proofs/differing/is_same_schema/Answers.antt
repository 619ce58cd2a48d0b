use Rattle.std.proofs.Common.{◌≡◌, Bool, true, false, ◌∙◌, sym}
use Rattle.std.specs.Bool.{OnTrue, OnFalse}
use Rattle.std.proofs.lemmas.Bool.{false≢true}
use Rattle.orc_types.proofs.Exclusion.{equal_schemas}
use Rattle.orc_merger.proofs.differing.is_same_schema.Goals as goal

yes_of : (r b : Bool) (P : Type 0) → r ≡ b → (b ≡ true → P) → OnTrue r P
yes_of true b P e f = f (sym e)
yes_of false b P e f = tt

no_of : (r b : Bool) (P : Type 0) → r ≡ b → (P → b ≡ true) → OnFalse r (P → ⊥)
no_of true b P e f = tt
no_of false b P e f = λ p. false≢true (e ∙ f p)

pub returns-clause-yes : goal.returns-clause-yes
returns-clause-yes c = yes_of _ _ _ c.eq.ensures (equal_schemas c.args.schema.now c.args.first.now).0

pub returns-clause-no : goal.returns-clause-no
returns-clause-no c = no_of _ _ _ c.eq.ensures (equal_schemas c.args.schema.now c.args.first.now).1
