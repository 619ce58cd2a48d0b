use Rattle.std.proofs.Common.{◌≡◌, refl, Bool, true, false, List, ℕ}
use Rattle.std.specs.Str.{is_utf8, IsUtf8}
use Rattle.std.proofs.lemmas.Str.{is_utf8-from_IsUtf8, IsUtf8-from_is_utf8}
use Rattle.orc_trees.proofs.names.name_of.Goals as goal

no_text : (bs : List ℕ) (b : Bool) → is_utf8 bs ≡ b → ¬ (IsUtf8 bs) → b ≡ false
no_text bs true e h = absurd (h (IsUtf8-from_is_utf8 bs e))
no_text bs false e h = cc

pub returns-in_ok-from_str-in-Ok-clause-utf8 : goal.returns-in_ok-from_str-in-Ok-clause-utf8
returns-in_ok-from_str-in-Ok-clause-utf8 c = is_utf8-from_IsUtf8 c.args.bytes.now c.in-Ok.ensures.cases.1

pub returns-in-Err-clause-fault : goal.returns-in-Err-clause-fault
returns-in-Err-clause-fault c = (refl, no_text c.args.bytes.now (is_utf8 c.args.bytes.now) refl c.in-Err.ensures.cases.0)
