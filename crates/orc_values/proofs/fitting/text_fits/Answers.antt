use Rattle.std.proofs.Common.{refl}
use Rattle.std.proofs.lemmas.Str.{is_utf8-from_IsUtf8}
use Rattle.orc_values.proofs.fitting.text_fits.Goals as goal

pub returns-in-String : goal.returns-in-String
returns-in-String c = rw (c.in-String.is, is_utf8-from_IsUtf8 c.args.content.now c.utf8.content) refl
