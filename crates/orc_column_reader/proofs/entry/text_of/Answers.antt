use Rattle.std.specs.Str.{IsValidUpTo, valid_up_to}
use Rattle.orc_column_reader.proofs.TextLemmas.{text_read}
use Rattle.orc_column_reader.proofs.entry.text_of.Goals as goal

pub returns : goal.returns
returns c = rw c.ok.ensures.value (text_read (λ e. IsValidUpTo c.args.bytes.now (valid_up_to e)) c.from_utf8.result c.args.bytes.now c.from_utf8.ensures.cases)
