use Rattle.std.proofs.Common.{refl}
use Rattle.std.proofs.lemmas.Str.{is_utf8-from_IsUtf8}
use Rattle.orc_json_reader.proofs.leaf_reading.put_string.Goals as goal
use Rattle.orc_json_reader.proofs.leaf_reading.put_string.Goals.{in-String, in_default}

pub returns-then-matches : goal.returns-then-matches
returns-then-matches c =
    elim c.match-matches.branch [ in-String w ↦ rw (w.in-String.is, c.in_ok-write_text.ensures) (refl, is_utf8-from_IsUtf8 c.args.text.now c.utf8.text) | in_default w ↦ absurd (cc (w.matches-is, c.if-matches.true)) ]
