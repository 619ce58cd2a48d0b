use Rattle.std.proofs.Common.{◌≡◌, take, true}
use Rattle.std.specs.List.{list_all}
use Rattle.orc_trees.specs.SchemaText.{is_word}
use Rattle.orc_trees.proofs.name_text.is_plain.Given as goal

-- what was passed is of words
abbrev pub invariant-loop-byte : goal.invariant-loop-byte
invariant-loop-byte l = list_all is_word (take l.byte-index l.byte-items) ≡ true
