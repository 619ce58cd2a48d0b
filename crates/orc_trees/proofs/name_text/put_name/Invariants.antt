use Rattle.std.proofs.Common.{◌≡◌, ◌++◌, string_bytes}
use Rattle.orc_trees.specs.SchemaText.{chars_text}
use Rattle.orc_trees.proofs.name_text.put_name.Given as goal

-- the characters so far are added
abbrev pub invariant-loop-c : goal.invariant-loop-c
invariant-loop-c l = string_bytes l.text ≡ string_bytes l.initial.text ++ chars_text l.yielded
