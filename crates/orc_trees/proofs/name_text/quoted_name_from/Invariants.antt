use Rattle.std.proofs.Common.{◌≡◌, ◌++◌, length, string_bytes}
use denote.Text.{Utf8}
use denote.Shadow.{shadow}
use Rattle.std.specs.Str.{chars}
use Rattle.orc_trees.specs.SchemaText.{chars_text}
use Rattle.orc_trees.proofs.NameFronts.{NoEnd}
use Rattle.orc_trees.proofs.name_text.quoted_name_from.Given as goal

-- the characters so far stand in front of what is left, and where no name ends there, none does
abbrev pub invariant-loop-rest : goal.invariant-loop-rest
invariant-loop-rest l =
    shadow (Utf8 l.left) × (l.text ≡ chars_text (chars (string_bytes l.name)) ++ l.left) × (NoEnd l.left → NoEnd l.text)

-- each character takes at least a byte
abbrev pub decreases-loop-rest : goal.decreases-loop-rest
decreases-loop-rest l = length l.left
