use Rattle.std.proofs.Common.{◌+◌, ◌*◌, length, map}
use denote.Text.{Utf8}
use denote.Shadow.{shadow}
use Rattle.orc_values.specs.Views.{name_and_type}
use Rattle.orc_trees.proofs.TextFronts.{Reached}
use Rattle.orc_trees.proofs.schema_text.+front.Given as goal

abbrev pub decreases-tree_from : goal.decreases-tree_from
decreases-tree_from l = 3 * l.levels

abbrev pub decreases-tree_before : goal.decreases-tree_before
decreases-tree_before l = 3 * l.levels + 1

abbrev pub decreases-field_from : goal.decreases-field_from
decreases-field_from l = 3 * l.levels + 1

abbrev pub decreases-fields_from : goal.decreases-fields_from
decreases-fields_from l = 3 * l.levels + 2

abbrev pub invariant-fields_from-loop-rest : goal.invariant-fields_from-loop-rest
invariant-fields_from-loop-rest l = shadow (Utf8 l.left) × Reached l.text l.levels (map name_and_type l.fields.items) l.left

-- each field takes at least a byte
abbrev pub decreases-fields_from-loop-rest : goal.decreases-fields_from-loop-rest
decreases-fields_from-loop-rest l = length l.left
