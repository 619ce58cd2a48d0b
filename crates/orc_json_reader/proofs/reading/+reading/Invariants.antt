use Rattle.std.proofs.Common.{◌+◌, ◌*◌, ◌≤◌, map, take, length}
use Rattle.orc_json_rows.specs.JsonRows.{JsonSpells}
use Rattle.orc_values.specs.Views.{views, paired, shape}
use Rattle.orc_json_reader.specs.Frontier.{read_up_to}
use Rattle.orc_json_reader.proofs.ItemLemmas.{ElementsGo, PairsGo}
use Rattle.orc_json_reader.proofs.FieldLemmas.{FieldsGo}
use Rattle.orc_json_reader.proofs.reading.+reading.Given as goal

abbrev pub decreases-read_value : goal.decreases-read_value
decreases-read_value l = 4 * l.depth + 1

abbrev pub decreases-read_list : goal.decreases-read_list
decreases-read_list l = 4 * l.depth

abbrev pub decreases-read_map : goal.decreases-read_map
decreases-read_map l = 4 * l.depth

abbrev pub decreases-read_struct : goal.decreases-read_struct
decreases-read_struct l = 4 * l.depth

abbrev pub decreases-read_elements : goal.decreases-read_elements
decreases-read_elements l = 4 * l.depth + 2

abbrev pub decreases-read_pair : goal.decreases-read_pair
decreases-read_pair l = 4 * l.depth + 2

abbrev pub decreases-read_pairs : goal.decreases-read_pairs
decreases-read_pairs l = 4 * l.depth + 3

abbrev pub decreases-read_fields : goal.decreases-read_fields
decreases-read_fields l = 4 * l.depth + 2

abbrev pub invariant-read_elements-elements : goal.invariant-read_elements-elements
invariant-read_elements-elements l = ElementsGo (JsonSpells (shape l.tree)) l.depth l.initial.reader l.reader (views (take l.count l.rows.items)) × (l.count ≤ length l.rows.items)

abbrev pub decreases-read_elements-elements : goal.decreases-read_elements-elements
decreases-read_elements-elements l = length l.reader

abbrev pub invariant-read_pairs-pairs : goal.invariant-read_pairs-pairs
invariant-read_pairs-pairs l = PairsGo (JsonSpells (shape l.key)) (JsonSpells (shape l.value)) l.depth l.initial.reader l.reader (map paired (take l.count l.pairs.items)) × (l.count ≤ length l.pairs.items)

abbrev pub decreases-read_pairs-pairs : goal.decreases-read_pairs-pairs
decreases-read_pairs-pairs l = length l.reader

abbrev pub invariant-read_fields-members : goal.invariant-read_fields-members
invariant-read_fields-members l = FieldsGo l.fields.items l.depth l.initial.reader l.reader (read_up_to l.next l.rows.items) × (l.next ≤ length l.rows.items)

abbrev pub decreases-read_fields-members : goal.decreases-read_fields-members
decreases-read_fields-members l = length l.reader
