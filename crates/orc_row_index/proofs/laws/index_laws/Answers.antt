use Rattle.orc_row_index.proofs.ColumnPlaces.{places_read, one_places}
use Rattle.orc_row_groups.proofs.Groups.{element_bounds_are, key_bounds_are, value_bounds_are, field_bounds_are}
use Rattle.orc_row_index.proofs.WrittenIndex.{one_index, index_right}
use Rattle.orc_row_index.proofs.laws.index_laws.Goals as goal

pub returns-clause-one_text : goal.returns-clause-one_text
returns-clause-one_text c = one_index

pub returns-clause-one_places : goal.returns-clause-one_places
returns-clause-one_places c = one_places

pub returns-clause-places : goal.returns-clause-places
returns-clause-places c = places_read

pub returns-clause-right : goal.returns-clause-right
returns-clause-right c = index_right

pub returns-clause-elements : goal.returns-clause-elements
returns-clause-elements c = element_bounds_are

pub returns-clause-keys : goal.returns-clause-keys
returns-clause-keys c = key_bounds_are

pub returns-clause-map_values : goal.returns-clause-map_values
returns-clause-map_values c = value_bounds_are

pub returns-clause-fields : goal.returns-clause-fields
returns-clause-fields c = field_bounds_are
