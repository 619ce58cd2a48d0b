use Rattle.orc_wire.specs.laws.FieldLaws.{one_field, none_field}
use Rattle.orc_wire.specs.laws.FaultLaws.{one_no_field}
use Rattle.orc_wire.specs.laws.FieldCover.{some_field}
use Rattle.orc_wire.specs.laws.SpellsLaws.{one_fields}
use Rattle.orc_wire.proofs.laws.field_laws.Goals as goal

pub returns-clause-one_field : goal.returns-clause-one_field
returns-clause-one_field c = one_field

pub returns-clause-one_list : goal.returns-clause-one_list
returns-clause-one_list c = one_fields

pub returns-clause-none : goal.returns-clause-none
returns-clause-none c = none_field

pub returns-clause-one_fault : goal.returns-clause-one_fault
returns-clause-one_fault c = one_no_field

pub returns-clause-cover : goal.returns-clause-cover
returns-clause-cover c = some_field
