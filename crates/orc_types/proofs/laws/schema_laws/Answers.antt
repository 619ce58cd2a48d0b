use Rattle.orc_types.proofs.Trees.{one_list}
use Rattle.orc_types.proofs.Exclusion.{equal_schemas, no_schema}
use Rattle.orc_types.proofs.Cover.{schema_cover}
use Rattle.orc_types.proofs.laws.schema_laws.Goals as goal

pub returns-clause-one_tree : goal.returns-clause-one_tree
returns-clause-one_tree c = λ s t. one_list s t 0

pub returns-clause-equal : goal.returns-clause-equal
returns-clause-equal c = equal_schemas

pub returns-clause-none : goal.returns-clause-none
returns-clause-none c = no_schema

pub returns-clause-cover : goal.returns-clause-cover
returns-clause-cover c = schema_cover
