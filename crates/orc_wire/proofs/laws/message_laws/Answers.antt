use Rattle.orc_wire.specs.Kinds.{message}
use Rattle.orc_wire.specs.Canonical.{spells_again}
use Rattle.orc_wire.specs.laws.SpellsLaws.{one_spelled, none_spelled, one_refusal}
use Rattle.orc_wire.specs.laws.SpellsCover.{some_spelled}
use Rattle.orc_wire.proofs.TableLaws.{each_parts, only_parts}
use Rattle.orc_wire.proofs.laws.message_laws.Goals as goal

pub returns-clause-one : goal.returns-clause-one
returns-clause-one g c = let m = g.M.Message in one_spelled m.members m.REQUIRED

pub returns-clause-none : goal.returns-clause-none
returns-clause-none g c = let m = g.M.Message in none_spelled m.members m.REQUIRED

pub returns-clause-one_fault : goal.returns-clause-one_fault
returns-clause-one_fault g c = let m = g.M.Message in λ base. one_refusal m.members m.REQUIRED base m.canonical.single

pub returns-clause-cover : goal.returns-clause-cover
returns-clause-cover g c = let m = g.M.Message in some_spelled m.members m.REQUIRED

pub returns-clause-each : goal.returns-clause-each
returns-clause-each g c = let m = g.M.Message in λ n. each_parts (message m.members m.REQUIRED n)

pub returns-clause-only : goal.returns-clause-only
returns-clause-only g c = let m = g.M.Message in only_parts m.members m.REQUIRED

pub returns-clause-bounded : goal.returns-clause-bounded
returns-clause-bounded g c = let m = g.M.Message in λ base bytes a is. m.canonical.read base is.fields bytes a is.are is.says

pub returns-clause-again : goal.returns-clause-again
returns-clause-again g c =
    let m = g.M.Message in
    λ base place bytes a is whole len. spells_again m.members m.canonical m.REQUIRED place a (m.canonical.read base is.fields bytes a is.are is.says) whole len g.met.M.Message.complete
