use Rattle.orc_column_reader.specs.Bits.{BitsLeft}
use Rattle.orc_column_reader.specs.Columns.{IsBool}
use Rattle.orc_column_reader.proofs.Fronts.{standing_lacks}
use Rattle.orc_column_reader.proofs.ReaderLemmas.{one_stands, one_bool}
use Rattle.std.proofs.Common.{refl}
use Rattle.orc_column_reader.proofs.OwnKinds.{bool_kind}
use Rattle.orc_column_reader.proofs.NeedLemmas.{runs_more, always_now}
use Rattle.orc_directory.specs.declared.fault.StreamKind.TheVariants as stream
use Rattle.orc_column_reader.specs.RunsMet.{BitsMeet}
use Rattle.orc_column_reader.proofs.column.next_bool.Goals as goal

pub returns-in-Ok-clause-found : goal.returns-in-Ok-clause-found
returns-in-Ok-clause-found c = one_stands IsBool one_bool (BitsLeft c.args.bits.now) (BitsLeft c.next.new.self) c.in-Ok.bit _ refl c.in-Ok.ensures.found

pub returns-in-Err-clause-none : goal.returns-in-Err-clause-none
returns-in-Err-clause-none c = standing_lacks IsBool (BitsLeft c.args.bits.now) 1 c.in-Err.ensures.none

pub returns-in-Err-clause-fault : goal.returns-in-Err-clause-fault
returns-in-Err-clause-fault c = λ memory n. let k = c.run_fault.ensures.fails memory in (c.in-Err.fault, k.0, k.1, always_now n (BitsMeet c.args.bits.now) c.in-Err.fault c.in-Err.ensures.fault)

pub returns-in-Ok-clause-before : goal.returns-in-Ok-clause-before
returns-in-Ok-clause-before c = λ all n f. runs_more stream.Data c.args.column all n (BitsMeet c.next.new.self) (BitsMeet c.args.bits.now) f c.in-Ok.ensures.before

pub returns-in-Ok-clause-kind : goal.returns-in-Ok-clause-kind
returns-in-Ok-clause-kind c = bool_kind c.in-Ok.bit _ refl
