use Rattle.std.specs.Prelude.{IfOk, IfErr}
use Rattle.std.proofs.Common.{◌≡◌, ◌⊎◌, ℤ, ◌<◌, ◌^◌, List, length, sym, subst}
use Rattle.orc_rle.specs.Stream.{IsStream, StopsWithin}
use Rattle.orc_rle.specs.declared.fault.RunFault.TheVariants.{OutOfMemory}
use Rattle.orc_positions.specs.RunTable.{ArePlaces}
use Rattle.orc_column_reader.specs.Numbers.{is_run}
use Rattle.orc_column_reader.specs.RunFaults.{no_run}
use Rattle.orc_rle.specs.declared.sign.Rle.{Rle}
use Rattle.orc_row_groups.specs.Counts.{most}
use Rattle.orc_row_index_check.proofs.stream_table.number_places.Goals as goal

pub returns-in-One-clause-found : goal.returns-in-One-clause-found
returns-in-One-clause-found c = subst (λ (r : Rle). IfOk c.run_table.result (ArePlaces (is_run r c.args.sign) c.args.bytes.now)) (sym c.in-One.is) c.run_table.ensures.found

pub returns-in-One-clause-only : goal.returns-in-One-clause-only
returns-in-One-clause-only c =
    subst (λ (r : Rle). (values : List ℤ) → IsStream (is_run r c.args.sign) c.args.bytes.now values → length values < 2 ^ 64 → IfErr c.run_table.result (λ fault. fault ≡ OutOfMemory)) (sym c.in-One.is)
    c.run_table.ensures.only

pub returns-in-One-clause-fault : goal.returns-in-One-clause-fault
returns-in-One-clause-fault c =
    subst (λ (r : Rle). IfErr c.run_table.result (λ fault. (fault ≡ OutOfMemory) ⊎ StopsWithin (is_run r c.args.sign) (no_run r c.args.sign) most c.args.bytes.now fault)) (sym c.in-One.is)
    c.run_table.ensures.fault

pub returns-in-Two-clause-found : goal.returns-in-Two-clause-found
returns-in-Two-clause-found c = subst (λ (r : Rle). IfOk c.run_table-in-Two.result (ArePlaces (is_run r c.args.sign) c.args.bytes.now)) (sym c.in-Two.is) c.run_table-in-Two.ensures.found

pub returns-in-Two-clause-only : goal.returns-in-Two-clause-only
returns-in-Two-clause-only c =
    subst (λ (r : Rle). (values : List ℤ) → IsStream (is_run r c.args.sign) c.args.bytes.now values → length values < 2 ^ 64 → IfErr c.run_table-in-Two.result (λ fault. fault ≡ OutOfMemory)) (sym c.in-Two.is)
    c.run_table-in-Two.ensures.only

pub returns-in-Two-clause-fault : goal.returns-in-Two-clause-fault
returns-in-Two-clause-fault c =
    subst (λ (r : Rle). IfErr c.run_table-in-Two.result (λ fault. (fault ≡ OutOfMemory) ⊎ StopsWithin (is_run r c.args.sign) (no_run r c.args.sign) most c.args.bytes.now fault)) (sym c.in-Two.is)
    c.run_table-in-Two.ensures.fault
