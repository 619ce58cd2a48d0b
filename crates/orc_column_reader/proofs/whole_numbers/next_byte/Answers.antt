use Rattle.std.proofs.Common.{◌≡◌, ◌<◌, ◌∙◌, ap, rules, w64, to_z, of_z}
use Rattle.std.proofs.lemmas.Int.{to_z-of_z}
use Rattle.orc_values.specs.Cells.{leaf, int}
use Rattle.orc_column_reader.specs.Bytes.{BytesLeft}
use Rattle.orc_column_reader.specs.Columns.{IsByte, signed_byte}
use Rattle.orc_column_reader.proofs.Fronts.{standing_lacks}
use Rattle.orc_column_reader.proofs.OwnKinds.{byte_kind}
use Rattle.orc_column_reader.proofs.ReaderLemmas.{one_stands, one_byte}
use Rattle.orc_column_reader.proofs.NeedLemmas.{runs_more, always_now}
use Rattle.orc_directory.specs.declared.fault.StreamKind.TheVariants as stream
use Rattle.orc_column_reader.specs.RunsMet.{BytesMeet}
use Rattle.orc_column_reader.proofs.whole_numbers.next_byte.Goals as goal

pub returns-in-Ok-clause-found : goal.returns-in-Ok-clause-found
returns-in-Ok-clause-found c =
    let n = c.number_of.result in
    let z : to_z w64 (of_z w64 n) ≡ n = to_z-of_z w64 n (search rules) in
    let e : n ≡ signed_byte c.in-Ok.byte = c.number_of.ensures in
    let small : c.in-Ok.byte < 256 = search rules in
    rw z (one_stands IsByte one_byte (BytesLeft c.args.bytes.now) (BytesLeft c.next.new.self) c.in-Ok.byte _ (small, ap (λ m. leaf (int m)) e) c.in-Ok.ensures.found)

pub returns-in-Err-clause-none : goal.returns-in-Err-clause-none
returns-in-Err-clause-none c = standing_lacks IsByte (BytesLeft c.args.bytes.now) 1 c.in-Err.ensures.none

pub returns-in-Err-clause-fault : goal.returns-in-Err-clause-fault
returns-in-Err-clause-fault c = λ memory n. let k = c.run_fault.ensures.fails memory in (c.in-Err.fault, k.0, k.1, always_now n (BytesMeet c.args.bytes.now) c.in-Err.fault c.in-Err.ensures.fault)

pub returns-in-Ok-clause-before : goal.returns-in-Ok-clause-before
returns-in-Ok-clause-before c = λ all n f. runs_more stream.Data c.args.column all n (BytesMeet c.next.new.self) (BytesMeet c.args.bytes.now) f c.in-Ok.ensures.before

pub returns-in-Ok-clause-kind : goal.returns-in-Ok-clause-kind
returns-in-Ok-clause-kind c =
    let n = c.number_of.result in
    let z : to_z w64 (of_z w64 n) ≡ n = to_z-of_z w64 n (search rules) in
    let e : n ≡ signed_byte c.in-Ok.byte = c.number_of.ensures in
    let small : c.in-Ok.byte < 256 = search rules in
    rw z (byte_kind c.in-Ok.byte _ (small, ap (λ m. leaf (int m)) e))
