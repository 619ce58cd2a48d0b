use Rattle.std.proofs.Common.{◌∙◌, arith}
use Rattle.orc_wire.specs.FieldValue.{payload_of}
use Rattle.orc_wire.specs.CanonicalFields.{IsNumber, field_at}
use Rattle.orc_wire.proofs.PutLemmas.{front_same, front_taken}
use Rattle.orc_wire.proofs.field_writer.FieldWriter.put.Goals as goal

pub returns-in-Ok-clause-again : goal.returns-in-Ok-clause-again
returns-in-Ok-clause-again c = λ place.
    let some = c.if-number-eq0.false in
    let is : IsNumber c.args.number = record { least = omega (arith, some); most = c.if-number.false } in
    field_at c.args.number (payload_of c.args.value) place is c.in-Ok.ensures.holds

pub returns-in-Err-clause-unchanged : goal.returns-in-Err-clause-unchanged
returns-in-Err-clause-unchanged c =
    let out = c.args.self.now.out.now in
    let start = c.put_field.ensures.front out.items (front_same out.items) in
    c.truncate.ensures.items ∙ front_taken out.items c.put_field.new.out.items c.len-start.result start (c.len-start.ensures ∙ out.ok.0)
