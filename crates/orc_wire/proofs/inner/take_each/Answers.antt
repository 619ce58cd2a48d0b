use Rattle.std.proofs.Common.{Some}
use Rattle.orc_wire.specs.FieldItem.{item_of}
use Rattle.orc_wire.proofs.InnerLemmas.{message_read}
use Rattle.orc_wire.proofs.inner.take_each.Goals as goal

pub returns-in_ok-push-in-Some-clause-ok : goal.returns-in_ok-push-in-Some-clause-ok
returns-in_ok-push-in-Some-clause-ok g c =
    let m = g.M.Message in (
      Some c.in_ok-read_fields-in-Some.field-0,
      message_read m.members m.REQUIRED c.args.n (item_of c.args.field.now) c.in-Some.fields.rest.now c.in-Some.fields.place c.in_ok-read_fields-in-Some.field-0 c.in-Some.ensures.bytes c.in-Some.ensures.place c.in_ok-read_fields-in-Some.ensures.found,
      c.in_ok-push-in-Some.ensures.ok,
    )
