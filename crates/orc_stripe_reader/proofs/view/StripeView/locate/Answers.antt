use Rattle.std.proofs.Common.{sym}
use Rattle.orc_stripe_reader.proofs.Opened.{footer_room, footer_columns}
use Rattle.orc_stripe_reader.proofs.view.StripeView.locate.Goals as goal

pub locate-requires-clause-room : goal.locate-requires-clause-room
locate-requires-clause-room c =
    let v = c.self.inside in
    footer_room v.schema.now v.info v.bytes.now v.footer c.self.invariant

pub returns-clause-columns : goal.returns-clause-columns
returns-clause-columns c =
    let v = c.self.inside in
    rw (← c.self.view_is) (sym (footer_columns v.schema.now v.info v.bytes.now v.footer c.self.invariant))
