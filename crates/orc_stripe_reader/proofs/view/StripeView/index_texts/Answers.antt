use Rattle.std.proofs.Common.{length, ◌∙◌, ap}
use Rattle.orc_directory.specs.Directory.{have_room}
use Rattle.orc_stripe_reader.proofs.Opened.{footer_room}
use Rattle.orc_stripe_reader.proofs.view.StripeView.index_texts.Goals as goal

pub index_texts-requires : goal.index_texts-requires
index_texts-requires c =
    let v = c.self.inside in
    ap (have_room (length v.bytes.now)) c.as_slice.ensures ∙ footer_room v.schema.now v.info v.bytes.now v.footer c.self.invariant
