use Rattle.std.proofs.Common.{◌≡◌, ◌∙◌, ◌<◌, List, ℕ, length, sym, ap, subst, arith}
use Rattle.orc_wire.specs.Messages.{row_index}
use Rattle.orc_wire.specs.Spells.{Spells}
use Rattle.orc_wire.specs.declared.stripe_footer.StreamMsg.{StreamMsg}
use Rattle.orc_directory.specs.Directory.{have_room, slice, has_stream}
use Rattle.orc_stripe_reader.specs.RowIndexes.{index_text}
use Rattle.orc_stripe_reader.proofs.IndexFaults.{index_fault}
use Rattle.orc_stripe_reader.proofs.Opened.{footer_room}
use Rattle.orc_stripe_reader.proofs.view.StripeView.index.Goals as goal

pub index_bytes-requires : goal.index_bytes-requires
index_bytes-requires c =
    let v = c.self.inside in
    ap (have_room (length v.bytes.now)) c.as_slice.ensures ∙ footer_room v.schema.now v.info v.bytes.now v.footer c.self.invariant

pub returns-in-Ok-clause-only : goal.returns-in-Ok-clause-only
returns-in-Ok-clause-only c = λ message some h.
    let v = c.self.inside in
    let is = rw (← c.self.view_is) at h in
    let text : c.in-Some.text.now ≡ index_text v.footer v.bytes.now c.args.column =
    c.in-Some.ensures.there.1 ∙ ap (λ (ss : List StreamMsg). slice c.args.column 6 ss v.bytes.now) c.as_slice.ensures in
    c.in-Ok.ensures.only message (subst (λ (t : List ℕ). Spells row_index 0 0 t message) (sym text) is.1)

pub returns-in-Err-clause-only : goal.returns-in-Err-clause-only
returns-in-Err-clause-only c = λ message some h.
    let v = c.self.inside in
    let is = rw (← c.self.view_is) at h in
    let text : c.in-Some.text.now ≡ index_text v.footer v.bytes.now c.args.column =
    c.in-Some.ensures.there.1 ∙ ap (λ (ss : List StreamMsg). slice c.args.column 6 ss v.bytes.now) c.as_slice.ensures in
    c.wire_fault.ensures.memory (c.in-Err.ensures.only message (subst (λ (t : List ℕ). Spells row_index 0 0 t message) (sym text) is.1))

pub returns-in-Err-clause-fault : goal.returns-in-Err-clause-fault
returns-in-Err-clause-fault c =
    let v = c.self.inside in
    let text : c.in-Some.text.now ≡ index_text v.footer v.bytes.now c.args.column =
    c.in-Some.ensures.there.1 ∙ ap (λ (ss : List StreamMsg). slice c.args.column 6 ss v.bytes.now) c.as_slice.ensures in
    let some : 0 < v.stride = omega (arith, c.if-self-eq0.false) in
    let there = ap (λ (ss : List StreamMsg). has_stream c.args.column 6 ss) (sym c.as_slice.ensures) ∙ c.in-Some.ensures.there.0 in
    let because = rw text at c.in-Err.ensures.fault in
    rw (← c.self.view_is) (index_fault (record { schema = v.schema.now; info = v.info; stride = v.stride; bytes = v.bytes.now; footer = v.footer }) c.args.column c.in-Err.fault c.wire_fault.result some there
    c.wire_fault.ensures.either because)
