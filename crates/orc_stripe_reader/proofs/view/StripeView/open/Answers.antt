use Rattle.std.proofs.Common.{rules, ◌≡◌, ◌+◌, drop, Some, None, sym, ap, ◌∙◌, subst}
use Rattle.orc_values.specs.Shapes.{width}
use Rattle.orc_wire.specs.Types.{types}
use Rattle.orc_wire.specs.declared.stripe_footer.StripeFooter.{StripeFooter}
use Rattle.orc_wire.specs.Messages.{stripe_footer}
use Rattle.orc_wire.specs.Spells.{Spells}
use Rattle.orc_directory.specs.Directory.{is_directory, first_wrong}
use Rattle.orc_stripe_reader.proofs.Opened.{refused_for_memory, fault_of}
use Rattle.orc_stripe_reader.proofs.view.StripeView.open.Goals as goal

pub returns-in-Err-clause-only : goal.returns-in-Err-clause-only
returns-in-Err-clause-only c = λ footer h.
    let b : c.split_at.result.1.now ≡ drop (c.args.info.index_length + c.args.info.data_length) c.args.bytes.now = search rules in
    c.wire_fault.ensures.memory (c.in-Err.ensures.only footer (subst (λ t. Spells stripe_footer 0 0 t footer) (sym b) h.read))

pub returns-in-Err-clause-fault : goal.returns-in-Err-clause-fault
returns-in-Err-clause-fault c =
    let b : c.split_at.result.1.now ≡ drop (c.args.info.index_length + c.args.info.data_length) c.args.bytes.now = search rules in
    let f = c.in-Err.ensures.fault in
    fault_of c.args.schema.now c.args.info c.args.bytes.now c.in-Err.fault c.wire_fault.result c.wire_fault.ensures.either (rw b at f)

pub returns-in-Err-check_directory-clause-only : goal.returns-in-Err-check_directory-clause-only
returns-in-Err-check_directory-clause-only c = λ footer h.
    let b : c.split_at.result.1.now ≡ drop (c.args.info.index_length + c.args.info.data_length) c.args.bytes.now = search rules in
    let e : c.in-Ok.footer ≡ footer = c.in-Ok.ensures.only footer (subst (λ t. Spells stripe_footer 0 0 t footer) (sym b) h.read) in
    let room : c.in-Some.room ≡ c.args.info.index_length + c.args.info.data_length = search rules in
    let same : is_directory c.width.result c.in-Some.room c.as_slice.result.now ≡ is_directory (width c.args.schema.now) (c.args.info.index_length + c.args.info.data_length) c.in-Ok.footer.streams =
    ap (λ w. is_directory w c.in-Some.room c.as_slice.result.now) c.width.ensures.same ∙ ap (λ n. is_directory (width c.args.schema.now) n c.as_slice.result.now) room
    ∙ ap (is_directory (width c.args.schema.now) (c.args.info.index_length + c.args.info.data_length)) c.as_slice.ensures in
    let accepted = ap (λ (g : StripeFooter). is_directory (width c.args.schema.now) (c.args.info.index_length + c.args.info.data_length) g.streams) e ∙ h.directory in
    refused_for_memory c.in-Err-check_directory.fault (is_directory c.width.result c.in-Some.room c.as_slice.result.now) c.in-Err-check_directory.ensures.refused (same ∙ accepted)

pub returns-in-Some-first_wrong-clause-only : goal.returns-in-Some-first_wrong-clause-only
returns-in-Some-first_wrong-clause-only c = λ footer h.
    let b : c.split_at.result.1.now ≡ drop (c.args.info.index_length + c.args.info.data_length) c.args.bytes.now = search rules in
    let e : c.in-Ok.footer ≡ footer = c.in-Ok.ensures.only footer (subst (λ t. Spells stripe_footer 0 0 t footer) (sym b) h.read) in
    let f : first_wrong 0 (types c.args.schema.now 0) c.in-Ok.footer.columns ≡ Some c.in-Some-first_wrong.column = search rules in
    let k : None ≡ Some c.in-Some-first_wrong.column = sym h.encodings ∙ ap (λ (g : StripeFooter). first_wrong 0 (types c.args.schema.now 0) g.columns) (sym e) ∙ f in
    absurd cc

pub returns-clause-only : goal.returns-clause-only
returns-clause-only c = λ footer h.
    let b : c.split_at.result.1.now ≡ drop (c.args.info.index_length + c.args.info.data_length) c.args.bytes.now = search rules in
    c.in-Ok.ensures.only footer (subst (λ t. Spells stripe_footer 0 0 t footer) (sym b) h.read)
