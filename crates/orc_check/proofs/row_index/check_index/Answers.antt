use Rattle.std.specs.Option.{IfSome}
use Rattle.std.proofs.Common.{rules, Bool, Option, Ok, ◌∙◌, List, sym, ap, subst, arith}
use Rattle.orc_wire.specs.declared.row_index.RowIndexMsg.{RowIndexMsg}
use Rattle.orc_row_index_check.specs.Decided.{AreDecided}
use Rattle.orc_stripe_reader.specs.IndexTexts.{IsMessage}
use Rattle.orc_values.specs.Views.{shape}
use Rattle.orc_column_reader.specs.Stripe.{columns_of}
use Rattle.orc_check.proofs.GroupBounds.{on_ok_so}
use Rattle.orc_check.proofs.IndexFound.{too_short, none_there, other_number, index_found, streams_here}
use Rattle.orc_check.proofs.WalkLemmas.{columns_there, located_there}
use Rattle.orc_check.proofs.WrittenFound.{written_found}
use Rattle.orc_check.proofs.row_index.check_index.Goals as goal

pub streams_of-streams-requires-clause-there : goal.streams_of-streams-requires-clause-there
streams_of-streams-requires-clause-there c = columns_there c.args.stripe.now c.footer.result.now c.args.column c.requires.laid_out c.footer.ensures.same c.requires.there

pub streams_of-streams-requires-clause-located : goal.streams_of-streams-requires-clause-located
streams_of-streams-requires-clause-located c = located_there c.args.stripe.now c.footer.result.now c.requires.laid_out c.footer.ensures.same

pub is_written-requires : goal.is_written-requires
is_written-requires c =
    let s = c.args.stripe.now in
    let v = s.view.now in
    let own = c.streams_of-streams.result in (
      columns_of v.footer v.bytes c.args.column,
      streams_here s c.footer.result.now c.args.column own c.requires.laid_out c.footer.ensures.same c.streams_of-streams.ensures,
      c.requires.own,
    )

-- nothing is found of an index as it is written
pub returns-then-branch : goal.returns-then-branch
returns-then-branch c = λ rows some all h.
    let s = c.args.stripe.now in
    let own = c.streams_of-streams.result in
    written_found s rows c.args.column (shape c.args.tree.now) c.args.groups.now c.index-text.result.now own c.args.found.now.items c.requires.laid_out c.requires.there (search rules)
    (streams_here s c.footer.result.now c.args.column own c.requires.laid_out c.footer.ensures.same c.streams_of-streams.ensures) (c.in_ok-is_written.ensures c.if-branch.true) some (h c.if-not-may_be_whole.ensures)

-- too few bytes
pub returns-then-not-may_be_whole : goal.returns-then-not-may_be_whole
returns-then-not-may_be_whole c =
    let s = c.args.stripe.now in
    on_ok_so c.report.result (λ e rows some all h. too_short s rows c.args.column c.args.found.now.items c.report.new.found.items c.if-not-may_be_whole.ensures e some all) c.report.ensures

-- no message, or one that doesn't read
pub returns-in_default : goal.returns-in_default
returns-in_default c =
    let s = c.args.stripe.now in
    on_ok_so c.report-in_default.result
    (λ e rows some all h. none_there s rows c.args.column c.index-text.result.now c.args.found.now.items c.report-in_default.new.found.items c.requires.laid_out c.requires.there (search rules)
    (λ message is. c.read_index.ensures.none (c.in_ok-message.was ∙ ap Ok c.in_default.is) message is) e some)
    c.report-in_default.ensures

pub returns-then-entries-groups : goal.returns-then-entries-groups
returns-then-entries-groups c =
    let s = c.args.stripe.now in
    let is : IsMessage c.index-text.result.now c.in-Some.message = subst (λ (o : Option RowIndexMsg). IfSome o (IsMessage c.index-text.result.now)) c.in-Some.is c.in_ok-message.ensures.found in
    on_ok_so c.report-then-entries-groups.result
    (λ e rows some all h. other_number s rows c.args.column (shape c.args.tree.now) c.args.groups.now c.index-text.result.now c.in-Some.message c.as_slice-entries.result.now c.args.found.now.items c.report-then-entries-groups.new.found.items c.requires.laid_out c.requires.there
    (search rules) is c.as_slice-entries.ensures (λ same. c.if-entries-groups.true same) e some (h c.if-not-may_be_whole.ensures))
    c.report-then-entries-groups.ensures

pub returns : goal.returns
returns c =
    let s = c.args.stripe.now in
    let v = s.view.now in
    let column = c.args.column in
    let t = shape c.args.tree.now in
    let es = c.as_slice-entries.result.now in
    let is : IsMessage c.index-text.result.now c.in-Some.message = subst (λ (o : Option RowIndexMsg). IfSome o (IsMessage c.index-text.result.now)) c.in-Some.is c.in_ok-message.ensures.found in
    let own = c.streams_of-streams.result in
    let streams = streams_here s c.footer.result.now column own c.requires.laid_out c.footer.ensures.same c.streams_of-streams.ensures in
    on_ok_so c.check_groups.result
    (λ each rows some all h. index_found s rows column t c.args.groups.now c.index-text.result.now c.in-Some.message es c.deref-2.result.now c.deref.result.now own c.args.found.now.items c.check_groups.new.found.items c.requires.laid_out c.requires.there
    (search rules) is c.as_slice-entries.ensures (omega (arith, c.if-entries-groups.false)) (c.deref.ensures.value ∙ c.in_ok-counts.ensures) streams
    (λ y cs bs st of_column rises long before. subst (λ (rs : List Bool). AreDecided t y cs bs es rs) (sym c.deref-2.ensures.value) (c.in-Ok.ensures.right y cs bs st of_column rises (record { counted = long; each = before }))) each some (h c.if-not-may_be_whole.ensures))
    c.check_groups.ensures
