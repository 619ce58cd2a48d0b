use Rattle.std.proofs.Common.{List, arith, subst}
use Rattle.orc_values.specs.Views.{fields}
use Rattle.orc_values.specs.declared.tree.Field.{Field}
use Rattle.orc_json_printer.specs.LaidOut.{AreColumnsOf}
use Rattle.orc_json_printer.proofs.Laying.{none_told, member_told, member_lost, all_members_told}
use Rattle.orc_json_printer.proofs.layout.columns_of.Goals as goal
use Rattle.orc_json_printer.proofs.layout.columns_of.Goals.{then-member-len, else-member-len}

pub loop-i-init : goal.loop-i-init
loop-i-init c =
    none_told (fields c.args.fields.now.items) c.args.members.now.items c.in_ok-columns.columns.items
    (subst (λ (fs : List Field). AreColumnsOf (fields fs) 0 c.in_ok-columns.columns.items) c.deref.ensures.value c.in_ok-columns.ensures)

pub loop-i-preserved : goal.loop-i-preserved
loop-i-preserved c =
    let fs = fields c.args.fields.now.items in
    let ms = c.args.members.now.items in
    let items = c.deref-member-items.result.now in
    let xs = c.loop-i.columns.items in
    let m = c.member-item.result in
    elim c.if-member-len.branch [ then-member-len w ↦ rw w.columns-is (member_told fs ms items xs c.loop-i.i m w.index-own.result.now c.deref-member-items.ensures.value c.loop-i-test.true c.member-item.is (omega (arith, w.if-member-len.true, c.len.ensures)) w.index-own.ensures c.loop-i.invariant) | else-member-len w ↦ rw w.columns-is (member_lost fs ms items xs c.loop-i.i m c.deref-member-items.ensures.value c.loop-i-test.true c.member-item.is (omega (arith, w.if-member-len.false, c.len.ensures)) c.loop-i.invariant) ]

pub returns-clause-columns : goal.returns-clause-columns
returns-clause-columns c = c.loop-i.invariant.columns

pub returns-clause-members : goal.returns-clause-members
returns-clause-members c =
    all_members_told (fields c.args.fields.now.items) c.args.members.now.items c.deref-member-items.result.now c.loop-i.columns.items c.loop-i.i c.deref-member-items.ensures.value c.loop-i-test.false c.loop-i.invariant
