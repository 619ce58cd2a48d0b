use Rattle.std.proofs.Common.{arith}
use Rattle.orc_json_printer.proofs.Laying.{columns_first, columns_last}
use Rattle.orc_json_printer.proofs.layout.one_by_one.Goals as goal
use Rattle.orc_values.proofs.ByColumn.{width_within}

pub width_of-count-requires : goal.width_of-count-requires
width_of-count-requires c =
    let within = width_within c.args.fields.now c.loop-field.field-index c.field-item.result c.loop-field-test.true c.field-item.is in
    omega (arith, within, c.requires)

pub loop-field-init : goal.loop-field-init
loop-field-init c = rw c.new-columns.ensures.items (columns_first c.args.fields.now)

pub returns : goal.returns
returns c = columns_last c.args.fields.now c.loop-field.field-index c.loop-field.first c.loop-field.columns.items (omega (arith, c.loop-field-test.false)) c.loop-field.invariant
