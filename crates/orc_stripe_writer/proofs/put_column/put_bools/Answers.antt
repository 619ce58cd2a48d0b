use Rattle.std.proofs.Common.{◌∙◌}
use Rattle.orc_row_groups.specs.OwnCells.{own_cells}
use Rattle.orc_stripe_writer.specs.CellValues.{bools_in}
use Rattle.orc_stripe_writer.proofs.AddingLemmas.{bits_added}
use Rattle.orc_stripe_writer.proofs.put_column.put_bools.Goals as goal

pub returns : goal.returns
returns c =
    bits_added c.args.column c.args.body.now c.put_bits.new.self c.plain.result c.deref.result.now (bools_in (own_cells c.args.owns.now)) c.plain.ensures
    (c.deref.ensures.value ∙ c.in_ok-bools.ensures) c.in_ok-put_bits.ensures
