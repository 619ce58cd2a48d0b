use Rattle.std.proofs.Common.{◌∙◌}
use Rattle.orc_row_groups.specs.OwnCells.{own_cells}
use Rattle.orc_stripe_writer.specs.CellValues.{number_bytes_in}
use Rattle.orc_stripe_writer.proofs.AddingLemmas.{bytes_added}
use Rattle.orc_stripe_writer.proofs.put_column.put_bytes.Goals as goal

pub returns : goal.returns
returns c =
    bytes_added c.args.column c.args.body.now c.put_bytes.new.self c.plain.result c.deref.result.now (number_bytes_in (own_cells c.args.owns.now)) c.plain.ensures
    (c.deref.ensures.value ∙ c.in_ok-bytes.ensures) c.in_ok-put_bytes.ensures
