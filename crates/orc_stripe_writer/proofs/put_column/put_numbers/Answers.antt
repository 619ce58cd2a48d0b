use Rattle.std.proofs.Common.{◌∙◌}
use Rattle.orc_row_groups.specs.OwnCells.{own_cells}
use Rattle.orc_stripe_writer.specs.CellValues.{ints_in}
use Rattle.orc_stripe_writer.proofs.AddingLemmas.{numbers_added}
use Rattle.orc_stripe_writer.proofs.put_column.put_numbers.Goals as goal

pub returns : goal.returns
returns c =
    numbers_added c.args.rle c.args.column c.args.body.now c.put_ints.new.self c.direct.result c.deref.result.now (ints_in (own_cells c.args.owns.now)) c.direct.ensures
    (c.deref.ensures.value ∙ c.in_ok-numbers.ensures.ints) c.in_ok-put_ints.ensures
