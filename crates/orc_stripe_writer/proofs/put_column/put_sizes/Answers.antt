use Rattle.std.proofs.Common.{◌∙◌}
use Rattle.orc_row_groups.specs.OwnCells.{own_cells}
use Rattle.orc_stripe_writer.specs.CellValues.{sizes_in}
use Rattle.orc_stripe_writer.proofs.AddingLemmas.{sizes_added}
use Rattle.orc_stripe_writer.proofs.put_column.put_sizes.Goals as goal

pub returns : goal.returns
returns c =
    sizes_added c.args.rle c.args.column c.args.body.now c.put_ints.new.self c.direct.result c.deref.result.now (sizes_in (own_cells c.args.owns.now)) c.direct.ensures
    (c.deref.ensures.value ∙ c.in_ok-sizes.ensures.sizes) c.in_ok-put_ints.ensures
