use Rattle.std.proofs.Common.{◌++◌}
use Rattle.orc_io.proofs.Leaving.{kept_then}
use Rattle.orc_merger.specs.Copies.{pieces_bytes}
use Rattle.orc_tail.specs.Layout.{magic}
use Rattle.orc_merger.proofs.BytesOut.{some_of_more, whole_then_some, all_is_some}
use Rattle.orc_merger.proofs.copying.write_merged.Goals as goal

pub returns-in-Err-clause-some : goal.returns-in-Err-clause-some
returns-in-Err-clause-some g c = λ files same.
    some_of_more _ _ magic (pieces_bytes files c.args.pieces.now ++ c.args.text.now) (c.in-Err.field-0, c.in-Err.ensures.some)

pub returns-in-Err-copy_pieces-clause-some : goal.returns-in-Err-copy_pieces-clause-some
returns-in-Err-copy_pieces-clause-some g c = λ files same.
    whole_then_some _ _ _ magic (pieces_bytes files c.args.pieces.now ++ c.args.text.now) c.in-Ok.ensures.all
    (some_of_more _ _ (pieces_bytes files c.args.pieces.now) c.args.text.now (c.copy_pieces.ensures.some files same))

pub returns-in-Ok-write_all-clause-some : goal.returns-in-Ok-write_all-clause-some
returns-in-Ok-write_all-clause-some g c = λ files same.
    whole_then_some _ _ _ magic (pieces_bytes files c.args.pieces.now ++ c.args.text.now) c.in-Ok.ensures.all
    (whole_then_some _ _ _ (pieces_bytes files c.args.pieces.now) c.args.text.now (c.in-Ok-copy_pieces.ensures.all files same)
    (all_is_some _ _ c.args.text.now c.in-Ok-write_all.ensures.all))

pub returns-in-Err-write_all-clause-some : goal.returns-in-Err-write_all-clause-some
returns-in-Err-write_all-clause-some g c = λ files same.
    whole_then_some _ _ _ magic (pieces_bytes files c.args.pieces.now ++ c.args.text.now) c.in-Ok.ensures.all
    (whole_then_some _ _ _ (pieces_bytes files c.args.pieces.now) c.args.text.now (c.in-Ok-copy_pieces.ensures.all files same)
    (c.in-Err-write_all.field-0, c.in-Err-write_all.ensures.some))

pub returns-in-Err-copy_pieces-clause-output : goal.returns-in-Err-copy_pieces-clause-output
returns-in-Err-copy_pieces-clause-output g c = kept_then c.in-Ok.ensures.failures c.in-Err-copy_pieces.ensures.output
