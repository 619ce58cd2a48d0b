use Rattle.std.proofs.Common.{get_or, sym, ◌∙◌}
use Rattle.orc_rle.proofs.SizeLemmas.{behind_two, two_front, two_count}
use Rattle.orc_rle.proofs.v2.V2RunCodec.run_size.Goals as goal

pub returns-in-len2-up : goal.returns-in-len2-up
returns-in-len2-up c = λ front rest v p e.
    let bytes = c.args.bytes.now in
    let parts = two_front bytes c.in-len2-up.len_at_least ∙ e in
    let size = c.headed_bytes.ensures.only c.args._sign front rest v p.shape parts in
    let count = two_count c.args._sign (get_or bytes 0 0) (get_or bytes 1 0) (behind_two bytes) front rest v p.shape c.if-head-lt64.false parts in
    (sym size, c.length_in.ensures.is ∙ sym count)
