use Rattle.std.proofs.Common.{[], ◌∷◌, ◌+◌, ap, get_or, refl, ◌∙◌}
use Rattle.orc_rle.proofs.SizeLemmas.{behind_two, two_front, step_size}
use Rattle.orc_rle.proofs.v1.V1RunCodec.run_size.Goals as goal

pub returns-in-len2-up : goal.returns-in-len2-up
returns-in-len2-up c = λ front rest v p e.
    let bytes = c.args.bytes.now in
    let parts = two_front bytes c.in-len2-up.len_at_least ∙ e in
    let s = step_size c.args._sign (get_or bytes 0 0) (get_or bytes 1 0) (behind_two bytes) front rest v p c.if-control-ge128.false parts in
    let text = c.varints_len-in-len2-up.ensures.only c.args._sign (s.first ∷ []) s.text rest s.spelled refl s.parts in
    (ap (λ n. n + 2) text ∙ s.len, ap (λ n. n + 3) c.from.ensures ∙ s.count)
