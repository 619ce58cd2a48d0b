use Rattle.std.proofs.Common.{ℕ, List, ◌++◌, ap, sym, ◌∙◌}
use Rattle.orc_wire.proofs.SizedLemmas.{varint_text-below}
use Rattle.orc_wire.proofs.canonical.put_one.Goals as goal

pub returns-then-n-lt-TWO_BYTES-clause-text : goal.returns-then-n-lt-TWO_BYTES-clause-text
returns-then-n-lt-TWO_BYTES-clause-text c =
    let old = c.args.out.now.items in
    c.in_ok-push.ensures.items ∙ ap (λ (t : List ℕ). old ++ t) (sym (varint_text-below c.args.n c.if-n-lt-TWO_BYTES.true))
