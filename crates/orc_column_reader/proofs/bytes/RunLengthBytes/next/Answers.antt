use Rattle.std.proofs.Common.{◌≡◌, ℕ, suc, [], ◌∷◌, drop, get_or, length, ◌+◌, ◌<◌, ap, sym, ◌∙◌}
use Rattle.orc_rle.specs.ByteRun.{IsByteRun, NoByteRun}
use Rattle.orc_column_reader.proofs.RunsMetLemmas.{met_value}
use Rattle.orc_column_reader.specs.Bytes.{BytesLeft, BytesFirst}
use Rattle.orc_column_reader.proofs.Fronts.{one_after_other}
use Rattle.orc_column_reader.proofs.RunsLemmas.{one_taken, head_at}
use Rattle.orc_column_reader.proofs.FirstLemmas.{first_taken, first_after}
use Rattle.orc_column_reader.proofs.bytes.RunLengthBytes.next.Goals as goal

pub returns-clause-found : goal.returns-clause-found
returns-clause-found c =
    let r = c.fill.new.self in
    let b : ℕ = get_or c.values.result.now r.used 0 in
    let there : r.used < length r.run.values = c.in_ok-fill.ensures.some in
    let same : get_or r.run.values r.used 0 ≡ b = ap (λ xs. get_or xs r.used 0) (sym c.values.ensures.values) in
    let e = head_at r.run.values r.used 0 there ∙ ap (λ m. m ∷ drop (r.used + 1) r.run.values) same in
    one_after_other (BytesLeft c.args.self.now) (BytesLeft r) _ [] (b ∷ []) c.in_ok-fill.ensures.found (one_taken IsByteRun r.run.values r.used (drop r.at r.bytes.now) b e)

pub returns-clause-before : goal.returns-clause-before
returns-clause-before c =
    λ m f h.
    let r = c.fill.new.self in
    let n : ℕ = get_or c.values.result.now r.used 0 in
    let there : r.used < length r.run.values = c.in_ok-fill.ensures.some in
    let same : get_or r.run.values r.used 0 ≡ n = ap (λ xs. get_or xs r.used 0) (sym c.values.ensures.values) in
    let e = head_at r.run.values r.used 0 there ∙ ap (λ m. m ∷ drop (r.used + 1) r.run.values) same in
    c.in_ok-fill.ensures.before (suc m) f (met_value IsByteRun NoByteRun n (drop (r.used + 1) r.run.values) (drop r.used r.run.values) (drop r.at r.bytes.now) r.start r.at (length r.bytes.now) m f e h)

pub returns-clause-first : goal.returns-clause-first
returns-clause-first c =
    let r = c.fill.new.self in
    let b : ℕ = get_or c.values.result.now r.used 0 in
    let there : r.used < length r.run.values = c.in_ok-fill.ensures.some in
    let same : get_or r.run.values r.used 0 ≡ b = ap (λ xs. get_or xs r.used 0) (sym c.values.ensures.values) in
    let e = head_at r.run.values r.used 0 there ∙ ap (λ m. m ∷ drop (r.used + 1) r.run.values) same in
    first_after (BytesFirst c.args.self.now) (BytesFirst r) _ [] (b ∷ []) c.in_ok-fill.ensures.first (first_taken IsByteRun r.run.values r.used (drop r.at r.bytes.now) b e)
