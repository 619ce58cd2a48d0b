use Rattle.std.proofs.Common.{[], ◌∷◌}
use Rattle.std.proofs.lemmas.List.Sorted.{IsPermutation-append_comm}
use Rattle.std.proofs.lemmas.Result.{err_from_is_err_and}
use Rattle.orc_theorems.proofs.StepLemmas.{merge_of, of_device, turned_of_device}
use Rattle.orc_theorems.proofs.merging_calls.join_in_orders.Goals as goal

pub returns-clause-same : goal.returns-clause-same
returns-clause-same c =
    let a = c.args.first.now in
    let b = c.args.second.now in
    let one = merge_of (a ∷ b ∷ []) c.in_ok-one.one.tail c.in_ok-one.one.bytes.items c.in_ok-one.ensures.wrote in
    let other = merge_of (b ∷ a ∷ []) c.in_ok-other.other.tail c.in_ok-other.other.bytes.items c.in_ok-other.ensures.wrote in
    c.merge_theorem.ensures.order (a ∷ b ∷ []) (b ∷ a ∷ []) c.in_ok-one.one.tail c.in_ok-other.other.tail c.in_ok-one.one.bytes.items c.in_ok-other.other.bytes.items
    one.0 other.0 (IsPermutation-append_comm (a ∷ []) (b ∷ []))

pub returns-in_err-one-clause-only : goal.returns-in_err-one-clause-only
returns-in_err-one-clause-only c =
    let p = err_from_is_err_and c.from_residual.result c.from_residual.ensures.1 in
    rw (p.1, p.2) (λ tail out m. of_device (c.args.first.now ∷ c.args.second.now ∷ []) tail out c.in_err-one.field-0.0 m c.in_err-one.ensures.refused)

pub returns-in_err-other-clause-only : goal.returns-in_err-other-clause-only
returns-in_err-other-clause-only c =
    let p = err_from_is_err_and c.from_residual-in_err-other.result c.from_residual-in_err-other.ensures.1 in
    rw (p.1, p.2)
    (λ tail out m. turned_of_device c.merge_theorem.ensures.orders c.args.first.now c.args.second.now out tail c.in_err-other.field-0.0 m c.in_err-other.ensures.refused)
