use Rattle.std.proofs.Common.{◌∙◌, ℕ, List, [], ◌∷◌, inr, sym, subst}
use Rattle.std.proofs.lemmas.Result.{err_from_is_err_and}
use Rattle.orc_merge_laws.specs.Grouping.{Wrote}
use Rattle.orc_theorems.specs.Groupings.{first_two, last_two}
use Rattle.orc_theorems.proofs.StepLemmas.{merge_of, first_two_same, last_two_same, given_is, only_step, either_more}
use Rattle.orc_theorems.proofs.merging_calls.join_in_groupings.Goals as goal

pub returns-clause-opens : goal.returns-clause-opens
returns-clause-opens c =
    let files = c.args.first.now ∷ c.args.second.now ∷ c.args.third.now ∷ [] in
    let done = c.in_ok-joined.joined in
    let m = merge_of files done.tail done.bytes.items c.in_ok-joined.ensures.wrote in
    c.merge_theorem.ensures.opens files done.tail done.bytes.items m.0 m.1

pub returns-clause-rows : goal.returns-clause-rows
returns-clause-rows c = λ parts have.
    let files = c.args.first.now ∷ c.args.second.now ∷ c.args.third.now ∷ [] in
    let done = c.in_ok-joined.joined in
    let m = merge_of files done.tail done.bytes.items c.in_ok-joined.ensures.wrote in
    c.merge_theorem.ensures.rows files done.tail done.bytes.items parts m.0 m.1 have

pub returns-clause-statistics : goal.returns-clause-statistics
returns-clause-statistics c = λ parts honest.
    let files = c.args.first.now ∷ c.args.second.now ∷ c.args.third.now ∷ [] in
    let done = c.in_ok-joined.joined in
    let m = merge_of files done.tail done.bytes.items c.in_ok-joined.ensures.wrote in
    c.merge_theorem.ensures.statistics files done.tail done.bytes.items parts m.0 honest

pub returns-clause-given : goal.returns-clause-given
returns-clause-given c = λ groups out short leaves.
    let files = c.args.first.now ∷ c.args.second.now ∷ c.args.third.now ∷ [] in
    let done = c.in_ok-joined.joined in
    let m = merge_of files done.tail done.bytes.items c.in_ok-joined.ensures.wrote in
    given_is c.merge_theorem.ensures.given groups files done.tail done.bytes.items out short leaves m.0

pub returns-clause-sums : goal.returns-clause-sums
returns-clause-sums c = λ parts column honest lt.
    let files = c.args.first.now ∷ c.args.second.now ∷ c.args.third.now ∷ [] in
    let done = c.in_ok-joined.joined in
    let m = merge_of files done.tail done.bytes.items c.in_ok-joined.ensures.wrote in
    c.merge_theorem.ensures.sums files done.tail done.bytes.items parts column m.0 m.1 honest lt

pub returns-clause-grouped : goal.returns-clause-grouped
returns-clause-grouped c =
    let a = c.args.first.now in
    let b = c.args.second.now in
    let d = c.args.third.now in
    let joined = c.in_ok-joined.joined in
    let gave = c.in_ok-same.ensures.gave in
    let left = first_two_same c.merge_theorem.ensures.alike a b d gave.0 joined.bytes.items joined.tail gave.2 c.in_ok-joined.ensures.wrote in
    let right = last_two_same c.merge_theorem.ensures.alike a b d gave.1 joined.bytes.items joined.tail gave.3 c.in_ok-joined.ensures.wrote in (
      subst (λ (l : List ℕ). Wrote (first_two a b d) l) left gave.2,
      subst (λ (l : List ℕ). Wrote (last_two a b d) l) right gave.3,
    )

pub returns-clause-same : goal.returns-clause-same
returns-clause-same c =
    let a = c.args.first.now in
    let b = c.args.second.now in
    let d = c.args.third.now in
    let joined = c.in_ok-joined.joined in
    let gave = c.in_ok-same.ensures.gave in
    let left = first_two_same c.merge_theorem.ensures.alike a b d gave.0 joined.bytes.items joined.tail gave.2 c.in_ok-joined.ensures.wrote in
    let right = last_two_same c.merge_theorem.ensures.alike a b d gave.1 joined.bytes.items joined.tail gave.3 c.in_ok-joined.ensures.wrote in
    gave.4.1 (left ∙ sym c.deref.ensures.value, right ∙ sym c.deref.ensures.value)

pub returns-in_err-joined-clause-refused : goal.returns-in_err-joined-clause-refused
returns-in_err-joined-clause-refused c =
    let p = err_from_is_err_and c.from_residual.result c.from_residual.ensures.1 in
    rw (p.1, p.2) (inr (inr (only_step c.args.first.now c.args.second.now c.args.third.now c.in_err-joined.field-0.0 c.in_err-joined.ensures.refused)))

pub returns-in_err-same-clause-refused : goal.returns-in_err-same-clause-refused
returns-in_err-same-clause-refused c =
    let p = err_from_is_err_and c.from_residual-in_err-same.result c.from_residual-in_err-same.ensures.1 in
    rw (p.1, p.2) (either_more c.in_err-same.ensures.refused)
