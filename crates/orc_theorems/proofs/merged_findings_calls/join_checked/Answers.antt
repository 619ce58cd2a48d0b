use Rattle.std.proofs.Common.{ℕ, List, ◌++◌, inl, inr, subst}
use Rattle.std.proofs.lemmas.Result.{err_from_is_err_and}
use Rattle.orc_theorems.specs.Inputs.{AreFound}
use Rattle.orc_theorems.proofs.FoundLemmas.{nothing_found}
use Rattle.orc_theorems.proofs.RefusalLemmas.{joined_is, of_source}
use Rattle.orc_theorems.proofs.merged_findings_calls.join_checked.Goals as goal

pub returns-clause-nothing : goal.returns-clause-nothing
returns-clause-nothing c =
    let after = subst (λ (bytes : List ℕ). AreFound bytes c.in_ok-found.found.items) c.deref.ensures.value c.in_ok-found.ensures.found in
    nothing_found c.findings_of_merges.ensures.merged c.finding_laws.ensures.one c.args.first.now c.args.second.now c.in_ok-joined.joined.bytes.items
    c.in_ok-joined.joined.tail c.in_ok-found_first.found_first.items c.in_ok-found_second.found_second.items c.in_ok-found.found.items
    c.in_ok-found_first.ensures.found c.in_ok-found_second.ensures.found c.in_ok-joined.ensures.wrote after

pub returns-in_err-found_first-clause-refused : goal.returns-in_err-found_first-clause-refused
returns-in_err-found_first-clause-refused c =
    let p = err_from_is_err_and c.from_residual.result c.from_residual.ensures.1 in
    rw (p.1, p.2) (inl c.in_err-found_first.ensures.refused)

pub returns-in_err-found_second-clause-refused : goal.returns-in_err-found_second-clause-refused
returns-in_err-found_second-clause-refused c =
    let p = err_from_is_err_and c.from_residual-in_err-found_second.result c.from_residual-in_err-found_second.ensures.1 in
    rw (p.1, p.2) (inr c.in_err-found_second.ensures.refused)

pub returns-in_err-joined-clause-refused : goal.returns-in_err-joined-clause-refused
returns-in_err-joined-clause-refused c =
    let p = err_from_is_err_and c.from_residual-in_err-joined.result c.from_residual-in_err-joined.ensures.1 in
    rw (p.1, p.2) c.in_err-joined.ensures.refused

pub returns-in_err-found-clause-refused : goal.returns-in_err-found-clause-refused
returns-in_err-found-clause-refused c =
    let p = err_from_is_err_and c.from_residual-in_err-found.result c.from_residual-in_err-found.ensures.1 in
    let x = c.in_ok-found_first.ensures.found in
    let y = c.in_ok-found_second.ensures.found in
    let joined = c.in_ok-joined.joined in
    let is = joined_is c.merge_theorem.ensures.rows c.args.first.now c.args.second.now joined.bytes.items c.deref.result.now x.0 y.0 joined.tail x.1 y.1 x.2 y.2
    c.in_ok-joined.ensures.wrote c.deref.ensures.value in
    rw (p.1, p.2) (inl (of_source c.args.first.now c.in_err-found.field-0.0 (c.in_err-found.ensures.only joined.tail (x.1 ++ y.1) is)))
