use Rattle.std.proofs.Common.{ℕ, List, sym, subst}
use Rattle.std.proofs.lemmas.Result.{err_from_is_err_and}
use Rattle.orc_file_reader.specs.FileRows.{FileIs, rows_together}
use Rattle.orc_merge_laws.specs.Grouping.{input, one, and}
use Rattle.orc_theorems.specs.Groupings.{pair}
use Rattle.orc_theorems.specs.Inputs.{AreFound}
use Rattle.orc_theorems.proofs.FoundLemmas.{none_found_of}
use Rattle.orc_theorems.proofs.merged_findings_calls.join_in_steps_checked.Goals as goal

pub returns-clause-wrote : goal.returns-clause-wrote
returns-clause-wrote c = c.in_ok-joined.ensures.wrote

pub returns-clause-after : goal.returns-clause-after
returns-clause-after c = subst (λ (bytes : List ℕ). AreFound bytes c.in_ok-findings.findings.items) c.deref.ensures.value c.in_ok-findings.ensures.found

pub returns-clause-nothing : goal.returns-clause-nothing
returns-clause-nothing c = λ parts none.
    let joined = c.in_ok-joined.joined in
    let groups = and (pair c.args.first.now c.args.second.now) (one (input c.args.third.now)) in
    let is = c.findings_of_merges.ensures.grouped groups joined.bytes.items parts c.in_ok-joined.ensures.wrote none in
    none_found_of c.row_laws.ensures.one c.finding_laws.ensures.one joined.bytes.items is.0 (rows_together parts) c.in_ok-findings.findings.items is.1 is.2
    (subst (λ (bytes : List ℕ). AreFound bytes c.in_ok-findings.findings.items) c.deref.ensures.value c.in_ok-findings.ensures.found)

pub returns-in_err-joined-clause-only : goal.returns-in_err-joined-clause-only
returns-in_err-joined-clause-only c =
    let p = err_from_is_err_and c.from_residual.result c.from_residual.ensures.1 in
    rw (p.1, p.2) (λ parts none. c.in_err-joined.ensures.step)

pub returns-in_err-findings-clause-only : goal.returns-in_err-findings-clause-only
returns-in_err-findings-clause-only c =
    let p = err_from_is_err_and c.from_residual-in_err-findings.result c.from_residual-in_err-findings.ensures.1 in
    let joined = c.in_ok-joined.joined in
    let groups = and (pair c.args.first.now c.args.second.now) (one (input c.args.third.now)) in
    rw (p.1, p.2) (λ parts none.
    let is = c.findings_of_merges.ensures.grouped groups joined.bytes.items parts c.in_ok-joined.ensures.wrote none in
    c.in_err-findings.ensures.only is.0 (rows_together parts) (subst (λ (bytes : List ℕ). FileIs bytes is.0 (rows_together parts)) (sym c.deref.ensures.value) is.1))
