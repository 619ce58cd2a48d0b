use Rattle.std.proofs.Common.{◌≡◌, ◌∙◌, ℕ, true, List, [], length, sym, ap, subst, arith}
use Rattle.std.specs.Prelude.{◌==◌, vec_len}
use Rattle.std.proofs.lemmas.Bool.{eqb-true}
use Rattle.std.proofs.lemmas.Result.{err_from_is_err_and}
use Rattle.orc_skipping.specs.Tests.{predicate}
use Rattle.orc_check.specs.declared.finding.Finding.{Finding}
use Rattle.orc_theorems.specs.Inputs.{AreFound}
use Rattle.orc_theorems.proofs.PrintLemmas.{none_there}
use Rattle.orc_theorems.proofs.KeptLemmas.{found_of}
use Rattle.orc_theorems.proofs.OtherGroups.{others}
use Rattle.orc_theorems.proofs.skipping_calls.matching_groups.Goals as goal

pub returns-in_err-found-clause-only : goal.returns-in_err-found-clause-only
returns-in_err-found-clause-only c =
    let p = err_from_is_err_and c.from_residual.result c.from_residual.ensures.1 in
    rw (p.1, p.2) (λ tail rows is below. c.in_err-found.ensures.only tail rows is)

pub returns-then-not-is_empty-clause-found : goal.returns-then-not-is_empty-clause-found
returns-then-not-is_empty-clause-found c = λ no. (
  c.in_ok-found.found.items,
  c.in_ok-found.ensures.found,
  λ none.
      let long : length c.in_ok-found.found.items ≡ 0 = ap (λ (f : List Finding). length f) none in
      let zero : vec_len c.in_ok-found.found ≡ 0 = omega (arith, long, c.in_ok-found.found.ok.0) in
      let empty : c.is_empty.result ≡ true = c.is_empty.ensures ∙ ap (λ (n : ℕ). n == 0) zero in
      let not_empty = c.if-not-is_empty.true in
      cc,
)

pub returns-in-Ok-clause-kept : goal.returns-in-Ok-clause-kept
returns-in-Ok-clause-kept c =
    let zero : vec_len c.in_ok-found.found ≡ 0 = eqb-true (vec_len c.in_ok-found.found) 0 (sym c.is_empty.ensures ∙ c.if-not-is_empty.false) in
    let none : c.in_ok-found.found.items ≡ [] = none_there c.in_ok-found.found.items (omega (arith, zero, c.in_ok-found.found.ok.0)) in
    let f : AreFound c.args.bytes.now [] = subst (λ (fs : List Finding). AreFound c.args.bytes.now fs) none c.in_ok-found.ensures.found in
    (f.0, f.1, f.2, f.3, c.in-Ok.ensures.kept f.0 f.1 f.2 f.3)

pub returns-in-Ok-clause-others : goal.returns-in-Ok-clause-others
returns-in-Ok-clause-others c = λ tail rows place part is at.
    let bytes = c.args.bytes.now in
    let zero : vec_len c.in_ok-found.found ≡ 0 = eqb-true (vec_len c.in_ok-found.found) 0 (sym c.is_empty.ensures ∙ c.if-not-is_empty.false) in
    let none : c.in_ok-found.found.items ≡ [] = none_there c.in_ok-found.found.items (omega (arith, zero, c.in_ok-found.found.ok.0)) in
    let found = found_of bytes c.in_ok-found.found.items tail rows none c.in_ok-found.ensures.found is in
    others c.skipping_in_files.ensures.bold c.skipping_laws.ensures.one_column bytes tail rows is found ((c.finding_laws.ensures.none bytes tail rows is).0 found).2
    c.args.column (predicate c.args.test.now) c.in-Ok.places.items (c.in-Ok.ensures.kept tail rows is found) place part at

pub returns-clause-only : goal.returns-clause-only
returns-clause-only c = λ tail rows is below.
    let bytes = c.args.bytes.now in
    let zero : vec_len c.in_ok-found.found ≡ 0 = eqb-true (vec_len c.in_ok-found.found) 0 (sym c.is_empty.ensures ∙ c.if-not-is_empty.false) in
    let none : c.in_ok-found.found.items ≡ [] = none_there c.in_ok-found.found.items (omega (arith, zero, c.in_ok-found.found.ok.0)) in
    c.in-Err.ensures.only tail rows is (found_of bytes c.in_ok-found.found.items tail rows none c.in_ok-found.ensures.found is) below
