use Rattle.std.proofs.Common.{◌≡◌, ◌∙◌, ℕ, true, List, [], length, sym, ap, arith}
use Rattle.std.specs.Prelude.{◌==◌, vec_len}
use Rattle.std.proofs.lemmas.Bool.{eqb-true}
use Rattle.std.proofs.lemmas.Result.{err_from_is_err_and}
use Rattle.orc_check.specs.declared.finding.Finding.{Finding}
use Rattle.orc_theorems.proofs.PrintLemmas.{other_told, other_refused, check_outside, none_there}
use Rattle.orc_theorems.proofs.groups_of_rows_calls.print_other_from.Goals as goal

pub returns-then-not-is_empty-clause-found : goal.returns-then-not-is_empty-clause-found
returns-then-not-is_empty-clause-found g c = λ no. (
  c.in_ok-found.found.items,
  c.in_ok-found.ensures.found,
  λ none.
      let long : length c.in_ok-found.found.items ≡ 0 = ap (λ (f : List Finding). length f) none in
      let zero : vec_len c.in_ok-found.found ≡ 0 = omega (arith, long, c.in_ok-found.found.ok.0) in
      let empty : c.is_empty.result ≡ true = c.is_empty.ensures ∙ ap (λ (n : ℕ). n == 0) zero in
      let not_empty = c.if-not-is_empty.true in
      cc,
)

pub returns-in-Ok-clause-lines : goal.returns-in-Ok-clause-lines
returns-in-Ok-clause-lines g c = λ yes.
    let zero : vec_len c.in_ok-found.found ≡ 0 = eqb-true (vec_len c.in_ok-found.found) 0 (sym c.is_empty.ensures ∙ c.if-not-is_empty.false) in
    let none : c.in_ok-found.found.items ≡ [] = none_there c.in_ok-found.found.items (omega (arith, zero, c.in_ok-found.found.ok.0)) in
    other_told c.reading_from_the_middle.ensures.lines_alone _ c.args.checked.now c.args.other.now c.args.from _ _ c.in_ok-found.found.items c.new.ensures.told none c.in_ok-found.ensures.found
    c.in-Ok.ensures.written

pub returns-in_err-found-clause-only : goal.returns-in_err-found-clause-only
returns-in_err-found-clause-only g c =
    let p = err_from_is_err_and c.from_residual.result c.from_residual.ensures.1 in
    rw (p.1, p.2) (λ tail rows stripe group is have opens asked places. check_outside c.in_err-found.field-0.0 (c.in_err-found.ensures.only tail rows is))

pub returns-clause-only : goal.returns-clause-only
returns-clause-only g c =
    let zero : vec_len c.in_ok-found.found ≡ 0 = eqb-true (vec_len c.in_ok-found.found) 0 (sym c.is_empty.ensures ∙ c.if-not-is_empty.false) in
    let none : c.in_ok-found.found.items ≡ [] = none_there c.in_ok-found.found.items (omega (arith, zero, c.in_ok-found.found.ok.0)) in
    other_refused c.reading_from_the_middle.ensures.only_alone c.row_laws.ensures.one _ c.args.checked.now c.args.other.now c.args.from _ _ _ c.in_ok-found.found.items c.new.ensures.told none
    c.in_ok-found.ensures.found c.in-Err.ensures.refused
