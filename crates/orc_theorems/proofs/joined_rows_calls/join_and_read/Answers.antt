use Rattle.std.proofs.Common.{ℕ, List, ◌++◌, inl, inr, subst}
use Rattle.std.proofs.lemmas.Result.{err_from_is_err_and}
use Rattle.orc_values.specs.Views.{views}
use Rattle.orc_file_reader.specs.FileRows.{FileIs}
use Rattle.orc_tail.specs.declared.tail.Tail.{Tail}
use Rattle.orc_theorems.specs.declared.fault.CallFault.TheVariants.{File, Merge}
use Rattle.orc_theorems.proofs.RefusalLemmas.{joined_is, of_source, join_outside}
use Rattle.orc_theorems.proofs.joined_rows_calls.join_and_read.Goals as goal

pub returns-clause-before : goal.returns-clause-before
returns-clause-before c = (c.in_ok-rows_first.ensures.found, (c.in_ok-rows_second.ensures.found, tt))

pub returns-clause-merged : goal.returns-clause-merged
returns-clause-merged c = c.in_ok-joined.ensures.wrote

pub returns-clause-after : goal.returns-clause-after
returns-clause-after c =
    let x = c.in_ok-rows_first.ensures.found in
    let y = c.in_ok-rows_second.ensures.found in
    let z = c.in_ok-rows.ensures.found in
    let joined = c.in_ok-joined.joined in
    let there = c.deref.result.now in
    let rows = views c.in_ok-rows.rows.items in
    let is = joined_is c.merge_theorem.ensures.rows c.args.first.now c.args.second.now joined.bytes.items there x.0 y.0 joined.tail
    (views c.in_ok-rows_first.rows_first.items) (views c.in_ok-rows_second.rows_second.items) x.1 y.1 c.in_ok-joined.ensures.wrote c.deref.ensures.value in
    let one = c.row_laws.ensures.one there z.0 joined.tail rows (views c.in_ok-rows_first.rows_first.items ++ views c.in_ok-rows_second.rows_second.items) z.1 is in
    subst (λ (bytes : List ℕ). FileIs bytes joined.tail rows) c.deref.ensures.value (subst (λ (t : Tail). FileIs there t rows) one.0 z.1)

pub returns-clause-joined : goal.returns-clause-joined
returns-clause-joined c =
    let x = c.in_ok-rows_first.ensures.found in
    let y = c.in_ok-rows_second.ensures.found in
    let z = c.in_ok-rows.ensures.found in
    let joined = c.in_ok-joined.joined in
    let there = c.deref.result.now in
    let is = joined_is c.merge_theorem.ensures.rows c.args.first.now c.args.second.now joined.bytes.items there x.0 y.0 joined.tail
    (views c.in_ok-rows_first.rows_first.items) (views c.in_ok-rows_second.rows_second.items) x.1 y.1 c.in_ok-joined.ensures.wrote c.deref.ensures.value in
    (c.row_laws.ensures.one there z.0 joined.tail (views c.in_ok-rows.rows.items) (views c.in_ok-rows_first.rows_first.items ++ views c.in_ok-rows_second.rows_second.items) z.1 is).1

pub returns-in_err-rows_first-clause-refused : goal.returns-in_err-rows_first-clause-refused
returns-in_err-rows_first-clause-refused c =
    let p = err_from_is_err_and c.from_residual.result c.from_residual.ensures.1 in
    rw (p.1, p.2) (inl c.in_err-rows_first.ensures.refused)

pub returns-in_err-rows_first-clause-only : goal.returns-in_err-rows_first-clause-only
returns-in_err-rows_first-clause-only c =
    let p = err_from_is_err_and c.from_residual.result c.from_residual.ensures.1 in
    let e = c.in_err-rows_first.field-0.0 in
    rw (p.1, p.2) (λ t u tail rows others out in_first in_second m.
    join_outside c.tail_laws.ensures.none c.row_laws.ensures.none c.tail_laws.ensures.one c.outcomes.ensures.none c.args.first.now c.args.second.now (File e) t u rows others tail out
    in_first in_second m (inl c.in_err-rows_first.ensures.refused))

pub returns-in_err-rows_second-clause-refused : goal.returns-in_err-rows_second-clause-refused
returns-in_err-rows_second-clause-refused c =
    let p = err_from_is_err_and c.from_residual-in_err-rows_second.result c.from_residual-in_err-rows_second.ensures.1 in
    rw (p.1, p.2) (inr c.in_err-rows_second.ensures.refused)

pub returns-in_err-rows_second-clause-only : goal.returns-in_err-rows_second-clause-only
returns-in_err-rows_second-clause-only c =
    let p = err_from_is_err_and c.from_residual-in_err-rows_second.result c.from_residual-in_err-rows_second.ensures.1 in
    let e = c.in_err-rows_second.field-0.0 in
    rw (p.1, p.2) (λ t u tail rows others out in_first in_second m.
    join_outside c.tail_laws.ensures.none c.row_laws.ensures.none c.tail_laws.ensures.one c.outcomes.ensures.none c.args.first.now c.args.second.now (File e) t u rows others tail out
    in_first in_second m (inr c.in_err-rows_second.ensures.refused))

pub returns-in_err-joined-clause-refused : goal.returns-in_err-joined-clause-refused
returns-in_err-joined-clause-refused c =
    let p = err_from_is_err_and c.from_residual-in_err-joined.result c.from_residual-in_err-joined.ensures.1 in
    rw (p.1, p.2) c.in_err-joined.ensures.refused

pub returns-in_err-joined-clause-only : goal.returns-in_err-joined-clause-only
returns-in_err-joined-clause-only c =
    let p = err_from_is_err_and c.from_residual-in_err-joined.result c.from_residual-in_err-joined.ensures.1 in
    let e = c.in_err-joined.field-0.0 in
    rw (p.1, p.2) (λ t u tail rows others out in_first in_second m.
    join_outside c.tail_laws.ensures.none c.row_laws.ensures.none c.tail_laws.ensures.one c.outcomes.ensures.none c.args.first.now c.args.second.now (Merge e) t u rows others tail out
    in_first in_second m c.in_err-joined.ensures.refused)

pub returns-in_err-rows-clause-refused : goal.returns-in_err-rows-clause-refused
returns-in_err-rows-clause-refused c =
    let p = err_from_is_err_and c.from_residual-in_err-rows.result c.from_residual-in_err-rows.ensures.1 in
    let x = c.in_ok-rows_first.ensures.found in
    let y = c.in_ok-rows_second.ensures.found in
    let joined = c.in_ok-joined.joined in
    let first = views c.in_ok-rows_first.rows_first.items in
    let second = views c.in_ok-rows_second.rows_second.items in
    let is = joined_is c.merge_theorem.ensures.rows c.args.first.now c.args.second.now joined.bytes.items c.deref.result.now x.0 y.0 joined.tail first second x.1 y.1
    c.in_ok-joined.ensures.wrote c.deref.ensures.value in
    rw (p.1, p.2) (inl (of_source c.args.first.now c.in_err-rows.field-0.0 (c.in_err-rows.ensures.only joined.tail (first ++ second) is)))

pub returns-in_err-rows-clause-only : goal.returns-in_err-rows-clause-only
returns-in_err-rows-clause-only c =
    let p = err_from_is_err_and c.from_residual-in_err-rows.result c.from_residual-in_err-rows.ensures.1 in
    let x = c.in_ok-rows_first.ensures.found in
    let y = c.in_ok-rows_second.ensures.found in
    let joined = c.in_ok-joined.joined in
    let first = views c.in_ok-rows_first.rows_first.items in
    let second = views c.in_ok-rows_second.rows_second.items in
    let is = joined_is c.merge_theorem.ensures.rows c.args.first.now c.args.second.now joined.bytes.items c.deref.result.now x.0 y.0 joined.tail first second x.1 y.1
    c.in_ok-joined.ensures.wrote c.deref.ensures.value in
    rw (p.1, p.2) (λ t u tail rows others out in_first in_second m. c.in_err-rows.ensures.only joined.tail (first ++ second) is)
