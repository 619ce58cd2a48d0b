use Rattle.std.proofs.Common.{inl, refl}
use Rattle.std.proofs.lemmas.Result.{on_ok_weaker}
use Rattle.orc_cli_rows.proofs.StripeLemmas.{rows_behind, stops_behind, err_part}
use Rattle.orc_cli_rows.proofs.judging.walk_from.Goals as goal

pub returns-in-Ok-clause-found : goal.returns-in-Ok-clause-found
returns-in-Ok-clause-found c =
    let starts = rw c.from.ensures at c.in-Ok.ensures.starts in
    let there = rw c.from.ensures at c.in-Ok.ensures.there in
    let spelled = rw c.from.ensures at c.in-Ok.ensures.found in
    on_ok_weaker c.put_lines.result (λ put. (put.rows, rows_behind c.args.view.now c.args.group put.rows there.0 there.1 (spelled put.rows put.stands) (λ x all s. spelled _ (starts x all s)))) (c.put_lines.ensures.found refl)

pub returns-in-Ok-clause-fault : goal.returns-in-Ok-clause-fault
returns-in-Ok-clause-fault c =
    let starts = rw c.from.ensures at c.in-Ok.ensures.starts in
    let there = rw c.from.ensures at c.in-Ok.ensures.there in
    let meets = rw c.from.ensures at c.in-Ok.ensures.meets in
    stops_behind c.put_lines.result c.args.view.now c.args.group c.in-Ok.cursor there.0 there.1 meets starts (λ rows stands. err_part c.put_lines.result _ _ _ (λ f e. e.0) (c.put_lines.ensures.only rows stands))
    (c.put_lines.ensures.fault c.in-Ok.ensures.going)

pub returns-in-Err-clause-fault : goal.returns-in-Err-clause-fault
returns-in-Err-clause-fault c = λ other.
    let starts = rw c.from.ensures at c.in-Err.ensures.starts in
    let fault = rw c.from.ensures at c.in-Err.ensures.fault in
    record { none = λ x all s. other (starts x all s); reason = inl (fault other) }
