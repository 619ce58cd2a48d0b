use Rattle.std.proofs.lemmas.Result.{IfOk-weaker}
use Rattle.std.proofs.Common.{inl}
use Rattle.orc_values.specs.Views.{views}
use Rattle.orc_cli_rows.proofs.StripeLemmas.{rows_behind, stops_behind, rest_met, err_part}
use Rattle.orc_cli_rows.proofs.reading.rows_from.Goals as goal

pub returns-in-Ok-clause-found : goal.returns-in-Ok-clause-found
returns-in-Ok-clause-found c =
    let starts = rw c.from.ensures at c.in-Ok.ensures.starts in
    let there = rw c.from.ensures at c.in-Ok.ensures.there in
    let spelled = rw c.from.ensures at c.in-Ok.ensures.found in
    IfOk-weaker c.rest.result _ _ (λ rows stands. rows_behind c.args.view.now c.args.group (views rows.items) there.0 there.1 (spelled (views rows.items) stands) (λ x all s. spelled _ (starts x all s))) c.rest.ensures.found

pub returns-in-Ok-clause-fault : goal.returns-in-Ok-clause-fault
returns-in-Ok-clause-fault c =
    let starts = rw c.from.ensures at c.in-Ok.ensures.starts in
    let there = rw c.from.ensures at c.in-Ok.ensures.there in
    let meets = rw c.from.ensures at c.in-Ok.ensures.meets in
    stops_behind c.rest.result c.args.view.now c.args.group c.in-Ok.cursor there.0 there.1 meets starts (λ rows stands. err_part c.rest.result _ _ _ (λ f e. e) (c.rest.ensures.only rows stands))
    (rest_met c.rest.result c.in-Ok.cursor c.in-Ok.ensures.going c.rest.ensures.fault c.rest.ensures.first)

pub returns-in-Err-clause-fault : goal.returns-in-Err-clause-fault
returns-in-Err-clause-fault c = λ other.
    let starts = rw c.from.ensures at c.in-Err.ensures.starts in
    let fault = rw c.from.ensures at c.in-Err.ensures.fault in
    record { none = λ x all s. other (starts x all s); reason = inl (fault other) }
