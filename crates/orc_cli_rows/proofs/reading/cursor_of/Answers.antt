use Rattle.std.proofs.lemmas.Result.{IfErr-weaker}
use Rattle.orc_cli_rows.proofs.StripeLemmas.{no_stripe, cursor_found, cursor_stops}
use Rattle.orc_cli_rows.proofs.reading.cursor_of.Goals as goal

pub returns-in-None-clause-fault : goal.returns-in-None-clause-fault
returns-in-None-clause-fault c = rw c.in-None.is (IfErr-weaker c.cursor.result _ _ (λ why met other. no_stripe c.args.view.now why c.requires.opened (met other)) c.cursor.ensures.fault)

pub returns-in-Some-clause-found : goal.returns-in-Some-clause-found
returns-in-Some-clause-found c =
    let starts = rw c.from.ensures at c.cursor_at.ensures.starts in
    let there = rw c.from.ensures at c.cursor_at.ensures.there in
    let found = rw c.from.ensures at c.cursor_at.ensures.found in
    rw c.in-Some.is (cursor_found c.cursor_at.result c.args.view.now c.in-Some.group there found starts)

pub returns-in-Some-clause-fault : goal.returns-in-Some-clause-fault
returns-in-Some-clause-fault c =
    let starts = rw c.from.ensures at c.cursor_at.ensures.starts in
    let fault = rw c.from.ensures at c.cursor_at.ensures.fault in
    rw c.in-Some.is (cursor_stops c.cursor_at.result c.args.view.now c.in-Some.group starts fault)
