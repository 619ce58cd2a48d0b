use Rattle.std.proofs.Common.{◌≡◌, ◌<◌, ap, arith}
use Rattle.orc_values.specs.Shapes.{width}
use Rattle.orc_skipping.specs.Tests.{predicate}
use Rattle.orc_tail.specs.declared.tail.Tail.{Tail}
use Rattle.orc_theorems.proofs.KeptLemmas.{adds_unindexed, only_unindexed, adds_indexed, only_indexed}
use Rattle.orc_theorems.proofs.skipping_calls.keep_in_stripe.Goals as goal

pub returns-then-column-width-clause-only : goal.returns-then-column-width-clause-only
returns-then-column-width-clause-only g c = λ bytes rows told is found below. absurd (omega (arith, below, c.if-column-width.true, c.width.ensures.same, ap width c.schema.ensures))

pub returns-then-tail-eq0-clause-kept : goal.returns-then-tail-eq0-clause-kept
returns-then-tail-eq0-clause-kept g c = λ bytes rows told is found.
    let tail = c.args.file.now.tail in
    let right = (c.finding_laws.ensures.none bytes tail rows is).0 found in
    let below : c.args.column < width tail.schema = omega (arith, c.if-column-width.false, c.width.ensures.same, ap width c.schema.ensures) in
    let none : tail.stride ≡ 0 = omega (arith, c.if-tail-eq0.true, ap (λ (t : Tail). t.stride) c.tail.ensures) in
    adds_unindexed bytes tail c.tail-then-tail-eq0.result.now rows c.args.column (predicate c.args.test.now) c.args.stripe c.args.places.now.items c.keep_by_statistic.new.places.items c.keep_by_statistic.result
    c.tail-then-tail-eq0.ensures none right.0 c.requires.there below c.keep_by_statistic.ensures.kept

pub returns-then-tail-eq0-clause-only : goal.returns-then-tail-eq0-clause-only
returns-then-tail-eq0-clause-only g c = λ bytes rows told is found below.
    let tail = c.args.file.now.tail in
    let right = (c.finding_laws.ensures.none bytes tail rows is).0 found in
    only_unindexed tail c.tail-then-tail-eq0.result.now rows c.args.column c.args.stripe c.keep_by_statistic.result c.tail-then-tail-eq0.ensures right.0 c.requires.there below c.keep_by_statistic.ensures.only

pub returns-clause-kept : goal.returns-clause-kept
returns-clause-kept g c = λ bytes rows told is found.
    let tail = c.args.file.now.tail in
    let right = (c.finding_laws.ensures.none bytes tail rows is).0 found in
    let below : c.args.column < width tail.schema = omega (arith, c.if-column-width.false, c.width.ensures.same, ap width c.schema.ensures) in
    let some : 0 < tail.stride = omega (arith, c.if-tail-eq0.false, ap (λ (t : Tail). t.stride) c.tail.ensures) in
    adds_indexed bytes tail rows c.args.column (predicate c.args.test.now) c.args.stripe c.args.places.now.items c.keep_groups_of_stripe.new.places.items c.keep_groups_of_stripe.result
    is right.2 some c.requires.there below (λ footer message has index few. c.keep_groups_of_stripe.ensures.kept bytes footer message told some has index few)

pub returns-clause-only : goal.returns-clause-only
returns-clause-only g c = λ bytes rows told is found below.
    let tail = c.args.file.now.tail in
    let right = (c.finding_laws.ensures.none bytes tail rows is).0 found in
    let some : 0 < tail.stride = omega (arith, c.if-tail-eq0.false, ap (λ (t : Tail). t.stride) c.tail.ensures) in
    only_indexed bytes tail rows c.args.column c.args.stripe c.keep_groups_of_stripe.result is right.2 some c.requires.there below
    (λ footer message has index. c.keep_groups_of_stripe.ensures.only bytes footer message told some has index)
