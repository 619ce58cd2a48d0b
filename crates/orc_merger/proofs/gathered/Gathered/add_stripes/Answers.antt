use Rattle.std.proofs.Common.{◌≡◌, ◌≤◌, ◌+◌, ◌++◌, List, length, length-append, refl, ap, ◌∙◌, sym, subst, arith, inr}
use Rattle.std.specs.List.{All}
use Rattle.orc_wire.specs.declared.stripe_info.StripeInfo.{StripeInfo}
use Rattle.orc_tail.specs.Stripes.{stripes_length}
use Rattle.orc_merger.specs.Merging.{placed}
use Rattle.orc_merger.proofs.Placing.{length-placed}
use Rattle.orc_merger.proofs.ValueCounts.{few_counts}
use Rattle.orc_merger.proofs.gathered.Gathered.add_stripes.Goals as goal
use Rattle.orc_merger.proofs.gathered.Gathered.add_stripes.Goals.{then-len-gt-MOST_STRIPES-via-then-len-gt-MOST_STRIPES}
use Rattle.orc_merger.proofs.gathered.Gathered.add_stripes.Goals.{then-len-gt-MOST_STRIPES-via-else-len-gt-MOST_STRIPES+then-end-gt-LAST_PLACE}
use Rattle.orc_merger.proofs.gathered.Gathered.add_stripes.Goals.{then-len-gt-MOST_STRIPES-via-else-len-gt-MOST_STRIPES+else-end-gt-LAST_PLACE+then-rows-gt-MOST_ROWS}

pub returns-then-len-gt-MOST_STRIPES-clause-fault : goal.returns-then-len-gt-MOST_STRIPES-clause-fault
returns-then-len-gt-MOST_STRIPES-clause-fault c = inr (
  refl,
  λ before h few.
      let old : List StripeInfo = c.args.self.now.stripes.items in
      let more : List StripeInfo = c.args.stripes.now in
      let stripes_few : length old + length more ≤ 65536 = few.stripes_few in
      let bytes_few : c.args.self.now.end + stripes_length more ≤ 1099511627779 = few.bytes_few in
      let rows_few : c.args.self.now.rows + c.args.rows ≤ 1099511627776 = few.rows_few in
      elim c.then-len-gt-MOST_STRIPES.branch [
        | then-len-gt-MOST_STRIPES-via-then-len-gt-MOST_STRIPES w ↦
            let all : length c.place_stripes.new.into.items ≡ length old + length (placed c.args.self.now.end more) = ap length c.in_ok-end.ensures.stripes ∙ length-append old (placed c.args.self.now.end more) in
            absurd (omega (arith, w.if-len-gt-MOST_STRIPES.true, c.len.ensures, all, length-placed c.args.self.now.end more, stripes_few))
        | then-len-gt-MOST_STRIPES-via-else-len-gt-MOST_STRIPES+then-end-gt-LAST_PLACE w ↦ absurd (omega (arith, w.if-end-gt-LAST_PLACE.true, c.in_ok-end.ensures.end, bytes_few))
        | then-len-gt-MOST_STRIPES-via-else-len-gt-MOST_STRIPES+else-end-gt-LAST_PLACE+then-rows-gt-MOST_ROWS w ↦ absurd (omega (arith, w.if-rows-gt-MOST_ROWS.true, rows_few))
      ],
)

pub returns-then-not-are_few-clause-fault : goal.returns-then-not-are_few-clause-fault
returns-then-not-are_few-clause-fault c = inr (
  refl,
  λ before h few.
      let all : All (λ n. n ≤ 4611686018427387904) c.add_counts.new.counts.items = few_counts c.add_counts.new.counts.items (before ++ c.args.stats.now) (c.in_ok-add_counts.ensures before h) few.values_few in
      c.if-not-are_few.ensures.no (subst (All (λ n. n ≤ 4611686018427387904)) (sym c.deref.ensures.value) all),
)
