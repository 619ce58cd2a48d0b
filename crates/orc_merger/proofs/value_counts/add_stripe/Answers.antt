use Rattle.std.proofs.Common.{rules, ◌≡◌, ℕ, ◌+◌, ◌<◌, ◌∙◌, List, length, take, set, min, sym, ap, subst, arith, slice_index_or}
use Rattle.std.proofs.lemmas.List.{take_all, get_or_read}
use Rattle.orc_stats.specs.declared.stat.Stat.{Stat}
use Rattle.orc_merger.specs.Counts.{column_count}
use Rattle.orc_merger.proofs.ValueCounts.{count_at, counted_more, counts_more}
use Rattle.orc_merger.proofs.value_counts.add_stripe.Goals as goal

pub loop-i-preserved : goal.loop-i-preserved
loop-i-preserved c = record {
  wide = search rules;
  counted = λ before h.
      let stats : List Stat = c.args.stats.now in
      let counts : List ℕ = c.loop-i.counts.items in
      let lt : c.loop-i.i < length stats = omega (arith, c.loop-i-test.true) in
      let d : Stat = c.index-stats-i.result in
      let read : c.index.result.now ≡ slice_index_or counts c.loop-i.i 0 = get_or_read counts c.loop-i.i _ (omega (arith, lt, c.loop-i.invariant.wide)) c.index.ensures 0 in
      let sum : c.saturating_add.result ≡ min (slice_index_or counts c.loop-i.i 0 + (slice_index_or stats c.loop-i.i d).count) 18446744073709551615 =
      c.saturating_add.ensures ∙ ap (λ n. min (n + d.count) 18446744073709551615) read ∙ ap (λ (s : Stat). min (slice_index_or counts c.loop-i.i 0 + s.count) 18446744073709551615) c.index-stats-i.is in
      subst (λ n. (k : ℕ) → slice_index_or (set counts c.loop-i.i n) k 0 ≡ min (column_count k before + count_at k (take (c.loop-i.i + 1) stats)) 18446744073709551615) (sym sum)
      (counted_more counts stats c.loop-i.i d (λ k. column_count k before) c.loop-i.invariant.wide lt (c.loop-i.invariant.counted before h));
}

pub returns : goal.returns
returns c = λ before h.
    let whole : take c.loop-i.i c.args.stats.now ≡ c.args.stats.now = take_all c.loop-i.i c.args.stats.now (omega (arith, c.loop-i-test.false)) in
    counts_more c.loop-i.counts.items before c.args.stats.now
    (λ k. c.loop-i.invariant.counted before (λ m. c.in_ok-widen.ensures.same m ∙ h m) k ∙ ap (λ xs. min (column_count k before + count_at k xs) 18446744073709551615) whole)
