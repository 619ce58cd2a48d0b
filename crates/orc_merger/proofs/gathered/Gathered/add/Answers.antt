use Rattle.std.proofs.Common.{◌≡◌, ◌+◌, ◌++◌, length, refl, sym, ap, ◌∙◌, subst, arith, inl, inr}
use Rattle.std.proofs.lemmas.Result.{err_from_is_err_and}
use Rattle.orc_tail.specs.Stripes.{stripes_length}
use Rattle.orc_merger.specs.Merging.{Agree, HasStatistics, all_pairs, all_stats, placed, distinct}
use Rattle.orc_merger.specs.Gathering.{pieces_in}
use Rattle.orc_merger.specs.Counts.{AreCounts}
use Rattle.orc_merger.specs.PairPlaces.{ArePairPlaces}
use Rattle.orc_merger.specs.declared.user_pairs.UserPairs.{UserPairs}
use Rattle.orc_merger.proofs.NextInput.{pairs_so_far, next_pairs, next_stats, statistics_of, statistics_to, next_few, next_merges, placed_push, pieces_push, rows_push, end_push}
use Rattle.orc_merger.proofs.gathered.Gathered.add.Goals as goal

pub returns-in_err-add_pairs-clause-fault : goal.returns-in_err-add_pairs-clause-fault
returns-in_err-add_pairs-clause-fault c =
    let p = err_from_is_err_and c.from_residual.result c.from_residual.ensures.1 in
    rw (p.1, p.2) (elim c.in_err-add_pairs.ensures.fault [
      | inl memory ↦ inl memory
      | inr bad ↦ inr (λ first tail tails n. inl (
        λ agree. bad.1 (all_pairs tails) (pairs_so_far first tail tails c.args.number c.args.lists c.args.self.now n)
            (subst Agree (next_pairs first tail tails c.args.number c.args.lists c.args.self.now n) agree),
        bad.0,
      ))
    ])

pub returns-then-not-has_statistics-clause-fault : goal.returns-then-not-has_statistics-clause-fault
returns-then-not-has_statistics-clause-fault c = inr (λ first tail tails n.
    let pairs = c.in_ok-add_pairs.ensures.added (all_pairs tails) (pairs_so_far first tail tails c.args.number c.args.lists c.args.self.now n) in
    let count : c.len.result ≡ length c.args.lists.stripes.items = omega (arith, c.len.ensures, c.args.lists.stripes.ok.0) in
    let none = rw (c.deref.ensures.value, count, c.width.ensures.same) at c.if-not-has_statistics.ensures.no in
    inr (
      subst Agree (sym (next_pairs first tail tails c.args.number c.args.lists c.args.self.now n)) pairs.agree,
      inl (λ has. none (statistics_to first tail tails c.args.number c.args.lists c.args.self.now n has), refl),
    ))

pub returns-in_err-add_stripes-clause-fault : goal.returns-in_err-add_stripes-clause-fault
returns-in_err-add_stripes-clause-fault c =
    let p = err_from_is_err_and c.from_residual-in_err-add_stripes.result c.from_residual-in_err-add_stripes.ensures.1 in
    let fault = rw (c.deref-2.ensures.value, c.deref-3.ensures.value) at c.in_err-add_stripes.ensures.fault in
    let count : c.len.result ≡ length c.args.lists.stripes.items = omega (arith, c.len.ensures, c.args.lists.stripes.ok.0) in
    let has = rw (c.deref.ensures.value, count, c.width.ensures.same) at c.if-not-has_statistics.ensures.yes in
    rw (p.1, p.2) (elim fault [
      | inl memory ↦ inl memory
      | inr bad ↦ inr (λ first tail tails n.
          let pairs = c.in_ok-add_pairs.ensures.added (all_pairs tails) (pairs_so_far first tail tails c.args.number c.args.lists c.args.self.now n) in
          let are : HasStatistics tail = statistics_of first tail tails c.args.number c.args.lists c.args.self.now n has.0 has.1 in
          inr (
            subst Agree (sym (next_pairs first tail tails c.args.number c.args.lists c.args.self.now n)) pairs.agree,
            inr (are, inl (λ within. bad.1 (all_stats tails) n.gathered.counts (next_few first tail tails c.args.number c.args.lists c.args.self.now n are within), bad.0)),
          ))
    ])

pub returns-clause-gathered : goal.returns-clause-gathered
returns-clause-gathered c = λ first tail tails n.
    let pairs = c.in_ok-add_pairs.ensures.added (all_pairs tails) (pairs_so_far first tail tails c.args.number c.args.lists c.args.self.now n) in
    let stripes = rw c.deref-2.ensures.value at c.in_ok-add_stripes.ensures.stripes in
    let end = rw c.deref-2.ensures.value at c.in_ok-add_stripes.ensures.end in
    let pieces = rw c.deref-2.ensures.value at c.in_ok-add_stripes.ensures.pieces in
    let counts = rw c.deref-3.ensures.value at c.in_ok-add_stripes.ensures.counts in
    let rows = c.in_ok-add_stripes.ensures.rows in
    let kept : c.append.new.items.items ≡ all_stats tails ++ c.args.lists.stripe_stats.items =
    c.in_ok-append.ensures ∙ ap (λ xs. xs ++ c.args.lists.stripe_stats.items) (ap (λ v. v.items) c.in_ok-add_stripes.ensures.others.2 ∙ n.gathered.stripe_stats) in
    record {
      first_is = c.in_ok-add_stripes.ensures.others.0 ∙ n.gathered.first_is;
      stripes = stripes ∙ (λ i. n.gathered.stripes i ++ placed (n.gathered.end i) (n.lists_are.stripes i)) ∙ sym (placed_push tails tail);
      end = end ∙ (λ i. n.gathered.end i + stripes_length (n.lists_are.stripes i)) ∙ end_push tails tail;
      stripe_stats = kept ∙ sym (next_stats first tail tails c.args.number c.args.lists c.args.self.now n);
      user = ap (λ v. v.pairs.items) c.in_ok-add_stripes.ensures.others.1 ∙ pairs.kept_are ∙ ap distinct (sym (next_pairs first tail tails c.args.number c.args.lists c.args.self.now n));
      user_places = subst (λ (kept : UserPairs). ArePairPlaces kept.pairs.items kept.places) (sym c.in_ok-add_stripes.ensures.others.1) pairs.places;
      rows = rows ∙ (λ i. n.gathered.rows i + n.lists_are.rows i) ∙ sym (rows_push tails tail);
      pieces = pieces ∙ (λ i. n.gathered.pieces i ++ pieces_in (n.number_is i) (n.lists_are.stripes i)) ∙ sym (pieces_push tails tail);
      counts = subst (AreCounts c.add_stripes.new.self.counts.items) (sym (next_stats first tail tails c.args.number c.args.lists c.args.self.now n)) (counts (all_stats tails) n.gathered.counts);
    }

pub returns-clause-merges : goal.returns-clause-merges
returns-clause-merges c = λ first tail tails n.
    let pairs = c.in_ok-add_pairs.ensures.added (all_pairs tails) (pairs_so_far first tail tails c.args.number c.args.lists c.args.self.now n) in
    let count : c.len.result ≡ length c.args.lists.stripes.items = omega (arith, c.len.ensures, c.args.lists.stripes.ok.0) in
    let has = rw (c.deref.ensures.value, count, c.width.ensures.same) at c.if-not-has_statistics.ensures.yes in
    let are : HasStatistics tail = statistics_of first tail tails c.args.number c.args.lists c.args.self.now n has.0 has.1 in
    let few = rw c.deref-3.ensures.value at c.in_ok-add_stripes.ensures.limits in
    next_merges first tail tails c.args.number c.args.lists c.args.self.now _ n are (subst Agree (sym (next_pairs first tail tails c.args.number c.args.lists c.args.self.now n)) pairs.agree)
    (returns-clause-gathered c first tail tails n) (few (all_stats tails) n.gathered.counts)
