-- A writer's own counts pass a limit with a row more where the rows pushed do.
use Rattle.std.proofs.Common.{◌≡◌, ℕ, zero, suc, ◌+◌, ◌*◌, ◌<◌, ◌≤◌, ◌^◌, Bool, true, false, List, [], ◌∷◌, ◌++◌, length, get_or, Option, inl, inr, refl, sym, ap, ◌∙◌, arith, length-append}
use Rattle.std.specs.Prelude.{◌↔◌}
use Rattle.std.proofs.lemmas.List.{length-map}
use Rattle.std.proofs.lemmas.Bool.Decides.{leb_tells}
use Rattle.orc_wire.specs.declared.stripe_info.StripeInfo.{StripeInfo}
use Rattle.orc_values.specs.Shapes.{Shape, width}
use Rattle.orc_values.specs.Cells.{Cell}
use Rattle.orc_values.specs.Columns.{cells}
use Rattle.orc_stats.specs.declared.stat.Stat.{Stat}
use Rattle.orc_row_batch.specs.declared.options.Options.{Options}
use Rattle.orc_file_writer.specs.Counts.{with_row, are_few, PassesLimit}
use Rattle.orc_tail.specs.Stripes.{stripes_rows}
use Rattle.orc_file_writer.specs.Writing.{WrittenStripe, AreWrittenStripes, AreFull, rows_of, infos_of}
use Rattle.orc_file_writer.specs.RowLimits.{PassesByRows}
use Rattle.orc_file_writer.proofs.Spread.{HasPushed}
use Rattle.orc_file_writer.proofs.CountLemmas.{AreCounts, counts_more, few_at, length-with_row}
use Rattle.orc_file_writer.proofs.WriterLemmas.{stripe_rows, cut_at}

-- so many of one size, and fewer behind them, tell how many they are
same_count : (a b n x y : ℕ) → a * n + x ≡ b * n + y → x < n → y < n → a ≡ b
same_count zero zero n x y e l m = refl
same_count zero (suc b) n x y e l m = absurd (omega (arith, e, l))
same_count (suc a) zero n x y e l m = absurd (omega (arith, e, m))
same_count (suc a) (suc b) n x y e l m = ap suc (same_count a b n x y (omega (arith, e)) l m)

-- where not all are few, one of them is not
one_of_many : (ns : List ℕ) → are_few ns ≡ false → (i : ℕ) × (i < length ns) × (2 ^ 31 ≤ get_or ns i 0)
one_of_many [] h = cc
one_of_many (n ∷ ns) h =
    elim (leb_tells (suc n) (2 ^ 31)) [
      | inl p ↦ let r = one_of_many ns (rw p.0 at h) in (suc r.0, omega (arith, r.1), r.2)
      | inr p ↦ (0, omega arith, omega (arith, p.1))
    ]

not_few : (ns : List ℕ) (i : ℕ) → i < length ns → 2 ^ 31 ≤ get_or ns i 0 → are_few ns ≡ false
not_few ns i l m = by (are_few ns) refl
  where
    by : (t : Bool) → are_few ns ≡ t → are_few ns ≡ false
    by true e = let f = few_at ns i 0 l e in absurd (omega (arith, f, m))
    by false e = e

full_rows : (n : ℕ) (cs : List WrittenStripe) → AreFull n cs → length (rows_of cs) ≡ length cs * n
full_rows n [] h = omega arith
full_rows n (c ∷ cs) h =
    let l = length-append c.rows (rows_of cs) in let r = full_rows n cs h.1 in let e = h.0 in omega (arith, l, r, e)

pub told_rows : (options : Options) (s : Shape) (at : ℕ) (cs : List WrittenStripe) → AreWrittenStripes options s at cs → stripes_rows (infos_of cs) ≡ length (rows_of cs)
told_rows options s at [] h = refl
told_rows options s at (c ∷ cs) h =
    let l = length-append c.rows (rows_of cs) in
    let k = stripe_rows s c.info c.bytes c.rows h.0.read in
    let r = told_rows options s (at + length c.bytes) cs h.1 in
    omega (arith, l, k, r)

module _ (options : Options) (s : Shape) (first told : Option (List ℕ)) (written : ℕ) (infos : List StripeInfo) (stats : List (List Stat))
    (kept rows : List Cell) (total : ℕ) (counts : List ℕ) (row : Cell)
    (pushed : HasPushed options s first told written infos stats kept rows) (total_is : total ≡ stripes_rows infos + length kept)
    (wide : length counts ≡ width s) (counted : AreCounts s counts kept) where
  all_rows : length rows ≡ length (rows_of pushed.0.stripes_written) + length kept
  all_rows = ap length pushed.0.rows_are ∙ length-append (rows_of pushed.0.stripes_written) kept

  total_rows : total ≡ length rows
  total_rows =
      let l = all_rows in
      let t = ap stripes_rows pushed.0.infos_are ∙ told_rows options s 3 pushed.0.stripes_written pushed.0.are in
      omega (arith, total_is, l, t)

  stripes_are : length infos ≡ length pushed.0.stripes_written
  stripes_are = ap length pushed.0.infos_are ∙ length-map pushed.0.stripes_written (λ (c : WrittenStripe). c.info)

  with_row_wide : length (with_row s 0 row counts) ≡ width s
  with_row_wide = length-with_row s 0 row counts ∙ wide

  by_rows : PassesLimit s infos total counts row → PassesByRows options s rows row
  by_rows p = record {
    stripes = length pushed.0.stripes_written;
    written = rows_of pushed.0.stripes_written;
    kept = kept;
    rows_are = pushed.0.rows_are;
    full = full_rows options.stripe_rows pushed.0.stripes_written pushed.0.full;
    few = pushed.1;
    passes = elim p [
      | inl a ↦ inl (omega (arith, a, stripes_are))
      | inr q ↦ elim q [
        | inl b ↦ inr (inl (omega (arith, b, total_rows)))
        | inr c ↦
            let r = one_of_many (with_row s 0 row counts) c in
            let l : r.0 < width s = omega (arith, r.1, with_row_wide) in
            let n = counts_more s counts kept row wide counted r.0 l in
            inr (inr (r.0, l, omega (arith, r.2, n)))
      ]
    ];
  }

  by_counts : PassesByRows options s rows row → PassesLimit s infos total counts row
  by_counts p =
      let e = full_rows options.stripe_rows pushed.0.stripes_written pushed.0.full in
      let l = ap length p.rows_are ∙ length-append p.written p.kept in
      let m = all_rows in let f = p.full in
      let both : p.stripes * options.stripe_rows + length p.kept ≡ length pushed.0.stripes_written * options.stripe_rows + length kept = omega (arith, e, l, m, f) in
      let same = same_count p.stripes (length pushed.0.stripes_written) options.stripe_rows (length p.kept) (length kept) both p.few pushed.1 in
      let front : length p.written ≡ length (rows_of pushed.0.stripes_written) = p.full ∙ ap (λ k. k * options.stripe_rows) same ∙ sym e in
      let rest = (cut_at p.written (rows_of pushed.0.stripes_written) p.kept kept front (sym p.rows_are ∙ pushed.0.rows_are)).1 in
      elim p.passes [
        | inl a ↦ inl (omega (arith, a, same, stripes_are))
        | inr q ↦ elim q [
          | inl b ↦ inr (inl (omega (arith, b, total_rows)))
          | inr c ↦
              let n = counts_more s counts kept row wide counted c.0 c.1 in
              let k = ap (λ (r : List Cell). length (cells s c.0 (r ++ row ∷ []))) rest in
              inr (inr (not_few (with_row s 0 row counts) c.0 (omega (arith, c.1, with_row_wide)) (omega (arith, c.2, n, k))))
        ]
      ]

  pub same_limits : PassesLimit s infos total counts row ↔ PassesByRows options s rows row
  same_limits = (by_rows, by_counts)
