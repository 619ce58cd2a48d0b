-- Rows that pass a limit of a file.
use Rattle.std.proofs.Common.{◌≡◌, ℕ, suc, ◌+◌, ◌<◌, ◌≤◌, ◌^◌, Bool, true, false, ltb, List, [], ◌∷◌, ◌++◌, length, get_or, Option}
use Rattle.std.proofs.Common.{refl, ap, ◌∙◌, subst, append_assoc, length-append, arith, ◌⊎◌, inl, inr}
use Rattle.std.specs.Prelude.{◌&&◌}
use Rattle.std.proofs.lemmas.Bool.{ltb-false}
use Rattle.std.proofs.lemmas.List.{length-map}
use Rattle.orc_row_batch.specs.declared.options.Options.{Options}
use Rattle.orc_wire.specs.declared.stripe_info.StripeInfo.{StripeInfo}
use Rattle.orc_values.specs.Shapes.{Shape, width}
use Rattle.orc_values.specs.Cells.{Cell}
use Rattle.orc_stats.specs.declared.stat.Stat.{Stat}
use Rattle.orc_tail.specs.Stripes.{stripes_rows, most_stripes, most_rows}
use Rattle.orc_file_writer.specs.Counts.{with_row, are_few, PassesLimit}
use Rattle.orc_file_writer.specs.Writing.{WrittenStripe, rows_of, infos_of, PassesBytes}
use Rattle.orc_file_writer.proofs.Spread.{HasPushed}
use Rattle.orc_file_writer.proofs.CountLemmas.{AreCounts, counts_more, length-with_row}
use Rattle.orc_cli_write.specs.Writes.{HaveManyCells, PassesLimits}
use Rattle.orc_file_writer.proofs.LimitLemmas.{told_rows}

-- some count is above the limit
record IsManyAt (ns : List ℕ) : Type 0 where
  place : ℕ
  within : place < length ns
  many : 2 ^ 31 ≤ get_or ns place 0

many_first : (n : ℕ) (ns : List ℕ) (few : Bool) → ltb n (2 ^ 31) ≡ few → (few && are_few ns) ≡ false → (are_few ns ≡ false → IsManyAt ns) → IsManyAt (n ∷ ns)
many_first n ns true e f rest = let m = rest f in let l = m.within in record { place = suc m.place; within = omega (arith, l); many = m.many }
many_first n ns false e f rest = record { place = 0; within = omega arith; many = ltb-false n (2 ^ 31) e }

many_at : (ns : List ℕ) → are_few ns ≡ false → IsManyAt ns
many_at [] f = absurd (cc)
many_at (n ∷ ns) f = many_first n ns (ltb n (2 ^ 31)) refl f (many_at ns)

many_cells : (s : Shape) (counts : List ℕ) (rows : List Cell) (row : Cell)
    → length counts ≡ width s → AreCounts s counts rows → are_few (with_row s 0 row counts) ≡ false
    → HaveManyCells s (rows ++ row ∷ [])
many_cells s counts rows row w h f =
    let m = many_at (with_row s 0 row counts) f in
    let l = length-with_row s 0 row counts in
    let in_counts = m.within in
    let column : m.place < width s = omega (arith, in_counts, l, w) in
    let e = counts_more s counts rows row w h m.place column in
    let many = m.many in
    (m.place, column, omega (arith, e, many))

module _ (options : Options) (s : Shape) (first told : Option (List ℕ)) (written : ℕ) (infos : List StripeInfo) (stats : List (List Stat))
    (kept rows : List Cell) (p : HasPushed options s first told written infos stats kept rows) where
  -- with a row more, where the writer's counts say so
  module _ (row : Cell) (total k : ℕ) (counts : List ℕ) (total_is : total ≡ stripes_rows infos + k) (k_is : length kept ≡ k)
      (wide : length counts ≡ width s) (counted : AreCounts s counts kept) where
    total_rows : length rows ≡ total
    total_rows =
        let h = p.0 in
        let l = ap length h.rows_are in
        let m = length-append (rows_of h.stripes_written) kept in
        let c = told_rows options s 3 h.stripes_written h.are in
        let i = ap stripes_rows h.infos_are in
        omega (arith, l, m, c, i, total_is, k_is)

    which : PassesLimit s infos total counts row ⊎ PassesBytes options s infos (kept ++ row ∷ [])
        → (most_stripes ≤ length p.0.stripes_written)
        ⊎ ((most_rows < length (rows ++ row ∷ [])) ⊎ (HaveManyCells s (kept ++ row ∷ []) ⊎ PassesBytes options s (infos_of p.0.stripes_written) (kept ++ row ∷ [])))
    which (inl (inl stripes)) =
        let h = p.0 in
        let i = ap length h.infos_are in
        let m = length-map h.stripes_written (λ (c : WrittenStripe). c.info) in
        inl (omega (arith, stripes, i, m))
    which (inl (inr (inl many))) = let l = length-append rows (row ∷ []) in let t = total_rows in inr (inl (omega (arith, many, l, t)))
    which (inl (inr (inr cells))) = inr (inr (inl (many_cells s counts kept row wide counted cells)))
    which (inr bytes) =
        let h = p.0 in
        inr (inr (inr (subst (λ (i : List StripeInfo). PassesBytes options s i (kept ++ row ∷ [])) h.infos_are bytes)))

    pub row_passes : PassesLimit s infos total counts row ⊎ PassesBytes options s infos (kept ++ row ∷ []) → PassesLimits options s (rows ++ row ∷ [])
    row_passes limit =
        let h = p.0 in
        let l = length-append kept (row ∷ []) in
        let few = p.1 in
        record {
          stripes_written = h.stripes_written;
          last = kept ++ row ∷ [];
          are = h.are;
          full = h.full;
          some = omega (arith, l);
          most = omega (arith, l, few);
          rows_are = ap (λ (r : List Cell). r ++ row ∷ []) h.rows_are ∙ append_assoc (rows_of h.stripes_written) kept (row ∷ []);
          passes = which limit;
        }

  -- with the kept rows as the last stripe
  pub rest_passes : 0 < length kept → PassesBytes options s infos kept → PassesLimits options s rows
  rest_passes some bytes =
      let h = p.0 in
      let few = p.1 in
      record {
        stripes_written = h.stripes_written;
        last = kept;
        are = h.are;
        full = h.full;
        some = some;
        most = omega (arith, few);
        rows_are = h.rows_are;
        passes = inr (inr (inr (subst (λ (i : List StripeInfo). PassesBytes options s i kept) h.infos_are bytes)));
      }
