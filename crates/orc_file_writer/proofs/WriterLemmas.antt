-- What a writer's steps do to what stands behind it.
use Rattle.std.proofs.Common.{◌≡◌, ℕ, ◌+◌, ◌<◌, ◌≤◌, ◌^◌, true, ltb, List, [], ◌∷◌, ◌++◌, length, take, drop, Option, Some, None, refl, sym, ap, ◌∙◌, subst, arith, append_assoc, length-append, append-nil}
use Rattle.std.specs.Prelude.{◌&&◌, ◌==◌}
use Rattle.std.specs.List.{AllByRecursion, flat_map}
use Rattle.std.proofs.Math.Seq.{take-append_seam, drop-append_seam}
use Rattle.std.proofs.lemmas.Bool.{lt-ltb, ltb-true, and_parts, eqb-true, eq-eqb}
use Rattle.std.proofs.lemmas.List.{map-append, take_all, take-append-drop, length-take-le}
use Rattle.orc_row_batch.specs.declared.options.Options.{Options}
use Rattle.orc_wire.specs.declared.stripe_info.StripeInfo.{StripeInfo}
use Rattle.orc_values.specs.Shapes.{Shape}
use Rattle.orc_types.specs.Schemas.{IsSchema}
use Rattle.orc_values.specs.Cells.{Cell}
use Rattle.orc_values.specs.Columns.{cells}
use Rattle.orc_stats.specs.declared.stat.Stat.{Stat}
use Rattle.orc_column_reader.specs.Stripe.{IsStripe}
use Rattle.orc_stripe_writer.specs.WrittenStripe.{AreFew}
use Rattle.orc_io.specs.Devices.{appended}
use Rattle.orc_tail.specs.Layout.{magic}
use Rattle.orc_tail.specs.Stripes.{stripe_length, stripe_end, stripes_length, stripes_rows, IsLaid, most_stripes, most_stripe_rows, most_rows, most_bytes}
use Rattle.orc_tail.specs.Images.{tail_text}
use Rattle.orc_tail.specs.declared.tail.Tail.{Tail}
use Rattle.orc_file_writer.specs.Counts.{are_laid_with_few_rows}
use Rattle.orc_file_writer.specs.Writing.{WrittenStripe, IsWrittenAt, AreWrittenStripes, written_bytes, rows_of, infos_of, stats_of, AreFull, AreFilled, written_tail, AreWithinFile, IsWrittenFile, IsSomeFile, WroteWholeFile, IsCutOff, HasTaken}
use Rattle.orc_file_writer.proofs.Spread.{HasKept, HasPushed, HasFilled}
use Rattle.std.specs.Cmp.Derive.{both_true}
use Rattle.orc_values.proofs.Deeper.{width_pos, cells-zero}

-- ---- a stripe's numbers

pub stripe_bytes : (s : Shape) (info : StripeInfo) (bytes : List ℕ) (rows : List Cell) → IsStripe s info bytes rows → length bytes ≡ stripe_length info
stripe_bytes s info bytes rows h = h.has_footer.whole

pub stripe_rows : (s : Shape) (info : StripeInfo) (bytes : List ℕ) (rows : List Cell) → IsStripe s info bytes rows → length rows ≡ info.number_of_rows
stripe_rows s info bytes rows h = h.spelled.counted

-- the rows are the cells of the root
pub root_rows : (s : Shape) (rows : List Cell) → length (cells s 0 rows) ≡ length rows
root_rows s rows = ap length (cells-zero s rows)

-- ---- limits and places, with a stripe more

pub length_more : (infos : List StripeInfo) (info : StripeInfo) → stripes_length (infos ++ info ∷ []) ≡ stripes_length infos + stripe_length info
length_more [] info = omega arith
length_more (i ∷ is) info = let e = length_more is info in omega (arith, e)

pub rows_more : (infos : List StripeInfo) (info : StripeInfo) → stripes_rows (infos ++ info ∷ []) ≡ stripes_rows infos + info.number_of_rows
rows_more [] info = omega arith
rows_more (i ∷ is) info = let e = rows_more is info in omega (arith, e)

pub laid_more : (at : ℕ) (infos : List StripeInfo) (info : StripeInfo) → are_laid_with_few_rows at infos ≡ true → info.offset ≡ at + stripes_length infos → info.number_of_rows < 2 ^ 31 → are_laid_with_few_rows at (infos ++ info ∷ []) ≡ true
laid_more at [] info h o r = let e : info.offset ≡ at = omega (arith, o) in both_true {s = info.offset == at} (eq-eqb info.offset at e) (both_true {s = ltb info.number_of_rows (2 ^ 31)} {t = true} (lt-ltb info.number_of_rows (2 ^ 31) r) refl)
laid_more at (i ∷ is) info h o r =
    let p = and_parts (i.offset == at) (ltb i.number_of_rows (2 ^ 31) && are_laid_with_few_rows (stripe_end i) is) h in
    let q = and_parts (ltb i.number_of_rows (2 ^ 31)) (are_laid_with_few_rows (stripe_end i) is) p.1 in
    let e : i.offset ≡ at = eqb-true i.offset at p.0 in
    both_true {s = i.offset == at} p.0 (both_true {s = ltb i.number_of_rows (2 ^ 31)} q.0 (laid_more (stripe_end i) is info q.1 (omega (arith, o, e)) r))

pub within_more : (infos : List StripeInfo) (info : StripeInfo) → length infos < most_stripes → stripes_rows infos + info.number_of_rows ≤ most_rows → stripes_length infos + stripe_length info ≤ most_bytes → AreWithinFile (infos ++ info ∷ [])
within_more infos info a b c =
    let l = length-append infos (info ∷ []) in let m = length_more infos info in let n = rows_more infos info in
    record { stripes = omega (arith, a, l); rows = omega (arith, b, n); bytes = omega (arith, c, m) }

pub within_of : (infos : List StripeInfo) (total k : ℕ) → length infos ≤ most_stripes → total ≡ stripes_rows infos + k → total ≤ most_rows → stripes_length infos ≤ most_bytes → AreWithinFile infos
within_of infos total k n t f b = record { stripes = n; rows = omega (arith, t, f); bytes = b }

-- the kept rows' stripe is within the limits
pub stripe_within : (s : Shape) (infos : List StripeInfo) (info : StripeInfo) (bytes : List ℕ) (kept : List Cell) (total : ℕ) → IsStripe s info bytes kept → length infos < most_stripes
    → total ≡ stripes_rows infos + length kept → total ≤ most_rows → stripes_length infos + length bytes ≤ most_bytes → AreWithinFile (infos ++ info ∷ [])
stripe_within s infos info bytes kept total h room t few b =
    let c = stripe_rows s info bytes kept h in let n = stripe_bytes s info bytes kept h in
    within_more infos info room (omega (arith, t, few, c)) (omega (arith, b, n))

-- ---- places of stripes

pub laid_places : (at : ℕ) (infos : List StripeInfo) → are_laid_with_few_rows at infos ≡ true → IsLaid at infos
laid_places at [] h = tt
laid_places at (i ∷ is) h =
    let p = and_parts (i.offset == at) (ltb i.number_of_rows (2 ^ 31) && are_laid_with_few_rows (stripe_end i) is) h in
    let q = and_parts (ltb i.number_of_rows (2 ^ 31)) (are_laid_with_few_rows (stripe_end i) is) p.1 in
    (eqb-true i.offset at p.0, laid_places (stripe_end i) is q.1)

pub laid_rows : (at : ℕ) (infos : List StripeInfo) → are_laid_with_few_rows at infos ≡ true → AllByRecursion (λ (i : StripeInfo). i.number_of_rows ≤ most_stripe_rows) infos
laid_rows at [] h = tt
laid_rows at (i ∷ is) h =
    let p = and_parts (i.offset == at) (ltb i.number_of_rows (2 ^ 31) && are_laid_with_few_rows (stripe_end i) is) h in
    let q = and_parts (ltb i.number_of_rows (2 ^ 31)) (are_laid_with_few_rows (stripe_end i) is) p.1 in
    let l = ltb-true i.number_of_rows (2 ^ 31) q.0 in
    (omega (arith, l), laid_rows (stripe_end i) is q.1)

-- ---- stripes, one more behind others

flat_more : {X Y : Type 0} (f : X → List Y) (xs : List X) (x : X) → flat_map f (xs ++ x ∷ []) ≡ flat_map f xs ++ f x
flat_more f [] x = append-nil (f x)
flat_more f (y ∷ ys) x = ap (λ zs. f y ++ zs) (flat_more f ys x) ∙ sym (append_assoc (f y) (flat_map f ys) (f x))

written_more : (options : Options) (s : Shape) (at end : ℕ) (cs : List WrittenStripe) (c : WrittenStripe) → AreWrittenStripes options s at cs → end ≡ at + length (written_bytes cs) → IsWrittenAt options s end c → AreWrittenStripes options s at (cs ++ c ∷ [])
written_more options s at end [] c h e i = (subst (λ p. IsWrittenAt options s p c) (omega (arith, e)) i, tt)
written_more options s at end (d ∷ ds) c h e i =
    let l = length-append d.bytes (written_bytes ds) in
    (h.0, written_more options s (at + length d.bytes) end ds c h.1 (omega (arith, e, l)) i)

full_more : (n : ℕ) (cs : List WrittenStripe) (c : WrittenStripe) → AreFull n cs → length c.rows ≡ n → AreFull n (cs ++ c ∷ [])
full_more n [] c h e = (e, tt)
full_more n (d ∷ ds) c h e = (h.0, full_more n ds c h.1 e)

filled_more : (n : ℕ) (cs : List WrittenStripe) (c : WrittenStripe) → AreFull n cs → 0 < length c.rows → length c.rows ≤ n → AreFilled n (cs ++ c ∷ [])
filled_more n [] c h a b = (a, b)
filled_more n (d ∷ []) c h a b = (h.0, (a, b))
filled_more n (d ∷ e ∷ es) c h a b = (h.0, filled_more n (e ∷ es) c h.1 a b)

-- stripes of a positive number of rows each are those of a file
pub filled_full : (n : ℕ) (cs : List WrittenStripe) → 0 < n → AreFull n cs → AreFilled n cs
filled_full n [] l h = tt
filled_full n (c ∷ []) l h = let e = h.0 in (omega (arith, l, e), omega (arith, e))
filled_full n (c ∷ d ∷ cs) l h = (h.0, filled_full n (d ∷ cs) l h.1)

pub appended_twice : (first : Option (List ℕ)) (a b : List ℕ) → appended (appended first a) b ≡ appended first (a ++ b)
appended_twice None a b = refl
appended_twice (Some x) a b = ap Some (append_assoc x a b)

-- ---- what a call leaves

-- stripes within the limits are closed by the tail that lists them
closes : (options : Options) (s : Shape) (cs : List WrittenStripe) → AreWrittenStripes options s 3 cs → AreFilled options.stripe_rows cs → AreWithinFile (infos_of cs)
    → IsSomeFile options s ((magic ++ written_bytes cs) ++ tail_text (written_tail options s (infos_of cs) (stats_of cs))) (rows_of cs)
closes options s cs are filled within = (
  written_tail options s (infos_of cs) (stats_of cs),
  record { stripes_written = cs; are = are; filled = filled; within = within; tail_is = refl; bytes_are = refl; rows_are = refl },
)

-- nothing of the kept rows was written
pub cut_kept : (options : Options) (s : Shape) (first told : Option (List ℕ)) (written : ℕ) (infos : List StripeInfo) (stats : List (List Stat)) (kept rows : List Cell)
    → 0 < options.stripe_rows → AreWithinFile infos → IsSchema s → HasKept options s first told written infos stats kept rows → IsCutOff options s first told rows
cut_kept options s first told written infos stats kept rows l w schema h =
    let text = tail_text (written_tail options s (infos_of h.stripes_written) (stats_of h.stripes_written)) in
    let f = closes options s h.stripes_written h.are (filled_full options.stripe_rows h.stripes_written l h.full) (subst AreWithinFile h.infos_are w) in
    record {
      mine = magic ++ written_bytes h.stripes_written;
      rest = text;
      count = length (rows_of h.stripes_written);
      told_is = h.told_is;
      schema = schema;
      file = subst (λ rs. IsSomeFile options s ((magic ++ written_bytes h.stripes_written) ++ text) rs) (sym (ap (take (length (rows_of h.stripes_written))) h.rows_are ∙ take-append_seam (rows_of h.stripes_written) kept)) f;
    }

-- nothing but some of the magic was written
pub cut_begun : (options : Options) (s : Shape) (first new : Option (List ℕ)) (k : ℕ) → IsSchema s → new ≡ appended first (take k magic) → IsCutOff options s first new []
cut_begun options s first new k schema e =
    let text = tail_text (written_tail options s [] []) in
    let whole : (magic ++ []) ++ text ≡ take k magic ++ (drop k magic ++ text)
    = ap (λ x. x ++ text) (append-nil magic ∙ sym (take-append-drop k magic)) ∙ append_assoc (take k magic) (drop k magic) text in
    record {
      mine = take k magic;
      rest = drop k magic ++ text;
      count = 0;
      told_is = e;
      schema = schema;
      file = subst (λ bs. IsSomeFile options s bs []) whole (closes options s [] tt tt (record { stripes = omega arith; rows = omega arith; bytes = omega arith }));
    }

nothing_more : (first : Option (List ℕ)) → first ≡ appended first []
nothing_more None = refl
nothing_more (Some x) = ap Some (sym (append-nil x))

-- nothing at all was written
pub cut_unbegun : (options : Options) (s : Shape) (first : Option (List ℕ)) → IsSchema s → IsCutOff options s first first []
cut_unbegun options s first schema = cut_begun options s first first 0 schema (nothing_more first)

-- a row more is kept
pub kept_row : (options : Options) (s : Shape) (first told : Option (List ℕ)) (written : ℕ) (infos : List StripeInfo) (stats : List (List Stat)) (kept rows : List Cell) (row : Cell)
    → HasKept options s first told written infos stats kept rows → HasKept options s first told written infos stats (kept ++ row ∷ []) (rows ++ row ∷ [])
kept_row options s first told written infos stats kept rows row h = record {
  stripes_written = h.stripes_written;
  are = h.are;
  full = h.full;
  infos_are = h.infos_are;
  stats_are = h.stats_are;
  told_is = h.told_is;
  written_is = h.written_is;
  rows_are = ap (λ r. r ++ row ∷ []) h.rows_are ∙ append_assoc (rows_of h.stripes_written) kept (row ∷ []);
}

-- and it was refused for memory
pub cut_row : (options : Options) (s : Shape) (first told : Option (List ℕ)) (written : ℕ) (infos : List StripeInfo) (stats : List (List Stat)) (kept rows : List Cell) (row : Cell)
    → 0 < options.stripe_rows → AreWithinFile infos → IsSchema s → HasKept options s first told written infos stats kept rows → IsCutOff options s first told (rows ++ row ∷ [])
cut_row options s first told written infos stats kept rows row l w schema h =
    cut_kept options s first told written infos stats (kept ++ row ∷ []) (rows ++ row ∷ []) l w schema (kept_row options s first told written infos stats kept rows row h)

module _ (options : Options) (s : Shape) (first told : Option (List ℕ)) (written : ℕ) (infos : List StripeInfo) (stats : List (List Stat)) (kept rows : List Cell)
    (h : HasKept options s first told written infos stats kept rows) (c : WrittenStripe) (kept_is : c.rows ≡ kept) (is : IsWrittenAt options s written c) where
  more_are : AreWrittenStripes options s 3 (h.stripes_written ++ c ∷ [])
  more_are = let m = length-append magic (written_bytes h.stripes_written) in let w = h.written_is in written_more options s 3 written h.stripes_written c h.are (omega (arith, m, w)) is

  more_bytes : written_bytes (h.stripes_written ++ c ∷ []) ≡ written_bytes h.stripes_written ++ c.bytes
  more_bytes = flat_more (λ (x : WrittenStripe). x.bytes) h.stripes_written c

  more_rows : rows_of (h.stripes_written ++ c ∷ []) ≡ rows
  more_rows = flat_more (λ (x : WrittenStripe). x.rows) h.stripes_written c ∙ ap (λ r. rows_of h.stripes_written ++ r) kept_is ∙ sym h.rows_are

  more_infos : infos ++ c.info ∷ [] ≡ infos_of (h.stripes_written ++ c ∷ [])
  more_infos = ap (λ xs. xs ++ c.info ∷ []) h.infos_are ∙ sym (map-append (λ (x : WrittenStripe). x.info) h.stripes_written (c ∷ []))

  more_stats : stats ++ c.stats ∷ [] ≡ stats_of (h.stripes_written ++ c ∷ [])
  more_stats = ap (λ xs. xs ++ c.stats ∷ []) h.stats_are ∙ sym (map-append (λ (x : WrittenStripe). x.stats) h.stripes_written (c ∷ []))

  more_told : (new : Option (List ℕ)) → new ≡ appended told c.bytes → new ≡ appended first (magic ++ written_bytes (h.stripes_written ++ c ∷ []))
  more_told new t = t ∙ ap (λ x. appended x c.bytes) h.told_is ∙ appended_twice first (magic ++ written_bytes h.stripes_written) c.bytes ∙ ap (appended first) (append_assoc magic (written_bytes h.stripes_written) c.bytes ∙ ap (λ x. magic ++ x) (sym more_bytes))

  more_filled : 0 < length kept → length kept ≤ options.stripe_rows → AreFilled options.stripe_rows (h.stripes_written ++ c ∷ [])
  more_filled a b = filled_more options.stripe_rows h.stripes_written c h.full (subst (λ (r : List Cell). 0 < length r) (sym kept_is) a) (subst (λ (r : List Cell). length r ≤ options.stripe_rows) (sym kept_is) b)

  -- the kept rows are a full stripe more
  pub sent_full : (new : Option (List ℕ)) (written_new : ℕ) → length kept ≡ options.stripe_rows → new ≡ appended told c.bytes → written_new ≡ written + length c.bytes
      → HasKept options s first new written_new (infos ++ c.info ∷ []) (stats ++ c.stats ∷ []) [] rows
  sent_full new written_new full t w = record {
    stripes_written = h.stripes_written ++ c ∷ [];
    are = more_are;
    full = full_more options.stripe_rows h.stripes_written c h.full (ap length kept_is ∙ full);
    infos_are = more_infos;
    stats_are = more_stats;
    told_is = more_told new t;
    written_is = w ∙ ap (λ k. k + length c.bytes) h.written_is ∙ sym (length-append (magic ++ written_bytes h.stripes_written) c.bytes) ∙ ap length (append_assoc magic (written_bytes h.stripes_written) c.bytes ∙ ap (λ x. magic ++ x) (sym more_bytes));
    rows_are = sym more_rows ∙ sym (append-nil (rows_of (h.stripes_written ++ c ∷ [])));
  }

  -- or the last one
  pub sent_last : (new : Option (List ℕ)) (written_new : ℕ) (kept_new : List Cell) → 0 < length kept → length kept ≤ options.stripe_rows → new ≡ appended told c.bytes
      → HasFilled options s first new written_new (infos ++ c.info ∷ []) (stats ++ c.stats ∷ []) kept_new rows
  sent_last new written_new kept_new a b t = record {
    stripes_written = h.stripes_written ++ c ∷ [];
    are = more_are;
    filled = more_filled a b;
    infos_are = more_infos;
    stats_are = more_stats;
    told_is = more_told new t;
    rows_are = sym more_rows;
  }

  -- or some of its bytes were written
  pub cut_sent : (new : Option (List ℕ)) (k : ℕ) → 0 < length kept → length kept ≤ options.stripe_rows → AreWithinFile (infos ++ c.info ∷ []) → IsSchema s → new ≡ appended told (take k c.bytes) → IsCutOff options s first new rows
  cut_sent new k a b w schema t =
      let cs = h.stripes_written ++ c ∷ [] in
      let text = tail_text (written_tail options s (infos_of cs) (stats_of cs)) in
      let before = magic ++ written_bytes h.stripes_written in
      let all : (magic ++ written_bytes cs) ++ text ≡ (before ++ take k c.bytes) ++ (drop k c.bytes ++ text)
      = ap (λ x. (magic ++ x) ++ text) more_bytes
      ∙ ap (λ x. x ++ text) (sym (append_assoc magic (written_bytes h.stripes_written) c.bytes) ∙ ap (λ x. before ++ x) (sym (take-append-drop k c.bytes)) ∙ sym (append_assoc before (take k c.bytes) (drop k c.bytes)))
      ∙ append_assoc (before ++ take k c.bytes) (drop k c.bytes) text in
      record {
        mine = before ++ take k c.bytes;
        rest = drop k c.bytes ++ text;
        count = length rows;
        told_is = t ∙ ap (λ x. appended x (take k c.bytes)) h.told_is ∙ appended_twice first before (take k c.bytes);
        schema = schema;
        file = subst (λ bs. IsSomeFile options s bs (take (length rows) rows)) all
            (subst (λ rs. IsSomeFile options s ((magic ++ written_bytes cs) ++ text) rs) (more_rows ∙ sym (take_all (length rows) rows (omega arith))) (closes options s cs more_are (more_filled a b) (subst AreWithinFile more_infos w)));
      }

-- no row is kept
pub filled_empty : (options : Options) (s : Shape) (first told : Option (List ℕ)) (written : ℕ) (infos : List StripeInfo) (stats : List (List Stat)) (kept rows : List Cell)
    → kept ≡ [] → HasPushed options s first told written infos stats kept rows → HasFilled options s first told written infos stats kept rows
filled_empty options s first told written infos stats kept rows e p =
    let h = p.0 in let l = p.1 in
    record {
      stripes_written = h.stripes_written;
      are = h.are;
      filled = filled_full options.stripe_rows h.stripes_written (omega (arith, l)) h.full;
      infos_are = h.infos_are;
      stats_are = h.stats_are;
      told_is = h.told_is;
      rows_are = h.rows_are ∙ ap (λ k. rows_of h.stripes_written ++ k) e ∙ append-nil (rows_of h.stripes_written);
    }

-- nothing was pushed yet
pub pushed_none : (options : Options) (s : Shape) (first : Option (List ℕ)) → 0 < options.stripe_rows → HasPushed options s first (appended first magic) 3 [] [] [] []
pushed_none options s first l = (record { stripes_written = []; are = tt; full = tt; infos_are = refl; stats_are = refl; told_is = refl; written_is = refl; rows_are = refl }, l)

-- stripes have as many bytes as their records say together
pub all_length : (options : Options) (s : Shape) (at : ℕ) (cs : List WrittenStripe) → AreWrittenStripes options s at cs → length (written_bytes cs) ≡ stripes_length (infos_of cs)
all_length options s at [] h = refl
all_length options s at (c ∷ cs) h =
    let i = h.0 in
    let n = stripe_bytes s c.info c.bytes c.rows i.read in
    let l = length-append c.bytes (written_bytes cs) in
    let r = all_length options s (at + length c.bytes) cs h.1 in
    omega (arith, n, l, r)

module _ (options : Options) (s : Shape) (first told : Option (List ℕ)) (written : ℕ) (infos : List StripeInfo) (stats : List (List Stat)) (kept rows : List Cell)
    (h : HasFilled options s first told written infos stats kept rows) (w : AreWithinFile infos) where
  abbrev end_tail : Tail
  end_tail = written_tail options s infos stats

  end_file : IsWrittenFile options s end_tail ((magic ++ written_bytes h.stripes_written) ++ tail_text end_tail) rows
  end_file = record {
    stripes_written = h.stripes_written;
    are = h.are;
    filled = h.filled;
    within = subst AreWithinFile h.infos_are w;
    tail_is = ap (λ i. written_tail options s i stats) h.infos_are ∙ ap (λ x. written_tail options s (infos_of h.stripes_written) x) h.stats_are;
    bytes_are = refl;
    rows_are = h.rows_are;
  }

  -- the tail was written
  pub whole_end : (new : Option (List ℕ)) → IsSchema s → length (tail_text (written_tail options s infos stats)) < 2 ^ 63 → new ≡ appended told (tail_text (written_tail options s infos stats))
      → WroteWholeFile options s (written_tail options s infos stats) first new rows
  whole_end new schema few e = record {
    bytes = (magic ++ written_bytes h.stripes_written) ++ tail_text end_tail;
    told_is = e ∙ ap (λ o. appended o (tail_text end_tail)) h.told_is ∙ appended_twice first (magic ++ written_bytes h.stripes_written) (tail_text end_tail);
    file = end_file;
    schema = schema;
    few =
        let front = length-append magic (written_bytes h.stripes_written) in
        let all = length-append (magic ++ written_bytes h.stripes_written) (tail_text end_tail) in
        let stripes = all_length options s 3 h.stripes_written h.are in
        omega (arith, few, front, all, stripes, subst (λ (i : List StripeInfo). stripes_length i ≤ most_bytes) h.infos_are w.bytes);
  }

  -- some of it was
  pub cut_end : (new : Option (List ℕ)) (k : ℕ) → IsSchema s → new ≡ appended told (take k (tail_text (written_tail options s infos stats))) → IsCutOff options s first new rows
  cut_end new k schema e =
      let text = tail_text end_tail in
      let before = magic ++ written_bytes h.stripes_written in
      let all : before ++ text ≡ (before ++ take k text) ++ drop k text = ap (λ x. before ++ x) (sym (take-append-drop k text)) ∙ sym (append_assoc before (take k text) (drop k text)) in
      record {
        mine = before ++ take k text;
        rest = drop k text;
        count = length rows;
        told_is = e ∙ ap (λ o. appended o (take k text)) h.told_is ∙ appended_twice first before (take k text);
        schema = schema;
        file = (end_tail, subst (λ bs. IsWrittenFile options s end_tail bs (take (length rows) rows)) all (subst (λ rs. IsWrittenFile options s end_tail (before ++ text) rs) (sym (take_all (length rows) rows (omega arith))) end_file));
      }

-- all of a stripe was written, and yet the call gave up
pub cut_all : (options : Options) (s : Shape) (first told : Option (List ℕ)) (written : ℕ) (infos : List StripeInfo) (stats : List (List Stat)) (kept rows : List Cell)
    → (h : HasKept options s first told written infos stats kept rows) → (c : WrittenStripe) → c.rows ≡ kept → IsWrittenAt options s written c
    → (new : Option (List ℕ)) → 0 < length kept → length kept ≤ options.stripe_rows → AreWithinFile (infos ++ c.info ∷ []) → IsSchema s → new ≡ appended told c.bytes → IsCutOff options s first new rows
cut_all options s first told written infos stats kept rows h c e is new a b w schema t =
    cut_sent options s first told written infos stats kept rows h c e is new (length c.bytes) a b w schema (t ∙ ap (appended told) (sym (take_all (length c.bytes) c.bytes (omega arith))))

-- rows whose columns have few cells are few
pub root_few : (s : Shape) (rows : List Cell) → AreFew s rows → length rows < 2 ^ 31
root_few s rows few = let f = few 0 (width_pos s) in let e = root_rows s rows in omega (arith, f, e)

pub none_kept : (rows : List Cell) → length rows ≡ 0 → rows ≡ []
none_kept [] e = refl
none_kept (r ∷ rs) e = absurd (omega (arith, e))

-- nothing was taken
pub none_taken : (told : Option (List ℕ)) (bytes : List ℕ) → told ≡ appended told (take 0 bytes)
none_taken None bytes = refl
none_taken (Some x) bytes = ap Some (sym (append-nil x))

-- more bytes are taken
pub taken_more : (first told new : Option (List ℕ)) (written k : ℕ) (bytes : List ℕ) → k ≤ length bytes → new ≡ appended told (take k bytes) → HasTaken first told written → HasTaken first new (written + k)
taken_more first told new written k bytes few e h =
    let w = h.written_is in let t = length-take-le k bytes few in let both = length-append h.mine (take k bytes) in
    record {
      mine = h.mine ++ take k bytes;
      told_is = e ∙ ap (λ x. appended x (take k bytes)) h.told_is ∙ appended_twice first h.mine (take k bytes);
      written_is = omega (arith, w, t, both);
    }

pub taken_all : (first told new : Option (List ℕ)) (written k : ℕ) (bytes : List ℕ) → k ≡ length bytes → new ≡ appended told bytes → HasTaken first told written → HasTaken first new (written + k)
taken_all first told new written k bytes all e h =
    taken_more first told new written k bytes (omega (arith, all)) (e ∙ ap (appended told) (sym (take_all k bytes (omega (arith, all))))) h

-- `ORC` alone
pub taken_magic : (first : Option (List ℕ)) → HasTaken first (appended first magic) 3
taken_magic first = record { mine = magic; told_is = refl; written_is = refl }

-- rows cut at one place
pub cut_at : (a b x y : List Cell) → length a ≡ length b → a ++ x ≡ b ++ y → (a ≡ b) × (x ≡ y)
cut_at a b x y l e = (
  sym (take-append_seam a x) ∙ ap (take (length a)) e ∙ ap (λ (k : ℕ). take k (b ++ y)) l ∙ take-append_seam b y,
  sym (drop-append_seam a x) ∙ ap (drop (length a)) e ∙ ap (λ (k : ℕ). drop k (b ++ y)) l ∙ drop-append_seam b y,
)
