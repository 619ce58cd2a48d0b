-- A file that is written is a file with its tail and its rows, and its statistics are those of the rows.
use Rattle.std.proofs.Common.{◌≡◌, ℕ, zero, suc, ◌+◌, ◌*◌, ◌<◌, ◌≤◌, ◌^◌, true, ltb, List, [], ◌∷◌, ◌++◌, length, map, take, drop, sum_by, Option, Some, refl, sym, ap, ◌∙◌, subst, arith, append_assoc, length-append}
use Rattle.std.specs.Prelude.{◌==◌, slice_get}
use Rattle.std.specs.List.{AllByRecursion, flat_map, list_all}
use Rattle.std.proofs.lemmas.Bool.{lt-ltb, eq-eqb}
use Rattle.orc_row_batch.specs.declared.options.Options.{Options}
use Rattle.orc_wire.specs.Canonical.{all_both}
use Rattle.orc_wire.specs.CanonicalMessages.{column_stats_text, stripe_info_text}
use Rattle.orc_values.specs.Shapes.{Shape, width, shape_at}
use Rattle.orc_types.specs.Schemas.{IsSchema}
use Rattle.orc_values.specs.Cells.{Cell}
use Rattle.orc_values.specs.Columns.{cells}
use Rattle.orc_values.specs.Fits.{fits, RowsFit}
use Rattle.orc_values.proofs.Together.{cells_fit}
use Rattle.orc_stats.specs.declared.stat.Stat.{Stat}
use Rattle.orc_stats.specs.Kinds.{is_of}
use Rattle.orc_stats.specs.Statistics.{stat}
use Rattle.orc_stats.specs.Messages.{message_of}
use Rattle.orc_stats.specs.Whole.{keeps_sum}
use Rattle.orc_stats.specs.Joining as joining
use Rattle.orc_stats.proofs.Parts.{joined-parts}
use Rattle.orc_stats.proofs.KnownParts.{all-told}
use Rattle.orc_stats.proofs.Agreed.{same_agrees}
use Rattle.orc_stats.specs.Known as known
use Rattle.orc_stats.specs.Known.{known_whole}
use Rattle.orc_stats.specs.declared.kind.StatKind.TheVariants as kind
use Rattle.std.proofs.lemmas.List.Sums.{sum_by-append}
use Rattle.orc_column_reader.specs.Stripe.{IsStripe}
use Rattle.orc_stripe_writer.specs.WrittenStripe.{AreFew}
use Rattle.orc_stats.specs.ColumnStatistics.{column_stat}
use Rattle.orc_tail.specs.Layout.{magic}
use Rattle.orc_tail.specs.Stripes.{stripe_length, stripe_end, stripes_length, most_stripes, stripe_bytes}
use Rattle.orc_tail.specs.Statistics.{kind_at, of_columns, column_stats, file_stats}
use Rattle.orc_tail.specs.Tails.{IsTail}
use Rattle.orc_tail.specs.Images.{image, tail_text, IsWithinLimits, HasBits}
use Rattle.orc_file_reader.specs.FileRows.{rows_together, AreOfStripes, HasRows, FileIs, cut_rows}
use Rattle.orc_file_reader.specs.Honest.{AreHonest, Honest, whole_of, told_at, known_whole_of, AreWhole, HasWholeStats}
use Rattle.orc_file_writer.specs.Counts.{are_laid_with_few_rows, are_stripe_stats, are_all_stats}
use Rattle.orc_file_writer.specs.Writing.{WrittenStripe, IsWrittenAt, AreWrittenStripes, written_bytes, rows_of, infos_of, stats_of, written_tail, IsWrittenFile}
use Rattle.orc_tail.specs.declared.tail.Tail.{Tail}
use Rattle.orc_file_writer.proofs.WriterLemmas as writer
use Rattle.orc_file_writer.proofs.WriterLemmas.{root_rows, laid_places, all_length}
use Rattle.orc_file_writer.proofs.StatTests.{stripe_stats_are, some_or}
use Rattle.orc_stats.proofs.Fitting.{are_of_kind}
use Rattle.orc_file_writer.proofs.TailLimits.{tail_within}
use Rattle.orc_file.proofs.WrittenBits.{version_bits, types_bits, FewChildren, cells_stat, cells_whole}
use Rattle.orc_tail.proofs.ImageLaws.{image_is}
use Rattle.orc_tail.proofs.Seams.{between}
use Rattle.orc_file.proofs.ChildrenRoom.{child_number, few_children}
use Rattle.orc_file_reader.proofs.HonestLemmas.{all_cells}
use Rattle.orc_file_reader.proofs.RowLemmas.{parts_cut}
use Rattle.std.specs.Cmp.Derive.{both_true}
use Rattle.orc_values.proofs.Deeper.{width_pos}
use Rattle.orc_tail.proofs.OfColumns.{at_column, length-of_columns}

-- ---- a stripe

module _ (options : Options) (s : Shape) (at : ℕ) (c : WrittenStripe) (h : IsWrittenAt options s at c) where
  whole : length c.bytes ≡ stripe_length c.info
  whole = writer.stripe_bytes s c.info c.bytes c.rows h.read

  rows_fit : RowsFit s c.rows
  rows_fit = let read = h.read in read.spelled.fit

  few_cells : AreFew s c.rows
  few_cells k l = let read = h.read in (read.spelled.column k l).few

  few_rows : c.info.number_of_rows < 2 ^ 31
  few_rows = let n = writer.stripe_rows s c.info c.bytes c.rows h.read in let f = few_cells 0 (width_pos s) in let e = root_rows s c.rows in omega (arith, n, f, e)

  stats_pass : are_stripe_stats s c.stats ≡ true
  stats_pass = stripe_stats_are s c.rows c.stats rows_fit few_cells h.counted

  place_next : stripe_end c.info ≡ at + length c.bytes
  place_next = let n = whole in let o = h.placed in omega (arith, n, o)

-- ---- stripes

all_laid : (options : Options) (s : Shape) (at : ℕ) (cs : List WrittenStripe) → AreWrittenStripes options s at cs → are_laid_with_few_rows at (infos_of cs) ≡ true
all_laid options s at [] h = refl
all_laid options s at (c ∷ cs) h =
    both_true {s = c.info.offset == at} (let i = h.0 in eq-eqb c.info.offset at i.placed) (both_true {s = ltb c.info.number_of_rows (2 ^ 31)} (lt-ltb c.info.number_of_rows (2 ^ 31) (few_rows options s at c h.0)) (ap (λ p. are_laid_with_few_rows p (infos_of cs)) (place_next options s at c h.0) ∙ all_laid options s (at + length c.bytes) cs h.1))

all_stats : (options : Options) (s : Shape) (at : ℕ) (cs : List WrittenStripe) → AreWrittenStripes options s at cs → are_all_stats s (stats_of cs) ≡ true
all_stats options s at [] h = refl
all_stats options s at (c ∷ cs) h = both_true {s = are_stripe_stats s c.stats} (stats_pass options s at c h.0) (all_stats options s (at + length c.bytes) cs h.1)

all_rows_fit : (options : Options) (s : Shape) (at : ℕ) (cs : List WrittenStripe) → AreWrittenStripes options s at cs → RowsFit s (rows_of cs)
all_rows_fit options s at [] h = tt
all_rows_fit options s at (c ∷ cs) h = all_both (λ (r : Cell). fits r s ≡ true) c.rows (rows_of cs) (rows_fit options s at c h.0) (all_rows_fit options s (at + length c.bytes) cs h.1)

same_count : (cs : List WrittenStripe) → length (stats_of cs) ≡ length (infos_of cs)
same_count [] = refl
same_count (c ∷ cs) = ap suc (same_count cs)

info_count : (cs : List WrittenStripe) → length (infos_of cs) ≡ length cs
info_count [] = refl
info_count (c ∷ cs) = ap suc (info_count cs)

-- each number of the stripes has 64 bits
info_bits : (options : Options) (s : Shape) (at : ℕ) (cs : List WrittenStripe) → AreWrittenStripes options s at cs → at + stripes_length (infos_of cs) < 2 ^ 64 → AllByRecursion stripe_info_text.bounded (infos_of cs)
info_bits options s at [] h few = tt
info_bits options s at (c ∷ cs) h few =
    let i = h.0 in
    let o = i.placed in
    let n = whole options s at c h.0 in
    let r = few_rows options s at c h.0 in (
      (omega (arith, o, few), (omega (arith, few), (omega (arith, few), (omega (arith, few), omega (arith, r))))),
      info_bits options s (at + length c.bytes) cs h.1 (omega (arith, n, few)),
    )

-- ---- the stripes' bytes in the file, and their rows

abbrev pub parts_of : List WrittenStripe → List (List Cell)
parts_of cs = map (λ (c : WrittenStripe). c.rows) cs

of_stripes : (options : Options) (s : Shape) (file front rest : List ℕ) (at : ℕ) (cs : List WrittenStripe) → AreWrittenStripes options s at cs → at ≡ length front → file ≡ front ++ (written_bytes cs ++ rest)
    → AreOfStripes s file (infos_of cs) (parts_of cs)
of_stripes options s file front rest at [] h place e = tt
of_stripes options s file front rest at (c ∷ cs) h place e =
    let i = h.0 in
    let split : file ≡ front ++ (c.bytes ++ (written_bytes cs ++ rest)) = e ∙ ap (λ x. front ++ x) (append_assoc c.bytes (written_bytes cs) rest) in
    let own : stripe_bytes c.info file ≡ c.bytes = between file front c.bytes (written_bytes cs ++ rest) c.info.offset (stripe_length c.info) split (i.placed ∙ place) (sym (whole options s at c h.0)) in (
      subst (λ b. IsStripe s c.info b c.rows) (sym own) i.read,
      of_stripes options s file (front ++ c.bytes) rest (at + length c.bytes) cs h.1 (omega (arith, place, length-append front c.bytes)) (split ∙ sym (append_assoc front c.bytes (written_bytes cs ++ rest))),
    )

rows_joined : (cs : List WrittenStripe) → rows_of cs ≡ rows_together (parts_of cs)
rows_joined [] = refl
rows_joined (c ∷ cs) = ap (λ x. c.rows ++ x) (rows_joined cs)

are_honest : (options : Options) (s : Shape) (at : ℕ) (cs : List WrittenStripe) → AreWrittenStripes options s at cs → AreHonest s (parts_of cs) (stats_of cs)
are_honest options s at [] h = tt
are_honest options s at (c ∷ cs) h = (
  let i = h.0 in let have = i.counted in record { counted = have.counted; each = λ k l. (column_stat s c.rows k, have.each k l, same_agrees (column_stat s c.rows k)) },
  are_honest options s (at + length c.bytes) cs h.1,
)

-- ---- a column's statistics

one_of : (xs : List Stat) (k : ℕ) (x : Stat) → slice_get xs k ≡ Some x → take 1 (drop k xs) ≡ x ∷ []
one_of [] zero x e = cc
one_of [] (suc k) x e = cc
one_of (y ∷ ys) zero x e = let same : y ≡ x = cc in ap (λ z. z ∷ []) same
one_of (y ∷ ys) (suc k) x e = one_of ys k x e

module _ (options : Options) (s : Shape) (k : ℕ) (lt : k < width s) where
  -- those of the stripes are the statistics of the cells there
  column_is : (at : ℕ) (cs : List WrittenStripe) → AreWrittenStripes options s at cs → column_stats k (stats_of cs) ≡ map (stat (kind_at s k)) (map (cells s k) (parts_of cs))
  column_is at [] h = refl
  column_is at (c ∷ cs) h =
      let i = h.0 in let have = i.counted in
      ap (λ x. x ++ column_stats k (stats_of cs)) (one_of c.stats k (column_stat s c.rows k) (have.each k lt))
      ∙ ap (λ x. column_stat s c.rows k ∷ x) (column_is (at + length c.bytes) cs h.1)

  of_kind : (at : ℕ) (cs : List WrittenStripe) → AreWrittenStripes options s at cs → AllByRecursion (AllByRecursion (λ c. is_of (kind_at s k) c ≡ true)) (map (cells s k) (parts_of cs))
  of_kind at [] h = tt
  of_kind at (c ∷ cs) h = (are_of_kind (shape_at s k) (cells s k c.rows) (cells_fit s k c.rows lt (rows_fit options s at c h.0)), of_kind (at + length c.bytes) cs h.1)

  cells_few : (at : ℕ) (cs : List WrittenStripe) → AreWrittenStripes options s at cs → length (flat_map (λ p. p) (map (cells s k) (parts_of cs))) ≤ 2 ^ 31 * length cs
  cells_few at [] h = omega arith
  cells_few at (c ∷ cs) h =
      let few = few_cells options s at c h.0 k lt in
      let rest = cells_few (at + length c.bytes) cs h.1 in
      let l = length-append (cells s k c.rows) (flat_map (λ p. p) (map (cells s k) (parts_of cs))) in
      omega (arith, few, rest, l)

  -- all of them are told
  told_is : (at : ℕ) (cs : List WrittenStripe) → AreWrittenStripes options s at cs → told_at (stats_of cs) k ≡ map (λ p. Some (stat (kind_at s k) p)) (map (cells s k) (parts_of cs))
  told_is at [] h = refl
  told_is at (c ∷ cs) h =
      let i = h.0 in let have = i.counted in
      ap (λ x. x ∷ told_at (stats_of cs) k) (have.each k lt)
      ∙ ap (λ (x : List (Option Stat)). Some (column_stat s c.rows k) ∷ x) (told_is (at + length c.bytes) cs h.1)

  known_stat : (at : ℕ) (cs : List WrittenStripe) → AreWrittenStripes options s at cs → length cs ≤ most_stripes → known_whole_of s (stats_of cs) (parts_of cs) k ≡ whole_of s (parts_of cs) k
  known_stat at cs h most =
      let few = cells_few at cs h in
      ap (λ (t : List (Option Stat)). known_whole (kind_at s k) (known.parts_of t (map (cells s k) (parts_of cs)))) (told_is at cs h)
      ∙ all-told (kind_at s k) (map (cells s k) (parts_of cs)) (of_kind at cs h) (omega (arith, few, most))

  -- joined, they are that of the whole file
  pub file_stat : (at : ℕ) (cs : List WrittenStripe) → AreWrittenStripes options s at cs → length cs ≤ most_stripes → joining.joined (kind_at s k) (column_stats k (stats_of cs)) ≡ whole_of s (parts_of cs) k
  file_stat at cs h most =
      let few = cells_few at cs h in
      ap (joining.joined (kind_at s k)) (column_is at cs h) ∙ joined-parts (kind_at s k) (map (cells s k) (parts_of cs)) (of_kind at cs h) (omega (arith, few, most))

  -- the children are the cells of the column below
  file_children : (at : ℕ) (cs : List WrittenStripe) → AreWrittenStripes options s at cs → kind_at s k ≡ kind.Children
      → sum_by (child_number (shape_at s k)) (flat_map (λ p. p) (map (cells s k) (parts_of cs))) ≤ 2 ^ 31 * length cs
  file_children at [] h e = omega arith
  file_children at (c ∷ cs) h e =
      let own = few_children s k lt c.rows e (few_cells options s at c h.0) in
      let rest = file_children (at + length c.bytes) cs h.1 e in
      let l = sum_by-append (child_number (shape_at s k)) (cells s k c.rows) (flat_map (λ p. p) (map (cells s k) (parts_of cs))) in
      omega (arith, own, rest, l)

  all_children : (at : ℕ) (cs : List WrittenStripe) → AreWrittenStripes options s at cs → length cs ≤ most_stripes → kind_at s k ≡ kind.Children
      → sum_by (child_number (shape_at s k)) (flat_map (λ p. p) (map (cells s k) (parts_of cs))) < 2 ^ 64
  all_children at cs h most e = let few = file_children at cs h e in omega (arith, few, most)

  file_bits : (at : ℕ) (cs : List WrittenStripe) → AreWrittenStripes options s at cs → length cs ≤ most_stripes → column_stats_text.bounded (message_of (joining.joined (kind_at s k) (column_stats k (stats_of cs))))
  file_bits at cs h most =
      let few = cells_few at cs h in
      let all = flat_map (λ p. p) (map (cells s k) (parts_of cs)) in
      let room : FewChildren (kind_at s k) (shape_at s k) all = λ e. all_children at cs h most e in
      let same : cells s k (rows_of cs) ≡ all = ap (cells s k) (rows_joined cs) ∙ sym (all_cells s k (parts_of cs)) in
      let fit : RowsFit (shape_at s k) all = subst (λ (x : List Cell). RowsFit (shape_at s k) x) same (cells_fit s k (rows_of cs) lt (all_rows_fit options s at cs h)) in
      subst (λ (x : Stat). column_stats_text.bounded (message_of x)) (sym (file_stat at cs h most))
      (cells_whole (shape_at s k) all room fit (omega (arith, few, most)) (list_all (λ p. keeps_sum (stat (kind_at s k) p)) (map (cells s k) (parts_of cs))))

-- ---- the columns' statistics

pub each_column : (P : Stat → Type 0) (f : ℕ → Stat) (c n : ℕ) → ((k : ℕ) → k < c + n → P (f k)) → AllByRecursion P (of_columns f c n)
each_column P f c zero p = tt
each_column P f c (suc n) p = (p c (omega arith), each_column P f (suc c) n (λ k l. p k (omega (arith, l))))

pub each_got : (P : Stat → Type 0) (f : ℕ → Stat) (xs : List Stat) → ((i : ℕ) → i < length xs → slice_get xs i ≡ Some (f i)) → ((i : ℕ) → i < length xs → P (f i)) → AllByRecursion P xs
each_got P f [] get p = tt
each_got P f (x ∷ xs) get p =
    let e : x ≡ f 0 = ap (some_or x) (get 0 (omega arith)) in
    (subst P (sym e) (p 0 (omega arith)), each_got P (λ i. f (suc i)) xs (λ i l. get (suc i) (omega (arith, l))) (λ i l. p (suc i) (omega (arith, l))))

stripe_bits : (options : Options) (s : Shape) (at : ℕ) (cs : List WrittenStripe) → AreWrittenStripes options s at cs → AllByRecursion (AllByRecursion (λ x. column_stats_text.bounded (message_of x))) (stats_of cs)
stripe_bits options s at [] h = tt
stripe_bits options s at (c ∷ cs) h =
    let i = h.0 in let have = i.counted in let n = have.counted in (
      each_got (λ x. column_stats_text.bounded (message_of x)) (column_stat s c.rows) c.stats (λ k l. have.each k (omega (arith, l, n)))
          (λ k l. let lt : k < width s = omega (arith, l, n) in let few = few_cells options s at c h.0 k lt in cells_stat (shape_at s k) (cells s k c.rows) (λ e. let own = few_children s k lt c.rows e (few_cells options s at c h.0) in omega (arith, own)) (cells_fit s k c.rows lt (rows_fit options s at c h.0)) (omega (arith, few))),
      stripe_bits options s (at + length c.bytes) cs h.1,
    )

-- ---- the file

module _ (options : Options) (s : Shape) (tail : Tail) (bytes : List ℕ) (rows : List Cell) (h : IsWrittenFile options s tail bytes rows) where
  pub most_written : length h.stripes_written ≤ most_stripes
  most_written = let w = h.within in let m = w.stripes in let e = info_count h.stripes_written in omega (arith, m, e)

  limits : IsSchema s → IsWithinLimits (written_tail options s (infos_of h.stripes_written) (stats_of h.stripes_written))
  limits schema = tail_within options s (infos_of h.stripes_written) (stats_of h.stripes_written) schema h.within (all_laid options s 3 h.stripes_written h.are) (same_count h.stripes_written) (all_stats options s 3 h.stripes_written h.are)

  bits : IsSchema s → HasBits (written_tail options s (infos_of h.stripes_written) (stats_of h.stripes_written))
  bits schema =
      let w = h.within in let size = w.bytes in let columns = schema.count in
      record {
        version = version_bits options.rle;
        writer = omega arith;
        writer_version = omega arith;
        stripes = info_bits options s 3 h.stripes_written h.are (omega (arith, size));
        types = types_bits s 0 (omega (arith, columns));
        user = tt;
        file_stats = each_column (λ x. column_stats_text.bounded (message_of x)) (λ k. joining.joined (kind_at s k) (column_stats k (stats_of h.stripes_written))) 0 (width s)
            (λ k l. file_bits options s k (omega (arith, l)) 3 h.stripes_written h.are most_written);
        stripe_stats = stripe_bits options s 3 h.stripes_written h.are;
        stride = options.fits;
      }

  pub written_tail_is : IsSchema s → length bytes < 2 ^ 64 → IsTail bytes tail
  written_tail_is schema few =
      let t = written_tail options s (infos_of h.stripes_written) (stats_of h.stripes_written) in
      let e : bytes ≡ image (written_bytes h.stripes_written) t = h.bytes_are ∙ append_assoc magic (written_bytes h.stripes_written) (tail_text tail) ∙ ap (λ x. magic ++ (written_bytes h.stripes_written ++ tail_text x)) h.tail_is in
      let lim = limits schema in
      let is = image_is t (written_bytes h.stripes_written) lim (laid_places 3 (infos_of h.stripes_written) (all_laid options s 3 h.stripes_written h.are)) (bits schema) (all_length options s 3 h.stripes_written h.are) (subst (λ (b : List ℕ). length b < 2 ^ 64) e few) in
      subst (λ (x : Tail). IsTail bytes x) (sym h.tail_is) (subst (λ (b : List ℕ). IsTail b t) (sym e) is)

  abbrev has_rows : HasRows s bytes (infos_of h.stripes_written) rows
  has_rows = record {
    parts = parts_of h.stripes_written;
    stripes = of_stripes options s bytes magic (tail_text tail) 3 h.stripes_written h.are refl (h.bytes_are ∙ append_assoc magic (written_bytes h.stripes_written) (tail_text tail));
    rows_are = h.rows_are ∙ rows_joined h.stripes_written;
  }

  pub written_rows : IsSchema s → length bytes < 2 ^ 64 → FileIs bytes tail rows
  written_rows schema few = record {
    tail_is = written_tail_is schema few;
    has_rows = subst (λ (x : Tail). HasRows x.schema bytes x.stripes rows) (sym h.tail_is) has_rows;
  }

  cut_is : cut_rows (infos_of h.stripes_written) rows ≡ parts_of h.stripes_written
  cut_is = parts_cut s bytes (infos_of h.stripes_written) rows has_rows

  pub written_honest : Honest tail rows
  written_honest =
      subst (λ (x : Tail). Honest x rows) (sym h.tail_is) (subst (λ (p : List (List Cell)). AreHonest s p (stats_of h.stripes_written)) (sym cut_is) (are_honest options s 3 h.stripes_written h.are))

  are_whole : AreWhole s (stats_of h.stripes_written) (parts_of h.stripes_written) (file_stats s (stats_of h.stripes_written))
  are_whole =
      let f = λ (k : ℕ). joining.joined (kind_at s k) (column_stats k (stats_of h.stripes_written)) in
      record {
        counted = length-of_columns f 0 (width s);
        each = λ k l. at_column f 0 (width s) k l ∙ ap Some (let z : 0 + k ≡ k = omega arith in ap f z ∙ file_stat options s k l 3 h.stripes_written h.are most_written ∙ sym (known_stat options s k l 3 h.stripes_written h.are most_written));
      }

  pub written_whole : HasWholeStats tail rows
  written_whole = subst (λ (x : Tail). HasWholeStats x rows) (sym h.tail_is) (subst (λ (p : List (List Cell)). AreWhole s (stats_of h.stripes_written) p (file_stats s (stats_of h.stripes_written))) (sym cut_is) are_whole)
