-- Laws of written stripes: there is one of rows, and its indexes are right for a reader.
use Rattle.std.proofs.Common.{◌≡◌, ℕ, zero, suc, ◌+◌, ◌<◌, true, Option, Some, List, [], ◌∷◌, ◌++◌, map, length, slice_get, refl, sym, ap, ◌∙◌, subst, arith}
use Rattle.std.specs.List.{flat_map}
use Rattle.orc_rle.specs.declared.sign.Rle.{Rle}
use Rattle.orc_wire.specs.declared.stripe_info.StripeInfo.{StripeInfo}
use Rattle.orc_wire.specs.declared.stripe_footer.StripeFooter.{StripeFooter}
use Rattle.orc_wire.specs.declared.stripe_footer.StreamMsg.{StreamMsg}
use Rattle.orc_wire.specs.CanonicalMessages.{stripe_footer_text}
use Rattle.orc_values.specs.Cells.{Cell}
use Rattle.orc_values.specs.Columns.{cells}
use Rattle.orc_values.specs.Fits.{RowsFit}
use Rattle.orc_values.specs.Shapes.{Shape, width, shape_at}
use Rattle.orc_values.proofs.Together.{cells_fit}
use Rattle.orc_directory.specs.Directory.{has_stream, slice}
use Rattle.orc_column_reader.specs.Stripe.{Streams, columns_of}
use Rattle.orc_row_groups.specs.Bounds.{before_group}
use Rattle.orc_row_index.specs.Positions.{ArePositions, reader, AreReadPositions}
use Rattle.orc_row_index.specs.RowIndex.{IsRightIndex, HasRightIndex}
use Rattle.orc_row_index.specs.RunStreams.{RunStream, present_runs, value_runs, value_bytes}
use Rattle.orc_row_index.proofs.WrittenIndex.{one_index, index_right}
use Rattle.orc_row_groups.specs.Groups.{starts_of_groups, bounds_of}
use Rattle.orc_stripe_writer.specs.Indexes.{streams_written, index_lines, index_bytes}
use Rattle.orc_stripe_writer.specs.WrittenColumn.{Written}
use Rattle.orc_stripe_writer.specs.WrittenStripe.{AreFew, column_bytes, lines_from, indexed_columns, IsWrittenStripe}
use Rattle.orc_stripe_writer.proofs.IndexLemmas.{get_within}
use Rattle.orc_stripe_writer.proofs.OneWritten.{one_columns}
use Rattle.orc_stripe_writer.proofs.StripeReads.{index_met, indexed_few, columns_found, column_encoded}
use Rattle.orc_stripe_writer.proofs.WrittenDirectory.{from_zero, same_stream, other_column, after, AreFound}
use Rattle.orc_stripe_writer.proofs.WrittenReads.{column_at, there}
use Rattle.orc_row_index.proofs.SameStreams.{own_same, octets_same}

-- ---- one text

same_lists : {X : Type 0} (a b : List X) → length a ≡ length b → ((c : ℕ) (x y : X) → slice_get a c ≡ Some x → slice_get b c ≡ Some y → x ≡ y) → a ≡ b
same_lists [] [] l h = refl
same_lists [] (y ∷ b) l h = absurd (omega (arith, l))
same_lists (x ∷ a) [] l h = absurd (omega (arith, l))
same_lists (x ∷ a) (y ∷ b) l h =
    let first = h 0 x y refl refl in
    let later = same_lists a b (omega (arith, l)) (λ c u v p q. h (suc c) u v p q) in
    λ i. first i ∷ later i

pub one_stripe : (rle : Rle) (stride : ℕ) (s : Shape) (rows : List Cell) (i j : StripeInfo) (a b : List ℕ) → IsWrittenStripe rle stride s rows i a → IsWrittenStripe rle stride s rows j b → (i ≡ j) × (a ≡ b)
one_stripe rle stride s rows i j a b p q =
    let x = p.columns in
    let y = q.columns in
    let columns : x.columns ≡ y.columns = one_columns rle s rows 0 x.columns y.columns (x.counted ∙ sym y.counted) x.are y.are in
    let few = indexed_few stride (width s) in
    let indexes : p.indexes ≡ q.indexes = same_lists p.indexes q.indexes (p.are.counted ∙ sym q.are.counted) (λ c t u at too.
    let below : c < length x.columns = (let k = get_within p.indexes c t at in let m = p.are.counted in let n = x.counted in omega (arith, k, m, n, few)) in
    let w = column_at x.columns c in
    let here : slice_get x.columns c ≡ Some w = there x.columns c below in
    let other : slice_get y.columns c ≡ Some w = ap (λ (ws : List Written). slice_get ws c) (sym columns) ∙ here in
    one_index (shape_at s c) (streams_written w) (cells s c rows) (bounds_of s c rows (starts_of_groups stride (length rows))) t u (p.are.each c w t here at) (q.are.each c w u other too)) in
    let streams : p.streams ≡ q.streams = x.joined ∙ ap (flat_map column_bytes) columns ∙ sym y.joined in
    let lines : p.lines ≡ q.lines = x.listed ∙ ap (lines_from 0) columns ∙ sym y.listed in
    let directory : p.footer.streams ≡ q.footer.streams = p.listed ∙ (λ k. index_lines 0 (indexes k) ++ lines k) ∙ sym q.listed in
    let encodings : p.footer.columns ≡ q.footer.columns = x.encoded ∙ ap (map (λ (w : Written). w.encoding)) columns ∙ sym y.encoded in
    let footer : p.footer ≡ q.footer = λ k. record { streams = directory k; columns = encodings k } in
    let text = ap (λ (f : StripeFooter). stripe_footer_text.text f) footer in (
      p.info_is ∙ (λ k. record { offset = 0; index_length = length (index_bytes (indexes k)); data_length = length (streams k); footer_length = length (text k); number_of_rows = length rows }) ∙ sym q.info_is,
      p.parts ∙ (λ k. index_bytes (indexes k) ++ (streams k ++ text k)) ∙ sym q.parts,
    )

-- ---- right for a reader

places_same : (s : Shape) (x y : Streams) (before : List Cell) (positions : List ℕ) → x.encoding ≡ y.encoding → x.stream 0 ≡ y.stream 0 → x.stream 1 ≡ y.stream 1 → x.stream 2 ≡ y.stream 2
    → AreReadPositions s x before positions → AreReadPositions s y before positions
places_same s x y before positions e p a b h =
    subst (λ (m : RunStream). ArePositions reader m (value_bytes s y) (value_runs s y) before positions) (ap present_runs p)
    (subst (λ (o : Option (List ℕ)). ArePositions reader (present_runs (x.stream 0)) o (value_runs s y) before positions) (octets_same s x y e a)
    (subst (λ (r : RunStream). ArePositions reader (present_runs (x.stream 0)) (value_bytes s x) r before positions) (own_same s x y e a b) h))

right_in : (s : Shape) (y : Streams) (w : Written) (cs : List Cell) (bounds text : List ℕ) → y.encoding ≡ w.encoding → AreFound y.stream w → IsRightIndex s (streams_written w) cs bounds text
    → IsRightIndex s y cs bounds text
right_in s y w cs bounds text e f h = record {
  message = h.message;
  spelled = h.spelled;
  counted = h.counted;
  positions = λ g d at. places_same s (streams_written w) y (before_group cs bounds g) d.positions (sym e) (sym f.marks) (sym f.content) (sym f.lengths) (h.positions g d at);
  statistics = h.statistics;
}

listed_there : (b : ℕ) (ts : List (List ℕ)) (ls : List StreamMsg) (i c : ℕ) → i < length ts → b + i ≡ c → has_stream c 6 (index_lines b ts ++ ls) ≡ true
listed_there b [] ls i c lt e = absurd (omega (arith, lt))
listed_there b (t ∷ ts) ls zero c lt e =
    let here : b ≡ c = omega (arith, e) in
    let on = ap (λ (n : ℕ). has_stream n 6 (index_lines b (t ∷ ts) ++ ls)) (sym here) in
    on ∙ rw (same_stream b 6) refl
listed_there b (t ∷ ts) ls (suc i) c lt e = rw (other_column b c 6 6 (after b c (omega (arith, e)))) (listed_there (suc b) ts ls i c (omega (arith, lt)) (omega (arith, e)))

pub got : {X : Type 0} (xs : List X) (c : ℕ) → c < length xs → (x : X) × (slice_get xs c ≡ Some x)
got [] c lt = absurd (omega (arith, lt))
got (x ∷ xs) zero lt = (x, refl)
got (x ∷ xs) (suc c) lt = got xs c (omega (arith, lt))

pub all_indexed : (stride n : ℕ) → 0 < stride → indexed_columns stride n ≡ n
all_indexed zero n h = absurd (omega (arith, h))
all_indexed (suc k) n h = refl

pub indexes_right : (rle : Rle) (stride : ℕ) (s : Shape) (rows : List Cell) (info : StripeInfo) (bytes : List ℕ) (h : IsWrittenStripe rle stride s rows info bytes) → 0 < stride → RowsFit s rows → AreFew s rows
    → (c : ℕ) → c < width s → HasRightIndex stride s rows h.footer bytes c
indexes_right rle stride s rows info bytes h some fit few c lt =
    let text = stripe_footer_text.text h.footer in
    let ws = h.columns.columns in
    let w = column_at ws c in
    let below : c < length ws = (let k = h.columns.counted in omega (arith, lt, k)) in
    let many : c < length h.indexes = (let k = h.are.counted in let m = all_indexed stride (width s) some in omega (arith, lt, k, m)) in
    let t = got h.indexes c many in
    let at : slice c 6 h.footer.streams bytes ≡ t.0 = (λ i. slice c 6 (h.listed i) (h.parts i)) ∙ index_met 0 h.indexes h.lines (h.streams ++ text) c c t.0 t.1 (from_zero c) in
    let cs = cells s c rows in
    let bounds = bounds_of s c rows (starts_of_groups stride (length rows)) in
    let right = right_in (shape_at s c) (columns_of h.footer bytes c) w cs bounds t.0
    (column_encoded rle s rows h.streams h.lines h.footer bytes c h.columns lt)
    (columns_found rle s rows h.streams text h.lines h.footer h.indexes bytes c h.columns h.listed h.parts lt)
    (index_right (shape_at s c) (streams_written w) cs bounds t.0 (cells_fit s c rows lt fit) (few c lt) (h.are.each c w t.0 (there ws c below) t.1)) in (
      ap (λ ms. has_stream c 6 ms) h.listed ∙ listed_there 0 h.indexes h.lines c c many (from_zero c),
      subst (λ (bs : List ℕ). IsRightIndex (shape_at s c) (columns_of h.footer bytes c) cs bounds bs) (sym at) right,
    )
