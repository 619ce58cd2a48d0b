-- The row indexes of files that were written, and of files that are merged of these, are as a writer writes them.
use Rattle.std.proofs.Common.{◌≡◌, ◌∙◌, ℕ, ◌+◌, ◌<◌, Option, List, [], ◌∷◌, ◌++◌, length, map, drop, refl, sym, ap, subst, arith, append_assoc, length-append}
use Rattle.orc_rle.specs.declared.sign.Rle.{Rle}
use Rattle.orc_wire.specs.CanonicalMessages.{stripe_footer_text}
use Rattle.orc_wire.specs.Messages.{stripe_footer}
use Rattle.orc_wire.specs.Spells.{Spells}
use Rattle.orc_wire.specs.laws.SpellsLaws.{one_spelled}
use Rattle.orc_wire.specs.declared.stripe_footer.StripeFooter.{StripeFooter}
use Rattle.orc_wire.specs.declared.stripe_info.StripeInfo.{StripeInfo}
use Rattle.orc_values.specs.Cells.{Cell}
use Rattle.orc_values.specs.Columns.{cells}
use Rattle.orc_values.specs.Fits.{RowsFit}
use Rattle.orc_values.specs.Shapes.{Shape, width, shape_at}
use Rattle.orc_directory.specs.Directory.{slice}
use Rattle.orc_column_reader.specs.Stripe.{Streams, columns_of, HasFooter, IsStripe}
use Rattle.orc_row_groups.specs.Bounds.{before_group}
use Rattle.orc_row_index.specs.Positions.{ArePositions, writer, AreWrittenPositions}
use Rattle.orc_row_index.specs.RowIndex.{IsWrittenIndex}
use Rattle.orc_row_index.specs.RunStreams.{RunStream, present_runs, value_runs, value_bytes}
use Rattle.orc_row_batch.specs.declared.options.Options.{Options}
use Rattle.orc_row_groups.specs.Groups.{starts_of_groups, bounds_of}
use Rattle.orc_stripe_writer.specs.Indexes.{streams_written, index_bytes}
use Rattle.orc_stripe_writer.specs.WrittenStripe.{AreFew, IsWrittenStripe}
use Rattle.orc_stripe_writer.proofs.StripeLaws.{got, all_indexed, indexes_right}
use Rattle.orc_stripe_writer.proofs.StripeReads.{index_met, columns_found, column_encoded}
use Rattle.orc_stripe_writer.proofs.WrittenDirectory.{drop_front, from_zero}
use Rattle.orc_stripe_writer.proofs.WrittenReads.{column_at, there}
use Rattle.orc_tail.specs.Layout.{magic}
use Rattle.orc_tail.specs.Stripes.{stripe_at, stripe_length, stripe_bytes}
use Rattle.orc_tail.specs.Images.{tail_text}
use Rattle.orc_file_reader.specs.FileRows.{FileIs, cut_rows}
use Rattle.orc_file_writer.specs.Writing.{WrittenStripe, IsWrittenAt, AreWrittenStripes, written_bytes, infos_of, IsWrittenFile}
use Rattle.orc_tail.specs.declared.tail.Tail.{Tail}
use Rattle.orc_tail.proofs.Seams.{between}
use Rattle.orc_file_writer.proofs.WriterLemmas as lemmas
use Rattle.orc_file.proofs.WrittenLaws.{parts_of, written_rows}
use Rattle.orc_check.specs.Findings.{rows_at}
use Rattle.orc_theorems.specs.WrittenIndexes.{HasWrittenIndex, IsIndexedAsWritten, HasWrittenIndexes, AreIndexedAsWritten, WereWritten}
use Rattle.orc_theorems.proofs.MergedStripes.{HoldsOfFiles, AreEach, at_number}
use Rattle.orc_row_index.proofs.SameStreams.{own_same, octets_same}
use Rattle.orc_theorems.proofs.WrittenIndexes.{cut_written}

-- ---- an index is that of a column's streams, by their bytes

places_same : (s : Shape) (x y : Streams) (before : List Cell) (positions : List ℕ) → x.encoding ≡ y.encoding → x.stream 0 ≡ y.stream 0 → x.stream 1 ≡ y.stream 1 → x.stream 2 ≡ y.stream 2
    → AreWrittenPositions s x before positions → AreWrittenPositions s y before positions
places_same s x y before positions e p a b h =
    subst (λ (m : RunStream). ArePositions writer m (value_bytes s y) (value_runs s y) before positions) (ap present_runs p)
    (subst (λ (o : Option (List ℕ)). ArePositions writer (present_runs (x.stream 0)) o (value_runs s y) before positions) (octets_same s x y e a)
    (subst (λ (r : RunStream). ArePositions writer (present_runs (x.stream 0)) (value_bytes s x) r before positions) (own_same s x y e a b) h))

index_same : (s : Shape) (x y : Streams) (cs : List Cell) (bounds text : List ℕ) → x.encoding ≡ y.encoding → x.stream 0 ≡ y.stream 0 → x.stream 1 ≡ y.stream 1 → x.stream 2 ≡ y.stream 2
    → IsWrittenIndex s x cs bounds text → IsWrittenIndex s y cs bounds text
index_same s x y cs bounds text e p a b h = record {
  entries = h.entries;
  are = record {
    counted = h.are.counted;
    each = λ g d at. record { positions = places_same s x y (before_group cs bounds g) d.positions e p a b (h.are.each g d at).positions; statistics = (h.are.each g d at).statistics };
  };
  text_is = h.text_is;
  spelled = h.spelled;
}

-- ---- a stripe that was written

indexes_written : (rle : Rle) (stride : ℕ) (s : Shape) (rows : List Cell) (info : StripeInfo) (bytes : List ℕ) (h : IsWrittenStripe rle stride s rows info bytes) → 0 < stride → RowsFit s rows → AreFew s rows
    → (c : ℕ) → c < width s → HasWrittenIndex stride s rows h.footer bytes c
indexes_written rle stride s rows info bytes h some fit few c lt =
    let text = stripe_footer_text.text h.footer in
    let ws = h.columns.columns in
    let w = column_at ws c in
    let below : c < length ws = (let k = h.columns.counted in omega (arith, lt, k)) in
    let many : c < length h.indexes = (let k = h.are.counted in let m = all_indexed stride (width s) some in omega (arith, lt, k, m)) in
    let t = got h.indexes c many in
    let at : slice c 6 h.footer.streams bytes ≡ t.0 = (λ i. slice c 6 (h.listed i) (h.parts i)) ∙ index_met 0 h.indexes h.lines (h.streams ++ text) c c t.0 t.1 (from_zero c) in
    let cs = cells s c rows in
    let bounds = bounds_of s c rows (starts_of_groups stride (length rows)) in
    let e = column_encoded rle s rows h.streams h.lines h.footer bytes c h.columns lt in
    let f = columns_found rle s rows h.streams text h.lines h.footer h.indexes bytes c h.columns h.listed h.parts lt in
    let is = index_same (shape_at s c) (streams_written w) (columns_of h.footer bytes c) cs bounds t.0 (sym e) (sym f.marks) (sym f.content) (sym f.lengths) (h.are.each c w t.0 (there ws c below) t.1) in (
      (indexes_right rle stride s rows info bytes h some fit few c lt).0,
      subst (λ (bs : List ℕ). IsWrittenIndex (shape_at s c) (columns_of h.footer bytes c) cs bounds bs) (sym at) is,
    )

-- an index says nothing of where its stripe stands
pub as_written_moved : (s : Shape) (stride : ℕ) (info : StripeInfo) (bytes : List ℕ) (rows : List Cell) (at : ℕ) → IsIndexedAsWritten s stride info bytes rows
    → IsIndexedAsWritten s stride (record info { offset = at }) bytes rows
as_written_moved s stride info bytes rows at h = record {
  footer = h.footer;
  has_footer = record { whole = h.has_footer.whole; read = h.has_footer.read; directory = h.has_footer.directory; encodings = h.has_footer.encodings };
  written = h.written;
}

written_indexed : (options : Options) (s : Shape) → 0 < options.stride → (at : ℕ) (c : WrittenStripe) → IsWrittenAt options s at c → IsIndexedAsWritten s options.stride c.info c.bytes c.rows
written_indexed options s some at c h =
    let own : StripeInfo = record c.info { offset = 0 } in
    let is : IsStripe s c.info c.bytes c.rows = h.read in
    let fit : RowsFit s c.rows = is.spelled.fit in
    let few : AreFew s c.rows = λ k lt. (is.spelled.column k lt).few in
    let w = h.written in
    let text : List ℕ = stripe_footer_text.text w.footer in
    let index : c.info.index_length ≡ length (index_bytes w.indexes) = ap (λ (i : StripeInfo). i.index_length) w.info_is in
    let content : c.info.data_length ≡ length w.streams = ap (λ (i : StripeInfo). i.data_length) w.info_is in
    let front : List ℕ = index_bytes w.indexes ++ w.streams in
    let seam : c.info.index_length + c.info.data_length ≡ length front = (let l = length-append (index_bytes w.indexes) w.streams in omega (arith, index, content, l)) in
    let parts : c.bytes ≡ front ++ text = w.parts ∙ sym (append_assoc (index_bytes w.indexes) w.streams text) in
    let rest : drop (c.info.index_length + c.info.data_length) c.bytes ≡ text = (λ i. drop (seam i) (parts i)) ∙ drop_front front text in
    let same : is.footer ≡ w.footer = one_spelled stripe_footer 0 0 text is.footer w.footer (subst (λ (bs : List ℕ). Spells stripe_footer 0 0 bs is.footer) rest is.has_footer.read) w.spelled in
    record {
      footer = w.footer;
      has_footer = subst (λ (f : StripeFooter). HasFooter s c.info c.bytes f) same is.has_footer;
      written = λ k lt. indexes_written options.rle options.stride s c.rows own c.bytes w some fit few k lt;
    }

-- ---- a file that was written

-- its stripes, by its bytes
written_in_file : (options : Options) (s : Shape) → 0 < options.stride → (file front rest : List ℕ) (at : ℕ) (cs : List WrittenStripe) → AreWrittenStripes options s at cs → at ≡ length front → file ≡ front ++ (written_bytes cs ++ rest)
    → AreEach IsIndexedAsWritten s options.stride (infos_of cs) (map (λ (i : StripeInfo). stripe_bytes i file) (infos_of cs)) (parts_of cs)
written_in_file options s some file front rest at [] h place e = tt
written_in_file options s some file front rest at (c ∷ cs) h place e =
    let i = h.0 in
    let split : file ≡ front ++ (c.bytes ++ (written_bytes cs ++ rest)) = e ∙ ap (λ x. front ++ x) (append_assoc c.bytes (written_bytes cs) rest) in
    let long : length c.bytes ≡ stripe_length c.info = lemmas.stripe_bytes s c.info c.bytes c.rows i.read in
    let own : stripe_bytes c.info file ≡ c.bytes = between file front c.bytes (written_bytes cs ++ rest) c.info.offset (stripe_length c.info) split (i.placed ∙ place) (sym long) in (
      subst (λ b. IsIndexedAsWritten s options.stride c.info b c.rows) (sym own) (written_indexed options s some at c i),
      written_in_file options s some file (front ++ c.bytes) rest (at + length c.bytes) cs h.1 (omega (arith, place, length-append front c.bytes)) (split ∙ sym (append_assoc front c.bytes (written_bytes cs ++ rest))),
    )

pub file_indexed : (options : Options) (s : Shape) (tail : Tail) (bytes : List ℕ) (rows : List Cell) → IsWrittenFile options s tail bytes rows → HasWrittenIndexes bytes tail rows
file_indexed options s tail bytes rows h =
    let cs : List WrittenStripe = h.stripes_written in
    let cut : cut_rows (infos_of cs) rows ≡ parts_of cs = ap (cut_rows (infos_of cs)) h.rows_are ∙ cut_written options s 3 cs h.are in
    subst (λ (t : Tail). HasWrittenIndexes bytes t rows) (sym h.tail_is) (λ some n lt.
    let each = written_in_file options s some bytes magic (tail_text tail) 3 cs h.are refl (h.bytes_are ∙ append_assoc magic (written_bytes cs) (tail_text tail)) in
    subst (λ (p : List (List Cell)). IsIndexedAsWritten s options.stride (stripe_at (infos_of cs) n) (stripe_bytes (stripe_at (infos_of cs) n) bytes) (rows_at p n)) (sym cut)
    (at_number IsIndexedAsWritten s options.stride bytes (infos_of cs) (parts_of cs) each n lt))

-- ---- inputs of a merge

pub files_indexed : (xs : List (List ℕ)) (parts : List (List Cell)) → WereWritten xs parts → AreIndexedAsWritten xs parts
files_indexed [] [] h = tt
files_indexed [] (r ∷ parts) h = absurd h
files_indexed (x ∷ xs) [] h = absurd h
files_indexed (x ∷ xs) (r ∷ parts) h =
    let w = h.0 in
    let o = w.finish_wrote in (
      (
        w.tail,
        subst (λ (b : List ℕ). FileIs b w.tail r) (sym w.bytes_are) (written_rows w.options w.schema w.tail o.bytes r o.file o.schema o.few),
        subst (λ (b : List ℕ). HasWrittenIndexes b w.tail r) (sym w.bytes_are) (file_indexed w.options w.schema w.tail o.bytes r o.file),
      ),
      files_indexed xs parts h.1,
    )

-- as merging asks for them
pub files_hold : (xs : List (List ℕ)) (parts : List (List Cell)) → AreIndexedAsWritten xs parts → HoldsOfFiles IsIndexedAsWritten xs parts
files_hold [] [] h = tt
files_hold [] (r ∷ parts) h = absurd h
files_hold (x ∷ xs) [] h = absurd h
files_hold (x ∷ xs) (r ∷ parts) h = (h.0, files_hold xs parts h.1)
