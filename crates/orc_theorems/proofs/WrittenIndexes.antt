-- The row indexes of a file that is written are right.
use Rattle.std.proofs.Common.{◌≡◌, ◌∙◌, ℕ, zero, suc, ◌+◌, ◌<◌, List, [], ◌∷◌, ◌++◌, length, take, drop, refl, sym, ap, subst, arith, append_assoc, length-append}
use Rattle.std.proofs.Math.Seq.{drop-append_seam, take-append_seam}
use Rattle.orc_wire.specs.CanonicalMessages.{stripe_footer_text}
use Rattle.orc_wire.specs.Messages.{stripe_footer}
use Rattle.orc_wire.specs.Spells.{Spells}
use Rattle.orc_wire.specs.laws.SpellsLaws.{one_spelled}
use Rattle.orc_wire.specs.declared.stripe_footer.StripeFooter.{StripeFooter}
use Rattle.orc_wire.specs.declared.stripe_info.StripeInfo.{StripeInfo}
use Rattle.orc_values.specs.Cells.{Cell}
use Rattle.orc_values.specs.Fits.{RowsFit}
use Rattle.orc_values.specs.Shapes.{Shape}
use Rattle.orc_column_reader.specs.Stripe.{HasFooter, IsStripe}
use Rattle.orc_row_batch.specs.declared.options.Options.{Options}
use Rattle.orc_stripe_writer.specs.Indexes.{index_bytes}
use Rattle.orc_stripe_writer.specs.WrittenStripe.{AreFew}
use Rattle.orc_stripe_writer.proofs.StripeLaws.{indexes_right}
use Rattle.orc_stripe_writer.proofs.WrittenDirectory.{drop_front}
use Rattle.orc_tail.specs.Layout.{magic}
use Rattle.orc_tail.specs.Stripes.{stripe_at, stripe_length, stripe_bytes}
use Rattle.orc_tail.specs.Images.{tail_text}
use Rattle.orc_file_reader.specs.FileRows.{cut_rows}
use Rattle.orc_file_writer.specs.Writing.{WrittenStripe, IsWrittenAt, AreWrittenStripes, written_bytes, rows_of, infos_of, IsWrittenFile}
use Rattle.orc_tail.specs.declared.tail.Tail.{Tail}
use Rattle.orc_tail.proofs.Seams.{between}
use Rattle.orc_file_writer.proofs.WriterLemmas as writer
use Rattle.orc_file.proofs.WrittenLaws.{parts_of}
use Rattle.orc_check.specs.Findings.{rows_at}
use Rattle.orc_check.specs.RightIndexes.{IsIndexed, HasIndexes}
use Rattle.orc_check.proofs.NoFinding.{right_agrees}

-- an index says nothing of where its stripe stands
pub indexed_moved : (s : Shape) (stride : ℕ) (info : StripeInfo) (bytes : List ℕ) (rows : List Cell) (at : ℕ) → IsIndexed s stride info bytes rows → IsIndexed s stride (record info { offset = at }) bytes rows
indexed_moved s stride info bytes rows at h = record {
  footer = h.footer;
  has_footer = record { whole = h.has_footer.whole; read = h.has_footer.read; directory = h.has_footer.directory; encodings = h.has_footer.encodings };
  right = h.right;
}

module _ (options : Options) (s : Shape) (some : 0 < options.stride) where
  stripe_indexed : (at : ℕ) (c : WrittenStripe) → IsWrittenAt options s at c → IsIndexed s options.stride c.info c.bytes c.rows
  stripe_indexed at c h =
      let own : StripeInfo = record c.info { offset = 0 } in
      let is : IsStripe s c.info c.bytes c.rows = h.read in
      let fit : RowsFit s c.rows = is.spelled.fit in
      let few : AreFew s c.rows = λ k lt. (is.spelled.column k lt).few in
      let w = h.written in
      let text : List ℕ = stripe_footer_text.text w.footer in
      let index : c.info.index_length ≡ length (index_bytes w.indexes) = ap (λ (i : StripeInfo). i.index_length) w.info_is in
      let content : c.info.data_length ≡ length w.streams = ap (λ (i : StripeInfo). i.data_length) w.info_is in
      let front : List ℕ = index_bytes w.indexes ++ w.streams in
      let seam : c.info.index_length + c.info.data_length ≡ length front = (let l = length-append (index_bytes w.indexes) w.streams in omega (arith, index, content, l)) in
      let parts : c.bytes ≡ front ++ text = w.parts ∙ sym (append_assoc (index_bytes w.indexes) w.streams text) in
      let rest : drop (c.info.index_length + c.info.data_length) c.bytes ≡ text = (λ i. drop (seam i) (parts i)) ∙ drop_front front text in
      let same : is.footer ≡ w.footer = one_spelled stripe_footer 0 0 text is.footer w.footer (subst (λ (bs : List ℕ). Spells stripe_footer 0 0 bs is.footer) rest is.has_footer.read) w.spelled in
      record {
        footer = w.footer;
        has_footer = subst (λ (f : StripeFooter). HasFooter s c.info c.bytes f) same is.has_footer;
        right = λ k lt. right_agrees options.stride s c.rows w.footer c.bytes k (indexes_right options.rle options.stride s c.rows own c.bytes w some fit few k lt);
      }

  -- in a file's bytes, the stripe with a number among these
  indexed_at : (file front rest : List ℕ) (at : ℕ) (cs : List WrittenStripe) → AreWrittenStripes options s at cs → at ≡ length front → file ≡ front ++ (written_bytes cs ++ rest) → (n : ℕ) → n < length (infos_of cs)
      → IsIndexed s options.stride (stripe_at (infos_of cs) n) (stripe_bytes (stripe_at (infos_of cs) n) file) (rows_at (parts_of cs) n)
  indexed_at file front rest at [] h place e n lt = absurd (omega (arith, lt))
  indexed_at file front rest at (c ∷ cs) h place e zero lt =
      let i = h.0 in
      let split : file ≡ front ++ (c.bytes ++ (written_bytes cs ++ rest)) = e ∙ ap (λ x. front ++ x) (append_assoc c.bytes (written_bytes cs) rest) in
      let long : length c.bytes ≡ stripe_length c.info = writer.stripe_bytes s c.info c.bytes c.rows i.read in
      let own : stripe_bytes c.info file ≡ c.bytes = between file front c.bytes (written_bytes cs ++ rest) c.info.offset (stripe_length c.info) split (i.placed ∙ place) (sym long) in
      subst (λ b. IsIndexed s options.stride c.info b c.rows) (sym own) (stripe_indexed at c i)
  indexed_at file front rest at (c ∷ cs) h place e (suc n) lt =
      let split : file ≡ front ++ (c.bytes ++ (written_bytes cs ++ rest)) = e ∙ ap (λ x. front ++ x) (append_assoc c.bytes (written_bytes cs) rest) in
      indexed_at file (front ++ c.bytes) rest (at + length c.bytes) cs h.1 (omega (arith, place, length-append front c.bytes)) (split ∙ sym (append_assoc front c.bytes (written_bytes cs ++ rest))) n (omega (arith, lt))

pub cut_written : (options : Options) (s : Shape) (at : ℕ) (cs : List WrittenStripe) → AreWrittenStripes options s at cs → cut_rows (infos_of cs) (rows_of cs) ≡ parts_of cs
cut_written options s at [] h = refl
cut_written options s at (c ∷ cs) h =
    let i = h.0 in
    let many : length c.rows ≡ c.info.number_of_rows = writer.stripe_rows s c.info c.bytes c.rows i.read in
    let own : take c.info.number_of_rows (c.rows ++ rows_of cs) ≡ c.rows = subst (λ (n : ℕ). take n (c.rows ++ rows_of cs) ≡ c.rows) many (take-append_seam c.rows (rows_of cs)) in
    let more : drop c.info.number_of_rows (c.rows ++ rows_of cs) ≡ rows_of cs = subst (λ (n : ℕ). drop n (c.rows ++ rows_of cs) ≡ rows_of cs) many (drop-append_seam c.rows (rows_of cs)) in
    rw (own, more, cut_written options s (at + length c.bytes) cs h.1) refl

pub written_indexes : (options : Options) (s : Shape) (tail : Tail) (bytes : List ℕ) (rows : List Cell) → IsWrittenFile options s tail bytes rows → HasIndexes bytes tail rows
written_indexes options s tail bytes rows h =
    let cs : List WrittenStripe = h.stripes_written in
    let cut : cut_rows (infos_of cs) rows ≡ parts_of cs = ap (cut_rows (infos_of cs)) h.rows_are ∙ cut_written options s 3 cs h.are in
    subst (λ (t : Tail). HasIndexes bytes t rows) (sym h.tail_is) (λ some n lt.
    subst (λ (p : List (List Cell)). IsIndexed s options.stride (stripe_at (infos_of cs) n) (stripe_bytes (stripe_at (infos_of cs) n) bytes) (rows_at p n)) (sym cut)
    (indexed_at options s some bytes magic (tail_text tail) 3 cs h.are refl (h.bytes_are ∙ append_assoc magic (written_bytes cs) (tail_text tail)) n lt))
