-- A file that is written has fewer than 2^64 bytes, where the text of its schema's types has fewer than 2^62.
use Rattle.std.proofs.Common.{ℕ, ◌+◌, ◌*◌, ◌<◌, ◌≤◌, ◌^◌, List, [], ◌∷◌, ◌++◌, length, map, take, Option, Some, sym, ap, subst, arith, length-append}
use Rattle.std.specs.List.{AllByRecursion, flat_map, list_all}
use Rattle.orc_row_batch.specs.declared.options.Options.{Options}
use Rattle.orc_rle.specs.declared.sign.Rle.{Rle}
use Rattle.orc_rle.specs.declared.sign.Rle.TheVariants.{One, Two}
use Rattle.orc_wire.specs.Fields.{varint, sized}
use Rattle.orc_wire.specs.CanonicalText.{number_text, sized_text, known_text, list_text, packed_text}
use Rattle.orc_wire.specs.CanonicalMessages.{metadata_text, footer_text, post_script_text, stripe_stats_text, stripe_info_text, column_stats_text}
use Rattle.orc_values.specs.Shapes.{Shape, width}
use Rattle.orc_types.specs.Schemas.{IsSchema}
use Rattle.orc_values.specs.Cells.{Cell}
use Rattle.orc_values.specs.Columns.{cells}
use Rattle.orc_stats.specs.declared.stat.Stat.{Stat}
use Rattle.orc_stats.specs.Statistics.{stat, values_body}
use Rattle.orc_stats.specs.Messages.{message_of}
use Rattle.orc_stats.specs.Whole.{keeps_sum}
use Rattle.orc_stats.specs.Joining as joining
use Rattle.orc_stats.specs.ColumnStatistics.{column_stat}
use Rattle.orc_tail.specs.Layout.{magic}
use Rattle.orc_tail.specs.Stripes.{stripes_length, most_stripes}
use Rattle.orc_tail.specs.Statistics.{kind_at, stripe_message, column_stats, file_stats}
use Rattle.orc_tail.specs.Images.{metadata_of, footer_of, postscript_of, tail_text, types_text}
use Rattle.orc_file_writer.specs.Writing.{WrittenStripe, IsWrittenAt, AreWrittenStripes, written_bytes, infos_of, stats_of, version_of, written_tail, IsWrittenFile, IsCutOff}
use Rattle.orc_file.specs.FrontOfFile.{IsFrontOfFile}
use Rattle.orc_tail.specs.declared.tail.Tail.{Tail}
use Rattle.orc_file_writer.proofs.WriterLemmas.{all_length}
use Rattle.orc_tail.proofs.TextLengths.{number_most, sized_most, known_most, HasShortTexts, stats_most, infos_most, pair_most, five, seven}
use Rattle.orc_file.proofs.ColumnTexts.{AreShort, stripe_short, short_both, body_short, either_short}
use Rattle.orc_file.proofs.WrittenLaws.{parts_of, each_got, each_column, file_stat, most_written, written_rows}
use Rattle.orc_tail.proofs.OfColumns.{length-of_columns}

-- ---- a stripe's statistics

stripe_stats_short : (options : Options) (s : Shape) (at : ℕ) (c : WrittenStripe) → IsWrittenAt options s at c → AllByRecursion (λ x. HasShortTexts (length c.bytes) x.body) c.stats
stripe_stats_short options s at c h =
    let have = h.counted in let n = have.counted in
    each_got (λ x. HasShortTexts (length c.bytes) x.body) (column_stat s c.rows) c.stats (λ k l. have.each k (omega (arith, l, n)))
    (λ k l. body_short (length c.bytes) (kind_at s k) (cells s k c.rows) (stripe_short s c.info c.bytes c.rows (length c.bytes) k h.read (omega arith) (omega (arith, l, n))))

stripe_message_most : (options : Options) (s : Shape) (at : ℕ) (c : WrittenStripe) → width s ≤ 4096 → IsWrittenAt options s at c → length (stripe_stats_text.text (stripe_message c.stats)) ≤ 4096 * (450 + 2 * length c.bytes)
stripe_message_most options s at c columns h =
    let have = h.counted in let n = have.counted in
    stats_most 1 (length c.bytes) c.stats (omega (arith, n, columns)) (stripe_stats_short options s at c h)

-- those of all stripes: a field with its key and length for each
metadata_most : (options : Options) (s : Shape) (at : ℕ) (cs : List WrittenStripe) → width s ≤ 4096 → AreWrittenStripes options s at cs
    → length (list_text (λ m. sized (stripe_stats_text.text m)) 1 (map stripe_message (stats_of cs))) ≤ 1843220 * length cs + 8192 * length (written_bytes cs)
metadata_most options s at [] columns h = omega arith
metadata_most options s at (c ∷ cs) columns h =
    let own = stripe_stats_text.text (stripe_message c.stats) in
    let rest = list_text (λ m. sized (stripe_stats_text.text m)) 1 (map stripe_message (stats_of cs)) in
    omega (
      arith,
      length-append (sized_text 1 own) rest,
      sized_most 1 own,
      stripe_message_most options s at c columns h.0,
      metadata_most options s (at + length c.bytes) cs columns h.1,
      length-append c.bytes (written_bytes cs),
    )

-- ---- the file's statistics

module _ (options : Options) (s : Shape) (k : ℕ) (lt : k < width s) (most : ℕ) where
  column_short : (at : ℕ) (cs : List WrittenStripe) → AreWrittenStripes options s at cs → length (written_bytes cs) ≤ most → AreShort most (kind_at s k) (flat_map (λ p. p) (map (cells s k) (parts_of cs)))
  column_short at [] h few = λ e. tt
  column_short at (c ∷ cs) h few =
      let i = h.0 in let both = length-append c.bytes (written_bytes cs) in
      short_both most (kind_at s k) (cells s k c.rows) (flat_map (λ p. p) (map (cells s k) (parts_of cs)))
      (stripe_short s c.info c.bytes c.rows most k i.read (omega (arith, both, few)) lt) (column_short (at + length c.bytes) cs h.1 (omega (arith, both, few)))

  file_stat_short : (at : ℕ) (cs : List WrittenStripe) → AreWrittenStripes options s at cs → length cs ≤ most_stripes → length (written_bytes cs) ≤ most
      → HasShortTexts most (joining.joined (kind_at s k) (column_stats k (stats_of cs))).body
  file_stat_short at cs h stripes few =
      let all = flat_map (λ p. p) (map (cells s k) (parts_of cs)) in
      subst (λ (x : Stat). HasShortTexts most x.body) (sym (file_stat options s k lt at cs h stripes))
      (either_short most (list_all (λ p. keeps_sum (stat (kind_at s k) p)) (map (cells s k) (parts_of cs))) (values_body (kind_at s k) all) (body_short most (kind_at s k) all (column_short at cs h few)))

-- ---- the postscript

version_most : (rle : Rle) → length (packed_text 4 (version_of rle)) ≤ 40
version_most One = pair_most 4 0 11
version_most Two = pair_most 4 0 12

-- ---- the file

module _ (options : Options) (s : Shape) (tail : Tail) (bytes : List ℕ) (rows : List Cell) (schema : IsSchema s) (h : IsWrittenFile options s tail bytes rows) where
  stripe_bytes : length (written_bytes h.stripes_written) ≤ 2 ^ 40
  stripe_bytes = let w = h.within in let l = all_length options s 3 h.stripes_written h.are in let m = w.bytes in omega (arith, l, m)

  stripes : length h.stripes_written ≤ 65536
  stripes = most_written options s tail bytes rows h

  metadata_short : length (metadata_text.text (metadata_of (written_tail options s (infos_of h.stripes_written) (stats_of h.stripes_written)))) ≤ 2 ^ 54
  metadata_short = let count = schema.count in let m = metadata_most options s 3 h.stripes_written count h.are in omega (arith, m, stripe_bytes, stripes)

  columns_short : length (list_text (λ m. sized (column_stats_text.text m)) 7 (map message_of (file_stats s (stats_of h.stripes_written)))) ≤ 4096 * (450 + 2 * 2 ^ 40)
  columns_short =
      let f = λ (k : ℕ). joining.joined (kind_at s k) (column_stats k (stats_of h.stripes_written)) in let count = schema.count in let l = length-of_columns f 0 (width s) in
      stats_most 7 (2 ^ 40) (file_stats s (stats_of h.stripes_written)) (omega (arith, l, count))
      (each_column (λ x. HasShortTexts (2 ^ 40) x.body) f 0 (width s) (λ k l. file_stat_short options s k (omega (arith, l)) (2 ^ 40) 3 h.stripes_written h.are stripes stripe_bytes))

  infos_short : length (list_text (λ i. sized (stripe_info_text.text i)) 3 (infos_of h.stripes_written)) ≤ 120 * 65536
  infos_short = let w = h.within in infos_most (infos_of h.stripes_written) w.stripes

  footer_short : length (types_text s) < 2 ^ 62 → length (footer_text.text (footer_of (written_tail options s (infos_of h.stripes_written) (stats_of h.stripes_written)))) < 2 ^ 62 + 2 ^ 54
  footer_short types =
      let t = written_tail options s (infos_of h.stripes_written) (stats_of h.stripes_written) in
      let content = length magic + stripes_length (infos_of h.stripes_written) in
      let first = list_text (λ i. sized (stripe_info_text.text i)) 3 (infos_of h.stripes_written) in
      let last = list_text (λ m. sized (column_stats_text.text m)) 7 (map message_of (file_stats s (stats_of h.stripes_written))) in
      let ends = number_text 8 t.stride ++ (known_text (λ (v : ℕ). varint v) 9 (Some 99) ++ []) in
      omega (
        arith,
        seven (number_text 1 3) (number_text 2 content) first (types_text s) (number_text 6 t.rows) last ends,
        length-append (number_text 8 t.stride) (known_text (λ (v : ℕ). varint v) 9 (Some 99) ++ []),
        length-append (known_text (λ (v : ℕ). varint v) 9 (Some 99)) [],
        number_most 1 3,
        number_most 2 content,
        number_most 6 t.rows,
        number_most 8 t.stride,
        known_most (λ (v : ℕ). v) 9 (Some 99),
        infos_short,
        columns_short,
        types,
      )

  postscript_short : length (post_script_text.text (postscript_of (written_tail options s (infos_of h.stripes_written) (stats_of h.stripes_written)))) ≤ 200
  postscript_short =
      let m = postscript_of (written_tail options s (infos_of h.stripes_written) (stats_of h.stripes_written)) in
      let ends = known_text (λ (v : ℕ). varint v) 6 m.writer_version ++ sized_text 8000 magic in
      omega (
        arith,
        five (number_text 1 m.footer_length) (number_text 2 0) (packed_text 4 (version_of options.rle)) (number_text 5 m.metadata_length) ends,
        length-append (known_text (λ (v : ℕ). varint v) 6 m.writer_version) (sized_text 8000 magic),
        number_most 1 m.footer_length,
        number_most 2 0,
        version_most options.rle,
        number_most 5 m.metadata_length,
        known_most (λ (v : ℕ). v) 6 m.writer_version,
        sized_most 8000 magic,
      )

  tail_short : length (types_text s) < 2 ^ 62 → length (tail_text (written_tail options s (infos_of h.stripes_written) (stats_of h.stripes_written))) < 2 ^ 63
  tail_short types =
      let t = written_tail options s (infos_of h.stripes_written) (stats_of h.stripes_written) in
      let a = metadata_text.text (metadata_of t) in let b = footer_text.text (footer_of t) in let c = post_script_text.text (postscript_of t) in
      omega (
        arith,
        length-append a (b ++ (c ++ length c ∷ [])),
        length-append b (c ++ length c ∷ []),
        length-append c (length c ∷ []),
        metadata_short,
        footer_short types,
        postscript_short,
      )

  pub written_short : length (types_text s) < 2 ^ 62 → length bytes < 2 ^ 64
  written_short types =
      let own = tail_short types in
      let text = subst (λ (x : Tail). length (tail_text x) < 2 ^ 63) (sym h.tail_is) own in
      let front = length-append magic (written_bytes h.stripes_written) in
      let all = length-append (magic ++ written_bytes h.stripes_written) (tail_text tail) in
      let e = ap length h.bytes_are in
      omega (arith, text, front, all, e, stripe_bytes)

-- what a writer has written once it failed is the front of a file
pub front_file : (options : Options) (s : Shape) (first told : Option (List ℕ)) (rows : List Cell) → IsCutOff options s first told rows → length (types_text s) < 2 ^ 62 → IsFrontOfFile s first told rows
front_file options s first told rows h types =
    let tail = h.file.0 in let is = h.file.1 in
    record {
      mine = h.mine;
      rest = h.rest;
      count = h.count;
      tail = tail;
      told_is = h.told_is;
      file = written_rows options s tail (h.mine ++ h.rest) (take h.count rows) is h.schema (written_short options s tail (h.mine ++ h.rest) (take h.count rows) h.schema is types);
      schema_is = ap (λ (t : Tail). t.schema) is.tail_is;
    }
