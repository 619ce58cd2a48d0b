-- What a writer of files has written, and what it keeps (ORC specification, "File Tail"). The number of rows after
-- which a stripe ends, the contents of the tail and the limits are this project's.
use Rattle.std.specs.Prelude.{◌≡◌, ℕ, ◌+◌, ◌<◌, ◌≤◌, ◌^◌, List, [], ◌∷◌, ◌++◌, length, map, take, Option, Some}
use Rattle.std.specs.List.{flat_map}
use Rattle.orc_rle.specs.declared.sign.Rle.{Rle}
use Rattle.orc_rle.specs.declared.sign.Rle.TheVariants.{One, Two}
use Rattle.orc_wire.specs.declared.stripe_info.StripeInfo.{StripeInfo}
use Rattle.orc_values.specs.Shapes.{Shape, width}
use Rattle.orc_types.specs.Schemas.{IsSchema}
use Rattle.orc_values.specs.Cells.{Cell}
use Rattle.orc_stats.specs.declared.stat.Stat.{Stat}
use Rattle.orc_column_reader.specs.Stripe.{IsStripe}
use Rattle.orc_stripe_writer.specs.WrittenStripe.{IsWrittenStripe, HaveStats}
use Rattle.orc_row_batch.specs.declared.options.Options.{Options}
use Rattle.orc_io.specs.Devices.{appended}
use Rattle.orc_tail.specs.Layout.{magic}
use Rattle.orc_tail.specs.Stripes.{stripes_length, stripes_rows, most_stripes, most_rows, most_bytes}
use Rattle.orc_tail.specs.Images.{tail_text}
use Rattle.orc_tail.specs.declared.tail.Tail.{Tail}
use Rattle.orc_tail.specs.Statistics.{file_stats}

-- ---- stripes

-- a stripe in a file: its record, its bytes, its rows and the statistics of its columns
pub record WrittenStripe : Type 0 where
  pub info : StripeInfo
  pub bytes : List ℕ
  pub rows : List Cell
  pub stats : List Stat

-- The stripe begins at this place. Its bytes are what the writer's rules make of its rows, and they read back as these
-- rows. The statistics are those of its rows.
pub record IsWrittenAt (options : Options) (s : Shape) (place : ℕ) (c : WrittenStripe) : Type 0 where
  pub placed : c.info.offset ≡ place
  pub written : IsWrittenStripe options.rle options.stride s c.rows (record c.info { offset = 0 }) c.bytes
  pub read : IsStripe s c.info c.bytes c.rows
  pub counted : HaveStats s c.rows (width s) c.stats

-- the stripes are written one after the other from a place on, without gaps
abbrev pub AreWrittenStripes : Options → Shape → ℕ → List WrittenStripe → Type 0
AreWrittenStripes options s place [] = Unit {0}
AreWrittenStripes options s place (c ∷ cs) =
    IsWrittenAt options s place c × AreWrittenStripes options s (place + length c.bytes) cs

-- the bytes of written stripes, one after the other
abbrev pub written_bytes : List WrittenStripe → List ℕ
written_bytes cs = flat_map (λ (c : WrittenStripe). c.bytes) cs

-- the rows of written stripes, one after the other
abbrev pub rows_of : List WrittenStripe → List Cell
rows_of cs = flat_map (λ (c : WrittenStripe). c.rows) cs

-- the records of written stripes in the footer
abbrev pub infos_of : List WrittenStripe → List StripeInfo
infos_of cs = map (λ (c : WrittenStripe). c.info) cs

-- the statistics of written stripes
abbrev pub stats_of : List WrittenStripe → List (List Stat)
stats_of cs = map (λ (c : WrittenStripe). c.stats) cs

-- each stripe has n rows
abbrev pub AreFull : ℕ → List WrittenStripe → Type 0
AreFull n [] = Unit {0}
AreFull n (c ∷ cs) = (length c.rows ≡ n) × AreFull n cs

-- each stripe has n rows, except the last one, which has from 1 to n rows
abbrev pub AreFilled : ℕ → List WrittenStripe → Type 0
AreFilled n [] = Unit {0}
AreFilled n (c ∷ []) = (0 < length c.rows) × (length c.rows ≤ n)
AreFilled n (c ∷ d ∷ cs) = (length c.rows ≡ n) × AreFilled n (d ∷ cs)

-- ---- the tail

-- the format's version, which that of the integer run lengths decides
abbrev pub version_of : Rle → List ℕ
version_of One = 0 ∷ 11 ∷ []
version_of Two = 0 ∷ 12 ∷ []

-- the tail that is written after stripes with these statistics
abbrev pub written_tail : Options → Shape → List StripeInfo → List (List Stat) → Tail
written_tail options s infos stats = record {
  version = version_of options.rle;
  writer = Some 99;
  writer_version = Some 6;
  schema = s;
  stripes = infos;
  stripe_stats = stats;
  file_stats = file_stats s stats;
  user = [];
  stride = options.stride;
  rows = stripes_rows infos;
  other = [];
}

-- ---- files

-- the stripes are within a file's limits
pub record AreWithinFile (infos : List StripeInfo) : Type 0 where
  pub stripes : length infos ≤ most_stripes
  pub rows : stripes_rows infos ≤ most_rows
  pub bytes : stripes_length infos ≤ most_bytes

-- with one stripe more, of these rows, the bytes of all stripes would exceed the limit
pub record PassesBytes (options : Options) (s : Shape) (infos : List StripeInfo) (rows : List Cell) : Type 0 where
  pub info : StripeInfo
  pub bytes : List ℕ
  pub written : IsWrittenStripe options.rle options.stride s rows info bytes
  pub above : most_bytes < stripes_length infos + length bytes

-- The bytes are `ORC`, stripes one after the other, and the canonical text of the tail that lists them. Each stripe has
-- as many rows as the options say, except the last one, which may have fewer. The stripes' rows, joined, are the
-- file's.
pub record IsWrittenFile (options : Options) (s : Shape) (tail : Tail)
    (bytes : List ℕ) (rows : List Cell) : Type 0 where
  pub stripes_written : List WrittenStripe
  pub are : AreWrittenStripes options s 3 stripes_written
  pub filled : AreFilled options.stripe_rows stripes_written
  pub within : AreWithinFile (infos_of stripes_written)
  pub tail_is : tail ≡ written_tail options s (infos_of stripes_written) (stats_of stripes_written)
  pub bytes_are : bytes ≡ (magic ++ written_bytes stripes_written) ++ tail_text tail
  pub rows_are : rows ≡ rows_of stripes_written

-- the bytes are a written file of the rows, with some tail
abbrev pub IsSomeFile : Options → Shape → List ℕ → List Cell → Type 0
IsSomeFile options s bytes rows = (tail : Tail) × IsWrittenFile options s tail bytes rows

-- after the known bytes that the output had first, it has got a written file of the rows with this tail, whose length
-- fits 64 bits
pub record WroteWholeFile (options : Options) (s : Shape) (tail : Tail)
    (first told : Option (List ℕ)) (rows : List Cell) : Type 0 where
  pub bytes : List ℕ
  pub told_is : told ≡ appended first bytes
  pub file : IsWrittenFile options s tail bytes rows
  pub schema : IsSchema s
  pub few : length bytes < 2 ^ 64

-- After the known bytes that the output had first, it has got a prefix of a written file of the first `count` rows.
pub record IsCutOff (options : Options) (s : Shape) (first told : Option (List ℕ)) (rows : List Cell) : Type 0 where
  pub mine : List ℕ
  pub rest : List ℕ
  pub count : ℕ
  pub told_is : told ≡ appended first mine
  pub schema : IsSchema s
  pub file : IsSomeFile options s (mine ++ rest) (take count rows)

-- After the known bytes that the output had first, it has got as many bytes as are counted.
pub record HasTaken (first told : Option (List ℕ)) (written : ℕ) : Type 0 where
  pub mine : List ℕ
  pub told_is : told ≡ appended first mine
  pub written_is : written ≡ length mine

-- ---- what a writer has done so far

-- the writer's options and schema; the known bytes of its output, and how many bytes this has taken; the stripes that
-- are written, with their statistics; and the rows that are kept
pub record Progress : Type 0 where
  pub options : Options
  pub schema : Shape
  pub told : Option (List ℕ)
  pub written : ℕ
  pub infos : List StripeInfo
  pub stats : List (List Stat)
  pub kept : List Cell

-- After the known bytes that the output had first, it has got `ORC` and full stripes, as many bytes as are counted. The
-- rows of these stripes, followed by the rows that are kept, are the rows pushed.
pub record HasKept (p : Progress) (first : Option (List ℕ)) (rows : List Cell) : Type 0 where
  pub stripes_written : List WrittenStripe
  pub are : AreWrittenStripes p.options p.schema 3 stripes_written
  pub full : AreFull p.options.stripe_rows stripes_written
  pub infos_are : p.infos ≡ infos_of stripes_written
  pub stats_are : p.stats ≡ stats_of stripes_written
  pub told_is : p.told ≡ appended first (magic ++ written_bytes stripes_written)
  pub written_is : p.written ≡ length (magic ++ written_bytes stripes_written)
  pub rows_are : rows ≡ rows_of stripes_written ++ p.kept

-- After the known bytes that the output had first, it has got `ORC` and all stripes, of which the last one may have
-- fewer rows. The rows of these stripes are the rows pushed: no row is kept.
pub record HasFilled (p : Progress) (first : Option (List ℕ)) (rows : List Cell) : Type 0 where
  pub stripes_written : List WrittenStripe
  pub are : AreWrittenStripes p.options p.schema 3 stripes_written
  pub filled : AreFilled p.options.stripe_rows stripes_written
  pub infos_are : p.infos ≡ infos_of stripes_written
  pub stats_are : p.stats ≡ stats_of stripes_written
  pub told_is : p.told ≡ appended first (magic ++ written_bytes stripes_written)
  pub rows_are : rows ≡ rows_of stripes_written

-- these rows were pushed: the output has got the full stripes, and fewer rows are kept than a stripe has
abbrev pub HasPushed : Progress → Option (List ℕ) → List Cell → Type 0
HasPushed p first rows = HasKept p first rows × (length p.kept < p.options.stripe_rows)
