-- The bytes of a file with this tail (ORC specification, "File Tail"): `ORC`, the stripes' bytes one after
-- the other, and the canonical text of all that follows them.
use Rattle.std.specs.Prelude.{◌≡◌, ℕ, ◌+◌, ◌^◌, ◌<◌, ◌≤◌, List, [], ◌∷◌, ◌++◌, length, map}
use Rattle.std.specs.List.{AllByRecursion}
use Rattle.std.specs.Option.{IfSome}
use Rattle.orc_wire.specs.Fields.{sized}
use Rattle.orc_wire.specs.CanonicalText.{list_text}
use Rattle.orc_wire.specs.CanonicalMessages.{post_script_text, footer_text, metadata_text, column_stats_text, stripe_info_text, type_text, user_metadata_text}
use Rattle.orc_wire.specs.CanonicalKinds.{AreKept, AreBelow}
use Rattle.orc_wire.specs.declared.post_script.PostScript.{PostScript}
use Rattle.orc_wire.specs.declared.footer.Footer.{Footer}
use Rattle.orc_wire.specs.declared.column_stats.Metadata.{Metadata}
use Rattle.orc_values.specs.Shapes.{Shape}
use Rattle.orc_wire.specs.Types.{types}
use Rattle.orc_types.specs.Schemas.{IsSchema}
use Rattle.orc_stats.specs.Messages.{message_of}
use Rattle.orc_tail.specs.Layout.{magic}
use Rattle.orc_tail.specs.Stripes.{stripes_length, stripes_rows, most_stripes, most_stripe_rows, most_rows, most_bytes}
use Rattle.orc_tail.specs.Statistics.{AreStats, stripe_message}
use Rattle.orc_tail.specs.Tails.{most_versions}
use Rattle.orc_tail.specs.declared.tail.Tail.{Tail}

-- a tail's stripe statistics as the metadata message
abbrev pub metadata_of : Tail → Metadata
metadata_of tail = record { stripe_stats = map stripe_message tail.stripe_stats }

-- a tail as the footer message
abbrev pub footer_of : Tail → Footer
footer_of tail = record {
  header_length = length magic;
  content_length = length magic + stripes_length tail.stripes;
  stripes = tail.stripes;
  types = types tail.schema 0;
  metadata = tail.user;
  number_of_rows = tail.rows;
  statistics = map message_of tail.file_stats;
  row_index_stride = tail.stride;
  writer = tail.writer;
  kept = tail.other;
}

-- the text of a schema's types in the footer
abbrev pub types_text : Shape → List ℕ
types_text s = list_text (λ t. sized (type_text.text t)) 4 (types s 0)

-- a tail as the postscript message
abbrev pub postscript_of : Tail → PostScript
postscript_of tail = record {
  footer_length = length (footer_text.text (footer_of tail));
  compression = 0;
  version = tail.version;
  metadata_length = length (metadata_text.text (metadata_of tail));
  writer_version = tail.writer_version;
  magic = magic;
}

-- three parts one after the other, and then the length of the last one
abbrev pub ended : List ℕ → List ℕ → List ℕ → List ℕ
ended metadata footer postscript = metadata ++ (footer ++ (postscript ++ length postscript ∷ []))

-- what follows the stripes
abbrev pub tail_text : Tail → List ℕ
tail_text tail = ended (metadata_text.text (metadata_of tail))
    (footer_text.text (footer_of tail))
    (post_script_text.text (postscript_of tail))

-- a file's bytes: the magic, the stripes, the canonical text of the tail
abbrev pub image : List ℕ → Tail → List ℕ
image stripes tail = magic ++ (stripes ++ tail_text tail)

-- the tail is within the limits
pub record IsWithinLimits (tail : Tail) : Type 0 where
  pub version : length tail.version ≤ most_versions
  pub schema : IsSchema tail.schema
  pub file_stats : AreStats tail.schema tail.file_stats
  pub stripe_stats : AllByRecursion (AreStats tail.schema) tail.stripe_stats
  pub stats_of_stripes : length tail.stripe_stats ≤ length tail.stripes
  pub stripes : length tail.stripes ≤ most_stripes
  pub stripe_rows : AllByRecursion (λ s. s.number_of_rows ≤ most_stripe_rows) tail.stripes
  pub rows_are : stripes_rows tail.stripes ≡ tail.rows
  pub rows : tail.rows ≤ most_rows
  pub bytes : stripes_length tail.stripes ≤ most_bytes
  pub other : AreKept 11 tail.other

-- each number of the tail fits the bits of its field, as it does in each tail in memory
pub record HasBits (tail : Tail) : Type 0 where
  pub version : AreBelow (2 ^ 32) tail.version
  pub writer : IfSome tail.writer (λ v. v < 2 ^ 32)
  pub writer_version : IfSome tail.writer_version (λ v. v < 2 ^ 32)
  pub stripes : AllByRecursion stripe_info_text.bounded tail.stripes
  pub types : AllByRecursion type_text.bounded (types tail.schema 0)
  pub user : AllByRecursion user_metadata_text.bounded tail.user
  pub file_stats : AllByRecursion (λ s. column_stats_text.bounded (message_of s)) tail.file_stats
  pub stripe_stats : AllByRecursion (AllByRecursion (λ s. column_stats_text.bounded (message_of s))) tail.stripe_stats
  pub stride : tail.stride < 2 ^ 32
