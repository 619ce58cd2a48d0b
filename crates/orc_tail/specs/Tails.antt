-- The tail of a file, and the tests that its bytes have to pass, in their order (ORC specification, "File
-- Tail"; the order of the tests and the limits are this project's).
use Rattle.std.specs.Prelude.{◌≡◌, ◌≢◌, ℕ, ◌+◌, ◌<◌, ◌≤◌, List, [], length, ◌⊎◌, Option, true}
use Rattle.std.specs.List.{list_all}
use Rattle.std.specs.Option.{IfSome}
use Rattle.orc_wire.specs.Messages.{post_script, footer, metadata}
use Rattle.orc_wire.specs.CanonicalKinds.{AreKept}
use Rattle.orc_wire.specs.declared.post_script.PostScript.{PostScript}
use Rattle.orc_wire.specs.declared.footer.Footer.{Footer}
use Rattle.orc_wire.specs.declared.column_stats.Metadata.{Metadata}
use Rattle.orc_values.specs.Shapes.{Shape, width}
use Rattle.orc_trees.specs.declared.fault.TypeFault.TheVariants as types
use Rattle.orc_stats.specs.declared.stat.Stat.{Stat}
use Rattle.orc_stats.specs.Messages.{in_limits}
use Rattle.orc_io.specs.Devices.{bytes_at}
use Rattle.orc_tail.specs.Layout.{magic, postscript_length, postscript_place, postscript_bytes, footer_bytes, metadata_bytes, metadata_place}
use Rattle.orc_tail.specs.Tests.{Test, gives, check, ◌then◌, reads, schema_of}
use Rattle.orc_tail.specs.Stripes.{stripe_tests, stripes_rows, stripes_length, most_stripes, most_rows, most_bytes}
use Rattle.orc_tail.specs.Statistics.{have_few, stats_read, stripe_stats_read}
use Rattle.orc_tail.specs.declared.tail.Tail.{Tail}
use Rattle.orc_tail.specs.declared.fault.FileFault.{FileFault}
use Rattle.orc_tail.specs.declared.fault.FileFault.TheVariants.{NotOrc, BadPostscript, Compressed, Encrypted, BadLengths, BadFooter, BadMetadata, BadTypes, BadStripe, RowCount, Limit}
use Rattle.orc_tail.specs.declared.fault.FileFault.TheVariants.{SourceFailed, OutOfMemory}

-- the greatest number of numbers in a version
abbrev pub most_versions : ℕ
most_versions = 16

-- a magic is missing, empty or `ORC`
abbrev pub IsMagic : List ℕ → Type 0
IsMagic text = (text ≡ []) ⊎ (text ≡ magic)

-- the tests of the postscript's bytes, which begin at a place
abbrev pub postscript_tests : List ℕ → ℕ → Test PostScript
postscript_tests text place =
    reads post_script text BadPostscript then λ postscript.
    check (length postscript.version ≤ most_versions) BadPostscript
    (check (IsMagic postscript.magic) NotOrc
    (check (postscript.compression ≡ 0) (Compressed postscript.compression)
    (check (3 + postscript.metadata_length + postscript.footer_length ≤ place) BadLengths
    (gives postscript))))

-- the tests of both ends of a file, and of the postscript
abbrev pub end_tests : List ℕ → Test PostScript
end_tests bytes =
    check (4 ≤ length bytes) NotOrc
    (check (bytes_at 0 3 bytes ≡ magic) NotOrc
    (check (postscript_length bytes + 4 ≤ length bytes) BadLengths
    (postscript_tests (postscript_bytes bytes) (postscript_place bytes))))

-- the tests of the footer's bytes; field 10 describes how a file is encrypted
abbrev pub footer_tests : List ℕ → Test (Footer × Shape)
footer_tests text =
    reads footer text BadFooter then λ f.
    check (AreKept 11 f.kept) Encrypted
    (schema_of f.types then λ s.
    check (length f.statistics ≤ width s) BadFooter
    (gives (f, s)))

-- the tests of the metadata's bytes
abbrev pub metadata_tests : List ℕ → Footer → Shape → Test Metadata
metadata_tests text f s =
    reads metadata text BadMetadata then λ m.
    check (length m.stripe_stats ≤ length f.stripes) BadMetadata
    (check (have_few (width s) m.stripe_stats ≡ true) BadMetadata
    (gives m))

-- The tests of what a footer and metadata contain; the metadata begins at the place `before`. They find the statistics
-- of the file's and of the stripes' columns.
abbrev pub limit_tests : ℕ → Footer → Shape → Metadata → Test (List Stat × List (List Stat))
limit_tests before f s m =
    check (list_all in_limits (stats_read s 0 f.statistics) ≡ true) Limit
    (check (list_all (list_all in_limits) (stripe_stats_read s m.stripe_stats) ≡ true) Limit
    (check (length f.stripes ≤ most_stripes) Limit
    (stripe_tests 0 3 before f.stripes then λ done.
    check (stripes_rows f.stripes ≡ f.number_of_rows) RowCount
    (check (f.number_of_rows ≤ most_rows) Limit
    (check (stripes_length f.stripes ≤ most_bytes) Limit
    (gives (stats_read s 0 f.statistics, stripe_stats_read s m.stripe_stats)))))))

-- the tail that a file's messages make together
abbrev pub tail_of : PostScript → Footer → Shape → List Stat × List (List Stat) → Tail
tail_of postscript f s stats = record {
  version = postscript.version;
  writer = f.writer;
  writer_version = postscript.writer_version;
  schema = s;
  stripes = f.stripes;
  stripe_stats = stats.1;
  file_stats = stats.0;
  user = f.metadata;
  stride = f.row_index_stride;
  rows = f.number_of_rows;
  other = f.kept;
}

-- the tests of a file's tail, in the order in which they are made
abbrev pub tail_tests : List ℕ → Test Tail
tail_tests bytes =
    end_tests bytes then λ postscript.
    footer_tests (footer_bytes bytes postscript) then λ f.
    metadata_tests (metadata_bytes bytes postscript) f.0 f.1 then λ m.
    limit_tests (metadata_place bytes postscript) f.0 f.1 m then λ stats.
    gives (tail_of postscript f.0 f.1 stats)

-- the bytes pass each test of a tail, and the tests find this tail
abbrev pub IsTail : List ℕ → Tail → Type 0
IsTail bytes = (tail_tests bytes).finds

-- the fault of the first test of a tail that the bytes fail
abbrev pub TailOpenFault : List ℕ → FileFault → Type 0
TailOpenFault bytes = (tail_tests bytes).fails

-- why a read fails: there is no memory, the source failed, or the bytes, if they are known, have this fault
abbrev pub ReadFault : Option (List ℕ) → FileFault → (List ℕ → Type 0) → Type 0
ReadFault told fault fails = (fault ≡ OutOfMemory) ⊎ ((fault ≡ SourceFailed) ⊎ IfSome told fails)

-- a fault with which reading a tail may end if the source hasn't failed: that of a test, or want of memory
abbrev pub IsOfTail : FileFault → Type 0
IsOfTail NotOrc = Unit {0}
IsOfTail BadPostscript = Unit {0}
IsOfTail (Compressed kind) = kind ≢ 0
IsOfTail Encrypted = Unit {0}
IsOfTail BadLengths = Unit {0}
IsOfTail BadFooter = Unit {0}
IsOfTail BadMetadata = Unit {0}
IsOfTail (BadTypes why) = why ≢ types.OutOfMemory
IsOfTail (BadStripe number) = number < most_stripes
IsOfTail RowCount = Unit {0}
IsOfTail Limit = Unit {0}
IsOfTail OutOfMemory = Unit {0}
IsOfTail _ = ⊥
