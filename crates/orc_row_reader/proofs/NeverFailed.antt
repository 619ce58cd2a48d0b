-- No reader answers `Failed`: a cursor alone does, which has refused before.
use Rattle.std.proofs.Common.{ℕ, List, [], ◌∷◌, Bool, ℤ, Option, Some, None, take, drop, inl, inr, map}
use Rattle.std.specs.declared.vec.Vec.{Vec}
use Rattle.std.specs.declared.alloc.Global.{Global}
use Rattle.orc_values.specs.Fits.{int_fits, signed_fits}
use Rattle.orc_values.specs.Shapes.{Shape, scalar, list_of, map_of, struct_of, Fields, no_field, field, width}
use Rattle.orc_values.specs.declared.kind.Scalar.{Scalar}
use Rattle.orc_values.specs.declared.kind.Scalar.TheVariants as kind
use Rattle.orc_rle.specs.declared.fault.RunFault.{RunFault}
use Rattle.orc_column_reader.specs.declared.column.ColumnReader.{ColumnReader}
use Rattle.orc_column_reader.specs.declared.column.ValueSource.{ValueSource}
use Rattle.orc_column_reader.specs.declared.entry.Entry.{Entry}
use Rattle.orc_column_reader.specs.declared.numbers.Numbers.{Numbers}
use Rattle.orc_column_reader.specs.declared.octets.Octets.{Octets}
use Rattle.orc_directory.specs.declared.fault.StreamKind.{StreamKind}
use Rattle.orc_directory.specs.declared.fault.StreamKind.TheVariants as stream
use Rattle.orc_directory.specs.declared.fault.StripeFault.{StripeFault}
use Rattle.orc_directory.specs.declared.fault.StripeFault.TheVariants.{Failed}
use Rattle.orc_column_reader.specs.Columns.{entry_bytes}
use Rattle.orc_column_reader.specs.Faults.{RunsFail}
use Rattle.orc_column_reader.specs.RunFaults.{Always}
use Rattle.orc_column_reader.specs.RunsMet.{NumbersMeet, BytesMeet, BitsMeet, MarksMeet}
use Rattle.orc_column_reader.specs.ReaderFaults.{IntsMeet, StringsMeet, TextMeets, IndexesMeet, TextsMeet, ScalarMeets, ListsMeet, ValuesMeet, ReadersMeet, BelowMeet, FieldsMeet, CellsMeet}

not_runs : (k : StreamKind) (c : ℕ) (stands : RunFault → Type 0) → RunsFail k c stands Failed → ⊥
not_runs k c stands h = let e = h.1 in cc

not_ints : (fits : ℤ → Bool) (r : Numbers) (all : Bool) (n c : ℕ) → IntsMeet fits r all n c Failed → ⊥
not_ints fits r all n c (inl h) = not_runs stream.Data c (Always all n (NumbersMeet r)) h
not_ints fits r all n c (inr h) = let e = h.0 in cc

not_groups : (k : StreamKind) (r : Numbers) (o : Octets) (all : Bool) (n c : ℕ) → StringsMeet k r o all n c Failed → ⊥
not_groups k r o all n c (inl h) = not_runs stream.Length c (Always all n (NumbersMeet r)) h
not_groups k r o all n c (inr h) = let e = h.0 in cc

not_text : (r : Numbers) (o : Octets) (all : Bool) (n c : ℕ) → TextMeets r o all n c Failed → ⊥
not_text r o all n c (inl h) = not_groups stream.Data r o all n c h
not_text r o all n c (inr h) = let e = h.0 in cc

not_words : (entries : List (List ℕ)) (r : Numbers) (all : Bool) (n c : ℕ) → IndexesMeet entries r all n c Failed → ⊥
not_words entries r all n c (inl h) = not_runs stream.Data c (Always all n (NumbersMeet r)) h
not_words entries r all n c (inr (inl h)) = let e = h.0 in cc
not_words entries r all n c (inr (inr h)) = let e = h.0 in cc

not_texts : (entries : Option (Vec Entry Global)) (r : ValueSource) (all : Bool) (n : ℕ) → TextsMeet entries r all n Failed → ⊥
not_texts None r all n h = not_text r.numbers r.octets all n r.column h
not_texts (Some entries) r all n h = not_words (map entry_bytes entries.items) r.numbers all n r.column h

not_scalar : (k : Scalar) (r : ValueSource) (all : Bool) (n : ℕ) → ScalarMeets k r all n Failed → ⊥
not_scalar kind.Boolean r all n h = not_runs stream.Data r.column (Always all n (BitsMeet r.bits)) h
not_scalar kind.Byte r all n h = not_runs stream.Data r.column (Always all n (BytesMeet r.bytes)) h
not_scalar kind.Short r all n h = not_ints (int_fits kind.Short) r.numbers all n r.column h
not_scalar kind.Int r all n h = not_ints (int_fits kind.Int) r.numbers all n r.column h
not_scalar kind.Long r all n h = not_runs stream.Data r.column (Always all n (NumbersMeet r.numbers)) h
not_scalar kind.Date r all n h = not_ints (signed_fits 31) r.numbers all n r.column h
not_scalar kind.Binary r all n h = not_groups stream.Data r.numbers r.octets all n r.column h
not_scalar kind.String r all n h = not_texts r.entries r all n h

not_lists : (r : ValueSource) (all : Bool) (n : ℕ) → ListsMeet r all n Failed → ⊥
not_lists r all n (inl h) = not_runs stream.Length r.column (Always all n (NumbersMeet r.numbers)) h
not_lists r all n (inr h) = let e = h.0 in cc

not_values : (s : Shape) (r : ValueSource) (all : Bool) (n : ℕ) → ValuesMeet s r all n Failed → ⊥
not_values (scalar k o) r all n h = not_scalar k r all n h
not_values (list_of s o) r all n h = not_lists r all n h
not_values (map_of k v o) r all n h = not_lists r all n h
not_values (struct_of fs o) r all n h = h

readers_never : (found : ValueSource → List ColumnReader → Bool → ℕ → StripeFault → Type 0) → ((r : ValueSource) (rs : List ColumnReader) (all : Bool) (n : ℕ) → found r rs all n Failed → ⊥)
    → (s : Shape) (rs : List ColumnReader) (all : Bool) (n : ℕ) → ReadersMeet found s rs all n Failed → ⊥
readers_never found none s [] all n h = h
readers_never found none s (r ∷ rs) all n (inl h) = not_runs stream.Present r.source.column (Always all n (MarksMeet r.present)) h
readers_never found none s (r ∷ rs) all n (inr h) =
    elim h.2 [
      | inl own ↦ not_values s r.source all h.0 own
      | inr below ↦ none r.source rs all h.0 below
    ]

mutual
  below_never : (s : Shape) (r : ValueSource) (rs : List ColumnReader) (all : Bool) (n : ℕ) → BelowMeet s r rs all n Failed → ⊥
  below_never (scalar k o) r rs all n h = h
  below_never (list_of s o) r rs all n h = readers_never (BelowMeet s) (below_never s) s rs all h.0 h.2
  below_never (map_of k v o) r rs all n h =
      elim h.2 [
        | inl first ↦ readers_never (BelowMeet k) (below_never k) k (take (width k) rs) all h.0 first
        | inr second ↦ readers_never (BelowMeet v) (below_never v) v (drop (width k) rs) all h.0 second
      ]
  below_never (struct_of fs o) r rs all n h = fields_never fs rs all n h

  fields_never : (fs : Fields) (rs : List ColumnReader) (all : Bool) (n : ℕ) → FieldsMeet fs rs all n Failed → ⊥
  fields_never no_field rs all n h = h
  fields_never (field name s fs) rs all n (inl h) = readers_never (BelowMeet s) (below_never s) s (take (width s) rs) all n h
  fields_never (field name s fs) rs all n (inr h) = fields_never fs (drop (width s) rs) all n h

pub never_failed : (s : Shape) (rs : List ColumnReader) (all : Bool) (n : ℕ) → CellsMeet s rs all n Failed → ⊥
never_failed s rs all n h = readers_never (BelowMeet s) (below_never s) s rs all n h
