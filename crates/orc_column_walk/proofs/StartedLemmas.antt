-- A reader at the start of a column's streams: what it gives of the column by itself, and what refuses it.
use Rattle.std.proofs.Common.{◌≡◌, ℕ, ◌<◌, ◌≤◌, pos, negsuc, sum, Bool, true, false, List, [], ◌∷◌, map, length, replicate, zero, suc, refl, sym, ap, ◌∙◌, subst, inl, inr, arith}
use Rattle.std.specs.List.{flat_map, AllZip}
use Rattle.std.proofs.lemmas.List.{length-map}
use Rattle.orc_rle.specs.declared.sign.Sign.TheVariants.{Unsigned}
use Rattle.orc_values.specs.Cells.{Cell, is_value, parts, pairs_in, values}
use Rattle.orc_values.specs.Shapes.{Shape, scalar, list_of, map_of, struct_of}
use Rattle.orc_values.specs.declared.kind.Scalar.{Scalar}
use Rattle.orc_values.specs.declared.kind.Scalar.TheVariants as kind
use Rattle.orc_column_reader.specs.Columns.{MarksLeft, IsEntry, IsText}
use Rattle.orc_column_reader.specs.Faults.{RunsFail, DictionaryFails}
use Rattle.orc_column_reader.specs.ReaderFaults.{ValuesMeet}
use Rattle.orc_column_reader.specs.RunFaults.{Always}
use Rattle.orc_column_reader.specs.RunsMet.{MarksMeet}
use Rattle.orc_column_reader.specs.Starting.{NumbersStart, SourceStart, OwnStart, LacksEntries, HasNoDictionary}
use Rattle.orc_column_reader.specs.Stripe.{Streams, version, has_dictionary, Marks, SpellsScalar, SpellsTexts}
use Rattle.orc_values.specs.Limits.{most_cells, cell_limit}
use Rattle.orc_column_reader.specs.declared.column.ColumnReader.{ColumnReader}
use Rattle.orc_column_reader.specs.declared.column.ValueSource.{ValueSource}
use Rattle.orc_directory.specs.declared.fault.StreamKind.TheVariants.{Present}
use Rattle.orc_directory.specs.declared.fault.StripeFault.{StripeFault}
use Rattle.orc_column_reader.proofs.Fronts.{length-values}
use Rattle.orc_column_reader.proofs.StartFaults.{marks_start, values_start}
use Rattle.orc_column_reader.proofs.StartLemmas.{Alike, marks_alike, numbers_alike, scalar_alike}
use Rattle.orc_values.specs.Childless.{list_of_size, map_of_size, childless_struct}
use Rattle.orc_values.specs.Trues.{trues}
use Rattle.orc_column_walk.specs.OwnColumns.{SpellsSizes, SpellsOwnValues, IsOwnColumn}
use Rattle.orc_column_walk.specs.OwnFaults.{SpellsNoCells}
use Rattle.orc_column_walk.specs.OwnLeft.{SizesLeft, SizedLeft, OwnValuesLeft, children}
use Rattle.orc_column_walk.proofs.RefusedLemmas.{marks_first, needed_is}
use Rattle.orc_column_walk.proofs.RowsOf.{all_values, elements_sum, pairs_sum}
use Rattle.orc_column_walk.proofs.Spread.{AreValues, spread, spread_is}
use Rattle.orc_column_reader.proofs.OneRows.{one_marks}

-- ---- what is spelled beside the marks are values

stand_values : {X : Type 0} (stands : X → Cell → Type 0) → ((x : X) (v : Cell) → stands x v → is_value v ≡ true) → (xs : List X) (vs : List Cell) → AllZip stands xs vs → AreValues vs
stand_values stands one [] [] h = tt
stand_values stands one [] (v ∷ vs) h = absurd h
stand_values stands one (x ∷ xs) [] h = absurd h
stand_values stands one (x ∷ xs) (v ∷ vs) h = (one x v h.0, stand_values stands one xs vs h.1)

word_value : (entries : List (List ℕ)) (n : _) (v : Cell) → IsEntry entries n v → is_value v ≡ true
word_value entries (pos i) v h = ap is_value h.2.1
word_value entries (negsuc i) v h = absurd h

text_values : (x : Streams) (dictionary : Bool) (vs : List Cell) → SpellsTexts x dictionary vs → AreValues vs
text_values x true vs h = stand_values (IsEntry h.0) (word_value h.0) h.2.0 vs h.2.1
text_values x false vs h = stand_values IsText (λ b v s. ap is_value s.1) h.0 vs h.1

scalar_values : (k : Scalar) (x : Streams) (vs : List Cell) → SpellsScalar k x vs → AreValues vs
scalar_values kind.Boolean x vs h = stand_values _ (λ b v s. ap is_value s) h.0 vs h.1
scalar_values kind.Byte x vs h = stand_values _ (λ b v s. ap is_value s.1) h.0 vs h.1
scalar_values kind.Short x vs h = stand_values _ (λ b v s. ap is_value s.1) h.0 vs h.1
scalar_values kind.Int x vs h = stand_values _ (λ b v s. ap is_value s.1) h.0 vs h.1
scalar_values kind.Long x vs h = stand_values _ (λ b v s. ap is_value s.1) h.0 vs h.1
scalar_values kind.Date x vs h = stand_values _ (λ b v s. ap is_value s.1) h.0 vs h.1
scalar_values kind.Binary x vs h = stand_values _ (λ b v s. ap is_value s.1) h.0 vs h.1
scalar_values kind.String x vs h = text_values x (has_dictionary x) vs h

structs_values : (n : ℕ) → AreValues (replicate n childless_struct)
structs_values zero = tt
structs_values (suc n) = (refl, structs_values n)

own_values_are : (s : Shape) (x : Streams) (vs : List Cell) → SpellsOwnValues s x vs → AreValues vs
own_values_are (scalar k o) x vs h = scalar_values k x vs h
own_values_are (list_of s o) x vs h = subst AreValues (sym h.2) (all_values list_of_size (λ n. refl) h.0)
own_values_are (map_of k v o) x vs h = subst AreValues (sym h.2) (all_values map_of_size (λ n. refl) h.0)
own_values_are (struct_of fs o) x vs h = subst AreValues (sym h) (structs_values (length vs))

-- ---- the values that a reader has left at the start are those of the column

sized_alike : (sized : ℕ → Cell) (x : Streams) (r : ValueSource) → NumbersStart (version x) Unsigned (x.stream 2) r.numbers → r.room ≡ most_cells → Alike (SizedLeft sized r) (SpellsSizes sized x)
sized_alike sized x r s room =
    let n = numbers_alike (version x) Unsigned (x.stream 2) r.numbers s in
    record {
      to = λ vs h. (h.0, n.to (map pos h.0) h.1.0, h.2, omega (arith, h.1.1, room));
      from = λ vs h. (h.0, (n.from (map pos h.0) h.1, omega (arith, h.3, room)), h.2);
    }

values_alike : (s : Shape) (x : Streams) (r : ValueSource) → SourceStart s x r → Alike (OwnValuesLeft s r) (SpellsOwnValues s x)
values_alike (scalar k o) x r s = scalar_alike k x r s
values_alike (list_of t o) x r s = sized_alike list_of_size x r s.0 s.1
values_alike (map_of k v o) x r s = sized_alike map_of_size x r s.0 s.1
values_alike (struct_of fs o) x r s = record { to = λ vs h. h; from = λ vs h. h }

-- a column's own cells, by its marks and values
pub own_found : (s : Shape) (x : Streams) (r : ColumnReader) (n v : ℕ) (marks : List Bool) (vs : List Cell) → OwnStart s x r → n < cell_limit → length marks ≡ n → MarksLeft r.present marks → v ≡ trues marks
    → length vs ≡ v → OwnValuesLeft s r.source vs → (own : List Cell) × IsOwnColumn s x n own × (children s vs ≡ children s (values own)) × (map is_value own ≡ marks) × (values own ≡ vs)
own_found s x r n v marks vs start few long m count as_many h =
    let spelled = (values_alike s x r.source start.1).to vs h in
    let p = spread_is marks vs (own_values_are s x vs spelled) (as_many ∙ count) in
    let own = spread marks vs in (
      own,
      record {
        counted = sym (length-map own is_value) ∙ ap length p.marks ∙ long;
        few = few;
        spelled = (
          subst (Marks (x.stream 0)) (sym p.marks) ((marks_alike (x.stream 0) r.present start.0).to marks m),
          subst (SpellsOwnValues s x) (sym p.values_are) spelled,
        );
      },
      ap (children s) (sym p.values_are),
      p.marks,
      p.values_are,
    )

-- the columns below have few cells
sized_few : (sizes : List ℕ) (r : ValueSource) (n : ℕ) → SizesLeft r sizes → r.room ≡ most_cells → n ≡ sum sizes → n < cell_limit
sized_few sizes r n h room is = omega (arith, h.1, room, is)

pub trues_few : (marks : List Bool) → trues marks ≤ length marks
trues_few [] = omega arith
trues_few (false ∷ marks) = omega (arith, trues_few marks)
trues_few (true ∷ marks) = omega (arith, trues_few marks)

pub children_few : (s : Shape) (x : Streams) (r : ValueSource) (n v : ℕ) (marks : List Bool) (vs : List Cell) → SourceStart s x r → n < cell_limit → length marks ≡ n → v ≡ trues marks → length vs ≡ v → OwnValuesLeft s r vs
    → children s vs < cell_limit
children_few (scalar k o) x r n v marks vs start few long count as_many h = omega arith
children_few (list_of t o) x r n v marks vs start few long count as_many h = sized_few h.0 r (children (list_of t o) vs) h.1 start.1 (ap (λ cs. length (flat_map parts cs)) h.2 ∙ elements_sum h.0)
children_few (map_of k w o) x r n v marks vs start few long count as_many h = sized_few h.0 r (children (map_of k w o) vs) h.1 start.1 (ap (λ cs. length (flat_map pairs_in cs)) h.2 ∙ pairs_sum h.0)
children_few (struct_of fs o) x r n v marks vs start few long count as_many h = omega (arith, few, long, count, as_many, trues_few marks)

-- ---- refusals

-- there is no dictionary
lacking_texts : (x : Streams) (dictionary : Bool) (vs : List Cell) → LacksEntries dictionary x → SpellsTexts x dictionary vs → ⊥
lacking_texts x true vs none h = none h.0 h.1
lacking_texts x false vs none h = absurd none

lacking : (s : Shape) (x : Streams) (vs : List Cell) → HasNoDictionary s x → SpellsOwnValues s x vs → ⊥
lacking (scalar kind.Boolean o) x vs none h = none
lacking (scalar kind.Byte o) x vs none h = none
lacking (scalar kind.Short o) x vs none h = none
lacking (scalar kind.Int o) x vs none h = none
lacking (scalar kind.Long o) x vs none h = none
lacking (scalar kind.Date o) x vs none h = none
lacking (scalar kind.Binary o) x vs none h = none
lacking (scalar kind.String o) x vs none h = lacking_texts x (has_dictionary x) vs none h
lacking (list_of s o) x vs none h = none
lacking (map_of k v o) x vs none h = none
lacking (struct_of fs o) x vs none h = none

pub refused_entries : (s : Shape) (x : Streams) (c n : ℕ) (f : StripeFault) → HasNoDictionary s x → DictionaryFails s x c f → (all : Bool) × SpellsNoCells s x c all n f
refused_entries s x c n f none h = (false, record { none = λ own is. lacking s x (values own) none is.spelled.1; fault = inr (inl h) })

pub refused_marks : (s : Shape) (x : Streams) (r : ColumnReader) (c n : ℕ) (f : StripeFault) → OwnStart s x r → ((marks : List Bool) → MarksLeft r.present marks → length marks ≡ n → ⊥)
    → (all : Bool) × RunsFail Present c (Always all n (MarksMeet r.present)) f → (all : Bool) × SpellsNoCells s x c all n f
refused_marks s x r c n f start none h = (
  h.0,
  record {
    none = λ own is. none (map is_value own) ((marks_alike (x.stream 0) r.present start.0).from (map is_value own) is.spelled.0) (length-map own is_value ∙ is.counted);
    fault = inl (marks_start (x.stream 0) r.present c c h.0 n f start.0 refl h.1);
  },
)

pub refused_values : (s : Shape) (x : Streams) (r : ColumnReader) (c n v : ℕ) (marks : List Bool) (f : StripeFault) → OwnStart s x r → r.source.column ≡ c → length marks ≡ n → MarksLeft r.present marks → v ≡ trues marks
    → ((vs : List Cell) → OwnValuesLeft s r.source vs → length vs ≡ v → ⊥) → (all : Bool) × ValuesMeet s r.source all v f → (all : Bool) × SpellsNoCells s x c all n f
refused_values s x r c n v marks f start column long m count none h =
    let spelled = (marks_alike (x.stream 0) r.present start.0).to marks m in (
      h.0,
      record {
        none = λ own is.
            let same = one_marks (x.stream 0) (map is_value own) marks is.spelled.0 spelled (length-map own is_value ∙ is.counted ∙ sym long) in
            none (values own) ((values_alike s x r.source start.1).from (values own) is.spelled.1) (length-values own ∙ ap trues same ∙ sym count);
        fault = inr (inr (v, record { marks = marks; come_first = marks_first (x.stream 0) marks spelled; known = needed_is h.0 (length marks) n long; counted = count }, values_start s x r.source c h.0 v f start.1 column h.1));
      },
    )
