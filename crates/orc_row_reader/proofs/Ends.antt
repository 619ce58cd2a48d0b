-- Where nothing is left.
use Rattle.std.proofs.Common.{◌≡◌, ℕ, ◌-◌, ◌≤◌, List, [], ◌∷◌, length, take, drop, get_or, refl, sym, ap, ◌∙◌, subst, arith, length-drop}
use Rattle.std.proofs.Math.Seq.{take-length}
use Rattle.orc_values.specs.Shapes.{Shape, scalar, list_of, map_of, struct_of, Fields, field, width}
use Rattle.orc_values.specs.declared.kind.Scalar.{Scalar}
use Rattle.orc_column_reader.specs.declared.column.ColumnReader.{ColumnReader}
use Rattle.orc_column_reader.specs.Numbers.{NumbersLeft}
use Rattle.orc_column_reader.specs.Spellings.{Fielded, zip_cons}
use Rattle.orc_column_reader.specs.Columns.{IsList, IsMap, IsRecord, MarksLeft, ScalarLeft, CellsLeft, OwnLeft, ValuesLeft, ListsLeft, MapsLeft, PairsLeft, FieldsLeft}
use Rattle.orc_row_reader.proofs.Arms.{behind}
use Rattle.orc_column_reader.proofs.Ends.{standing_end, standing_ends}

-- ---- the ways of spelling

parts_end : {X : Type 0} (first : List X → Type 0) (others : List (List X) → Type 0) (heads : List X) (tails : List (List X)) → length heads ≡ length tails → [] ≡ zip_cons heads tails → first heads → others tails → first [] × others []
parts_end first others [] [] l e p q = (p, q)
parts_end first others [] (y ∷ ys) l e p q = absurd (omega (arith, l))
parts_end first others (x ∷ xs) [] l e p q = absurd (omega (arith, l))
parts_end first others (x ∷ xs) (y ∷ ys) l e p q = cc

pub fielded_end : {X : Type 0} (first : List X → Type 0) (others : List (List X) → Type 0) → Fielded first others [] → first [] × others []
fielded_end first others r = parts_end first others r.heads r.tails r.alike r.parts r.first_spelled r.others_spelled

pub fielded_ends : {X : Type 0} (first : List X → Type 0) (others : List (List X) → Type 0) → first [] → others [] → Fielded first others []
fielded_ends first others p q = record { heads = []; tails = []; alike = refl; parts = refl; first_spelled = p; others_spelled = q }

-- ---- columns

pub cells_ended : (s : Shape) (rs : List ColumnReader) (d : ColumnReader) → 1 ≤ length rs → MarksLeft (get_or rs 0 d).present [] → OwnLeft s rs [] → CellsLeft s rs []
cells_ended s [] d some p q = absurd (omega (arith, some))
cells_ended s (own ∷ below) d some p q = (p, q)

pub cells_marks : (s : Shape) (rs : List ColumnReader) (d : ColumnReader) → CellsLeft s rs [] → MarksLeft (get_or rs 0 d).present []
cells_marks s [] d h = absurd h
cells_marks s (own ∷ below) d h = h.0

pub cells_values : (s : Shape) (rs : List ColumnReader) → CellsLeft s rs [] → OwnLeft s rs []
cells_values s [] h = h
cells_values s (own ∷ below) h = h.1

pub scalar_ended : (s : Shape) (k : Scalar) (o : List ℕ) (rs : List ColumnReader) (d : ColumnReader) → s ≡ scalar k o → 1 ≤ length rs → ScalarLeft k (get_or rs 0 d).source [] → OwnLeft s rs []
scalar_ended s k o [] d is some p = absurd (omega (arith, some))
scalar_ended s k o (own ∷ below) d is some p = rw is p

pub list_ended : (s e : Shape) (o : List ℕ) (rs : List ColumnReader) (d : ColumnReader) → s ≡ list_of e o → 1 ≤ length rs → NumbersLeft (get_or rs 0 d).source.numbers [] → CellsLeft e (take (length rs - 1) (drop 1 rs)) [] → OwnLeft s rs []
list_ended s e o [] d is some p q = absurd (omega (arith, some))
list_ended s e o (own ∷ below) d is some p q =
    rw is (standing_ends IsList (ListsLeft e own.source below) (p, (omega arith, subst (λ t. CellsLeft e t []) (behind own below) q)))

pub list_numbers : (s e : Shape) (o : List ℕ) (rs : List ColumnReader) (d : ColumnReader) → s ≡ list_of e o → OwnLeft s rs [] → NumbersLeft (get_or rs 0 d).source.numbers []
list_numbers s e o [] d is h = absurd h
list_numbers s e o (own ∷ below) d is h = (standing_end IsList (ListsLeft e own.source below) (subst (λ t. ValuesLeft t own.source below []) is h)).0

pub list_cells : (s e : Shape) (o : List ℕ) (rs : List ColumnReader) → s ≡ list_of e o → OwnLeft s rs [] → CellsLeft e (take (length rs - 1) (drop 1 rs)) []
list_cells s e o [] is h = absurd h
list_cells s e o (own ∷ below) is h =
    subst (λ t. CellsLeft e t []) (sym (behind own below)) (standing_end IsList (ListsLeft e own.source below) (subst (λ t. ValuesLeft t own.source below []) is h)).1.1

pub map_ended : (s k v : Shape) (o : List ℕ) (rs : List ColumnReader) (d : ColumnReader) → s ≡ map_of k v o → 1 ≤ length rs → NumbersLeft (get_or rs 0 d).source.numbers [] → PairsLeft k v (take (length rs - 1) (drop 1 rs)) [] → OwnLeft s rs []
map_ended s k v o [] d is some p q = absurd (omega (arith, some))
map_ended s k v o (own ∷ below) d is some p q =
    rw is (standing_ends IsMap (MapsLeft k v own.source below) (p, (omega arith, subst (λ t. PairsLeft k v t []) (behind own below) q)))

pub map_numbers : (s k v : Shape) (o : List ℕ) (rs : List ColumnReader) (d : ColumnReader) → s ≡ map_of k v o → OwnLeft s rs [] → NumbersLeft (get_or rs 0 d).source.numbers []
map_numbers s k v o [] d is h = absurd h
map_numbers s k v o (own ∷ below) d is h = (standing_end IsMap (MapsLeft k v own.source below) (subst (λ t. ValuesLeft t own.source below []) is h)).0

pub map_pairs : (s k v : Shape) (o : List ℕ) (rs : List ColumnReader) → s ≡ map_of k v o → OwnLeft s rs [] → PairsLeft k v (take (length rs - 1) (drop 1 rs)) []
map_pairs s k v o [] is h = absurd h
map_pairs s k v o (own ∷ below) is h =
    subst (λ t. PairsLeft k v t []) (sym (behind own below)) (standing_end IsMap (MapsLeft k v own.source below) (subst (λ t. ValuesLeft t own.source below []) is h)).1.1

pub struct_ended : (s : Shape) (fs : Fields) (o : List ℕ) (rs : List ColumnReader) → s ≡ struct_of fs o → 1 ≤ length rs → FieldsLeft fs (take (length rs - 1) (drop 1 rs)) [] → OwnLeft s rs []
struct_ended s fs o [] is some p = absurd (omega (arith, some))
struct_ended s fs o (own ∷ below) is some p = rw is (standing_ends IsRecord (FieldsLeft fs below) (subst (λ t. FieldsLeft fs t []) (behind own below) p))

pub struct_fields : (s : Shape) (fs : Fields) (o : List ℕ) (rs : List ColumnReader) → s ≡ struct_of fs o → OwnLeft s rs [] → FieldsLeft fs (take (length rs - 1) (drop 1 rs)) []
struct_fields s fs o [] is h = absurd h
struct_fields s fs o (own ∷ below) is h =
    subst (λ t. FieldsLeft fs t []) (sym (behind own below)) (standing_end IsRecord (FieldsLeft fs below) (subst (λ t. ValuesLeft t own.source below []) is h))

-- ---- a test and what it says

pub rest_of : {X : Type 0} (w : ℕ) (rs : List X) → take (length rs - w) (drop w rs) ≡ drop w rs
rest_of w rs = ap (λ n. take n (drop w rs)) (sym (length-drop w rs)) ∙ take-length (drop w rs)

pub fields_ended : (all : Fields) (name : List ℕ) (s : Shape) (fs : Fields) (rs own rest : List ColumnReader) → all ≡ field name s fs → own ≡ take (width s) rs → rest ≡ drop (width s) rs
    → CellsLeft s own [] → FieldsLeft fs rest [] → FieldsLeft all rs []
fields_ended all name s fs rs own rest e eo er p q =
    rw e (fielded_ends (CellsLeft s (take (width s) rs)) (FieldsLeft fs (drop (width s) rs)) (subst (λ t. CellsLeft s t []) eo p) (subst (λ t. FieldsLeft fs t []) er q))

pub fields_first : (all : Fields) (name : List ℕ) (s : Shape) (fs : Fields) (rs own : List ColumnReader) → all ≡ field name s fs → own ≡ take (width s) rs → FieldsLeft all rs [] → CellsLeft s own []
fields_first all name s fs rs own e eo h =
    subst (λ t. CellsLeft s t []) (sym eo) (fielded_end (CellsLeft s (take (width s) rs)) (FieldsLeft fs (drop (width s) rs)) (subst (λ t. FieldsLeft t rs []) e h)).0

pub fields_others : (all : Fields) (name : List ℕ) (s : Shape) (fs : Fields) (rs rest : List ColumnReader) → all ≡ field name s fs → rest ≡ drop (width s) rs → FieldsLeft all rs [] → FieldsLeft fs rest []
fields_others all name s fs rs rest e er h =
    subst (λ t. FieldsLeft fs t []) (sym er) (fielded_end (CellsLeft s (take (width s) rs)) (FieldsLeft fs (drop (width s) rs)) (subst (λ t. FieldsLeft t rs []) e h)).1
