-- Which fault of a column's readers stands, along the arms of the reader that goes down a schema.
use Rattle.std.proofs.Common.{◌≡◌, ℕ, suc, ◌+◌, ◌-◌, ◌≤◌, Bool, true, false, pos, List, [], ◌∷◌, ◌++◌, length, take, drop, get_or, slice_set, refl, sym, ap, ◌∙◌, subst, inl, inr, ◌⊎◌, arith}
use Rattle.std.proofs.Math.Seq.{take-append_seam, drop-append_seam}
use borrow.Rule.Slice.PartMut.{put_mid}
use Rattle.orc_values.specs.Shapes.{Shape, scalar, list_of, map_of, struct_of, Fields, no_field, field, width}
use Rattle.orc_values.specs.declared.kind.Scalar.{Scalar}
use Rattle.orc_rle.specs.declared.fault.RunFault.{RunFault}
use Rattle.orc_column_reader.specs.declared.bits.Bits.{Bits}
use Rattle.std.specs.Prelude.{Option}
use Rattle.orc_column_reader.specs.declared.column.ColumnReader.{ColumnReader}
use Rattle.orc_column_reader.specs.declared.column.ValueSource.{ValueSource}
use Rattle.orc_directory.specs.declared.fault.StreamKind.TheVariants as stream
use Rattle.orc_directory.specs.declared.fault.StripeFault.{StripeFault}
use Rattle.orc_column_reader.specs.Columns.{MarksFirst, column_of, marks_of}
use Rattle.orc_column_reader.specs.Faults.{RunsFail, HasFault, DictionaryFails, ValuesFail, FaultBelow, FaultWithin, FaultDown, TooManyRows, lengths_of}
use Rattle.orc_column_reader.specs.Fronts.{Precedes}
use Rattle.orc_column_reader.specs.Needs.{MarksBegin, ValuesNeeded}
use Rattle.orc_column_reader.specs.Numbers.{NumbersFirst}
use Rattle.orc_column_reader.specs.ReaderFaults.{ScalarMeets, ListsMeet, ValuesMeet, PresentMeets, CellsMeet, BelowMeet, FieldsMeet, OwnMeet, ListsOfMeet, PairsMeet, MapsOfMeet}
use Rattle.orc_column_reader.specs.RunFaults.{Always, IntegersFirst}
use Rattle.orc_column_reader.specs.RunsMet.{MarksMeet}
use Rattle.orc_column_reader.specs.Starting.{SourceStart, IsOf, AreOf, AreReadersBelow, AreFieldReaders}
use Rattle.orc_column_reader.specs.Stripe.{Streams, version}
use Rattle.orc_rle.specs.declared.sign.Sign.TheVariants.{Unsigned}
use Rattle.orc_row_reader.proofs.Arms.{put_behind, behind}
use Rattle.orc_column_reader.proofs.MetLemmas.{none_first, none_marks}
use Rattle.orc_column_reader.proofs.NeedLemmas.{runs_more, values_true, values_false, values_now, values_end, values_none, values_map, elements_more, elements_now, elements_end, elements_none, elements_map, no_marks, no_integers}
use Rattle.orc_column_reader.proofs.StartFaults.{values_start, marks_start, marks_begin, first_start}

-- ---- a cell is read

present_before : (own after : ColumnReader) (present : Option Bits) (all : Bool) (n : ℕ) (f : StripeFault) → after.source.column ≡ own.source.column → after.present ≡ present
    → ((m : ℕ) (g : RunFault) → MarksMeet present m g → MarksMeet own.present (suc m) g) → PresentMeets after all n f → PresentMeets own all (suc n) f
present_before own after present all n f c same p h =
    let k = subst (λ x. RunsFail stream.Present after.source.column (Always all n (MarksMeet x)) f) same h in
    subst (λ c. RunsFail stream.Present c (Always all (suc n) (MarksMeet own.present)) f) c (runs_more stream.Present after.source.column all n (MarksMeet present) (MarksMeet own.present) f p k)

own_values : (s : Shape) (own own' : ColumnReader) (below : List ColumnReader) (all : Bool) (v : ℕ) (f : StripeFault) → own'.source ≡ own.source
    → OwnMeet s (own' ∷ below) all v f → OwnMeet s (own ∷ below) all v f
own_values s own own' below all v f e h = subst (λ r. ValuesMeet s r all v f ⊎ BelowMeet s r below all v f) e h

-- one that is a value
value_before : (s : Shape) (own own' after : ColumnReader) (below below' : List ColumnReader) (all : Bool) (n : ℕ) (f : StripeFault) → own'.source ≡ own.source
    → Precedes (MarksFirst own.present) (MarksFirst own'.present) (true ∷ []) → ((m : ℕ) (g : RunFault) → MarksMeet own'.present m g → MarksMeet own.present (suc m) g)
    → after.source.column ≡ own'.source.column → after.present ≡ own'.present
    → ((v : ℕ) → OwnMeet s (after ∷ below') all v f → OwnMeet s (own' ∷ below) all (suc v) f)
    → CellsMeet s (after ∷ below') all n f → CellsMeet s (own ∷ below) all (suc n) f
value_before s own own' after below below' all n f e p g c same q (inl h) =
    inl (present_before own after own'.present all n f (c ∙ ap (λ (r : ValueSource). r.column) e) same g h)
value_before s own own' after below below' all n f e p g c same q (inr h) =
    let need = subst (λ x. ValuesNeeded all n (MarksFirst x) h.0) same h.1 in
    inr (suc h.0, values_true all n h.0 (MarksFirst own.present) (MarksFirst own'.present) p need, own_values s own own' below all (suc h.0) f e (q h.0 h.2))

pub cell_before : (s : Shape) (before after : List ColumnReader) (own' d : ColumnReader) (all : Bool) (n : ℕ) (f : StripeFault) → 1 ≤ length before → length after ≡ length (slice_set before 0 own')
    → own'.source ≡ (get_or before 0 d).source → Precedes (MarksFirst (get_or before 0 d).present) (MarksFirst own'.present) (true ∷ [])
    → ((m : ℕ) (g : RunFault) → MarksMeet own'.present m g → MarksMeet (get_or before 0 d).present (suc m) g)
    → column_of after ≡ column_of (slice_set before 0 own') → marks_of after ≡ marks_of (slice_set before 0 own')
    → ((v : ℕ) → OwnMeet s after all v f → OwnMeet s (slice_set before 0 own') all (suc v) f)
    → CellsMeet s after all n f → CellsMeet s before all (suc n) f
cell_before s [] after own' d all n f some l e p g c m q h = absurd (omega (arith, some))
cell_before s (own ∷ below) [] own' d all n f some l e p g c m q h = absurd (omega (arith, l))
cell_before s (own ∷ below) (own'' ∷ below') own' d all n f some l e p g c m q h = value_before s own own' own'' below below' all n f e p g c m q h

-- one that is null
null_own : (s : Shape) (own own' : ColumnReader) (below : List ColumnReader) (all : Bool) (n : ℕ) (f : StripeFault) → own'.source ≡ own.source
    → Precedes (MarksFirst own.present) (MarksFirst own'.present) (false ∷ []) → ((m : ℕ) (g : RunFault) → MarksMeet own'.present m g → MarksMeet own.present (suc m) g)
    → CellsMeet s (own' ∷ below) all n f → CellsMeet s (own ∷ below) all (suc n) f
null_own s own own' below all n f e p g (inl h) = inl (present_before own own' own'.present all n f (ap (λ (r : ValueSource). r.column) e) refl g h)
null_own s own own' below all n f e p g (inr h) =
    inr (h.0, values_false all n h.0 (MarksFirst own.present) (MarksFirst own'.present) p h.1, own_values s own own' below all h.0 f e h.2)

pub null_before : (s : Shape) (before : List ColumnReader) (own' d : ColumnReader) (all : Bool) (n : ℕ) (f : StripeFault) → 1 ≤ length before
    → own'.source ≡ (get_or before 0 d).source → Precedes (MarksFirst (get_or before 0 d).present) (MarksFirst own'.present) (false ∷ [])
    → ((m : ℕ) (g : RunFault) → MarksMeet own'.present m g → MarksMeet (get_or before 0 d).present (suc m) g)
    → CellsMeet s (slice_set before 0 own') all n f → CellsMeet s before all (suc n) f
null_before s [] own' d all n f some e p g h = absurd (omega (arith, some))
null_before s (own ∷ below) own' d all n f some e p g h = null_own s own own' below all n f e p g h

-- the mark is read, and the value isn't
pub cell_now : (s : Shape) (before : List ColumnReader) (own' d : ColumnReader) (n : ℕ) (f : StripeFault) → 1 ≤ length before
    → own'.source ≡ (get_or before 0 d).source → Precedes (MarksFirst (get_or before 0 d).present) (MarksFirst own'.present) (true ∷ [])
    → OwnMeet s (slice_set before 0 own') false 1 f → CellsMeet s before false (suc n) f
cell_now s [] own' d n f some e p h = absurd (omega (arith, some))
cell_now s (own ∷ below) own' d n f some e p h =
    inr (1, values_now n (MarksFirst own.present) (MarksFirst own'.present) p (none_marks own'.present), own_values s own own' below false 1 f e h)

pub cell_mark : (s : Shape) (before : List ColumnReader) (d : ColumnReader) (all : Bool) (n : ℕ) (f : StripeFault) → 1 ≤ length before → PresentMeets (get_or before 0 d) all n f → CellsMeet s before all n f
cell_mark s [] d all n f some h = absurd (omega (arith, some))
cell_mark s (own ∷ below) d all n f some h = inl h

-- no cell is to be read, and values are left over
pub cell_over : (s : Shape) (readers : List ColumnReader) (f : StripeFault) → OwnMeet s readers true 0 f → CellsMeet s readers true 0 f
cell_over s [] f h = h
cell_over s (own ∷ below) f h = inr (0, values_end (MarksFirst own.present) (none_marks own.present), h)

-- ---- a value is read

pub scalar_before : (s : Shape) (k : Scalar) (o : List ℕ) (before : List ColumnReader) (d : ColumnReader) (source : ValueSource) (all : Bool) (n : ℕ) (f : StripeFault) → s ≡ scalar k o → 1 ≤ length before
    → (ScalarMeets k source all n f → ScalarMeets k (get_or before 0 d).source all (suc n) f)
    → OwnMeet s (slice_set before 0 (record { present = (get_or before 0 d).present; source = source })) all n f → OwnMeet s before all (suc n) f
scalar_before s k o [] d source all n f is some p h = absurd (omega (arith, some))
scalar_before s k o (own ∷ below) d source all n f is some p h =
    subst (λ z. OwnMeet z (own ∷ below) all (suc n) f) (sym is)
    (scalar_own k o own source below all n f p (subst (λ z. OwnMeet z (record { present = own.present; source = source } ∷ below) all n f) is h))
  where
    scalar_own : (k : Scalar) (o : List ℕ) (own : ColumnReader) (source : ValueSource) (below : List ColumnReader) (all : Bool) (n : ℕ) (f : StripeFault) → (ScalarMeets k source all n f → ScalarMeets k own.source all (suc n) f)
        → OwnMeet (scalar k o) (record { present = own.present; source = source } ∷ below) all n f → OwnMeet (scalar k o) (own ∷ below) all (suc n) f
    scalar_own k o own source below all n f p (inl h) = inl (p h)
    scalar_own k o own source below all n f p (inr h) = absurd h

pub own_scalar : (s : Shape) (k : Scalar) (o : List ℕ) (before : List ColumnReader) (d : ColumnReader) (all : Bool) (n : ℕ) (f : StripeFault) → s ≡ scalar k o → 1 ≤ length before
    → ScalarMeets k (get_or before 0 d).source all n f → OwnMeet s before all n f
own_scalar s k o [] d all n f is some h = absurd (omega (arith, some))
own_scalar s k o (own ∷ below) d all n f is some h = subst (λ z. OwnMeet z (own ∷ below) all n f) (sym is) (inl h)

pub lists_own : (s e : Shape) (o : List ℕ) (readers : List ColumnReader) (all : Bool) (n : ℕ) (f : StripeFault) → s ≡ list_of e o → ListsOfMeet e readers all n f → OwnMeet s readers all n f
lists_own s e o [] all n f is h = h
lists_own s e o (own ∷ below) all n f is h = subst (λ z. OwnMeet z (own ∷ below) all n f) (sym is) h

pub own_lists : (s e : Shape) (o : List ℕ) (readers : List ColumnReader) (all : Bool) (n : ℕ) (f : StripeFault) → s ≡ list_of e o → OwnMeet s readers all n f → ListsOfMeet e readers all n f
own_lists s e o [] all n f is h = h
own_lists s e o (own ∷ below) all n f is h = subst (λ z. OwnMeet z (own ∷ below) all n f) is h

pub maps_own : (s k v : Shape) (o : List ℕ) (readers : List ColumnReader) (all : Bool) (n : ℕ) (f : StripeFault) → s ≡ map_of k v o → MapsOfMeet k v readers all n f → OwnMeet s readers all n f
maps_own s k v o [] all n f is h = h
maps_own s k v o (own ∷ below) all n f is h = subst (λ z. OwnMeet z (own ∷ below) all n f) (sym is) h

pub own_maps : (s k v : Shape) (o : List ℕ) (readers : List ColumnReader) (all : Bool) (n : ℕ) (f : StripeFault) → s ≡ map_of k v o → OwnMeet s readers all n f → MapsOfMeet k v readers all n f
own_maps s k v o [] all n f is h = h
own_maps s k v o (own ∷ below) all n f is h = subst (λ z. OwnMeet z (own ∷ below) all n f) is h

struct_own : (fs : Fields) (o : List ℕ) (own : ColumnReader) (below ys : List ColumnReader) (all : Bool) (n : ℕ) (f : StripeFault) → (FieldsMeet fs ys all n f → FieldsMeet fs below all (suc n) f)
    → OwnMeet (struct_of fs o) (own ∷ ys) all n f → OwnMeet (struct_of fs o) (own ∷ below) all (suc n) f
struct_own fs o own below ys all n f q (inl h) = absurd h
struct_own fs o own below ys all n f q (inr h) = inr (q h)

pub struct_before : (s : Shape) (fs : Fields) (o : List ℕ) (before ys : List ColumnReader) (all : Bool) (n : ℕ) (f : StripeFault) → s ≡ struct_of fs o → 1 ≤ length before
    → (FieldsMeet fs ys all n f → FieldsMeet fs (take (length before - 1) (drop 1 before)) all (suc n) f) → OwnMeet s (put_mid 1 (length before - 1) before ys) all n f → OwnMeet s before all (suc n) f
struct_before s fs o [] ys all n f is some q h = absurd (omega (arith, some))
struct_before s fs o (own ∷ below) ys all n f is some q h =
    subst (λ z. OwnMeet z (own ∷ below) all (suc n) f) (sym is)
    (struct_own fs o own below ys all n f (λ k. subst (λ t. FieldsMeet fs t all (suc n) f) (behind own below) (q k)) (subst (λ z. OwnMeet z (own ∷ ys) all n f) is (subst (λ t. OwnMeet s t all n f) (put_behind own below ys) h)))

pub own_struct_meets : (s : Shape) (fs : Fields) (o : List ℕ) (before : List ColumnReader) (all : Bool) (n : ℕ) (f : StripeFault) → s ≡ struct_of fs o → 1 ≤ length before
    → FieldsMeet fs (take (length before - 1) (drop 1 before)) all n f → OwnMeet s before all n f
own_struct_meets s fs o [] all n f is some h = absurd (omega (arith, some))
own_struct_meets s fs o (own ∷ below) all n f is some h = subst (λ z. OwnMeet z (own ∷ below) all n f) (sym is) (inr (subst (λ t. FieldsMeet fs t all n f) (behind own below) h))

-- ---- a list is read

list_own : (e : Shape) (own own' : ColumnReader) (below ys : List ColumnReader) (all : Bool) (n size : ℕ) (f : StripeFault) → Precedes (NumbersFirst own.source.numbers) (NumbersFirst own'.source.numbers) (pos size ∷ [])
    → (ListsMeet own'.source all n f → ListsMeet own.source all (suc n) f) → ((m : ℕ) → CellsMeet e ys all m f → CellsMeet e below all (size + m) f) → ListsOfMeet e (own' ∷ ys) all n f → ListsOfMeet e (own ∷ below) all (suc n) f
list_own e own own' below ys all n size f first p q (inl h) = inl (p h)
list_own e own own' below ys all n size f first p q (inr h) =
    inr (size + h.0, elements_more all n size h.0 (NumbersFirst own.source.numbers) (NumbersFirst own'.source.numbers) first h.1, q h.0 h.2)

pub list_before : (e : Shape) (before ys : List ColumnReader) (d : ColumnReader) (own' : ColumnReader) (all : Bool) (n size : ℕ) (f : StripeFault) → 1 ≤ length before
    → Precedes (NumbersFirst (get_or before 0 d).source.numbers) (NumbersFirst own'.source.numbers) (pos size ∷ []) → (ListsMeet own'.source all n f → ListsMeet (get_or before 0 d).source all (suc n) f)
    → ((m : ℕ) → CellsMeet e ys all m f → CellsMeet e (take (length (slice_set before 0 own') - 1) (drop 1 (slice_set before 0 own'))) all (size + m) f)
    → ListsOfMeet e (put_mid 1 (length (slice_set before 0 own') - 1) (slice_set before 0 own') ys) all n f → ListsOfMeet e before all (suc n) f
list_before e [] ys d own' all n size f some first p q h = absurd (omega (arith, some))
list_before e (own ∷ below) ys d own' all n size f some first p q h =
    list_own e own own' below ys all n size f first p (λ m k. subst (λ t. CellsMeet e t all (size + m) f) (behind own' below) (q m k)) (subst (λ t. ListsOfMeet e t all n f) (put_behind own' below ys) h)

pub lists_size : (e : Shape) (before : List ColumnReader) (d : ColumnReader) (all : Bool) (n : ℕ) (f : StripeFault) → 1 ≤ length before → ListsMeet (get_or before 0 d).source all n f → ListsOfMeet e before all n f
lists_size e [] d all n f some h = absurd (omega (arith, some))
lists_size e (own ∷ below) d all n f some h = inl h

-- the length is read, and an element isn't
pub lists_elements : (e : Shape) (before : List ColumnReader) (d : ColumnReader) (own' : ColumnReader) (n size : ℕ) (f : StripeFault) → 1 ≤ length before
    → Precedes (NumbersFirst (get_or before 0 d).source.numbers) (NumbersFirst own'.source.numbers) (pos size ∷ [])
    → CellsMeet e (take (length (slice_set before 0 own') - 1) (drop 1 (slice_set before 0 own'))) false (size + 0) f → ListsOfMeet e before false (suc n) f
lists_elements e [] d own' n size f some first h = absurd (omega (arith, some))
lists_elements e (own ∷ below) d own' n size f some first h =
    let z : size + 0 ≡ size = omega arith in
    let k = subst (λ t. CellsMeet e t false (size + 0) f) (behind own' below) h in
    inr (size, elements_now n size (NumbersFirst own.source.numbers) (NumbersFirst own'.source.numbers) first (none_first own'.source.numbers), subst (λ m. CellsMeet e below false m f) z k)

-- no list is to be read, and elements are left over
pub lists_below : (e : Shape) (readers : List ColumnReader) (f : StripeFault) → 1 ≤ length readers → CellsMeet e (take (length readers - 1) (drop 1 readers)) true 0 f → ListsOfMeet e readers true 0 f
lists_below e [] f some h = absurd (omega (arith, some))
lists_below e (own ∷ below) f some h =
    inr (0, elements_end (NumbersFirst own.source.numbers) (none_first own.source.numbers), subst (λ t. CellsMeet e t true 0 f) (behind own below) h)

-- ---- a map is read

map_own : (k v : Shape) (own own' : ColumnReader) (below ys : List ColumnReader) (all : Bool) (n size : ℕ) (f : StripeFault) → Precedes (NumbersFirst own.source.numbers) (NumbersFirst own'.source.numbers) (pos size ∷ [])
    → (ListsMeet own'.source all n f → ListsMeet own.source all (suc n) f) → ((m : ℕ) → PairsMeet k v ys all m f → PairsMeet k v below all (size + m) f) → MapsOfMeet k v (own' ∷ ys) all n f → MapsOfMeet k v (own ∷ below) all (suc n) f
map_own k v own own' below ys all n size f first p q (inl h) = inl (p h)
map_own k v own own' below ys all n size f first p q (inr h) =
    inr (size + h.0, elements_more all n size h.0 (NumbersFirst own.source.numbers) (NumbersFirst own'.source.numbers) first h.1, q h.0 h.2)

pub map_before : (k v : Shape) (before ys : List ColumnReader) (d : ColumnReader) (own' : ColumnReader) (all : Bool) (n size : ℕ) (f : StripeFault) → 1 ≤ length before
    → Precedes (NumbersFirst (get_or before 0 d).source.numbers) (NumbersFirst own'.source.numbers) (pos size ∷ []) → (ListsMeet own'.source all n f → ListsMeet (get_or before 0 d).source all (suc n) f)
    → ((m : ℕ) → PairsMeet k v ys all m f → PairsMeet k v (take (length (slice_set before 0 own') - 1) (drop 1 (slice_set before 0 own'))) all (size + m) f)
    → MapsOfMeet k v (put_mid 1 (length (slice_set before 0 own') - 1) (slice_set before 0 own') ys) all n f → MapsOfMeet k v before all (suc n) f
map_before k v [] ys d own' all n size f some first p q h = absurd (omega (arith, some))
map_before k v (own ∷ below) ys d own' all n size f some first p q h =
    map_own k v own own' below ys all n size f first p (λ m r. subst (λ t. PairsMeet k v t all (size + m) f) (behind own' below) (q m r)) (subst (λ t. MapsOfMeet k v t all n f) (put_behind own' below ys) h)

pub maps_size : (k v : Shape) (before : List ColumnReader) (d : ColumnReader) (all : Bool) (n : ℕ) (f : StripeFault) → 1 ≤ length before → ListsMeet (get_or before 0 d).source all n f → MapsOfMeet k v before all n f
maps_size k v [] d all n f some h = absurd (omega (arith, some))
maps_size k v (own ∷ below) d all n f some h = inl h

-- how many pairs there are is read, and a pair isn't
pub maps_pairs : (k v : Shape) (before : List ColumnReader) (d : ColumnReader) (own' : ColumnReader) (n size : ℕ) (f : StripeFault) → 1 ≤ length before
    → Precedes (NumbersFirst (get_or before 0 d).source.numbers) (NumbersFirst own'.source.numbers) (pos size ∷ [])
    → PairsMeet k v (take (length (slice_set before 0 own') - 1) (drop 1 (slice_set before 0 own'))) false (size + 0) f → MapsOfMeet k v before false (suc n) f
maps_pairs k v [] d own' n size f some first h = absurd (omega (arith, some))
maps_pairs k v (own ∷ below) d own' n size f some first h =
    let z : size + 0 ≡ size = omega arith in
    let r = subst (λ t. PairsMeet k v t false (size + 0) f) (behind own' below) h in
    inr (size, elements_now n size (NumbersFirst own.source.numbers) (NumbersFirst own'.source.numbers) first (none_first own'.source.numbers), subst (λ m. PairsMeet k v below false m f) z r)

-- no map is to be read, and keys or values are left over
pub maps_below : (k v : Shape) (readers : List ColumnReader) (f : StripeFault) → 1 ≤ length readers → PairsMeet k v (take (length readers - 1) (drop 1 readers)) true 0 f → MapsOfMeet k v readers true 0 f
maps_below k v [] f some h = absurd (omega (arith, some))
maps_below k v (own ∷ below) f some h =
    inr (0, elements_end (NumbersFirst own.source.numbers) (none_first own.source.numbers), subst (λ t. PairsMeet k v t true 0 f) (behind own below) h)

-- ---- a pair is read

pair_own : (k v : Shape) (before after : List ColumnReader) (all : Bool) (n : ℕ) (f : StripeFault) → (CellsMeet k (take (width k) after) all n f → CellsMeet k (take (width k) before) all (suc n) f)
    → (CellsMeet v (drop (width k) after) all n f → CellsMeet v (drop (width k) before) all (suc n) f) → PairsMeet k v after all n f → PairsMeet k v before all (suc n) f
pair_own k v before after all n f p q (inl h) = inl (p h)
pair_own k v before after all n f p q (inr h) = inr (q h)

pub pair_before : (k v : Shape) (before after own own' rest rest' : List ColumnReader) (all : Bool) (n : ℕ) (f : StripeFault)
    → own ≡ take (width k) before → rest ≡ drop (width k) before → after ≡ own' ++ rest' → length own' ≡ width k
    → (CellsMeet k own' all n f → CellsMeet k own all (suc n) f) → (CellsMeet v rest' all n f → CellsMeet v rest all (suc n) f) → PairsMeet k v after all n f → PairsMeet k v before all (suc n) f
pair_before k v before after own own' rest rest' all n f eo er ea w p q h =
    let to : take (width k) after ≡ own' = ap (λ t. take (width k) t) ea ∙ ap (λ m. take m (own' ++ rest')) (sym w) ∙ take-append_seam own' rest' in
    let tr : drop (width k) after ≡ rest' = ap (λ t. drop (width k) t) ea ∙ ap (λ m. drop m (own' ++ rest')) (sym w) ∙ drop-append_seam own' rest' in
    pair_own k v before after all n f (λ r. subst (λ t. CellsMeet k t all (suc n) f) eo (p (subst (λ t. CellsMeet k t all n f) to r))) (λ r. subst (λ t. CellsMeet v t all (suc n) f) er (q (subst (λ t. CellsMeet v t all n f) tr r))) h

-- ---- the fields of a struct are read

field_own : (name : List ℕ) (s : Shape) (fs : Fields) (before after : List ColumnReader) (all : Bool) (n : ℕ) (f : StripeFault) → (CellsMeet s (take (width s) after) all n f → CellsMeet s (take (width s) before) all (suc n) f)
    → (FieldsMeet fs (drop (width s) after) all n f → FieldsMeet fs (drop (width s) before) all (suc n) f) → FieldsMeet (field name s fs) after all n f → FieldsMeet (field name s fs) before all (suc n) f
field_own name s fs before after all n f p q (inl h) = inl (p h)
field_own name s fs before after all n f p q (inr h) = inr (q h)

pub fields_before : (every : Fields) (name : List ℕ) (s : Shape) (fs : Fields) (before after own own' rest rest' : List ColumnReader) (all : Bool) (n : ℕ) (f : StripeFault)
    → every ≡ field name s fs → own ≡ take (width s) before → rest ≡ drop (width s) before → after ≡ own' ++ rest' → length own' ≡ width s
    → (CellsMeet s own' all n f → CellsMeet s own all (suc n) f) → (FieldsMeet fs rest' all n f → FieldsMeet fs rest all (suc n) f) → FieldsMeet every after all n f → FieldsMeet every before all (suc n) f
fields_before every name s fs before after own own' rest rest' all n f is eo er ea w p q h =
    let to : take (width s) after ≡ own' = ap (λ t. take (width s) t) ea ∙ ap (λ k. take k (own' ++ rest')) (sym w) ∙ take-append_seam own' rest' in
    let tr : drop (width s) after ≡ rest' = ap (λ t. drop (width s) t) ea ∙ ap (λ k. drop k (own' ++ rest')) (sym w) ∙ drop-append_seam own' rest' in
    subst (λ z. FieldsMeet z before all (suc n) f) (sym is)
    (field_own name s fs before after all n f (λ k. subst (λ t. CellsMeet s t all (suc n) f) eo (p (subst (λ t. CellsMeet s t all n f) to k))) (λ k. subst (λ t. FieldsMeet fs t all (suc n) f) er (q (subst (λ t. FieldsMeet fs t all n f) tr k)))
    (subst (λ z. FieldsMeet z after all n f) is h))

pub fields_first_fault : (every : Fields) (name : List ℕ) (s : Shape) (fs : Fields) (before own : List ColumnReader) (all : Bool) (n : ℕ) (f : StripeFault) → every ≡ field name s fs → own ≡ take (width s) before
    → CellsMeet s own all n f → FieldsMeet every before all n f
fields_first_fault every name s fs before own all n f is eo h = subst (λ z. FieldsMeet z before all n f) (sym is) (inl (subst (λ t. CellsMeet s t all n f) eo h))

pub fields_others_fault : (every : Fields) (name : List ℕ) (s : Shape) (fs : Fields) (before rest : List ColumnReader) (all : Bool) (n : ℕ) (f : StripeFault) → every ≡ field name s fs → rest ≡ drop (width s) before
    → FieldsMeet fs rest all n f → FieldsMeet every before all n f
fields_others_fault every name s fs before rest all n f is er h = subst (λ z. FieldsMeet z before all n f) (sym is) (inr (subst (λ t. FieldsMeet fs t all n f) er h))

-- ---- from the readers to the columns

own_down : (s : Shape) (columns : ℕ → Streams) (c : ℕ) (own : ColumnReader) (below : List ColumnReader) (all : Bool) (n : ℕ) (f : StripeFault) → IsOf s columns c own
    → ((v : ℕ) → BelowMeet s own.source below all v f → FaultBelow s columns c all v f) → CellsMeet s (own ∷ below) all n f → FaultDown s columns c all n f
own_down s columns c own below all n f is deeper (inl h) = inl (marks_start ((columns c).stream 0) own.present own.source.column c all n f is.0.0 is.1 h)
own_down s columns c own below all n f is deeper (inr h) =
    inr (inr (h.0, values_map all n h.0 (MarksFirst own.present) (MarksBegin ((columns c).stream 0)) (λ marks k. marks_begin ((columns c).stream 0) own.present marks is.0.0 k) h.1, value_or_below s columns c own below all h.0 f is (deeper h.0) h.2))
  where
    value_or_below : (s : Shape) (columns : ℕ → Streams) (c : ℕ) (own : ColumnReader) (below : List ColumnReader) (all : Bool) (v : ℕ) (f : StripeFault) → IsOf s columns c own
        → (BelowMeet s own.source below all v f → FaultBelow s columns c all v f) → ValuesMeet s own.source all v f ⊎ BelowMeet s own.source below all v f
        → ValuesFail s (columns c) all v c f ⊎ FaultBelow s columns c all v f
    value_or_below s columns c own below all v f is deeper (inl h) = inl (values_start s (columns c) own.source c all v f is.0.1 is.1 h)
    value_or_below s columns c own below all v f is deeper (inr h) = inr (deeper h)

from_down : (s : Shape) (columns : ℕ → Streams) (c : ℕ) (readers : List ColumnReader) (all : Bool) (n : ℕ) (f : StripeFault)
    → ((own : ColumnReader) (below : List ColumnReader) (v : ℕ) → SourceStart s (columns c) own.source → AreReadersBelow s columns c below → BelowMeet s own.source below all v f → FaultBelow s columns c all v f)
    → AreOf s columns c readers → CellsMeet s readers all n f → FaultDown s columns c all n f
from_down s columns c [] all n f deeper are h = absurd h
from_down s columns c (own ∷ below) all n f deeper are h = own_down s columns c own below all n f are.0 (λ v k. deeper own below v are.0.0.1 are.1 k) h

mutual
  below_down : (s : Shape) (columns : ℕ → Streams) (c : ℕ) (source : ValueSource) (below : List ColumnReader) (all : Bool) (n : ℕ) (f : StripeFault) → SourceStart s (columns c) source → AreReadersBelow s columns c below
      → BelowMeet s source below all n f → FaultBelow s columns c all n f
  below_down (scalar k o) columns c source below all n f start are h = h
  below_down (list_of s o) columns c source below all n f start are h = (
    h.0,
    elements_map all n h.0 (NumbersFirst source.numbers) (IntegersFirst (lengths_of (columns c))) (λ lengths k. first_start (version (columns c)) Unsigned ((columns c).stream 2) source.numbers lengths start.0 k) h.1,
    from_down s columns (suc c) below all h.0 f (λ own b v i a k. below_down s columns (suc c) own.source b all v f i a k) are h.2,
  )
  below_down (map_of k v o) columns c source below all n f start are h = (
    h.0,
    elements_map all n h.0 (NumbersFirst source.numbers) (IntegersFirst (lengths_of (columns c))) (λ lengths r. first_start (version (columns c)) Unsigned ((columns c).stream 2) source.numbers lengths start.0 r) h.1,
    elim h.2 [
      | inl first ↦ inl (from_down k columns (suc c) (take (width k) below) all h.0 f (λ own b m i a r. below_down k columns (suc c) own.source b all m f i a r) are.0 first)
      | inr second ↦ inr (from_down v columns (suc c + width k) (drop (width k) below) all h.0 f (λ own b m i a r. below_down v columns (suc c + width k) own.source b all m f i a r) are.1 second)
    ],
  )
  below_down (struct_of fs o) columns c source below all n f start are h = fields_down fs columns (suc c) below all n f are h

  fields_down : (fs : Fields) (columns : ℕ → Streams) (c : ℕ) (readers : List ColumnReader) (all : Bool) (n : ℕ) (f : StripeFault) → AreFieldReaders fs columns c readers → FieldsMeet fs readers all n f → FaultWithin fs columns c all n f
  fields_down no_field columns c readers all n f are h = h
  fields_down (field name s fs) columns c readers all n f are (inl h) =
      inl (from_down s columns c (take (width s) readers) all n f (λ own b v i a k. below_down s columns c own.source b all v f i a k) are.0 h)
  fields_down (field name s fs) columns c readers all n f are (inr h) = inr (fields_down fs columns (c + width s) (drop (width s) readers) all n f are.1 h)

pub readers_down : (s : Shape) (columns : ℕ → Streams) (c : ℕ) (readers : List ColumnReader) (all : Bool) (n : ℕ) (f : StripeFault) → AreOf s columns c readers → CellsMeet s readers all n f → FaultDown s columns c all n f
readers_down s columns c readers all n f are h = from_down s columns c readers all n f (λ own b v i a k. below_down s columns c own.source b all v f i a k) are h

-- ---- the fault of a dictionary, whatever comes first in the streams above it

below_from : (s : Shape) (columns : ℕ → Streams) (c n : ℕ) (f : StripeFault) → FaultBelow s columns c false 0 f → FaultDown s columns c false n f
below_from s columns c n f h = inr (inr (0, values_none n (MarksBegin ((columns c).stream 0)) (no_marks ((columns c).stream 0)), inr h))

pub down_own : (s : Shape) (columns : ℕ → Streams) (c m n : ℕ) (f : StripeFault) → m ≡ c → DictionaryFails s (columns m) m f → FaultDown s columns c false n f
down_own s columns c m n f is h = inr (inl (subst (λ k. DictionaryFails s (columns k) k f) is h))

pub down_list : (s e : Shape) (o : List ℕ) (columns : ℕ → Streams) (c m n : ℕ) (f : StripeFault) → s ≡ list_of e o → m ≡ c + 1 → ((k : ℕ) → FaultDown e columns m false k f) → FaultDown s columns c false n f
down_list s e o columns c m n f is next h =
    let g : m ≡ suc c = omega (arith, next) in
    let k = subst (λ k. FaultDown e columns k false 0 f) g (h 0) in
    subst (λ t. FaultDown t columns c false n f) (sym is)
    (below_from (list_of e o) columns c n f (0, elements_none 0 (IntegersFirst (lengths_of (columns c))) (no_integers (lengths_of (columns c))), k))

-- of the keys' columns, and of the values', which come behind them
pub down_key : (s k v : Shape) (o : List ℕ) (columns : ℕ → Streams) (c m n : ℕ) (f : StripeFault) → s ≡ map_of k v o → m ≡ c + 1 → ((i : ℕ) → FaultDown k columns m false i f) → FaultDown s columns c false n f
down_key s k v o columns c m n f is next h =
    let g : m ≡ suc c = omega (arith, next) in
    let r = subst (λ i. FaultDown k columns i false 0 f) g (h 0) in
    subst (λ t. FaultDown t columns c false n f) (sym is)
    (below_from (map_of k v o) columns c n f (0, elements_none 0 (IntegersFirst (lengths_of (columns c))) (no_integers (lengths_of (columns c))), inl r))

pub down_value : (s k v : Shape) (o : List ℕ) (columns : ℕ → Streams) (c m n : ℕ) (f : StripeFault) → s ≡ map_of k v o → m ≡ c + 1 + width k → ((i : ℕ) → FaultDown v columns m false i f) → FaultDown s columns c false n f
down_value s k v o columns c m n f is next h =
    let g : m ≡ suc c + width k = omega (arith, next) in
    let r = subst (λ i. FaultDown v columns i false 0 f) g (h 0) in
    subst (λ t. FaultDown t columns c false n f) (sym is)
    (below_from (map_of k v o) columns c n f (0, elements_none 0 (IntegersFirst (lengths_of (columns c))) (no_integers (lengths_of (columns c))), inr r))

pub down_struct : (s : Shape) (fs : Fields) (o : List ℕ) (columns : ℕ → Streams) (c m n : ℕ) (f : StripeFault) → s ≡ struct_of fs o → m ≡ c + 1 → ((k : ℕ) → FaultWithin fs columns m false k f) → FaultDown s columns c false n f
down_struct s fs o columns c m n f is next h =
    let g : m ≡ suc c = omega (arith, next) in
    let k = subst (λ k. FaultWithin fs columns k false 0 f) g (h 0) in
    subst (λ t. FaultDown t columns c false n f) (sym is) (below_from (struct_of fs o) columns c n f k)

-- ---- the rows of a stripe

pub fault_from_start : (s t : Shape) (columns : ℕ → Streams) (old : List ColumnReader) (count : ℕ) (f : StripeFault) → t ≡ s → old ≡ [] → FaultDown t columns (length old) false count f → HasFault s columns count f
fault_from_start s t columns old count f same none h =
    (false, subst (λ z. FaultDown z columns 0 false count f) same (subst (λ rs. FaultDown t columns (length rs) false count f) none h))

pub reason_from_readers : (s t : Shape) (columns : ℕ → Streams) (count : ℕ) (readers : List ColumnReader) (f : StripeFault) → t ≡ s → AreOf t columns 0 readers → TooManyRows count f ⊎ ((all : Bool) × CellsMeet t readers all count f)
    → TooManyRows count f ⊎ HasFault s columns count f
reason_from_readers s t columns count readers f same are (inl h) = inl h
reason_from_readers s t columns count readers f same are (inr h) = inr (h.0, subst (λ z. FaultDown z columns 0 h.0 count f) same (readers_down t columns 0 readers h.0 count f are h.1))
