-- The values of a column, by its kind.
use Rattle.std.proofs.Common.{◌≡◌, ℕ, Bool, List, map, length, replicate, sum, refl, sym, ap, ◌∙◌, subst}
use Rattle.std.proofs.lemmas.List.{length-map, length-replicate}
use Rattle.orc_values.specs.Cells.{Cell}
use Rattle.orc_values.specs.Shapes.{Shape, scalar, list_of, map_of, struct_of, Fields}
use Rattle.orc_values.specs.declared.kind.Scalar.{Scalar}
use Rattle.orc_column_reader.specs.Columns.{ScalarLeft}
use Rattle.orc_column_reader.specs.ReaderFaults.{ScalarMeets, ListsMeet, ValuesMeet}
use Rattle.orc_column_reader.specs.declared.column.ValueSource.{ValueSource}
use Rattle.orc_directory.specs.declared.fault.StripeFault.{StripeFault}
use Rattle.orc_values.specs.Childless.{list_of_size, map_of_size, childless_struct}
use Rattle.orc_column_walk.specs.OwnLeft.{SizesLeft, OwnValuesLeft, children}
use Rattle.orc_column_walk.proofs.RowsOf.{elements_sum, pairs_sum}

-- so many values, and how many children they have
abbrev pub ValuesRead : Shape → ValueSource → ℕ → ℕ → Type 0
ValuesRead s r count below = (values : List Cell) × (length values ≡ count) × OwnValuesLeft s r values × (below ≡ children s values)

abbrev pub NoValues : Shape → ValueSource → ℕ → Type 0
NoValues s r count = (values : List Cell) → OwnValuesLeft s r values → length values ≡ count → ⊥

abbrev pub ValuesMet : Shape → ValueSource → ℕ → StripeFault → Type 0
ValuesMet s r count f = (all : Bool) × ValuesMeet s r all count f

-- so many sizes
abbrev pub Summed : ValueSource → ℕ → ℕ → Type 0
Summed r count together = (sizes : List ℕ) × (length sizes ≡ count) × SizesLeft r sizes × (together ≡ sum sizes)

abbrev pub NoSizes : ValueSource → ℕ → Type 0
NoSizes r count = (sizes : List ℕ) → SizesLeft r sizes → length sizes ≡ count → ⊥

pub scalars_read : (s : Shape) (k : Scalar) (o : List ℕ) (r : ValueSource) (count : ℕ) → s ≡ scalar k o → (values : List Cell) × (length values ≡ count) × ScalarLeft k r values → ValuesRead s r count 0
scalars_read s k o r count is h = subst (λ z. ValuesRead z r count 0) (sym is) (h.0, h.1, h.2, refl)

pub no_scalars : (s : Shape) (k : Scalar) (o : List ℕ) (r : ValueSource) (count : ℕ) → s ≡ scalar k o → ((values : List Cell) → ScalarLeft k r values → length values ≡ count → ⊥) → NoValues s r count
no_scalars s k o r count is none = subst (λ z. NoValues z r count) (sym is) none

pub scalars_met : (s : Shape) (k : Scalar) (o : List ℕ) (r : ValueSource) (count : ℕ) (f : StripeFault) → s ≡ scalar k o → (all : Bool) × ScalarMeets k r all count f → ValuesMet s r count f
scalars_met s k o r count f is h = subst (λ z. ValuesMet z r count f) (sym is) h

pub lists_read : (s t : Shape) (o : List ℕ) (r : ValueSource) (count together : ℕ) → s ≡ list_of t o → Summed r count together → ValuesRead s r count together
lists_read s t o r count together is h =
    subst (λ z. ValuesRead z r count together) (sym is) (map list_of_size h.0, length-map h.0 list_of_size ∙ h.1, (h.0, h.2, refl), h.3 ∙ sym (elements_sum h.0))

pub no_lists : (s t : Shape) (o : List ℕ) (r : ValueSource) (count : ℕ) → s ≡ list_of t o → NoSizes r count → NoValues s r count
no_lists s t o r count is none = subst (λ z. NoValues z r count) (sym is) (λ vs h e. none h.0 h.1 (sym (length-map h.0 list_of_size) ∙ sym (ap length h.2) ∙ e))

pub lists_met : (s t : Shape) (o : List ℕ) (r : ValueSource) (count : ℕ) (f : StripeFault) → s ≡ list_of t o → (all : Bool) × ListsMeet r all count f → ValuesMet s r count f
lists_met s t o r count f is h = subst (λ z. ValuesMet z r count f) (sym is) h

pub maps_read : (s k v : Shape) (o : List ℕ) (r : ValueSource) (count together : ℕ) → s ≡ map_of k v o → Summed r count together → ValuesRead s r count together
maps_read s k v o r count together is h =
    subst (λ z. ValuesRead z r count together) (sym is) (map map_of_size h.0, length-map h.0 map_of_size ∙ h.1, (h.0, h.2, refl), h.3 ∙ sym (pairs_sum h.0))

pub no_maps : (s k v : Shape) (o : List ℕ) (r : ValueSource) (count : ℕ) → s ≡ map_of k v o → NoSizes r count → NoValues s r count
no_maps s k v o r count is none = subst (λ z. NoValues z r count) (sym is) (λ vs h e. none h.0 h.1 (sym (length-map h.0 map_of_size) ∙ sym (ap length h.2) ∙ e))

pub maps_met : (s k v : Shape) (o : List ℕ) (r : ValueSource) (count : ℕ) (f : StripeFault) → s ≡ map_of k v o → (all : Bool) × ListsMeet r all count f → ValuesMet s r count f
maps_met s k v o r count f is h = subst (λ z. ValuesMet z r count f) (sym is) h

pub structs_read : (s : Shape) (fs : Fields) (o : List ℕ) (r : ValueSource) (count : ℕ) → s ≡ struct_of fs o → ValuesRead s r count count
structs_read s fs o r count is =
    let long = length-replicate count childless_struct in
    subst (λ z. ValuesRead z r count count) (sym is) (replicate count childless_struct, long, ap (λ (n : ℕ). replicate n childless_struct) (sym long), sym long)
