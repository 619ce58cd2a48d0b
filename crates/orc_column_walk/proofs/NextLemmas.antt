-- The next value of a column by itself, by its kind.
use Rattle.std.proofs.Common.{Vec, Global, ◌≡◌, ◌≤◌, ◌-◌, ℕ, suc, pos, Bool, true, false, MatchBool, List, [], ◌∷◌, map, length, replicate, refl, sym, ap, ◌∙◌, subst, arith}
use Rattle.std.proofs.lemmas.List.{length-map}
use Rattle.orc_values.specs.Cells.{Cell}
use Rattle.orc_values.specs.Childless.{list_of_size, map_of_size, childless_struct}
use Rattle.orc_values.specs.Shapes.{Shape, scalar, list_of, map_of, struct_of, no_field, Fields}
use Rattle.orc_values.specs.Views.{shape}
use Rattle.orc_values.proofs.Views.{shape-Scalar}
use Rattle.orc_values.specs.declared.kind.Scalar.{Scalar as Kind}
use Rattle.orc_values.specs.declared.tree.Tree.{Tree, Scalar as TreeScalar}
use Rattle.orc_column_reader.specs.Columns.{ListsLeft}
use Rattle.orc_column_reader.specs.Fronts.{Leaves, Lacks}
use Rattle.orc_column_reader.specs.Numbers.{NumbersLeft}
use Rattle.orc_column_reader.specs.ReaderFaults.{ListsMeet, ValuesMeet}
use Rattle.orc_column_reader.specs.declared.column.ColumnReader.{ColumnReader}
use Rattle.orc_column_reader.specs.declared.column.ValueSource.{ValueSource}
use Rattle.orc_directory.specs.declared.fault.StripeFault.{StripeFault}
use Rattle.orc_column_walk.specs.OwnLeft.{SizesLeft, SizedLeft, OwnValuesLeft, children}
use Rattle.orc_column_walk.proofs.RowsOf.{elements_sum, pairs_sum}
use Rattle.orc_column_walk.proofs.SizeLemmas.{sizes_leave, sizes_lack}
use Rattle.orc_values.proofs.Lists.{sum_more}

-- a type of that kind
pub is_scalar : (tree : Tree) (k : Kind) (o : Vec ℕ Global) (which : Kind) → tree ≡ TreeScalar k o → k ≡ which → shape tree ≡ scalar which o.items
is_scalar tree k o which is kind = ap shape is ∙ shape-Scalar k o ∙ ap (λ j. scalar j o.items) kind

sized_leave : (sized : ℕ → Cell) (a b : ValueSource) (n : ℕ) → Leaves (SizesLeft a) (SizesLeft b) (n ∷ []) → Leaves (SizedLeft sized a) (SizedLeft sized b) (sized n ∷ [])
sized_leave sized a b n p = record {
  found = λ rest r. (n ∷ r.0, p.found r.0 r.1, ap (λ t. sized n ∷ t) r.2);
  only = λ all h some.
      let i = p.only h.0 h.1 (omega (arith, ap length h.2, length-map h.0 sized, some)) in
      (map sized i.0, h.2 ∙ ap (map sized) i.1, (i.0, i.2, refl));
}

sized_lack : (sized : ℕ → Cell) (a : ValueSource) → Lacks (SizesLeft a) 1 → Lacks (SizedLeft sized a) 1
sized_lack sized a none = λ all h some. none h.0 h.1 (omega (arith, ap length h.2, length-map h.0 sized, some))

-- what the next size leaves of a column of that kind
abbrev pub SizeLeaves : Shape → ValueSource → ValueSource → Cell → Type 0
SizeLeaves s a b v = Leaves (OwnValuesLeft s a) (OwnValuesLeft s b) (v ∷ [])

pub list_leave : (s t : Shape) (o : List ℕ) (a b : ValueSource) (n : ℕ) → s ≡ list_of t o → Leaves (NumbersLeft a.numbers) (NumbersLeft b.numbers) (pos n ∷ []) → n ≤ a.room → b.room ≡ a.room - n → SizeLeaves s a b (list_of_size n)
list_leave s t o a b n is p le room = subst (λ z. SizeLeaves z a b (list_of_size n)) (sym is) (sized_leave list_of_size a b n (sizes_leave a b n p le room))

pub map_leave : (s k v : Shape) (o : List ℕ) (a b : ValueSource) (n : ℕ) → s ≡ map_of k v o → Leaves (NumbersLeft a.numbers) (NumbersLeft b.numbers) (pos n ∷ []) → n ≤ a.room → b.room ≡ a.room - n → SizeLeaves s a b (map_of_size n)
map_leave s k v o a b n is p le room = subst (λ z. SizeLeaves z a b (map_of_size n)) (sym is) (sized_leave map_of_size a b n (sizes_leave a b n p le room))

pub list_children : (s t : Shape) (o : List ℕ) (n : ℕ) → s ≡ list_of t o → n ≡ children s (list_of_size n ∷ [])
list_children s t o n is = subst (λ z. n ≡ children z (list_of_size n ∷ [])) (sym is) (omega (arith, elements_sum (n ∷ []), sum_more n []))

pub map_children : (s k v : Shape) (o : List ℕ) (n : ℕ) → s ≡ map_of k v o → n ≡ children s (map_of_size n ∷ [])
map_children s k v o n is = subst (λ z. n ≡ children z (map_of_size n ∷ [])) (sym is) (omega (arith, pairs_sum (n ∷ []), sum_more n []))

pub list_lack : (s t : Shape) (o : List ℕ) (a : ValueSource) → s ≡ list_of t o → ((below : List ColumnReader) → Lacks (ListsLeft (struct_of no_field []) a below) 1) → Lacks (OwnValuesLeft s a) 1
list_lack s t o a is none = subst (λ z. Lacks (OwnValuesLeft z a) 1) (sym is) (sized_lack list_of_size a (sizes_lack a none))

pub map_lack : (s k v : Shape) (o : List ℕ) (a : ValueSource) → s ≡ map_of k v o → ((below : List ColumnReader) → Lacks (ListsLeft (struct_of no_field []) a below) 1) → Lacks (OwnValuesLeft s a) 1
map_lack s k v o a is none = subst (λ z. Lacks (OwnValuesLeft z a) 1) (sym is) (sized_lack map_of_size a (sizes_lack a none))

pub list_before : (s t : Shape) (o : List ℕ) (a b : ValueSource) → s ≡ list_of t o → ((all : Bool) (n : ℕ) (f : StripeFault) → ListsMeet b all n f → ListsMeet a all (suc n) f) → (all : Bool) (n : ℕ) (f : StripeFault) → ValuesMeet s b all n f → ValuesMeet s a all (suc n) f
list_before s t o a b is h all n f = subst (λ z. ValuesMeet z b all n f → ValuesMeet z a all (suc n) f) (sym is) (h all n f)

pub map_before : (s k v : Shape) (o : List ℕ) (a b : ValueSource) → s ≡ map_of k v o → ((all : Bool) (n : ℕ) (f : StripeFault) → ListsMeet b all n f → ListsMeet a all (suc n) f) → (all : Bool) (n : ℕ) (f : StripeFault) → ValuesMeet s b all n f → ValuesMeet s a all (suc n) f
map_before s k v o a b is h all n f = subst (λ z. ValuesMeet z b all n f → ValuesMeet z a all (suc n) f) (sym is) (h all n f)

pub list_now : (s t : Shape) (o : List ℕ) (a : ValueSource) (f : StripeFault) → s ≡ list_of t o → ((n : ℕ) → ListsMeet a false (suc n) f) → (n : ℕ) → ValuesMeet s a false (suc n) f
list_now s t o a f is h n = subst (λ z. ValuesMeet z a false (suc n) f) (sym is) (h n)

pub map_now : (s k v : Shape) (o : List ℕ) (a : ValueSource) (f : StripeFault) → s ≡ map_of k v o → ((n : ℕ) → ListsMeet a false (suc n) f) → (n : ℕ) → ValuesMeet s a false (suc n) f
map_now s k v o a f is h n = subst (λ z. ValuesMeet z a false (suc n) f) (sym is) (h n)

structs_only : (all : List Cell) → all ≡ replicate (length all) childless_struct → 1 ≤ length all
    → (rest : List Cell) × (all ≡ childless_struct ∷ rest) × (rest ≡ replicate (length rest) childless_struct)
structs_only [] h some = absurd (omega (arith, some))
structs_only (v ∷ rest) h some =
    let first : v ≡ childless_struct = cc in
    let others : rest ≡ replicate (length rest) childless_struct = cc in
    (rest, ap (λ t. t ∷ rest) first, others)

pub struct_leave : (s : Shape) (fs : Fields) (o : List ℕ) (a : ValueSource) → s ≡ struct_of fs o → SizeLeaves s a a childless_struct
struct_leave s fs o a is = subst (λ z. SizeLeaves z a a childless_struct) (sym is) record {
  found = λ rest r. ap (λ t. childless_struct ∷ t) r;
  only = λ all h some. structs_only all h some;
}

-- ---- the end

sized_end : (sized : ℕ → Cell) (a : ValueSource) (ended : Bool) → MatchBool ended (SizesLeft a []) (SizesLeft a [] → ⊥) → MatchBool ended (SizedLeft sized a []) (SizedLeft sized a [] → ⊥)
sized_end sized a true h = ([], h, refl)
sized_end sized a false h = λ k. h (subst (SizesLeft a) (no_sizes_in k.0 k.2) k.1)
  where
    no_sizes_in : (sizes : List ℕ) → [] ≡ map sized sizes → sizes ≡ []
    no_sizes_in [] e = refl
    no_sizes_in (n ∷ sizes) e = absurd (omega (arith, ap length e))

abbrev pub Ends : Shape → ValueSource → Bool → Type 0
Ends s a ended = MatchBool ended (OwnValuesLeft s a []) (OwnValuesLeft s a [] → ⊥)

pub list_end : (s t : Shape) (o : List ℕ) (a : ValueSource) (ended : Bool) → s ≡ list_of t o → MatchBool ended (SizesLeft a []) (SizesLeft a [] → ⊥) → Ends s a ended
list_end s t o a ended is h = subst (λ z. Ends z a ended) (sym is) (sized_end list_of_size a ended h)

pub map_end : (s k v : Shape) (o : List ℕ) (a : ValueSource) (ended : Bool) → s ≡ map_of k v o → MatchBool ended (SizesLeft a []) (SizesLeft a [] → ⊥) → Ends s a ended
map_end s k v o a ended is h = subst (λ z. Ends z a ended) (sym is) (sized_end map_of_size a ended h)
