-- Sizes of lists, or of maps, one after the other.
use Rattle.std.proofs.Common.{◌≡◌, ℕ, zero, suc, ◌+◌, ◌-◌, ◌≤◌, pos, Bool, true, None, List, [], ◌∷◌, ◌++◌, map, length, replicate, sum, refl, sym, ap, subst, arith, length-append}
use Rattle.std.specs.List.{AllByRecursion, AllZip}
use Rattle.std.proofs.lemmas.List.{length-map, length-replicate}
use Rattle.orc_values.specs.Cells.{Cell, struct, cells_of, is_value, values}
use Rattle.orc_values.specs.Shapes.{struct_of, no_field}
use Rattle.orc_column_reader.specs.Columns.{CellsLeft, ListsLeft, IsRecord}
use Rattle.orc_column_reader.specs.Fronts.{Leaves, Lacks}
use Rattle.orc_column_reader.specs.Numbers.{NumbersLeft}
use Rattle.orc_column_reader.specs.ReaderFaults.{ListsMeet}
use Rattle.orc_column_reader.specs.Spellings.{size, concatenated}
use Rattle.orc_column_reader.specs.declared.column.ColumnReader.{ColumnReader}
use Rattle.orc_column_reader.specs.declared.column.ValueSource.{ValueSource}
use Rattle.orc_directory.specs.declared.fault.StripeFault.{StripeFault}
use Rattle.orc_column_walk.specs.OwnLeft.{SizesLeft}
use Rattle.orc_column_walk.proofs.ReadLemmas.{AreRead, none_read, one_read}
use Rattle.orc_values.proofs.Lists.{sum_more, sum_append}

-- ---- the next size

sizes_only : (a b : ValueSource) (n : ℕ) → Leaves (NumbersLeft a.numbers) (NumbersLeft b.numbers) (pos n ∷ []) → n ≤ a.room → b.room ≡ a.room - n → (all : List ℕ) → SizesLeft a all → 1 ≤ length all
    → (rest : List ℕ) × (all ≡ n ∷ rest) × SizesLeft b rest
sizes_only a b n p le room [] h some = absurd (omega (arith, some))
sizes_only a b n p le room (m ∷ sizes) h some =
    let i = p.only (pos m ∷ map pos sizes) h.0 (omega arith) in
    let j = i.1 in
    let first : m ≡ n = cc in
    let others : map pos sizes ≡ i.0 = cc in
    (sizes, ap (λ k. k ∷ sizes) first, (subst (NumbersLeft b.numbers) (sym others) i.2, omega (arith, h.1, sum_more m sizes, first, room, le)))

pub sizes_leave : (a b : ValueSource) (n : ℕ) → Leaves (NumbersLeft a.numbers) (NumbersLeft b.numbers) (pos n ∷ []) → n ≤ a.room → b.room ≡ a.room - n → Leaves (SizesLeft a) (SizesLeft b) (n ∷ [])
sizes_leave a b n p le room = record {
  found = λ rest r. (p.found (map pos rest) r.0, omega (arith, r.1, sum_more n rest, room, le));
  only = λ all r some. sizes_only a b n p le room all r some;
}

-- ---- nothing is left: lists of structs without fields have any sizes

abbrev plain_list : ℕ → List Cell
plain_list n = replicate n (struct (cells_of []))

plain_sizes : (sizes : List ℕ) → map size (map plain_list sizes) ≡ map pos sizes
plain_sizes [] = refl
plain_sizes (n ∷ sizes) = let k = length-replicate n (struct (cells_of [])) in λ i. pos (k i) ∷ plain_sizes sizes i

plain_long : (sizes : List ℕ) → length (concatenated (map plain_list sizes)) ≡ sum sizes
plain_long [] = refl
plain_long (n ∷ sizes) =
    omega (arith, length-append (plain_list n) (concatenated (map plain_list sizes)), length-replicate n (struct (cells_of [])), plain_long sizes, sum_more n sizes)

ArePlain : List Cell → Type 0
ArePlain cells = AllByRecursion (λ c. c ≡ struct (cells_of [])) cells

plain_append : (a b : List Cell) → ArePlain a → ArePlain b → ArePlain (a ++ b)
unfolding ArePlain
plain_append [] b h k = k
plain_append (c ∷ a) b h k = (h.0, plain_append a b h.1 k)

plain_one : (n : ℕ) → ArePlain (plain_list n)
unfolding ArePlain
plain_one zero = tt
plain_one (suc n) = (refl, plain_one n)

plain_all : (sizes : List ℕ) → ArePlain (concatenated (map plain_list sizes))
unfolding ArePlain
plain_all [] = tt
plain_all (n ∷ sizes) = plain_append (plain_list n) (concatenated (map plain_list sizes)) (plain_one n) (plain_all sizes)

plain_marks : (cells : List Cell) → ArePlain cells → map is_value cells ≡ replicate (length (map is_value cells)) true
unfolding ArePlain
plain_marks [] h = refl
plain_marks (c ∷ cells) h = let e = ap is_value h.0 in let r = plain_marks cells h.1 in λ i. e i ∷ r i

plain_values : (cells : List Cell) → ArePlain cells → AllZip IsRecord (replicate (length (values cells)) []) (values cells)
unfolding ArePlain
plain_values [] h = tt
plain_values (c ∷ cells) h = let e = ap is_value h.0 in rw e (h.0, plain_values cells h.1)

pub plain_empty : (n : ℕ) → AllByRecursion (λ cs. cs ≡ []) (replicate n (let none : List Cell = [] in none))
plain_empty zero = tt
plain_empty (suc n) = (refl, plain_empty n)

pub sizes_lack : (a : ValueSource) → ((below : List ColumnReader) → Lacks (ListsLeft (struct_of no_field []) a below) 1) → Lacks (SizesLeft a) 1
sizes_lack a p = λ sizes r some.
    let below : List ColumnReader = record { present = None; source = a } ∷ [] in
    let lists = map plain_list sizes in
    let cells = concatenated lists in
    let plain = plain_all sizes in
    let left : CellsLeft (struct_of no_field []) below cells = (plain_marks cells plain, (replicate (length (values cells)) [], plain_values cells plain, plain_empty (length (values cells)))) in
    p below lists (subst (NumbersLeft a.numbers) (sym (plain_sizes sizes)) r.0, (omega (arith, r.1, plain_long sizes), left)) (omega (arith, some, length-map sizes plain_list))

-- ---- sizes, one after the other

-- so many sizes were read, and they are so much together
pub record SizesRead (before after : ValueSource) (count together : ℕ) : Type 0 where
  pub sizes : List ℕ
  pub read : AreRead (SizesLeft before) (SizesLeft after) (λ all n f. ListsMeet before all n f) (λ all n f. ListsMeet after all n f) count sizes
  pub summed : together ≡ sum sizes
  pub room : together + after.room ≡ before.room

pub no_sizes_read : (source : ValueSource) → SizesRead source source 0 0
no_sizes_read source = record { sizes = []; read = none_read (SizesLeft source) (λ all n f. ListsMeet source all n f); summed = refl; room = omega arith }

pub size_read : (before between after : ValueSource) (count together size together' : ℕ) → SizesRead before between count together → Leaves (NumbersLeft between.numbers) (NumbersLeft after.numbers) (pos size ∷ [])
    → size ≤ between.room → after.room ≡ between.room - size → ((all : Bool) (n : ℕ) (f : StripeFault) → ListsMeet after all n f → ListsMeet between all (suc n) f)
    → together' ≡ together + size → SizesRead before after (count + 1) together'
size_read before between after count together size together' r leave le room fault is = record {
  sizes = r.sizes ++ size ∷ [];
  read = one_read (SizesLeft before) (SizesLeft between) (SizesLeft after) (λ all n f. ListsMeet before all n f) (λ all n f. ListsMeet between all n f) (λ all n f. ListsMeet after all n f) count r.sizes size r.read
      (sizes_leave between after size leave le room) fault;
  summed = omega (arith, r.summed, is, sum_append r.sizes (size ∷ []), sum_more size []);
  room = omega (arith, r.room, is, le, room);
}

pub no_sizes : (source : ValueSource) → NumbersLeft source.numbers [] → SizesLeft source []
no_sizes source h = (h, omega arith)
