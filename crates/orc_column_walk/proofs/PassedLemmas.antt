-- Cells that are counted while they are read.
use Rattle.std.proofs.Common.{◌≡◌, ◌≤◌, ℕ, suc, ◌+◌, min, true, List, [], ◌∷◌, ◌++◌, length, refl, sym, ap, ◌∙◌, subst, arith, length-append, append-nil, append_assoc}
use Rattle.std.specs.List.{flat_map}
use Rattle.std.proofs.lemmas.List.Sums.{sum_by-append, sum_by-cons}
use Rattle.std.proofs.lemmas.List.Concat.{flat_map-append}
use Rattle.orc_values.specs.Cells.{Cell, null, leaf, list, struct, pairs, is_value, parts, pairs_in, values}
use Rattle.orc_values.specs.Shapes.{Shape, scalar, list_of, map_of, struct_of}
use Rattle.orc_values.proofs.Together.{values-append}
use Rattle.orc_row_groups.specs.Counts.{octets_in, octets, most}
use Rattle.orc_row_groups.proofs.Counted.{counted_more, octets_of_values}
use Rattle.orc_column_walk.specs.OwnLeft.{children}
use Rattle.orc_column_walk.specs.Passed.{IsPassed}
use Rattle.orc_column_walk.specs.declared.passed.Passed.{Passed}
use Rattle.orc_column_reader.specs.Fronts.{Leaves}
use Rattle.orc_column_reader.specs.ReaderFaults.{ValuesMeet}
use Rattle.orc_column_reader.specs.declared.column.ValueSource.{ValueSource}
use Rattle.orc_directory.specs.declared.fault.StripeFault.{StripeFault}
use Rattle.orc_stats.specs.Tallies.{Measure, Kept, together, cell_kept, cells_kept}
use Rattle.orc_stats.specs.laws.TallyLaws.{together_assoc, none_together, cells_kept-append}
use Rattle.orc_column_walk.specs.OwnLeft.{OwnValuesLeft}
use Rattle.orc_column_walk.proofs.ReadLemmas.{Meets, AreRead, none_read, one_read}
use Rattle.orc_values.proofs.Lists.{values_one}

-- ---- children

pub children_append : (s : Shape) (a b : List Cell) → children s (a ++ b) ≡ children s a + children s b
children_append (scalar k o) a b = refl
children_append (list_of s o) a b = ap length (flat_map-append parts a b) ∙ length-append (flat_map parts a) (flat_map parts b)
children_append (map_of k v o) a b = ap length (flat_map-append pairs_in a b) ∙ length-append (flat_map pairs_in a) (flat_map pairs_in b)
children_append (struct_of fs o) a b = length-append a b

pub children_none : (s : Shape) → children s [] ≡ 0
children_none (scalar k o) = refl
children_none (list_of s o) = refl
children_none (map_of k v o) = refl
children_none (struct_of fs o) = refl

-- what is counted up to the most may be cut off on the way
pub most_more : (a b n : ℕ) → n ≡ min most a → min most (n + b) ≡ min most (a + b)
most_more a b n is = omega (arith, is)

-- ---- cells more

-- so many cells were passed behind those before
pub passed_more : (s : Shape) (before after : Passed) (front cs : List Cell) → IsPassed s front before
    → after.counts.cells ≡ before.counts.cells + length cs
    → after.counts.values ≡ before.counts.values + length (values cs)
    → after.counts.octets ≡ min most (before.counts.octets + octets cs)
    → after.children ≡ min most (before.children + children s (values cs))
    → IsPassed s (front ++ cs) after
passed_more s before after front cs h cells_are values_are octets_are children_are = record {
  counted = counted_more before.counts after.counts front cs h.counted cells_are values_are octets_are;
  children_are = children_are ∙ most_more (children s (values front)) (children s (values cs)) before.children h.children_are
      ∙ ap (λ n. min most n) (sym (children_append s (values front) (values cs)) ∙ ap (children s) (sym (values-append front cs)));
}

pub octets_alone : (c : Cell) → octets (c ∷ []) ≡ octets_in c
octets_alone c = sum_by-cons octets_in c [] ∙ omega arith

-- ---- nulls have nothing that is counted

pub values_twice : (cs : List Cell) → values (values cs) ≡ values cs
values_twice [] = refl
values_twice (null ∷ cs) = values_twice cs
values_twice (leaf a ∷ cs) = ap (λ t. leaf a ∷ t) (values_twice cs)
values_twice (list x ∷ cs) = ap (λ t. list x ∷ t) (values_twice cs)
values_twice (struct x ∷ cs) = ap (λ t. struct x ∷ t) (values_twice cs)
values_twice (pairs x ∷ cs) = ap (λ t. pairs x ∷ t) (values_twice cs)

-- the values of a part were passed, and then its nulls
pub passed_padded : (s : Shape) (before after : Passed) (front part : List Cell) (cells count : ℕ) → length part ≡ cells → length (values part) ≡ count → count ≤ cells
    → IsPassed s (front ++ values part) before
    → after.counts.cells + count ≡ before.counts.cells + cells
    → after.counts.values ≡ before.counts.values
    → after.counts.octets ≡ before.counts.octets
    → after.children ≡ before.children
    → IsPassed s (front ++ part) after
passed_padded s before after front part cells count long many few h cells_are values_are octets_are children_are =
    let same : values (front ++ values part) ≡ values (front ++ part) = values-append front (values part) ∙ ap (λ t. values front ++ t) (values_twice part) ∙ sym (values-append front part) in
    record {
      counted = record {
        cells_are = omega (arith, cells_are, h.counted.cells_are, length-append front (values part), length-append front part, long, many, few);
        values_are = values_are ∙ h.counted.values_are ∙ ap length same;
        octets_are = octets_are ∙ h.counted.octets_are ∙ ap (λ n. min most n)
            (sum_by-append octets_in front (values part) ∙ ap (λ n. octets front + n) (octets_of_values part) ∙ sym (sum_by-append octets_in front part));
      };
      children_are = children_are ∙ h.children_are ∙ ap (λ vs. min most (children s vs)) same;
    }

-- ---- values, one after the other

abbrev pub ValuesMet : Shape → ValueSource → Meets
ValuesMet s source all n f = ValuesMeet s source all n f

-- so many values were read, and counted
pub record AreCountedValues {P : Type 0} (m : Measure P) (s : Shape) (before after : ValueSource) (count : ℕ) (old new : Kept P)
    (start now : Passed) : Type 0 where
  pub cells : List Cell
  pub read : AreRead (OwnValuesLeft s before) (OwnValuesLeft s after) (ValuesMet s before) (ValuesMet s after) count cells
  pub all : values cells ≡ cells
  pub kept : new ≡ together m old (cells_kept m cells)
  pub passed : (front : List Cell) → IsPassed s front start → IsPassed s (front ++ cells) now
  pub cells_are : now.counts.cells ≡ start.counts.cells + count
  pub values_are : now.counts.values ≤ start.counts.values + count

pub no_values_counted : {P : Type 0} (m : Measure P) (s : Shape) (source : ValueSource) (old : Kept P) (start : Passed) → AreCountedValues m s source source 0 old old start start
no_values_counted m s source old start = record {
  cells = [];
  read = none_read (OwnValuesLeft s source) (ValuesMet s source);
  all = refl;
  kept = sym (none_together m old);
  passed = λ front h. subst (λ cs. IsPassed s cs start) (sym (append-nil front)) h;
  cells_are = omega arith;
  values_are = omega arith;
}

pub value_counted : {P : Type 0} (m : Measure P) (s : Shape) (before between after : ValueSource) (count : ℕ) (old mid new : Kept P) (start now next : Passed) (c : Cell)
    → AreCountedValues m s before between count old mid start now
    → Leaves (OwnValuesLeft s between) (OwnValuesLeft s after) (c ∷ [])
    → is_value c ≡ true
    → ((all : _) (n : ℕ) (f : StripeFault) → ValuesMeet s after all n f → ValuesMeet s between all (suc n) f)
    → new ≡ together m mid (cell_kept m c)
    → ((front : List Cell) → IsPassed s front now → IsPassed s (front ++ c ∷ []) next)
    → next.counts.cells ≡ now.counts.cells + 1
    → next.counts.values ≤ now.counts.values + 1
    → AreCountedValues m s before after (count + 1) old new start next
value_counted m s before between after count old mid new start now next c r leave value fault kept passed cells_are values_are = record {
  cells = r.cells ++ c ∷ [];
  read = one_read (OwnValuesLeft s before) (OwnValuesLeft s between) (OwnValuesLeft s after) (ValuesMet s before) (ValuesMet s between) (ValuesMet s after) count r.cells c r.read leave fault;
  all = values-append r.cells (c ∷ []) ∙ (λ i. r.all i ++ values_one c value i);
  kept = kept ∙ ap (λ k. together m k (cell_kept m c)) r.kept ∙ together_assoc m old (cells_kept m r.cells) (cell_kept m c)
      ∙ ap (together m old) (ap (together m (cells_kept m r.cells)) (sym (none_together m (cell_kept m c))) ∙ sym (cells_kept-append m r.cells (c ∷ [])));
  passed = λ front h. subst (λ cs. IsPassed s cs next) (append_assoc front r.cells (c ∷ [])) (passed (front ++ r.cells) (r.passed front h));
  cells_are = omega (arith, cells_are, r.cells_are);
  values_are = omega (arith, values_are, r.values_are);
}
