-- What is counted of cells, and of more cells.
use Rattle.std.proofs.Common.{◌≡◌, ℕ, ◌+◌, min, List, [], ◌∷◌, ◌++◌, length, refl, sym, ap, ◌∙◌, arith, length-append, zero-add}
use Rattle.std.proofs.lemmas.List.Sums.{sum_by-append, sum_by-cons}
use Rattle.orc_values.specs.Cells.{Cell, null, leaf, list, struct, pairs, values}
use Rattle.orc_values.proofs.Together.{values-append}
use Rattle.orc_row_groups.specs.Counts.{octets_in, octets, most, AreCounted}
use Rattle.orc_row_groups.specs.declared.counts.Counts.{Counts}

pub values_more : (a b : List Cell) → length (values (a ++ b)) ≡ length (values a) + length (values b)
values_more a b = ap length (values-append a b) ∙ length-append (values a) (values b)

pub octets_more : (a b : List Cell) → octets (a ++ b) ≡ octets a + octets b
octets_more a b = sum_by-append octets_in a b

-- the counts of more cells
pub counted_more : (k m : Counts) (front cs : List Cell) → AreCounted k front → m.cells ≡ k.cells + length cs → m.values ≡ k.values + length (values cs)
    → m.octets ≡ min most (k.octets + octets cs) → AreCounted m (front ++ cs)
counted_more k m front cs h c v o = record {
  cells_are = omega (arith, h.cells_are, c, length-append front cs);
  values_are = omega (arith, h.values_are, v, values_more front cs);
  octets_are = omega (arith, h.octets_are, o, octets_more front cs);
}

pub octets_of_values : (cs : List Cell) → octets (values cs) ≡ octets cs
octets_of_values [] = refl
octets_of_values (null ∷ cs) = octets_of_values cs ∙ sym (sum_by-cons octets_in null cs ∙ zero-add (octets cs))
octets_of_values (leaf a ∷ cs) = sum_by-cons octets_in (leaf a) (values cs) ∙ ap (λ (n : ℕ). octets_in (leaf a) + n) (octets_of_values cs) ∙ sym (sum_by-cons octets_in (leaf a) cs)
octets_of_values (list xs ∷ cs) = sum_by-cons octets_in (list xs) (values cs) ∙ ap (λ (n : ℕ). octets_in (list xs) + n) (octets_of_values cs) ∙ sym (sum_by-cons octets_in (list xs) cs)
octets_of_values (struct xs ∷ cs) = sum_by-cons octets_in (struct xs) (values cs) ∙ ap (λ (n : ℕ). octets_in (struct xs) + n) (octets_of_values cs) ∙ sym (sum_by-cons octets_in (struct xs) cs)
octets_of_values (pairs ps ∷ cs) = sum_by-cons octets_in (pairs ps) (values cs) ∙ ap (λ (n : ℕ). octets_in (pairs ps) + n) (octets_of_values cs) ∙ sym (sum_by-cons octets_in (pairs ps) cs)
