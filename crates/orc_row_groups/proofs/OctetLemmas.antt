-- How many bytes texts have.
use Rattle.std.proofs.Common.{◌≡◌, refl, ◌∙◌, ◌+◌, List, [], ◌∷◌, map, sym}
use Rattle.orc_values.specs.Cells.{Cell, null, leaf, list, struct, pairs}
use Rattle.orc_values.specs.Childless.{childless}
use Rattle.orc_row_groups.specs.Counts.{octets_in, octets}
use Rattle.std.proofs.lemmas.List.Sums.{sum_by-cons}

pub octets_one : (c : Cell) → octets_in (childless c) ≡ octets_in c
octets_one null = refl
octets_one (leaf a) = refl
octets_one (list cs) = refl
octets_one (struct cs) = refl
octets_one (pairs ps) = refl

pub octets_many : (cs : List Cell) → octets (map childless cs) ≡ octets cs
octets_many [] = refl
octets_many (c ∷ cs) =
    sum_by-cons octets_in (childless c) (map childless cs) ∙ (λ i. octets_one c i + octets_many cs i) ∙ sym (sum_by-cons octets_in c cs)
