-- What is counted of a cell doesn't depend on its children.
use Rattle.std.proofs.Common.{◌≡◌, refl, ap, length, Some}
use Rattle.orc_values.specs.Cells.{Cell, null, leaf, list, struct, pairs, list_of_cells, list_of_pairs}
use Rattle.orc_values.specs.Childless.{childless}
use Rattle.orc_values.proofs.Childless.{elements_many, pairs_many}
use Rattle.orc_stats.specs.Measures.{ints, dates, texts, bools, bins, child_numbers, no_measure}
use Rattle.orc_stats.specs.Statistics.{children_of}
use Rattle.orc_stats.specs.Seen.{value_seen}

pub ints_childless : (c : Cell) → ints.of_cell (childless c) ≡ ints.of_cell c
ints_childless null = refl
ints_childless (leaf a) = refl
ints_childless (list cs) = refl
ints_childless (struct cs) = refl
ints_childless (pairs ps) = refl

pub dates_childless : (c : Cell) → dates.of_cell (childless c) ≡ dates.of_cell c
dates_childless null = refl
dates_childless (leaf a) = refl
dates_childless (list cs) = refl
dates_childless (struct cs) = refl
dates_childless (pairs ps) = refl

pub texts_childless : (c : Cell) → texts.of_cell (childless c) ≡ texts.of_cell c
texts_childless null = refl
texts_childless (leaf a) = refl
texts_childless (list cs) = refl
texts_childless (struct cs) = refl
texts_childless (pairs ps) = refl

pub bools_childless : (c : Cell) → bools.of_cell (childless c) ≡ bools.of_cell c
bools_childless null = refl
bools_childless (leaf a) = refl
bools_childless (list cs) = refl
bools_childless (struct cs) = refl
bools_childless (pairs ps) = refl

pub bins_childless : (c : Cell) → bins.of_cell (childless c) ≡ bins.of_cell c
bins_childless null = refl
bins_childless (leaf a) = refl
bins_childless (list cs) = refl
bins_childless (struct cs) = refl
bins_childless (pairs ps) = refl

pub plain_childless : (c : Cell) → no_measure.of_cell (childless c) ≡ no_measure.of_cell c
plain_childless c = refl

pub many_childless : (c : Cell) → children_of (childless c) ≡ children_of c
many_childless null = refl
many_childless (leaf a) = refl
many_childless (list cs) = ap Some (elements_many (length (list_of_cells cs)))
many_childless (struct cs) = refl
many_childless (pairs ps) = ap Some (pairs_many (length (list_of_pairs ps)))

pub children_childless : (c : Cell) → child_numbers.of_cell (childless c) ≡ child_numbers.of_cell c
children_childless c = ap (λ n. (value_seen n, (value_seen n, value_seen n))) (many_childless c)
