-- What a statistic takes of a cell is what it takes of the cell without its children.
use Rattle.std.proofs.Common.{◌≡◌, refl, ap, not, Some}
use Rattle.orc_values.specs.Cells.{Cell, null, leaf, list, struct, pairs}
use Rattle.orc_stats.specs.Statistics.{bool_of, bit}
use Rattle.orc_values.specs.Childless.{childless}
use Rattle.orc_values.proofs.Childless.{value_childless}
use Rattle.orc_stats.specs.declared.kind.StatKind.{StatKind}
use Rattle.orc_stats.specs.declared.kind.StatKind.TheVariants as kind
use Rattle.orc_stats.specs.Kinds.{is_of}
use Rattle.orc_stats.specs.Tallies.{Measure, cell_kept}
use Rattle.orc_stats.specs.laws.TallyLaws.{kept_is}

pub bool_childless : (c : Cell) → bool_of (childless c) ≡ bool_of c
bool_childless null = refl
bool_childless (leaf a) = refl
bool_childless (list x) = refl
bool_childless (struct x) = refl
bool_childless (pairs x) = refl

pub kind_childless : (k : StatKind) (c : Cell) → is_of k (childless c) ≡ is_of k c
kind_childless k null = refl
kind_childless k (leaf a) = refl
kind_childless kind.Plain (list x) = refl
kind_childless kind.Ints (list x) = refl
kind_childless kind.Bools (list x) = refl
kind_childless kind.Dates (list x) = refl
kind_childless kind.Texts (list x) = refl
kind_childless kind.Bins (list x) = refl
kind_childless kind.Children (list x) = refl
kind_childless kind.Plain (struct x) = refl
kind_childless kind.Ints (struct x) = refl
kind_childless kind.Bools (struct x) = refl
kind_childless kind.Dates (struct x) = refl
kind_childless kind.Texts (struct x) = refl
kind_childless kind.Bins (struct x) = refl
kind_childless kind.Children (struct x) = refl
kind_childless kind.Plain (pairs x) = refl
kind_childless kind.Ints (pairs x) = refl
kind_childless kind.Bools (pairs x) = refl
kind_childless kind.Dates (pairs x) = refl
kind_childless kind.Texts (pairs x) = refl
kind_childless kind.Bins (pairs x) = refl
kind_childless kind.Children (pairs x) = refl

pub cell_childless : {P : Type 0} (m : Measure P) → ((c : Cell) → m.of_cell (childless c) ≡ m.of_cell c)
    → (c : Cell) → cell_kept m (childless c) ≡ cell_kept m c
cell_childless m same c = kept_is m (ap bit (value_childless c)) (ap (λ b. Some (not b)) (value_childless c)) (same c)
