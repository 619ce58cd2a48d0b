-- A column of lists, or of maps, has no more children than the column below has cells.
use Rattle.std.proofs.Common.{◌≡◌, ℕ, ◌+◌, ◌-◌, ◌<◌, ◌^◌, List, length, sum_by, ap, ◌∙◌, arith}
use Rattle.orc_values.specs.declared.kind.Scalar.{Scalar}
use Rattle.orc_values.specs.declared.kind.Scalar.TheVariants as scalar_kind
use Rattle.orc_values.specs.Shapes.{Shape, scalar, list_of, map_of, struct_of, width, shape_at}
use Rattle.orc_values.specs.Cells.{Cell, parts, pairs_in}
use Rattle.orc_values.specs.Columns.{cells}
use Rattle.orc_values.proofs.Deeper.{width_pos, cells-add, elements-length, keys-length, at_within}
use Rattle.orc_stats.specs.declared.kind.StatKind.TheVariants as kind
use Rattle.orc_stats.specs.Kinds.{kind_of, kind_of_scalar}
use Rattle.orc_stripe_writer.specs.WrittenStripe.{AreFew}
use Rattle.orc_tail.specs.Statistics.{kind_at}

-- the children of a cell of the type; what contains no other, and a struct, has none
abbrev pub child_number : Shape → Cell → ℕ
child_number (scalar k o) = λ c. 0
child_number (list_of s o) = λ c. length (parts c)
child_number (map_of k v o) = λ c. length (pairs_in c)
child_number (struct_of fs o) = λ c. 0

scalar_no_list : (k : Scalar) → kind_of_scalar k ≡ kind.Children → ⊥
scalar_no_list scalar_kind.Boolean e = cc
scalar_no_list scalar_kind.Byte e = cc
scalar_no_list scalar_kind.Short e = cc
scalar_no_list scalar_kind.Int e = cc
scalar_no_list scalar_kind.Long e = cc
scalar_no_list scalar_kind.String e = cc
scalar_no_list scalar_kind.Binary e = cc
scalar_no_list scalar_kind.Date e = cc

one_below : (t : Shape) → kind_of t ≡ kind.Children → 1 < width t
one_below (scalar k o) e = absurd (scalar_no_list k e)
one_below (list_of s o) e = omega (arith, width_pos s)
one_below (map_of k v o) e = omega (arith, width_pos k)
one_below (struct_of fs o) e = cc

children_below : (t : Shape) (rows : List Cell) → kind_of t ≡ kind.Children → length (cells t 1 rows) ≡ sum_by (child_number t) rows
children_below (scalar k o) rows e = absurd (scalar_no_list k e)
children_below (list_of s o) rows e = elements-length s o rows
children_below (map_of k v o) rows e = keys-length k v o rows
children_below (struct_of fs o) rows e = cc

pub few_children : (s : Shape) (k : ℕ) → k < width s → (rows : List Cell) → kind_at s k ≡ kind.Children → AreFew s rows → sum_by (child_number (shape_at s k)) (cells s k rows) < 2 ^ 31
few_children s k lt rows e few =
    let below = one_below (shape_at s k) e in
    let within = at_within s k lt in
    let more : k + 1 < width s = omega (arith, below, within) in
    let n = few (k + 1) more in
    let same = ap length (cells-add s k 1 rows lt below) ∙ children_below (shape_at s k) (cells s k rows) e in
    omega (arith, n, same)
