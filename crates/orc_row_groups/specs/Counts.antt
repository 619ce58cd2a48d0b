-- What is counted of the cells of a column: how many there are, how many of them are values, and how many bytes these
-- have.
use Rattle.std.specs.Prelude.{ℕ, List, length, sum_by, ◌≡◌, ◌-◌, ◌^◌, min}
use Rattle.orc_values.specs.Cells.{Cell, leaf, text, bytes, values}
use Rattle.orc_row_groups.specs.declared.counts.Counts.{Counts}

-- how many bytes a text or a byte string has; any other cell has none
abbrev pub octets_in : Cell → ℕ
octets_in (leaf (text t)) = length t
octets_in (leaf (bytes t)) = length t
octets_in _ = 0

-- how many bytes the texts and byte strings among the cells have
abbrev pub octets : List Cell → ℕ
octets cells = sum_by octets_in cells

-- where counting bytes stops
abbrev pub most : ℕ
most = 2 ^ 64 - 1

-- The counts are those of the cells. Bytes are counted up to 2^64 - 1; those of one stream are never more.
pub record AreCounted (counts : Counts) (cells : List Cell) : Type 0 where
  pub cells_are : counts.cells ≡ length cells
  pub values_are : counts.values ≡ length (values cells)
  pub octets_are : counts.octets ≡ min most (octets cells)
