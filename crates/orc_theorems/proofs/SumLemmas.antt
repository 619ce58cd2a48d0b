-- Where a column's sum stands in the statistics of a file.
use Rattle.std.proofs.Common.{◌≡◌, ◌∙◌, ℕ, ◌<◌, Bool, List, [], ◌∷◌, map, Some, slice_get, ap}
use Rattle.std.specs.Prelude.{◌&&◌}
use Rattle.std.specs.List.{flat_map, list_all}
use Rattle.orc_values.specs.Cells.{Cell}
use Rattle.orc_values.specs.Shapes.{width}
use Rattle.orc_values.specs.Columns.{cells}
use Rattle.orc_stats.specs.declared.kind.StatKind.{StatKind}
use Rattle.orc_stats.specs.declared.stat.Stat.{Stat}
use Rattle.orc_stats.specs.Statistics.{stat}
use Rattle.orc_stats.specs.Known.{part_cells, told_of}
use Rattle.orc_stats.proofs.KnownParts.{part_cells-parts_of}
use Rattle.orc_stats.specs.Whole.{has_sum, keeps_sum, whole}
use Rattle.orc_stats.specs.ColumnStatistics.{column_stat}
use Rattle.orc_tail.specs.Statistics.{kind_at}
use Rattle.orc_file_reader.specs.FileRows.{rows_together, cut_rows}
use Rattle.orc_file_reader.specs.Honest.{HasWholeStats, each_sum_fits, told_at, column_parts, known_whole_of}
use Rattle.orc_tail.specs.declared.tail.Tail.{Tail}
use Rattle.orc_file_reader.proofs.HonestLemmas.{all_cells}
use Rattle.orc_merge_laws.specs.Grouping.{HaveRows, AreHonestFiles}
use Rattle.std.proofs.lemmas.List.Folds.{list_all-map}
use Rattle.orc_merge_laws.proofs.Honest.{has_sum-known}

-- files with rows and their statistics have rows
pub honest_have_rows : (xs : List (List ℕ)) (parts : List (List Cell)) → AreHonestFiles xs parts → HaveRows xs parts
honest_have_rows [] [] h = tt
honest_have_rows [] (r ∷ parts) h = absurd h
honest_have_rows (x ∷ xs) [] h = absurd h
honest_have_rows (x ∷ xs) (r ∷ parts) h = ((h.0.0, h.0.1), honest_have_rows xs parts h.1)

-- the law on the sum of a column that was counted part by part
abbrev pub SumLaw : Type 0
SumLaw = (k : StatKind) (stripes : List (List Cell)) → has_sum (whole k stripes).body
    ≡ (list_all (λ rows. keeps_sum (stat k rows)) stripes && has_sum (stat k (flat_map (λ rows. rows) stripes)).body)

pub sum_told : SumLaw → (tail : Tail) (rows : List Cell) → rows_together (cut_rows tail.stripes rows) ≡ rows → HasWholeStats tail rows
    → (column : ℕ) → column < width tail.schema
    → (told : Stat) × (slice_get tail.file_stats column ≡ Some told)
    × (has_sum told.body ≡ (each_sum_fits tail.schema (cut_rows tail.stripes rows) column && has_sum (column_stat tail.schema rows column).body))
sum_told law tail rows cut whole_stats column lt =
    let k : StatKind = kind_at tail.schema column in
    let parts : List (List Cell) = cut_rows tail.stripes rows in
    let told = column_parts tail.schema tail.stripe_stats parts column in (
      known_whole_of tail.schema tail.stripe_stats (cut_rows tail.stripes rows) column,
      whole_stats.each column lt,
      has_sum-known (told_of k told) (whole k (part_cells told)).body
          ∙ ap (λ (cs : List (List Cell)). has_sum (whole k cs).body) (part_cells-parts_of (told_at tail.stripe_stats column) (map (cells tail.schema column) parts))
          ∙ law k (map (cells tail.schema column) parts)
          ∙ ap (λ (b : Bool). b && has_sum (stat k (flat_map (λ p. p) (map (cells tail.schema column) parts))).body)
          (list_all-map (λ (p : List Cell). keeps_sum (stat k p)) (cells tail.schema column) parts)
          ∙ ap (λ (cs : List Cell). each_sum_fits tail.schema parts column && has_sum (stat k cs).body) (all_cells tail.schema column parts)
          ∙ ap (λ (rs : List Cell). each_sum_fits tail.schema parts column && has_sum (stat k (cells tail.schema column rs)).body) cut,
    )
