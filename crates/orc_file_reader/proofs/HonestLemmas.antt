-- The cells that a file's statistic counts are those of all its rows.
use Rattle.std.specs.Prelude.{◌≡◌, ℕ, true, false, List, [], ◌∷◌, ◌++◌, length, map}
use Rattle.std.proofs.Common.{◌∙◌, sym, ap, refl, arith, length-append}
use Rattle.std.specs.List.{flat_map, list_all}
use Rattle.std.proofs.lemmas.List.Concat.{flat_map-cons}
use Rattle.orc_values.specs.Cells.{Cell}
use Rattle.orc_values.specs.Shapes.{Shape}
use Rattle.orc_values.specs.Columns.{cells}
use Rattle.orc_values.proofs.Together.{cells-append}
use Rattle.orc_stats.specs.declared.kind.StatKind.{StatKind}
use Rattle.orc_stats.specs.Statistics.{stat}
use Rattle.orc_stats.specs.Whole.{keeps_sum, whole}
use Rattle.orc_tail.specs.Statistics.{kind_at}
use Rattle.orc_file_reader.specs.FileRows.{rows_together}
use Rattle.orc_file_reader.specs.Honest.{whole_of, less_sum, each_sum_fits}
use Rattle.std.proofs.lemmas.List.Folds.{list_all-map}

twice_none : (xs : List Cell) → xs ≡ xs ++ xs → xs ≡ []
twice_none [] e = refl
twice_none (x ∷ xs) e = absurd (omega (arith, ap length e, length-append (x ∷ xs) (x ∷ xs)))

no_cells : (s : Shape) (column : ℕ) → cells s column [] ≡ []
no_cells s column = twice_none (cells s column []) (cells-append s column [] [])

pub all_cells : (s : Shape) (column : ℕ) (parts : List (List Cell)) → flat_map (λ p. p) (map (cells s column) parts) ≡ cells s column (rows_together parts)
all_cells s column [] = sym (no_cells s column)
all_cells s column (rows ∷ parts) =
    flat_map-cons (λ (p : List Cell). p) (cells s column rows) (map (cells s column) parts)
    ∙ (ap (λ (t : List Cell). cells s column rows ++ t) (all_cells s column parts)
    ∙ (sym (cells-append s column rows (rows_together parts))
    ∙ ap (cells s column) (sym (flat_map-cons (λ (p : List Cell). p) rows parts))))

sums_stand : (k : StatKind) (parts : List (List Cell)) → list_all (λ p. keeps_sum (stat k p)) parts ≡ true → whole k parts ≡ stat k (flat_map (λ p. p) parts)
sums_stand k parts e = rw e refl

a_sum_fails : (k : StatKind) (parts : List (List Cell)) → list_all (λ p. keeps_sum (stat k p)) parts ≡ false → whole k parts ≡ less_sum (stat k (flat_map (λ p. p) parts))
a_sum_fails k parts e = rw e refl

pub whole_all : (s : Shape) (parts : List (List Cell)) (column : ℕ) → each_sum_fits s parts column ≡ true → whole_of s parts column ≡ stat (kind_at s column) (cells s column (rows_together parts))
whole_all s parts column e =
    let k = kind_at s column in
    sums_stand k (map (cells s column) parts) (list_all-map (λ (p : List Cell). keeps_sum (stat k p)) (cells s column) parts ∙ e) ∙ ap (stat k) (all_cells s column parts)

pub whole_some : (s : Shape) (parts : List (List Cell)) (column : ℕ) → each_sum_fits s parts column ≡ false → whole_of s parts column ≡ less_sum (stat (kind_at s column) (cells s column (rows_together parts)))
whole_some s parts column e =
    let k = kind_at s column in
    a_sum_fails k (map (cells s column) parts) (list_all-map (λ (p : List Cell). keeps_sum (stat k p)) (cells s column) parts ∙ e) ∙ ap (λ (t : List Cell). less_sum (stat k t)) (all_cells s column parts)
