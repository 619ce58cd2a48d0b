-- What is kept of a part of a column: its values, and whether there is null.
use Rattle.std.proofs.Common.{◌≡◌, ◌<◌, ◌≤◌, List, [], ◌∷◌, length, refl, sym, ap, ◌∙◌, arith, inl, inr}
use Rattle.std.proofs.lemmas.Bool.{cases_lt}
use Rattle.orc_values.specs.Cells.{Cell, null, leaf, list, struct, pairs, values}
use Rattle.orc_stats.specs.Tallies.{Measure, Kept, together, cell_kept, cells_kept}
use Rattle.orc_stats.specs.laws.TallyLaws.{kept_is, together_comm, together_assoc}
use Rattle.orc_values.proofs.Lists.{values_few}

-- where there are as many values as cells, they are the cells
pub all_values : (cs : List Cell) → length cs ≤ length (values cs) → values cs ≡ cs
all_values [] h = refl
all_values (null ∷ cs) h = absurd (omega (arith, h, values_few cs))
all_values (leaf a ∷ cs) h = ap (λ t. leaf a ∷ t) (all_values cs (omega (arith, h)))
all_values (list x ∷ cs) h = ap (λ t. list x ∷ t) (all_values cs (omega (arith, h)))
all_values (struct x ∷ cs) h = ap (λ t. struct x ∷ t) (all_values cs (omega (arith, h)))
all_values (pairs x ∷ cs) h = ap (λ t. pairs x ∷ t) (all_values cs (omega (arith, h)))

module _ {P : Type 0} (m : Measure P) where
  -- null is counted once as well as twice
  nulls_once : together m (cell_kept m null) (cell_kept m null) ≡ cell_kept m null
  nulls_once = kept_is m refl refl (ap (λ p. m.joins.join p (m.of_cell null)) m.of_null ∙ m.joins.unit (m.of_cell null))

  behind_null : (v : Kept P) → together m (cell_kept m null) (together m v (cell_kept m null)) ≡ together m v (cell_kept m null)
  behind_null v =
      together_comm m (cell_kept m null) (together m v (cell_kept m null)) ∙ together_assoc m v (cell_kept m null) (cell_kept m null) ∙ ap (together m v) nulls_once

  behind_value : (c v : Kept P) → together m c (together m v (cell_kept m null)) ≡ together m (together m c v) (cell_kept m null)
  behind_value c v = sym (together_assoc m c v (cell_kept m null))

  -- where there are fewer values than cells, one null stands for all
  pub nulls_kept : (cs : List Cell) → length (values cs) < length cs → cells_kept m cs ≡ together m (cells_kept m (values cs)) (cell_kept m null)
  nulls_kept [] h = absurd (omega (arith, h))
  nulls_kept (null ∷ cs) h =
      elim (cases_lt (length (values cs)) (length cs)) [
        | inl less ↦ ap (together m (cell_kept m null)) (nulls_kept cs less) ∙ behind_null (cells_kept m (values cs))
        | inr as_many ↦ together_comm m (cell_kept m null) (cells_kept m cs) ∙ ap (λ t. together m (cells_kept m t) (cell_kept m null)) (sym (all_values cs as_many))
      ]
  nulls_kept (leaf a ∷ cs) h = ap (together m (cell_kept m (leaf a))) (nulls_kept cs (omega (arith, h))) ∙ behind_value (cell_kept m (leaf a)) (cells_kept m (values cs))
  nulls_kept (list x ∷ cs) h = ap (together m (cell_kept m (list x))) (nulls_kept cs (omega (arith, h))) ∙ behind_value (cell_kept m (list x)) (cells_kept m (values cs))
  nulls_kept (struct x ∷ cs) h = ap (together m (cell_kept m (struct x))) (nulls_kept cs (omega (arith, h))) ∙ behind_value (cell_kept m (struct x)) (cells_kept m (values cs))
  nulls_kept (pairs x ∷ cs) h = ap (together m (cell_kept m (pairs x))) (nulls_kept cs (omega (arith, h))) ∙ behind_value (cell_kept m (pairs x)) (cells_kept m (values cs))

  -- of a part: what is kept of its values, and of one null where there is one
  pub part_with_nulls : (old : Kept P) (part vs : List Cell) → values part ≡ vs → length vs < length part → together m (together m old (cells_kept m vs)) (cell_kept m null) ≡ together m old (cells_kept m part)
  part_with_nulls old part vs is less =
      together_assoc m old (cells_kept m vs) (cell_kept m null)
      ∙ ap (together m old) (ap (λ t. together m (cells_kept m t) (cell_kept m null)) (sym is) ∙ sym (nulls_kept part (omega (arith, less, ap length is))))

  pub part_of_values : (old : Kept P) (part vs : List Cell) → values part ≡ vs → length part ≤ length vs → together m old (cells_kept m vs) ≡ together m old (cells_kept m part)
  part_of_values old part vs is as_many = ap (λ t. together m old (cells_kept m t)) (sym is ∙ all_values part (omega (arith, as_many, ap length is)))
