-- What is kept of cells that stand one after the other, and that it tells them again.
use Rattle.std.proofs.Common.{◌≡◌, List, [], ◌∷◌, ◌++◌, length, map, flat_map, refl, sym, ap, ◌∙◌, append-nil, append_assoc}
use Rattle.std.proofs.lemmas.List.{take_at, drop_at, map-append}
use Rattle.orc_values.specs.Cells.{bool, int, date, text, bytes, Cell, null, leaf, list, struct, pairs, list_of_cells, list_of_pairs}
use Rattle.orc_values.specs.Childless.{childless}
use Rattle.orc_values.proofs.Childless.{elements_many, pairs_many}
use Rattle.orc_values.proofs.Together.{flat_map-append}
use Rattle.orc_row_batch.specs.declared.kept_cell.KeptCell.{KeptCell}
use Rattle.orc_row_batch.specs.declared.kept_cell.KeptCell.TheVariants as kept_cell
use Rattle.orc_row_batch.specs.Kept.{KeptColumn, nothing, with_cells, kept_cell_of, text_in, binary_in, told}

-- ---- cells behind cells

pub with_none : (k : KeptColumn) → with_cells [] k ≡ k
with_none k = λ i. record { cells = append-nil k.cells i; texts = append-nil k.texts i; bytes = append-nil k.bytes i }

behind : {X : Type 0} (front : List X) (f : Cell → List X) (a b : List Cell) → front ++ flat_map f (a ++ b) ≡ (front ++ flat_map f a) ++ flat_map f b
behind front f a b = ap (λ t. front ++ t) (flat_map-append f a b) ∙ sym (append_assoc front (flat_map f a) (flat_map f b))

cells_behind : (front : List KeptCell) (a b : List Cell) → front ++ map kept_cell_of (a ++ b) ≡ (front ++ map kept_cell_of a) ++ map kept_cell_of b
cells_behind front a b = ap (λ t. front ++ t) (map-append kept_cell_of a b) ∙ sym (append_assoc front (map kept_cell_of a) (map kept_cell_of b))

pub with_more : (a b : List Cell) (k : KeptColumn) → with_cells (a ++ b) k ≡ with_cells b (with_cells a k)
with_more a b k = λ i. record {
  cells = cells_behind k.cells a b i;
  texts = behind k.texts text_in a b i;
  bytes = behind k.bytes binary_in a b i;
}

-- ---- a cell without its children is kept as the cell is

kept_alike : (c : Cell) → kept_cell_of (childless c) ≡ kept_cell_of c
kept_alike null = refl
kept_alike (leaf a) = refl
kept_alike (list cs) = ap kept_cell.List (elements_many (length (list_of_cells cs)))
kept_alike (struct cs) = refl
kept_alike (pairs ps) = ap kept_cell.Map (pairs_many (length (list_of_pairs ps)))

text_alike : (c : Cell) → text_in (childless c) ≡ text_in c
text_alike null = refl
text_alike (leaf a) = refl
text_alike (list cs) = refl
text_alike (struct cs) = refl
text_alike (pairs ps) = refl

bytes_alike : (c : Cell) → binary_in (childless c) ≡ binary_in c
bytes_alike null = refl
bytes_alike (leaf a) = refl
bytes_alike (list cs) = refl
bytes_alike (struct cs) = refl
bytes_alike (pairs ps) = refl

pub kept_childless : (c : Cell) (k : KeptColumn) → with_cells (childless c ∷ []) k ≡ with_cells (c ∷ []) k
kept_childless c k = λ i. record {
  cells = k.cells ++ kept_alike c i ∷ [];
  texts = k.texts ++ (text_alike c i ++ []);
  bytes = k.bytes ++ (bytes_alike c i ++ []);
}

-- ---- what is kept is told again

pub told_back : (cs : List Cell) → told (with_cells cs (nothing)) ≡ map childless cs
told_back [] = refl
told_back (null ∷ cs) = ap (λ t. null ∷ t) (told_back cs)
told_back (leaf (bool b) ∷ cs) = ap (λ t. leaf (bool b) ∷ t) (told_back cs)
told_back (leaf (int n) ∷ cs) = ap (λ t. leaf (int n) ∷ t) (told_back cs)
told_back (leaf (date n) ∷ cs) = ap (λ t. leaf (date n) ∷ t) (told_back cs)
told_back (leaf (text x) ∷ cs) = rw (take_at x (flat_map text_in cs) (length x) refl, drop_at x (flat_map text_in cs) (length x) refl) (ap (λ t. leaf (text x) ∷ t) (told_back cs))
told_back (leaf (bytes x) ∷ cs) = rw (take_at x (flat_map binary_in cs) (length x) refl, drop_at x (flat_map binary_in cs) (length x) refl) (ap (λ t. leaf (bytes x) ∷ t) (told_back cs))
told_back (list x ∷ cs) = ap (λ t. childless (list x) ∷ t) (told_back cs)
told_back (struct x ∷ cs) = ap (λ t. childless (struct x) ∷ t) (told_back cs)
told_back (pairs x ∷ cs) = ap (λ t. childless (pairs x) ∷ t) (told_back cs)
