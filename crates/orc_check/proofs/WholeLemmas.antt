-- The statistics of the whole file are joined of those of the stripes' rows, as far as they are told.
use Rattle.std.proofs.Common.{◌≡◌, ◌∙◌, ℕ, ◌+◌, ◌*◌, ◌<◌, ◌≤◌, ◌^◌, ◌⊎◌, inl, inr, true, List, [], ◌∷◌, ◌++◌, length, map, slice_get, Some, refl, sym, ap, subst, arith, length-append}
use Rattle.std.specs.Prelude.{All, sum_by}
use Rattle.std.specs.List.{AllByRecursion, flat_map}
use Rattle.std.proofs.lemmas.List.Concat.{flat_map-cons}
use Rattle.std.proofs.lemmas.List.Elements.{All-from_recursion}
use Rattle.std.proofs.lemmas.List.Sums.{sum_by-cons}
use Rattle.orc_values.specs.Cells.{Cell}
use Rattle.orc_values.specs.Shapes.{Shape, width, shape_at}
use Rattle.orc_values.specs.Columns.{cells}
use Rattle.orc_values.proofs.Together.{cells_fit}
use Rattle.orc_stats.specs.declared.kind.StatKind.{StatKind}
use Rattle.orc_stats.specs.declared.kind.StatKind.TheVariants as kind
use Rattle.orc_stats.specs.declared.fault.StatFault.{StatFault}
use Rattle.orc_stats.specs.declared.fault.StatFault.TheVariants as fault
use Rattle.orc_stats.specs.declared.stat.Stat.{Stat}
use Rattle.orc_stats.specs.declared.stat.Body.{Body}
use Rattle.orc_stats.specs.declared.stat.Body.TheVariants as body
use Rattle.orc_stats.specs.Kinds.{is_of, body_is_of}
use Rattle.orc_stats.specs.Statistics.{stat, values_body}
use Rattle.orc_stats.specs.Joining.{joined}
use Rattle.orc_stats.specs.Known.{known_in, known_as, told_body, Part, part_cells, known_stats}
use Rattle.orc_stats.proofs.KnownParts.{joined-told, part_cells-parts_of}
use Rattle.orc_stats.specs.ColumnStatistics.{column_stat}
use Rattle.orc_tail.specs.Statistics.{kind_at, column_stats, file_stats}
use Rattle.orc_file_reader.specs.Honest.{AreWhole, told_at, column_parts, known_whole_of}
use Rattle.orc_stats.proofs.Folding.{few_values as values_few}
use Rattle.orc_stats.proofs.Fitting.{are_of_kind}
use Rattle.orc_check.specs.Checking.{AreKnown, AreOfSchema, AreOwnStats}
use Rattle.orc_values.proofs.Lists.{some_take}
use Rattle.orc_tail.proofs.OfColumns.{at_column, length-of_columns}

pub column_is : (s : Shape) (c : ℕ) (told : List (List Stat)) (parts : List (List Cell)) (own : List (List Stat)) → c < width s → AreKnown s told parts own
    → column_stats c own ≡ known_stats (kind_at s c) (column_parts s told parts c)
column_is s c told [] [] lt h = refl
column_is s c told [] (x ∷ own) lt h = absurd h
column_is s c told (p ∷ parts) [] lt h = absurd h
column_is s c [] (p ∷ parts) (x ∷ own) lt h =
    ap (λ (z : List Stat). z ++ column_stats c own) (some_take x c (known_as body.Plain (column_stat s p c)) (h.0.each c lt))
    ∙ ap (λ (z : List Stat). known_as body.Plain (column_stat s p c) ∷ z) (column_is s c [] parts own lt h.1)
column_is s c (t ∷ told) (p ∷ parts) (x ∷ own) lt h =
    let o : Body = told_body (slice_get t c) in
    ap (λ (z : List Stat). z ++ column_stats c own) (some_take x c (known_as o (column_stat s p c)) (h.0.each c lt))
    ∙ ap (λ (z : List Stat). known_as o (column_stat s p c) ∷ z) (column_is s c told parts own lt h.1)

kinds_are : (s : Shape) (c : ℕ) (parts : List (List Cell)) → c < width s → AllByRecursion (AreOfSchema s) parts
    → AllByRecursion (AllByRecursion (λ x. is_of (kind_at s c) x ≡ true)) (map (cells s c) parts)
kinds_are s c [] lt h = tt
kinds_are s c (p ∷ parts) lt h = (are_of_kind (shape_at s c) (cells s c p) (cells_fit s c p lt h.0.fit), kinds_are s c parts lt h.1)

cells_few : (s : Shape) (c : ℕ) (parts : List (List Cell)) → c < width s → AllByRecursion (AreOfSchema s) parts
    → length (flat_map (λ p. p) (map (cells s c) parts)) ≤ length parts * 2147483648
cells_few s c [] lt h = omega arith
cells_few s c (p ∷ parts) lt h =
    let few = h.0.few c lt in
    let rest = cells_few s c parts lt h.1 in
    let all = flat_map-cons (λ (x : List Cell). x) (cells s c p) (map (cells s c) parts) in
    let len = length-append (cells s c p) (flat_map (λ (x : List Cell). x) (map (cells s c) parts)) in
    omega (arith, ap length all, len, few, rest)

pub whole_column : (s : Shape) (told : List (List Stat)) (parts : List (List Cell)) (own : List (List Stat)) (c : ℕ) → c < width s → AreOwnStats s told parts own
    → slice_get (file_stats s own) c ≡ Some (known_whole_of s told parts c)
whole_column s told parts own c lt h =
    let k : StatKind = kind_at s c in
    let count = cells_few s c parts lt h.fit in
    let few = h.few in
    let z : 0 + c ≡ c = omega arith in
    let most : length (flat_map (λ p. p) (map (cells s c) parts)) ≤ 2 ^ 62 = omega (arith, count, few) in
    at_column (λ d. joined (kind_at s d) (column_stats d own)) 0 (width s) c lt
    ∙ ap (λ d. Some (joined (kind_at s d) (column_stats d own))) z
    ∙ ap (λ (xs : List Stat). Some (joined k xs)) (column_is s c told parts own lt h.known)
    ∙ ap Some (joined-told k (told_at told c) (map (cells s c) parts) (kinds_are s c parts lt h.fit) most)

pub whole_is : (s : Shape) (told : List (List Stat)) (parts : List (List Cell)) (own : List (List Stat)) (whole : List Stat) → whole ≡ file_stats s own → AreOwnStats s told parts own → AreWhole s told parts whole
whole_is s told parts own whole e h = subst (λ (xs : List Stat). AreWhole s told parts xs) (sym e) (record {
  counted = length-of_columns (λ d. joined (kind_at s d) (column_stats d own)) 0 (width s);
  each = λ c lt. whole_column s told parts own c lt h;
})

body_is : (k : StatKind) (o : Body) (cs : List Cell) → body_is_of k (known_in (o ∷ []) (values_body k cs)) ≡ true
body_is kind.Plain o cs = refl
body_is kind.Ints o cs = refl
body_is kind.Bools o cs = refl
body_is kind.Dates o cs = refl
body_is kind.Texts o cs = refl
body_is kind.Bins o cs = refl
body_is kind.Children o cs = refl

bodies_are : (k : StatKind) (parts : List Part) → AllByRecursion (λ (x : Stat). body_is_of k x.body ≡ true) (known_stats k parts)
bodies_are k [] = tt
bodies_are k (p ∷ parts) = (body_is k (told_body p.told) p.cells, bodies_are k parts)

pub own_kinds : (s : Shape) (told : List (List Stat)) (parts : List (List Cell)) (own : List (List Stat)) (c : ℕ) → c < width s → AreOwnStats s told parts own
    → All (λ (x : Stat). body_is_of (kind_at s c) x.body ≡ true) (column_stats c own)
own_kinds s told parts own c lt h =
    let k : StatKind = kind_at s c in
    subst (λ (xs : List Stat). All (λ (x : Stat). body_is_of k x.body ≡ true) xs) (sym (column_is s c told parts own lt h.known))
    (All-from_recursion (λ (x : Stat). body_is_of k x.body ≡ true) (known_stats k (column_parts s told parts c)) (bodies_are k (column_parts s told parts c)))

-- ---- a column has too few values to be refused

counts_few : (k : StatKind) (parts : List Part) → sum_by (λ (x : Stat). x.count) (known_stats k parts) ≤ length (flat_map (λ p. p) (part_cells parts))
counts_few k [] = omega arith
counts_few k (p ∷ parts) =
    let sum = sum_by-cons (λ (x : Stat). x.count) (known_as (told_body p.told) (stat k p.cells)) (known_stats k parts) in
    let all = flat_map-cons (λ (x : List Cell). x) p.cells (part_cells parts) in
    let len = length-append p.cells (flat_map (λ (x : List Cell). x) (part_cells parts)) in
    omega (arith, sum, ap length all, len, values_few p.cells, counts_few k parts)

pub own_few : (s : Shape) (told : List (List Stat)) (parts : List (List Cell)) (own : List (List Stat)) (c : ℕ) → c < width s → AreOwnStats s told parts own
    → sum_by (λ (x : Stat). x.count) (column_stats c own) ≤ 2 ^ 62
own_few s told parts own c lt h =
    let same = ap (λ (cs : List (List Cell)). length (flat_map (λ p. p) cs)) (part_cells-parts_of (told_at told c) (map (cells s c) parts)) in
    let count = cells_few s c parts lt h.fit in
    let few = h.few in
    subst (λ (xs : List Stat). sum_by (λ (x : Stat). x.count) xs ≤ 2 ^ 62) (sym (column_is s c told parts own lt h.known)) (omega (arith, counts_few (kind_at s c) (column_parts s told parts c), same, count, few))

pub never_large : (s : Shape) (told : List (List Stat)) (parts : List (List Cell)) (own : List (List Stat)) (e : StatFault) → AreOwnStats s told parts own → e ≡ fault.CountTooLarge
    → (e ≡ fault.OutOfMemory) ⊎ ((e ≡ fault.CountTooLarge) × (c : ℕ) × (c < width s) × (2 ^ 62 < sum_by (λ (x : Stat). x.count) (column_stats c own))) → ⊥
never_large s told parts own e h large (inl memory) = let wrong : fault.CountTooLarge ≡ fault.OutOfMemory = sym large ∙ memory in cc
never_large s told parts own e h large (inr why) = omega (arith, why.3, own_few s told parts own why.1 why.2 h)
