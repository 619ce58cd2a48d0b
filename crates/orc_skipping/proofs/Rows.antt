-- Where a rule skips rows, none of them matches.
use Rattle.std.proofs.Common.{◌≡◌, refl, sym, ap, ◌∙◌, ℕ, Bool, true, false, Option, Some, None, List, [], ◌∷◌, ◌++◌, subst}
use Rattle.std.specs.Prelude.{IfSome}
use Rattle.std.specs.Option.{option_map}
use Rattle.std.specs.List.{AllByRecursion}
use Rattle.orc_values.specs.Cells.{Cell}
use Rattle.orc_values.specs.Columns.{cells}
use Rattle.orc_values.specs.Shapes.{Shape, scalar}
use Rattle.orc_values.specs.declared.kind.Scalar.TheVariants as kind
use Rattle.orc_values.proofs.Together.{cells-append}
use Rattle.orc_stats.specs.declared.stat.Stat.{Stat}
use Rattle.orc_skipping.specs.Predicates.{Predicate, truth, only_one, cell_of_row}
use Rattle.orc_skipping.specs.Rules.{taken_boldly, cautious, bold}
use Rattle.orc_skipping.specs.Right.{Admits, AreRight, LackNothing, LeaveRoom, NoneMatches}
use Rattle.orc_skipping.proofs.Sound.{sound}

all_first : {X : Type 0} (P : X → Type 0) (xs ys : List X) → AllByRecursion P (xs ++ ys) → AllByRecursion P xs
all_first P [] ys h = tt
all_first P (x ∷ xs) ys h = (h.0, all_first P xs ys h.1)

all_last : {X : Type 0} (P : X → Type 0) (xs ys : List X) → AllByRecursion P (xs ++ ys) → AllByRecursion P ys
all_last P [] ys h = h
all_last P (x ∷ xs) ys h = all_last P xs ys h.1

only_of : {X : Type 0} (P : X → Type 0) (xs : List X) → AllByRecursion P xs → IfSome (only_one xs) P
only_of P [] h = tt
only_of P (x ∷ []) h = h.0
only_of P (x ∷ y ∷ xs) h = tt

of_column : (o : Option Stat) (xs ys zs : List Cell) → zs ≡ xs ++ ys → IfSome o (λ x. AllByRecursion (Admits x) zs)
    → IfSome o (λ x. IfSome (only_one xs) (Admits x)) × IfSome o (λ x. AllByRecursion (Admits x) ys)
of_column None xs ys zs e h = (tt, tt)
of_column (Some s) xs ys zs e h =
    let both : AllByRecursion (Admits s) (xs ++ ys) = subst (AllByRecursion (Admits s)) e h in
    (only_of (Admits s) xs (all_first (Admits s) xs ys both), all_last (Admits s) xs ys both)

-- no row is of a kind for which the statistics leave no room
pub none_of : (Matches : (ℕ → Option Cell) → Type 0) (s : Shape) (rows : List Cell) (told : ℕ → Option Stat) → AreRight s rows told
    → ((at : ℕ → Option Cell) → LeaveRoom told at → Matches at → ⊥) → AllByRecursion (λ row. Matches (cell_of_row s row) → ⊥) rows
none_of Matches s [] told h none = tt
none_of Matches s (row ∷ rows) told h none =
    let parts = λ (c : ℕ). of_column (told c) (cells s c (row ∷ [])) (cells s c rows) (cells s c (row ∷ rows)) (cells-append s c (row ∷ []) rows) (h c) in
    (none (cell_of_row s row) (λ c. (parts c).0), none_of Matches s rows told (λ c. (parts c).1) none)

contradiction : {b : Bool} → b ≡ true → b ≡ false → ⊥
contradiction f g = cc

pub none_matches : (s : Shape) (rows : List Cell) (told : ℕ → Option Stat) (p : Predicate) → AreRight s rows told
    → cautious told p ≡ false → NoneMatches s p rows
none_matches s rows told p h e =
    none_of (λ at. truth at p ≡ Some true) s rows told h (λ at room t. contradiction (sound told at room p true t) e)

as_it_is : (o : Option Stat) (xs : List Cell) → IfSome o (λ x. taken_boldly x ≡ x) → IfSome o (λ x. AllByRecursion (Admits x) xs)
    → IfSome (option_map taken_boldly o) (λ x. AllByRecursion (Admits x) xs)
as_it_is None xs full h = tt
as_it_is (Some x) xs full h = subst (λ y. AllByRecursion (Admits y) xs) (sym full) h

pub none_matches_boldly : (s : Shape) (rows : List Cell) (told : ℕ → Option Stat) (p : Predicate) → AreRight s rows told
    → LackNothing told → bold told p ≡ false → NoneMatches s p rows
none_matches_boldly s rows told p h full e =
    none_matches s rows (λ c. option_map taken_boldly (told c)) p (λ c. as_it_is (told c) (cells s c rows) (full c) (h c)) e

-- the cells of one column are the rows of a scalar shape
pub one_column : (s : Stat) (xs : List Cell) (p : Predicate) → AllByRecursion (Admits s) xs → cautious (λ c. Some s) p ≡ false
    → AllByRecursion (λ x. truth (λ c. Some x) p ≡ Some true → ⊥) xs
one_column s xs p h e = none_matches (scalar kind.Boolean []) xs (λ c. Some s) p (λ c. h) e
