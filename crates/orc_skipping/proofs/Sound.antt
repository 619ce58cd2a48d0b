-- What a predicate says of a row, the statistics leave room for.
use Rattle.std.proofs.Common.{◌≡◌, refl, sym, ap, ap₂, ◌∙◌, ℕ, nat_le, Bool, true, false, not, ◌&&◌, ◌||◌, if◌then◌else◌, Option, Some, None, List, [], ◌∷◌, subst}
use Rattle.std.specs.Prelude.{IfSome}
use Rattle.std.specs.List.{list_any}
use Rattle.std.specs.Option.{option_map, option_and_then, option_map_or}
use Rattle.std.specs.Ordering.{is_gt, ordering_index}
use Rattle.std.specs.declared.cmp.Ordering.{Ordering}
use Rattle.std.specs.declared.cmp.Ordering.TheVariants.{Less, Equal, Greater}
use Rattle.orc_values.specs.Cells.{Atom, Cell, null, leaf, list, struct, pairs, is_value}
use Rattle.orc_stats.specs.declared.stat.Stat.{Stat}
use Rattle.orc_stats.specs.Joining.{or_known, has_values}
use Rattle.orc_skipping.specs.Predicates.{order, Predicate, compare, is_null, negate, both, either, compared, truth}
use Rattle.orc_skipping.specs.Rules.{least_in, greatest_in, may_have, is_wanted, may_compare, may_be_null, may_be}
use Rattle.orc_skipping.specs.Right.{IsUpTo, Admits, LeaveRoom}
use Rattle.orc_skipping.proofs.Places.{at_least_low, at_most_high}

-- ---- truth values
pub and_true : (a b : Bool) → a ≡ true → b ≡ true → (a && b) ≡ true
and_true a b e f = cc

or_left : (a b : Bool) → a ≡ true → (a || b) ≡ true
or_left a b e = cc

or_right : (a b : Bool) → b ≡ true → (a || b) ≡ true
or_right true b e = refl
or_right false b e = e

wanted_itself : (b x : Bool) → x ≡ b → is_wanted b x ≡ true
wanted_itself true true e = refl
wanted_itself true false e = cc
wanted_itself false true e = cc
wanted_itself false false e = refl

-- ---- a comparison
low_side : (l : Option Atom) (v a : Atom) (o : Ordering) → order v a ≡ Some o → IfSome l (λ x. IsUpTo x v)
    → option_map_or (λ r. nat_le (ordering_index r) (ordering_index o)) (option_and_then (λ x. order x a) l) true ≡ true
low_side None v a o e h = refl
low_side (Some l) v a o e h = at_least_low l v a o e h

high_side : (g : Option Atom) (v a : Atom) (o : Ordering) → order v a ≡ Some o → IfSome g (λ x. IsUpTo v x)
    → option_map_or (λ r. nat_le (ordering_index o) (ordering_index r)) (option_and_then (λ x. order x a) g) true ≡ true
high_side None v a o e h = refl
high_side (Some g) v a o e h = at_most_high g v a o e h

has_place : (s : Stat) (v a : Atom) (o : Ordering) → order v a ≡ Some o → Admits s (leaf v) → may_have s a o ≡ true
has_place s v a o e h = and_true _ _ (low_side (least_in s.count s.body) v a o e h.1) (high_side (greatest_in s.body) v a o e h.2)

one_of_three : (f : Ordering → Bool) (o : Ordering) → f o ≡ true → list_any f (Less ∷ Equal ∷ Greater ∷ []) ≡ true
one_of_three f Less e = or_left _ _ e
one_of_three f Equal e = or_right (f Less) _ (or_left _ _ e)
one_of_three f Greater e = or_right (f Less) _ (or_right (f Equal) _ (or_left _ _ e))

placed : (s : Stat) (takes : Ordering → Bool) (v a : Atom) (r : Option Ordering) (b : Bool) → order v a ≡ r
    → option_map takes r ≡ Some b → Admits s (leaf v) → may_compare takes a b s ≡ true
placed s takes v a None b e t h = cc
placed s takes v a (Some o) b e t h =
    and_true _ _ h.0
    (one_of_three (λ o. may_have s a o && is_wanted b (takes o)) o
    (and_true _ _ (has_place s v a o e h) (wanted_itself b (takes o) (inside _ _ t))))
  where
    inside : (x y : Bool) → Some x ≡ Some y → x ≡ y
    inside x y e = cc

compare_cell : (s : Stat) (x : Cell) (takes : Ordering → Bool) (a : Atom) (b : Bool) → compared takes a x ≡ Some b
    → Admits s x → may_compare takes a b s ≡ true
compare_cell s (leaf v) takes a b t h = placed s takes v a (order v a) b refl t h
compare_cell s x takes a b t h = cc

-- ---- null
null_side : (n : Option Bool) → (n ≡ Some false → ⊥) → option_map_or (λ x. x) n true ≡ true
null_side None h = refl
null_side (Some true) h = refl
null_side (Some false) h = absurd (h refl)

null_cell : (s : Stat) (x : Cell) (b : Bool) → not (is_value x) ≡ b → Admits s x → may_be_null b s ≡ true
null_cell s null true t h = null_side s.nulls h
null_cell s null false t h = cc
null_cell s (leaf v) true t h = cc
null_cell s (leaf v) false t h = h.0
null_cell s (list cs) true t h = cc
null_cell s (list cs) false t h = h
null_cell s (struct cs) true t h = cc
null_cell s (struct cs) false t h = h
null_cell s (pairs ps) true t h = cc
null_cell s (pairs ps) false t h = h

-- ---- a column
column : (told : Option Stat) (at : Option Cell) (f : Cell → Option Bool) (room : Stat → Bool) (b : Bool)
    → ((s : Stat) (x : Cell) → f x ≡ Some b → Admits s x → room s ≡ true)
    → option_and_then f at ≡ Some b → IfSome told (λ s. IfSome at (Admits s))
    → option_map_or room told true ≡ true
column None at f room b each t h = refl
column (Some s) None f room b each t h = cc
column (Some s) (Some x) f room b each t h = each s x t h

as_and_then : {A B : Type 0} (f : A → B) (o : Option A) → option_map f o ≡ option_and_then (λ x. Some (f x)) o
as_and_then f None = refl
as_and_then f (Some x) = refl

-- ---- predicates
negated : (o : Option Bool) (b : Bool) → option_map not o ≡ Some b → o ≡ Some (not b)
negated None b e = cc
negated (Some true) true e = cc
negated (Some true) false e = refl
negated (Some false) true e = refl
negated (Some false) false e = cc

either_cases : (x y : Option Bool) (b : Bool) (p q : Bool → Bool)
    → ((c : Bool) → x ≡ Some c → p c ≡ true)
    → ((c : Bool) → y ≡ Some c → q c ≡ true)
    → or_known x y ≡ Some b
    → (if b then p true || q true else p false && q false) ≡ true
either_cases (Some true) y true p q f g t = or_left (p true) (q true) (f true refl)
either_cases (Some true) y false p q f g t = cc
either_cases (Some false) y true p q f g t = or_right (p true) (q true) (g true t)
either_cases (Some false) y false p q f g t = and_true (p false) (q false) (f false refl) (g false t)
either_cases None (Some true) true p q f g t = or_right (p true) (q true) (g true refl)
either_cases None (Some true) false p q f g t = cc
either_cases None (Some false) b p q f g t = cc
either_cases None None b p q f g t = cc

both_cases : (x y : Option Bool) (b : Bool) (p q : Bool → Bool)
    → ((c : Bool) → x ≡ Some c → p c ≡ true)
    → ((c : Bool) → y ≡ Some c → q c ≡ true)
    → option_map not (or_known (option_map not x) (option_map not y)) ≡ Some b
    → (if b then p true && q true else p false || q false) ≡ true
both_cases x y true p q f g t =
    either_cases (option_map not x) (option_map not y) false (λ c. p (not c)) (λ c. q (not c))
    (λ c e. f (not c) (negated x c e)) (λ c e. g (not c) (negated y c e)) (negated _ true t)
both_cases x y false p q f g t =
    either_cases (option_map not x) (option_map not y) true (λ c. p (not c)) (λ c. q (not c))
    (λ c e. f (not c) (negated x c e)) (λ c e. g (not c) (negated y c e)) (negated _ false t)

pub sound : (told : ℕ → Option Stat) (at : ℕ → Option Cell)
    → LeaveRoom told at
    → (p : Predicate) (b : Bool) → truth at p ≡ Some b → may_be told p b ≡ true
sound told at h (compare c takes a) b t =
    column (told c) (at c) (compared takes a) (may_compare takes a b) b (λ s x. compare_cell s x takes a b) t (h c)
sound told at h (is_null c) b t =
    column (told c) (at c) (λ x. Some (not (is_value x))) (may_be_null b) b
    (λ s x e. null_cell s x b (inside _ _ e)) (sym (as_and_then (λ x. not (is_value x)) (at c)) ∙ t) (h c)
  where
    inside : (x y : Bool) → Some x ≡ Some y → x ≡ y
    inside x y e = cc
sound told at h (negate p) b t = sound told at h p (not b) (negated (truth at p) b t)
sound told at h (both p q) b t = both_cases (truth at p) (truth at q) b (may_be told p) (may_be told q) (sound told at h p) (sound told at h q) t
sound told at h (either p q) b t = either_cases (truth at p) (truth at q) b (may_be told p) (may_be told q) (sound told at h p) (sound told at h q) t
