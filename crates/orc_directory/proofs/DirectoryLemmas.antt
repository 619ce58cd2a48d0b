-- Streams that a directory names once.
use Rattle.std.proofs.Common.{◌≡◌, ℕ, zero, suc, ◌+◌, ◌<◌, Bool, true, false, ◌&&◌, ◌||◌, ◌==◌, not, cond, List, [], ◌∷◌, ◌++◌, length, take, get_or, refl, sym, ap, ◌∙◌, inl, inr, arith}
use Rattle.std.specs.declared.cmp.Ordering.{Ordering}
use Rattle.std.specs.declared.cmp.Ordering.TheVariants.{Less, Equal, Greater}
use Rattle.std.specs.Ordering.{nat_cmp, ordering_then, is_eq}
use Rattle.std.proofs.lemmas.Bool.{and_parts, and_from, and_left, and_right, or_cases, cases_Bool, cases_order, both_ways, lt-ltb, le-ltb, eq-eqb, ne_eqb, eqb-true, not-true, or_parts, or_from}
use Rattle.std.proofs.Math.Seq.{take-suc}
use Rattle.orc_wire.specs.declared.stripe_footer.StreamMsg.{StreamMsg}
use Rattle.orc_directory.specs.Directory as spec

-- pairs by their first parts, then by their second ones
abbrev pub pair_cmp : (ℕ × ℕ) → (ℕ × ℕ) → Ordering
pair_cmp x y = ordering_then (nat_cmp x.0 y.0) (nat_cmp x.1 y.1)

eq_cmp : (x y : ℕ) → is_eq (nat_cmp x y) ≡ (x == y)
eq_cmp x y =
    elim (cases_order x y) [
      | inl e ↦ rw (le-ltb x y (omega (arith, e)), eq-eqb x y e) refl
      | inr (inl l) ↦ rw (lt-ltb x y l, ne_eqb x y (λ e. omega (arith, e, l))) refl
      | inr (inr g) ↦ rw (le-ltb x y (omega (arith, g)), ne_eqb x y (λ e. omega (arith, e, g))) refl
    ]

eq_then : (a b : Ordering) → is_eq (ordering_then a b) ≡ (is_eq a && is_eq b)
eq_then Less b = refl
eq_then Equal b = refl
eq_then Greater b = refl

-- a pair is the key of a stream exactly where the stream is the column's of that kind
pair_at : (s : StreamMsg) (c k : ℕ) → is_eq (pair_cmp (s.column, s.kind) (c, k)) ≡ spec.is_stream_of c k s
pair_at s c k = eq_then (nat_cmp s.column c) (nat_cmp s.kind k) ∙ ap (λ b. b && is_eq (nat_cmp s.kind k)) (eq_cmp s.column c) ∙ ap (λ b. (s.column == c) && b) (eq_cmp s.kind k)

or_none : (b : Bool) → b ≡ (b || false)
or_none true = refl
or_none false = refl

or_more : (a b c : Bool) → (a || (b || c)) ≡ ((a || b) || c)
or_more true b c = refl
or_more false b c = refl

has_more : (c k : ℕ) (xs : List StreamMsg) (s : StreamMsg) → spec.has_stream c k (xs ++ s ∷ []) ≡ (spec.has_stream c k xs || spec.is_stream_of c k s)
has_more c k [] s = sym (or_none (spec.is_stream_of c k s))
has_more c k (x ∷ xs) s = ap (λ b. spec.is_stream_of c k x || b) (has_more c k xs s) ∙ or_more (spec.is_stream_of c k x) (spec.has_stream c k xs) (spec.is_stream_of c k s)

of_itself : (s x : StreamMsg) → spec.is_stream_of s.column s.kind x ≡ true → spec.is_stream_of x.column x.kind s ≡ true
of_itself s x h =
    let p = and_parts (x.column == s.column) (x.kind == s.kind) h in
    and_from (s.column == x.column) (s.kind == x.kind) (eq-eqb s.column x.column (sym (eqb-true x.column s.column p.0))) (eq-eqb s.kind x.kind (sym (eqb-true x.kind s.kind p.1)))

not_of_itself : (s x : StreamMsg) → spec.is_stream_of s.column s.kind x ≡ false → spec.is_stream_of x.column x.kind s ≡ false
not_of_itself s x h =
    elim (cases_Bool (spec.is_stream_of x.column x.kind s)) [
      | inl t ↦ absurd (both_ways (spec.is_stream_of s.column s.kind x) h (of_itself x s t))
      | inr f ↦ f
    ]

once_push : (xs : List StreamMsg) (s : StreamMsg) → spec.names_once xs ≡ true → spec.has_stream s.column s.kind xs ≡ false → spec.names_once (xs ++ s ∷ []) ≡ true
once_push [] s h k = refl
once_push (x ∷ xs) s h k =
    let p = and_parts (not (spec.has_stream x.column x.kind xs)) (spec.names_once xs) h in
    let q = or_parts (spec.is_stream_of s.column s.kind x) (spec.has_stream s.column s.kind xs) k in
    let n : spec.has_stream x.column x.kind (xs ++ s ∷ []) ≡ false =
    has_more x.column x.kind xs s ∙ or_from (spec.has_stream x.column x.kind xs) (spec.is_stream_of x.column x.kind s) (not-true (spec.has_stream x.column x.kind xs) p.0) (not_of_itself s x q.0) in
    and_from (not (spec.has_stream x.column x.kind (xs ++ s ∷ []))) (spec.names_once (xs ++ s ∷ [])) (ap not n) (once_push xs s p.1 q.1)

has_at : (c k : ℕ) (xs : List StreamMsg) (j : ℕ) (d : StreamMsg) → j < length xs → spec.is_stream_of c k (get_or xs j d) ≡ true → spec.has_stream c k xs ≡ true
has_at c k [] j d l h = absurd (omega (arith, l))
has_at c k (x ∷ xs) zero d l h = ap (λ b. b || spec.has_stream c k xs) h
has_at c k (x ∷ xs) (suc j) d l h = ap (λ b. spec.is_stream_of c k x || b) (has_at c k xs j d (omega (arith, l)) h) ∙ or_true (spec.is_stream_of c k x)
  where
    or_true : (b : Bool) → (b || true) ≡ true
    or_true true = refl
    or_true false = refl

-- a stream whose kind and column one before it has
pub twice : (xs : List StreamMsg) (i : ℕ) (d : StreamMsg) → i < length xs → spec.has_stream (get_or xs i d).column (get_or xs i d).kind (take i xs) ≡ true → spec.names_once xs ≡ false
twice [] i d l h = absurd (omega (arith, l))
twice (x ∷ xs) zero d l h = cc
twice (x ∷ xs) (suc j) d l h =
    let s = get_or xs j d in
    elim (or_cases (spec.is_stream_of s.column s.kind x) (spec.has_stream s.column s.kind (take j xs)) h) [
      | inl t ↦ and_left (not (spec.has_stream x.column x.kind xs)) (spec.names_once xs) (ap not (has_at x.column x.kind xs j d (omega (arith, l)) (of_itself s x t)))
      | inr t ↦ and_right (not (spec.has_stream x.column x.kind xs)) (spec.names_once xs) (twice xs j d (omega (arith, l)) t)
    ]

take_more : (xs : List StreamMsg) (i : ℕ) (d : StreamMsg) → i < length xs → take (i + 1) xs ≡ take i xs ++ get_or xs i d ∷ []
take_more xs i d l = let e : i + 1 ≡ suc i = omega arith in ap (λ n. take n xs) e ∙ take-suc xs i d l

pub once_more : (xs : List StreamMsg) (i : ℕ) (d : StreamMsg) → i < length xs → spec.names_once (take i xs) ≡ true → spec.has_stream (get_or xs i d).column (get_or xs i d).kind (take i xs) ≡ false
    → spec.names_once (take (i + 1) xs) ≡ true
once_more xs i d l h k = ap spec.names_once (take_more xs i d l) ∙ once_push (take i xs) (get_or xs i d) h k

cond_or : (a b : Bool) → cond b true a ≡ (a || b)
cond_or true true = refl
cond_or true false = refl
cond_or false true = refl
cond_or false false = refl

-- the keys that are there once the stream's is added
pub named_more : (xs : List StreamMsg) (i : ℕ) (d : StreamMsg) (c k : ℕ) (before after : Bool) → i < length xs → before ≡ spec.has_stream c k (take i xs)
    → after ≡ cond (is_eq (pair_cmp ((get_or xs i d).column, (get_or xs i d).kind) (c, k))) true before → after ≡ spec.has_stream c k (take (i + 1) xs)
named_more xs i d c k before after l b a =
    a ∙ ap (λ t. cond t true before) (pair_at (get_or xs i d) c k) ∙ cond_or before (spec.is_stream_of c k (get_or xs i d)) ∙ ap (λ t. t || spec.is_stream_of c k (get_or xs i d)) b
    ∙ sym (has_more c k (take i xs) (get_or xs i d)) ∙ sym (ap (spec.has_stream c k) (take_more xs i d l))
