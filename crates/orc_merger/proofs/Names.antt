-- User metadata: each pair whose name is new.
use Rattle.std.proofs.Common.{◌≡◌, ℕ, ◌⊎◌, inl, inr, List, [], ◌∷◌, Bool, true, false, ◌==◌, refl, sym, ap, ◌∙◌, subst, arith}
use Rattle.std.specs.Prelude.{Contains, filter, not, cond, ◌&&◌, slice_index_or}
use Rattle.std.specs.Cmp.Lexicographic.{pointwise, same_text}
use Rattle.std.proofs.lemmas.List.Elements.{Contains-append_right, Contains-append_cases}
use Rattle.orc_wire.specs.declared.footer.UserMetadataItem.{UserMetadataItem}
use Rattle.orc_merger.specs.Merging.{same_name, without, distinct, Agree}

-- ---- filters

filter_of : {X : Type 0} (p : X → Bool) (a : Bool) (x : X) (us : List X)
    → filter p (cond a (x ∷ us) us) ≡ cond a (cond (p x) (x ∷ filter p us) (filter p us)) (filter p us)
filter_of p true x us = refl
filter_of p false x us = refl

cond_both : {X : Type 0} (a b : Bool) (x : X) (us : List X) → cond a (cond b (x ∷ us) us) us ≡ cond (a && b) (x ∷ us) us
cond_both true b x us = refl
cond_both false b x us = refl

filter-filter : {X : Type 0} (p q : X → Bool) (xs : List X) → filter p (filter q xs) ≡ filter (λ x. q x && p x) xs
filter-filter p q [] = refl
filter-filter {X} p q (x ∷ xs) =
    filter_of p (q x) x (filter q xs) ∙ cond_both (q x) (p x) x (filter p (filter q xs))
    ∙ ap (λ (r : List X). cond (q x && p x) (x ∷ r) r) (filter-filter p q xs)

filter_same : {X : Type 0} (p q : X → Bool) → ((x : X) → p x ≡ q x) → (xs : List X) → filter p xs ≡ filter q xs
filter_same p q same [] = refl
filter_same {X} p q same (x ∷ xs) =
    ap (λ (b : Bool). cond b (x ∷ filter p xs) (filter p xs)) (same x) ∙ ap (λ (r : List X). cond (q x) (x ∷ r) r) (filter_same p q same xs)

and_self : (b : Bool) → (b && b) ≡ b
and_self true = refl
and_self false = refl

and_swap : (a b : Bool) → (a && b) ≡ (b && a)
and_swap true true = refl
and_swap true false = refl
and_swap false true = refl
and_swap false false = refl

-- ---- names

pub without_twice : (p : UserMetadataItem) (xs : List UserMetadataItem) → without p (without p xs) ≡ without p xs
without_twice p xs =
    let t : UserMetadataItem → Bool = λ q. not (same_name p q) in
    filter-filter t t xs ∙ filter_same (λ x. t x && t x) t (λ x. and_self (t x)) xs

without_swap : (p q : UserMetadataItem) (xs : List UserMetadataItem) → without p (without q xs) ≡ without q (without p xs)
without_swap p q xs =
    let s : UserMetadataItem → Bool = λ x. not (same_name p x) in
    let t : UserMetadataItem → Bool = λ x. not (same_name q x) in
    filter-filter s t xs ∙ filter_same (λ x. t x && s x) (λ x. s x && t x) (λ x. and_swap (t x) (s x)) xs ∙ sym (filter-filter t s xs)

-- pairs of one name
without_same : (p q : UserMetadataItem) → p.name ≡ q.name → (xs : List UserMetadataItem) → without q xs ≡ without p xs
without_same p q e xs = ap (λ (n : List ℕ). filter (λ (x : UserMetadataItem). not (pointwise ◌==◌ n x.name)) xs) (sym e)

distinct_of : (p q : UserMetadataItem) (xs : List UserMetadataItem) → distinct (without p xs) ≡ without p (distinct xs) → (b : Bool) → same_name p q ≡ b
    → distinct (cond (not b) (q ∷ without p xs) (without p xs)) ≡ cond (not b) (q ∷ without p (without q (distinct xs))) (without p (without q (distinct xs)))
distinct_of p q xs rest true e =
    let names : p.name ≡ q.name = same_text p.name q.name (sym e) in
    rest ∙ sym (ap (without p) (without_same p q names (distinct xs)) ∙ without_twice p (distinct xs))
distinct_of p q xs rest false e =
    ap (λ (r : List UserMetadataItem). q ∷ r) (ap (without q) rest ∙ without_swap q p (distinct xs))

pub distinct-without : (p : UserMetadataItem) (xs : List UserMetadataItem) → distinct (without p xs) ≡ without p (distinct xs)
distinct-without p [] = refl
distinct-without p (q ∷ xs) =
    distinct_of p q xs (distinct-without p xs) (same_name p q) refl
    ∙ sym (filter_of (λ (x : UserMetadataItem). not (same_name p x)) true q (without q (distinct xs)))

-- ---- elements

pub in_cons : {X : Type 0} (x : X) (xs : List X) (p : X) → Contains (x ∷ xs) p → (x ≡ p) ⊎ Contains xs p
in_cons {X} x xs p h =
    elim (Contains-append_cases (x ∷ []) xs p h) [
      | inl c ↦ let z : c.0 ≡ 0 = omega (arith, c.1) in inl (subst (λ (k : ℕ). slice_index_or (x ∷ []) k p ≡ p) z c.2)
      | inr c ↦ inr c
    ]

pub in_head : {X : Type 0} (x : X) (xs : List X) → Contains (x ∷ xs) x
in_head x xs = (0, omega arith, refl)

pub in_tail : {X : Type 0} (x : X) (xs : List X) (p : X) → Contains xs p → Contains (x ∷ xs) p
in_tail x xs p h = Contains-append_right (x ∷ []) xs p h

in_cond : {X : Type 0} (b : Bool) (x : X) (us : List X) (p : X) → Contains (cond b (x ∷ us) us) p → Contains (x ∷ us) p
in_cond true x us p h = h
in_cond false x us p h = in_tail x us p h

in_filter : {X : Type 0} (test : X → Bool) (xs : List X) (p : X) → Contains (filter test xs) p → Contains xs p
in_filter test [] p h = h
in_filter test (x ∷ xs) p h =
    elim (in_cons x (filter test xs) p (in_cond (test x) x (filter test xs) p h)) [
      | inl e ↦ subst (λ q. Contains (x ∷ xs) q) e (in_head x xs)
      | inr c ↦ in_tail x xs p (in_filter test xs p c)
    ]

into_cond : {X : Type 0} (b : Bool) (x : X) (us : List X) (p : X) → Contains us p → Contains (cond b (x ∷ us) us) p
into_cond true x us p h = in_tail x us p h
into_cond false x us p h = h

into_head : {X : Type 0} (b : Bool) (x : X) (us : List X) → b ≡ true → Contains (cond b (x ∷ us) us) x
into_head true x us e = in_head x us
into_head false x us e = cc

into_filter : {X : Type 0} (test : X → Bool) (xs : List X) (p : X) → Contains xs p → test p ≡ true → Contains (filter test xs) p
into_filter test [] p h e = h
into_filter {X} test (x ∷ xs) p h e =
    elim (in_cons x xs p h) [
      | inl s ↦ subst (λ (q : X). Contains (filter test (x ∷ xs)) q) s (into_head (test x) x (filter test xs) (ap test s ∙ e))
      | inr c ↦ into_cond (test x) x (filter test xs) p (into_filter test xs p c e)
    ]

pub in_distinct : (xs : List UserMetadataItem) (p : UserMetadataItem) → Contains (distinct xs) p → Contains xs p
in_distinct [] p h = h
in_distinct (q ∷ xs) p h =
    elim (in_cons q (without q (distinct xs)) p h) [
      | inl e ↦ subst (λ (r : UserMetadataItem). Contains (q ∷ xs) r) e (in_head q xs)
      | inr c ↦ in_tail q xs p (in_distinct xs p (in_filter (λ (x : UserMetadataItem). not (same_name q x)) (distinct xs) p c))
    ]

abbrev pair : List ℕ → List ℕ → UserMetadataItem
pair n v = record { name = n; value = v }

same_pair : (p q : UserMetadataItem) → p.name ≡ q.name → p.value ≡ q.value → p ≡ q
same_pair p q e f = ap (λ (n : List ℕ). pair n p.value) e ∙ ap (pair q.name) f

pub Agree-tail : (p : UserMetadataItem) (xs : List UserMetadataItem) → Agree (p ∷ xs) → Agree xs
Agree-tail p xs a = λ q r c d. a q r (in_tail p xs q c) (in_tail p xs r d)

kept : (q p : UserMetadataItem) (xs : List UserMetadataItem) → (q.name ≡ p.name → q ≡ p) → Contains (distinct xs) p → (b : Bool) → same_name q p ≡ b
    → Contains (distinct (q ∷ xs)) p
kept q p xs one h true e = subst (λ (r : UserMetadataItem). Contains (distinct (q ∷ xs)) r) (one (same_text q.name p.name (sym e)))
    (in_head q (without q (distinct xs)))
kept q p xs one h false e = in_tail q (without q (distinct xs)) p (into_filter (λ (x : UserMetadataItem). not (same_name q x)) (distinct xs) p h (ap not e))

-- where pairs of one name have one value, none is lost
pub into_distinct : (xs : List UserMetadataItem) (p : UserMetadataItem) → Agree xs → Contains xs p → Contains (distinct xs) p
into_distinct [] p a h = h
into_distinct (q ∷ xs) p a h =
    elim (in_cons q xs p h) [
      | inl e ↦ subst (λ (r : UserMetadataItem). Contains (distinct (q ∷ xs)) r) e (in_head q (without q (distinct xs)))
      | inr c ↦ kept q p xs (λ n. same_pair q p n (a q p (in_head q xs) h n)) (into_distinct xs p (Agree-tail q xs a) c) (same_name q p) refl
    ]
