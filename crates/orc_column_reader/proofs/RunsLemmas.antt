-- What a reader of runs has still to give, whatever a run is.
use Rattle.std.proofs.Common.{get_or, ◌≡◌, ℕ, zero, suc, ◌+◌, ◌<◌, ◌≤◌, List, [], ◌∷◌, ◌++◌, length, take, drop, refl, sym, ap, ◌∙◌, subst, arith, append-nil, take-append-drop}
use Rattle.orc_rle.specs.Stream.{IsStream, RunsLeft}
use Rattle.orc_rle.proofs.StreamLemmas.{runs_rest}
use Rattle.orc_column_reader.specs.Fronts.{Leaves, Lacks}
use Rattle.orc_values.proofs.Lists.{drop_twice}

-- no run begins another, and each has bytes and values
pub record RunLaws {A : Type 0} (is_run : List ℕ → List A → Type 0) : Type 0 where
  pub one : (a b x y : List ℕ) (v w : List A) → is_run a v → is_run b w → a ++ x ≡ b ++ y → (a ≡ b) × (v ≡ w)
  pub some : (v : List A) → is_run [] v → ⊥
  pub values : (a : List ℕ) → is_run a [] → ⊥

refilled : {A : Type 0} (is_run : List ℕ → List A → Type 0) → RunLaws is_run → (rest text left : List ℕ) (v : List A) → is_run text v → rest ≡ text ++ left → Leaves (RunsLeft is_run [] rest) (RunsLeft is_run v left) []
refilled is_run laws rest text left v run parts = record {
  found = λ all r. (all, refl, ((text, v) ∷ r.2.0, (left, r.0, run, parts, r.1, r.2.1)));
  only = λ all r h.
      let k = runs_rest is_run laws.one laws.some ((text, v) ∷ []) r.2.0 text left rest v r.0 ([], [], run, sym (append-nil text), sym (append-nil v), (refl, refl)) r.2.1 parts in
      (all, refl, (k.values, r.1 ∙ k.parts, k.stream));
}

no_run_left : {A : Type 0} (is_run : List ℕ → List A → Type 0) (rest : List ℕ) → ((front left : List ℕ) (v : List A) → is_run front v → rest ≡ front ++ left → ⊥) → Lacks (RunsLeft is_run [] rest) 1
no_run_left is_run rest none all (more, e, ([], h)) le = omega (arith, le, ap length e, ap length h.1)
no_run_left is_run rest none all (more, e, (p ∷ ps, h)) le = none p.0 h.0 p.1 h.2 h.3

no_bytes_left : {A : Type 0} (is_run : List ℕ → List A → Type 0) → RunLaws is_run → Lacks (RunsLeft is_run [] []) 1
no_bytes_left is_run laws all (more, e, ([], h)) le = omega (arith, le, ap length e, ap length h.1)
no_bytes_left is_run laws all (more, e, (([], v) ∷ ps, h)) le = laws.some v h.2
no_bytes_left is_run laws all (more, e, ((b ∷ bs, v) ∷ ps, h)) le = let k = h.3 in cc

taken : {A : Type 0} (is_run : List ℕ → List A → Type 0) (x : A) (pending : List A) (rest : List ℕ) → Leaves (RunsLeft is_run (x ∷ pending) rest) (RunsLeft is_run pending rest) (x ∷ [])
taken is_run x pending rest = record {
  found = λ all r. (r.0, ap (λ t. x ∷ t) r.1, r.2);
  only = λ all r h. (pending ++ r.0, r.1, (r.0, refl, r.2));
}

pub past_end : {X : Type 0} (n : ℕ) (xs : List X) → length xs ≤ n → drop n xs ≡ []
past_end zero [] h = refl
past_end zero (x ∷ xs) h = absurd (omega (arith, h))
past_end (suc n) [] h = refl
past_end (suc n) (x ∷ xs) h = past_end n xs (omega (arith, h))

pub not_past_end : {X : Type 0} (n : ℕ) (xs : List X) → drop n xs ≡ [] → length xs ≤ n
not_past_end zero [] h = omega arith
not_past_end zero (x ∷ xs) h = cc
not_past_end (suc n) [] h = omega arith
not_past_end (suc n) (x ∷ xs) h = omega (arith, not_past_end n xs h)

-- the run is used up, and there are no more bytes
pub at_end : {A : Type 0} (is_run : List ℕ → List A → Type 0) → RunLaws is_run → (values : List A) (used : ℕ) (bytes : List ℕ) (at : ℕ) → length values ≤ used → length bytes ≤ at → Lacks (RunsLeft is_run (drop used values) (drop at bytes)) 1
at_end is_run laws values used bytes at u end = λ all h le.
    no_bytes_left is_run laws all (h.0, h.1 ∙ ap (λ t. t ++ h.0) (past_end used values u), subst (λ t. IsStream is_run t h.0) (past_end at bytes end) h.2) le

-- the run is used up, and no run comes next
pub at_no_run : {A : Type 0} (is_run : List ℕ → List A → Type 0) (values : List A) (used : ℕ) (rest : List ℕ) → length values ≤ used → ((front left : List ℕ) (v : List A) → is_run front v → rest ≡ front ++ left → ⊥)
    → Lacks (RunsLeft is_run (drop used values) rest) 1
at_no_run is_run values used rest u none = λ all h le. no_run_left is_run rest none all (h.0, h.1 ∙ ap (λ t. t ++ h.0) (past_end used values u), h.2) le

-- the run is used up, and the next one is read
pub next_read : {A : Type 0} (is_run : List ℕ → List A → Type 0) → RunLaws is_run → (values : List A) (used : ℕ) (bytes : List ℕ) (at len : ℕ) (new : List A) → length values ≤ used → is_run (take len (drop at bytes)) new
    → Leaves (RunsLeft is_run (drop used values) (drop at bytes)) (RunsLeft is_run new (drop (at + len) bytes)) []
next_read is_run laws values used bytes at len new u is =
    let e = past_end used values u in
    let b : drop at bytes ≡ take len (drop at bytes) ++ drop (at + len) bytes = sym (take-append-drop len (drop at bytes)) ∙ ap (λ t. take len (drop at bytes) ++ t) (drop_twice at len bytes) in
    let k = refilled is_run laws (drop at bytes) (take len (drop at bytes)) (drop (at + len) bytes) new is b in
    record {
      found = λ all h. let g = k.found all h in (g.0, g.1 ∙ ap (λ t. t ++ g.0) (sym e), g.2);
      only = λ all h le. k.only all (h.0, h.1 ∙ ap (λ t. t ++ h.0) e, h.2) le;
    }

-- a value of the run is taken
pub one_taken : {A : Type 0} (is_run : List ℕ → List A → Type 0) (values : List A) (used : ℕ) (rest : List ℕ) (x : A) → drop used values ≡ x ∷ drop (used + 1) values
    → Leaves (RunsLeft is_run (drop used values) rest) (RunsLeft is_run (drop (used + 1) values) rest) (x ∷ [])
one_taken is_run values used rest x e =
    let k = taken is_run x (drop (used + 1) values) rest in
    record {
      found = λ all h. let g = k.found all h in (g.0, g.1 ∙ ap (λ t. t ++ g.0) (sym e), g.2);
      only = λ all h le. k.only all (h.0, h.1 ∙ ap (λ t. t ++ h.0) e, h.2) le;
    }

pub head_at : {A : Type 0} (xs : List A) (i : ℕ) (d : A) → i < length xs → drop i xs ≡ get_or xs i d ∷ drop (i + 1) xs
head_at [] i d h = absurd (omega (arith, h))
head_at (x ∷ xs) zero d h = refl
head_at (x ∷ xs) (suc i) d h = let e : suc (i + 1) ≡ suc i + 1 = omega arith in head_at xs i d (omega (arith, h)) ∙ ap (λ n. get_or xs i d ∷ drop n (x ∷ xs)) e

-- ---- nothing is left

both_none : {X : Type 0} (a b : List X) → [] ≡ a ++ b → (a ≡ []) × (b ≡ [])
both_none [] b h = (refl, sym h)
both_none (x ∷ a) b h = cc

none_spelled : {A : Type 0} (is_run : List ℕ → List A → Type 0) → RunLaws is_run → (bytes : List ℕ) → IsStream is_run bytes [] → bytes ≡ []
none_spelled is_run laws bytes ([], h) = h.0
none_spelled is_run laws bytes (p ∷ ps, h) =
    let k = both_none p.1 h.1 h.4 in
    absurd (laws.values p.0 (subst (λ v. is_run p.0 v) k.0 h.2))

pub runs_ended : {A : Type 0} (is_run : List ℕ → List A → Type 0) (values : List A) (used : ℕ) (bytes : List ℕ) (at : ℕ) → length values ≤ used → length bytes ≤ at → RunsLeft is_run (drop used values) (drop at bytes) []
runs_ended is_run values used bytes at u a = ([], sym (ap (λ t. t ++ []) (past_end used values u)), ([], (past_end at bytes a, refl)))

pub runs_not_used : {A : Type 0} (is_run : List ℕ → List A → Type 0) (values : List A) (used : ℕ) (rest : List ℕ) → used < length values → RunsLeft is_run (drop used values) rest [] → ⊥
runs_not_used is_run values used rest u h =
    let k = both_none (drop used values) h.0 h.1 in
    omega (arith, u, not_past_end used values k.0)

pub runs_not_read : {A : Type 0} (is_run : List ℕ → List A → Type 0) → RunLaws is_run → (pending : List A) (bytes : List ℕ) (at : ℕ) → at < length bytes → RunsLeft is_run pending (drop at bytes) [] → ⊥
runs_not_read is_run laws pending bytes at a h =
    let k = both_none pending h.0 h.1 in
    let n : IsStream is_run (drop at bytes) [] = subst (λ v. IsStream is_run (drop at bytes) v) k.1 h.2 in
    omega (arith, a, not_past_end at bytes (none_spelled is_run laws (drop at bytes) n))
