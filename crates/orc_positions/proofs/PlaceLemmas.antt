-- The places of a stream's runs are those at which positions begin, and each is found by a search in them.
use Rattle.std.specs.Prelude.{MatchBool}
use Rattle.std.proofs.Math.Dec.{eqb}
use Rattle.std.proofs.Common.{◌≡◌, ◌≢◌, ℕ, zero, suc, ◌+◌, ◌-◌, ◌<◌, ◌≤◌, true, false, ◌⊎◌, List, [], ◌∷◌, ◌++◌, length, get_or, refl, sym, ap, ◌∙◌, subst, arith, inl, inr, append_assoc, length-append}
use Rattle.std.proofs.lemmas.Bool.{cases_lt}
use Rattle.std.proofs.lemmas.Bool.Decides.{eqb_tells}
use Rattle.std.proofs.lemmas.List.{get_or_default}
use Rattle.orc_rle.specs.Stream.{AreRuns, IsStream}
use Rattle.orc_rle.proofs.RunLemmas.{One, Some}
use Rattle.orc_rle.proofs.StreamLemmas.{one_stream, empty_front, tail_same}
use Rattle.orc_positions.specs.Position.{Begins, HasValues}
use Rattle.orc_positions.specs.RunTable.{Places, offsets_of, counts_of, Rises, ArePlaces, Names}

-- ---- the places go up

some_bytes : {A : Type 0} (R : List ℕ → List A → Type 0) → Some R → (p : List ℕ × List A) → R p.0 p.1 → 0 < length p.0
some_bytes R some ([], v) h = absurd (some v h)
some_bytes R some (b ∷ bs, v) h = omega arith

not_before : {A : Type 0} (at : ℕ) (ps : List (List ℕ × List A)) (i : ℕ) → i < length (offsets_of at ps) → at ≤ get_or (offsets_of at ps) i 0
not_before at [] zero lt = omega arith
not_before at [] (suc i) lt = absurd (omega (arith, lt))
not_before at (p ∷ ps) zero lt = omega arith
not_before at (p ∷ ps) (suc i) lt = let k = not_before (at + length p.0) ps i (omega (arith, lt)) in omega (arith, k)

offsets_rise : {A : Type 0} (R : List ℕ → List A → Type 0) → Some R → (ps : List (List ℕ × List A)) (bytes : List ℕ) (all : List A) (at : ℕ) → AreRuns R ps bytes all
    → Rises (offsets_of at ps)
offsets_rise R some [] bytes all at h zero zero less lt = absurd (omega (arith, less))
offsets_rise R some [] bytes all at h zero (suc j) less lt = absurd (omega (arith, lt))
offsets_rise R some [] bytes all at h (suc i) j less lt = absurd (omega (arith, less, lt))
offsets_rise R some (p ∷ ps) bytes all at h zero zero less lt = absurd (omega (arith, less))
offsets_rise R some (p ∷ ps) bytes all at h zero (suc j) less lt =
    let k = not_before (at + length p.0) ps j (omega (arith, lt)) in
    let s = some_bytes R some p h.2 in
    omega (arith, k, s)
offsets_rise R some (p ∷ ps) bytes all at h (suc i) zero less lt = absurd (omega (arith, less))
offsets_rise R some (p ∷ ps) bytes all at h (suc i) (suc j) less lt = offsets_rise R some ps h.0 h.1 (at + length p.0) h.5 i j (omega (arith, less)) (omega (arith, lt))

as_many : {A : Type 0} (at before : ℕ) (ps : List (List ℕ × List A)) → length (counts_of before ps) ≡ length (offsets_of at ps)
as_many at before [] = refl
as_many at before (p ∷ ps) = ap suc (as_many (at + length p.0) (before + length p.1) ps)

pub places_go_up : {A : Type 0} (R : List ℕ → List A → Type 0) → Some R → (bytes : List ℕ) (places : Places) → ArePlaces R bytes places
    → Rises places.offsets × (length places.counts ≡ length places.offsets)
places_go_up R some bytes places h = (
  subst (λ (t : List ℕ). Rises t) (sym h.offsets_are) (offsets_rise R some h.runs bytes h.values 0 h.stream),
  ap length h.counts_are ∙ (as_many 0 0 h.runs ∙ sym (ap length h.offsets_are)),
)

-- ---- a place cuts the stream

record Cut {A : Type 0} (R : List ℕ → List A → Type 0) (bytes : List ℕ) (all : List A) (at before offset count : ℕ) : Type 0 where
  front : List ℕ
  rest : List ℕ
  passed : List A
  left : List A
  parts : bytes ≡ front ++ rest
  values : all ≡ passed ++ left
  stream : IsStream R front passed
  more : IsStream R rest left
  offset_is : offset ≡ at + length front
  count_is : count ≡ before + length passed

cut_here : {A : Type 0} (R : List ℕ → List A → Type 0) (ps : List (List ℕ × List A)) (bytes : List ℕ) (all : List A) (at before : ℕ) → AreRuns R ps bytes all
    → Cut R bytes all at before at before
cut_here R ps bytes all at before h = record {
  front = [];
  rest = bytes;
  passed = [];
  left = all;
  parts = refl;
  values = refl;
  stream = ([], (refl, refl));
  more = (ps, h);
  offset_is = omega arith;
  count_is = omega arith;
}

cut_at : {A : Type 0} (R : List ℕ → List A → Type 0) (ps : List (List ℕ × List A)) (bytes : List ℕ) (all : List A) (at before i : ℕ) → AreRuns R ps bytes all
    → i < length (offsets_of at ps) → Cut R bytes all at before (get_or (offsets_of at ps) i 0) (get_or (counts_of before ps) i 0)
cut_at R [] bytes all at before zero h lt = cut_here R [] bytes all at before h
cut_at R [] bytes all at before (suc i) h lt = absurd (omega (arith, lt))
cut_at R (p ∷ ps) bytes all at before zero h lt = cut_here R (p ∷ ps) bytes all at before h
cut_at {A = A} R (p ∷ ps) bytes all at before (suc i) h lt =
    let k = cut_at R ps h.0 h.1 (at + length p.0) (before + length p.1) i h.5 (omega (arith, lt)) in
    record {
      front = p.0 ++ k.front;
      rest = k.rest;
      passed = p.1 ++ k.passed;
      left = k.left;
      parts = h.3 ∙ (ap (λ (t : List ℕ). p.0 ++ t) k.parts ∙ sym (append_assoc p.0 k.front k.rest));
      values = h.4 ∙ (ap (λ (t : List A). p.1 ++ t) k.values ∙ sym (append_assoc p.1 k.passed k.left));
      stream = (p ∷ k.stream.0, (k.front, k.passed, h.2, refl, refl, k.stream.1));
      more = k.more;
      offset_is = omega (arith, k.offset_is, length-append p.0 k.front);
      count_is = omega (arith, k.count_is, length-append p.1 k.passed);
    }

-- ---- and each cut is at a place

record Found {A : Type 0} (ps : List (List ℕ × List A)) (at before offset count : ℕ) : Type 0 where
  index : ℕ
  within : index < length (offsets_of at ps)
  offset_is : get_or (offsets_of at ps) index 0 ≡ offset
  count_is : get_or (counts_of before ps) index 0 ≡ count

found_first : {A : Type 0} (ps : List (List ℕ × List A)) (at before offset count : ℕ) → at ≡ offset → before ≡ count → Found ps at before offset count
found_first [] at before offset count e f = record { index = 0; within = omega arith; offset_is = e; count_is = f }
found_first (p ∷ ps) at before offset count e f = record { index = 0; within = omega arith; offset_is = e; count_is = f }

found_at : {A : Type 0} (R : List ℕ → List A → Type 0) → One R → Some R → (qs ps : List (List ℕ × List A)) (front rest bytes : List ℕ) (passed all : List A) (at before : ℕ)
    → AreRuns R qs front passed → AreRuns R ps bytes all → bytes ≡ front ++ rest → Found ps at before (at + length front) (before + length passed)
found_at R one some [] ps front rest bytes passed all at before q h e =
    found_first ps at before (at + length front) (before + length passed) (omega (arith, ap length q.0)) (omega (arith, ap length q.1))
found_at R one some (q ∷ qs) [] front rest bytes passed all at before r h e =
    let none : [] ≡ q.0 ++ (r.0 ++ rest) = sym h.0 ∙ (e ∙ (ap (λ (t : List ℕ). t ++ rest) r.3 ∙ append_assoc q.0 r.0 rest)) in
    absurd (some q.1 (subst (λ (t : List ℕ). R t q.1) (empty_front q.0 (r.0 ++ rest) none) r.2))
found_at {A = A} R one some (q ∷ qs) (p ∷ ps) front rest bytes passed all at before r h e =
    let both : q.0 ++ (r.0 ++ rest) ≡ p.0 ++ h.0 = sym (append_assoc q.0 r.0 rest) ∙ (sym (ap (λ (t : List ℕ). t ++ rest) r.3) ∙ (sym e ∙ h.3)) in
    let same = one q.0 p.0 (r.0 ++ rest) h.0 q.1 p.1 r.2 h.2 both in
    let tails : h.0 ≡ r.0 ++ rest = sym (tail_same p.0 (r.0 ++ rest) h.0 (ap (λ (t : List ℕ). t ++ (r.0 ++ rest)) (sym same.0) ∙ both)) in
    let k = found_at R one some qs ps r.0 rest h.0 r.1 h.1 (at + length p.0) (before + length p.1) r.5 h.5 tails in
    record {
      index = suc k.index;
      within = omega (arith, k.within);
      offset_is = omega (arith, k.offset_is, ap length same.0, ap length r.3, length-append q.0 r.0);
      count_is = omega (arith, k.count_is, ap length same.1, ap length r.4, length-append q.1 r.1);
    }

-- ---- what is named is what begins

names_are : (offsets counts : List ℕ) (places : Places) (offset skip n : ℕ) → places.offsets ≡ offsets → places.counts ≡ counts
    → (i : ℕ) → i < length offsets → get_or offsets i 0 ≡ offset → get_or counts i 0 + skip ≡ n → Names places offset skip n
names_are offsets counts places offset skip n e f i lt at count = rw (e, f) (i, lt, at, count)

pub named : {A : Type 0} (R : List ℕ → List A → Type 0) → One R → Some R → (bytes : List ℕ) (places : Places) (offset skip n : ℕ) → ArePlaces R bytes places → HasValues R bytes n
    → Names places offset skip n → Begins R bytes offset skip n
named R one some bytes places offset skip n h all names =
    let lt : names.0 < length (offsets_of 0 h.runs) = omega (arith, names.1, ap length h.offsets_are) in
    let here : get_or (offsets_of 0 h.runs) names.0 0 ≡ offset = ap (λ (t : List ℕ). get_or t names.0 0) (sym h.offsets_are) ∙ names.2 in
    let count : get_or (counts_of 0 h.runs) names.0 0 + skip ≡ n = ap (λ (t : List ℕ). get_or t names.0 0 + skip) (sym h.counts_are) ∙ names.3 in
    let c = cut_at R h.runs bytes h.values 0 0 names.0 h.stream lt in
    let same = one_stream R one some bytes all.0 h.values all.1 (h.runs, h.stream) in
    record {
      front = c.front;
      rest = c.rest;
      before = c.passed;
      after = c.left;
      parts = c.parts;
      stream = c.stream;
      more = c.more;
      offset_is = omega (arith, c.offset_is, here);
      number_is = omega (arith, c.count_is, count);
      there = omega (arith, c.count_is, count, all.2, ap length same, ap length c.values, length-append c.passed c.left);
    }

pub begins_named : {A : Type 0} (R : List ℕ → List A → Type 0) → One R → Some R → (bytes : List ℕ) (places : Places) (offset skip n : ℕ) → ArePlaces R bytes places
    → Begins R bytes offset skip n → Names places offset skip n
begins_named R one some bytes places offset skip n h b =
    let k = found_at R one some b.stream.0 h.runs b.front b.rest bytes b.before h.values 0 0 b.stream.1 h.stream b.parts in
    names_are (offsets_of 0 h.runs) (counts_of 0 h.runs) places offset skip n h.offsets_are h.counts_are k.index k.within (omega (arith, k.offset_is, b.offset_is))
    (omega (arith, k.count_is, b.number_is))

-- ---- what a search by halves answers

up : (xs : List ℕ) → Rises xs → (i j : ℕ) → i ≤ j → j < length xs → get_or xs i 0 ≤ get_or xs j 0
up xs r i j le lt = elim (cases_lt i j) [
  | inl less ↦ let h = r i j less lt in omega (arith, h)
  | inr ge ↦ let same : i ≡ j = omega (arith, le, ge) in rw same (omega arith)
]

same_place : (xs : List ℕ) → Rises xs → (i j : ℕ) → i < length xs → j < length xs → get_or xs i 0 ≡ get_or xs j 0 → i ≡ j
same_place xs r i j hi hj e = elim (cases_lt i j) [
  | inl less ↦ let h = r i j less hj in omega (arith, h, e)
  | inr ge ↦ elim (cases_lt j i) [
    | inl more ↦ let h = r j i more hi in omega (arith, h, e)
    | inr le ↦ omega (arith, ge, le)
  ]
]

pub up_in : (ds : List ℕ) (places : Places) → ds ≡ places.offsets → Rises places.offsets → (i j : ℕ) → i ≤ j → j < length ds → get_or ds i 0 ≤ get_or ds j 0
up_in ds places e r = rw e (up places.offsets r)

only_there : (places : Places) → Rises places.offsets → (offset skip n i : ℕ) → i < length places.offsets → get_or places.offsets i 0 ≡ offset → Names places offset skip n
    → get_or places.counts i 0 + skip ≡ n
only_there places r offset skip n i lt at h =
    let e = same_place places.offsets r h.0 i h.1 lt (h.2 ∙ sym at) in
    subst (λ (k : ℕ). get_or places.counts k 0 + skip ≡ n) e h.3

pub found_in : (ds : List ℕ) (places : Places) → ds ≡ places.offsets → Rises places.offsets → length places.counts ≡ length places.offsets → (offset skip n place before got : ℕ)
    → (place < length ds) × (get_or ds place 0 ≡ offset) → (skip ≤ n) × (before ≡ n - skip) → got ≡ get_or places.counts place got
    → MatchBool (eqb got before) (Names places offset skip n) (Names places offset skip n → ⊥)
found_in ds places e r alike offset skip n place before got at cut is =
    let lt : place < length places.offsets = omega (arith, at.0, ap length e) in
    let here : get_or places.offsets place 0 ≡ offset = ap (λ (xs : List ℕ). get_or xs place 0) (sym e) ∙ at.1 in
    let count : got ≡ get_or places.counts place 0 = is ∙ get_or_default places.counts place got 0 (omega (arith, lt, alike)) in
    by_count (eqb_tells got before) lt here count
  where
    by_count : ((eqb got before ≡ true) × (got ≡ before)) ⊎ ((eqb got before ≡ false) × (got ≢ before)) → place < length places.offsets → get_or places.offsets place 0 ≡ offset
        → got ≡ get_or places.counts place 0 → MatchBool (eqb got before) (Names places offset skip n) (Names places offset skip n → ⊥)
    by_count (inl p) lt here count = rw p.0 (place, lt, here, omega (arith, count, p.1, cut))
    by_count (inr p) lt here count = rw p.0 (λ names. let k = only_there places r offset skip n place lt here names in p.1 (omega (arith, count, k, cut)))

pub missed_in : (ds : List ℕ) (places : Places) → ds ≡ places.offsets → (offset skip n i : ℕ) → ((k : ℕ) → k < i → get_or ds k 0 < offset)
    → ((k : ℕ) → i ≤ k → k < length ds → offset < get_or ds k 0) → Names places offset skip n → ⊥
missed_in ds places e offset skip n i below above h =
    let at : get_or ds h.0 0 ≡ offset = ap (λ (xs : List ℕ). get_or xs h.0 0) e ∙ h.2 in
    elim (cases_lt h.0 i) [
      | inl less ↦ let k = below h.0 less in omega (arith, k, at)
      | inr ge ↦ let k = above h.0 ge (omega (arith, h.1, ap length e)) in omega (arith, k, at)
    ]
