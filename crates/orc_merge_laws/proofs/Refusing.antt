-- The flat merge is refused where a step of a grouping is.
use Rattle.std.proofs.Common.{◌≡◌, ℕ, ◌<◌, ◌⊎◌, inl, inr, List, [], ◌∷◌, ◌++◌, length, refl, sym, ◌∙◌, subst, append_assoc}
use Rattle.std.specs.Prelude.{◌↔◌}
use Rattle.std.specs.List.{AllByRecursion}
use Rattle.std.proofs.lemmas.List.{append-nil}
use Rattle.orc_types.proofs.Decisions.{Decided}
use Rattle.orc_tail.specs.Tails.{tail_tests, IsTail}
use Rattle.orc_tail.specs.Images.{IsWithinLimits}
use Rattle.orc_tail.specs.declared.tail.Tail.{Tail}
use Rattle.orc_merger.specs.declared.fault.MergeFault.{MergeFault}
use Rattle.orc_merger.specs.declared.fault.MergeFault.TheVariants.{UserMetadataConflict, Limit}
use Rattle.orc_merger.specs.Merging.{Agree, IsLike, CanMerge, all_pairs, merged, AreOpened, IsMerge, Merged}
use Rattle.orc_merger.specs.Faults.{first_of, Tested, NextFault, AreGathered, InputFault, IsRefusedAt, IsMergeRefused}
use Rattle.orc_merge_laws.specs.Grouping.{Group, Groups, input, merge, one, and, leaves, all_leaves, Gives, StepRefused, SomeRefused, AreShort, AllShort}
use Rattle.orc_merge_laws.specs.Grouping.{AreFellows, ComesOfJoining, IsFlatRefused, IsStepRefused}
use Rattle.orc_merge_laws.proofs.Same.{Same-refl, bare, bare_of_like, like_of_bare, merged_same, can_left, can_right, Agree-back}
use Rattle.orc_merge_laws.proofs.Limits.{within_limits}
use Rattle.orc_merger.proofs.Opened.{opened_push}
use Rattle.orc_merge_laws.proofs.Opened.{opened_split, one_opened, all_sound}
use Rattle.orc_merge_laws.proofs.Deciding.{agreeing}
use Rattle.orc_merge_laws.proofs.Steps.{Given, AllGiven, can_step, all_given, given_step, given_input, all_given_one, all_given_and, alike_of_fellows, sound_of}
use Rattle.orc_merge_laws.proofs.Cover.{first_within}

-- ---- no fault goes with what can be merged

like_between : (first x y : Tail) → IsLike first x → IsLike first y → IsLike x y
like_between first x y a b = like_of_bare x y (bare_of_like first y b ∙ sym (bare_of_like first x a)) b.statistics

like_next : (first : Tail) (tails : List Tail) (t : Tail) → AllByRecursion (IsLike first) (tails ++ t ∷ []) → IsLike (first_of tails t) t
like_next first [] t a = like_between first t t a.0 a.0
like_next first (x ∷ xs) t a = like_between first x t a.0 (last xs a.1)
  where
    last : (xs : List Tail) → AllByRecursion (IsLike first) (xs ++ t ∷ []) → IsLike first t
    last [] h = h.0
    last (y ∷ ys) h = last ys h.1

bare_next : (first : Tail) (tails : List Tail) (t : Tail) → AllByRecursion (IsLike first) (tails ++ t ∷ []) → bare (first_of tails t) ≡ bare first
bare_next first [] t a = bare_of_like first t a.0
bare_next first (x ∷ xs) t a = bare_of_like first x a.0

passes : {Holds Rest : Type 0} (fails fault : MergeFault) → Holds → (Rest → ⊥) → Tested Holds fails fault Rest → ⊥
passes fails fault holds no_rest (inl h) = h.0 holds
passes fails fault holds no_rest (inr h) = no_rest h.1

no_next : (first : Tail) (tails : List Tail) (t : Tail) (fault : MergeFault) → CanMerge first (tails ++ t ∷ []) → NextFault tails t fault → ⊥
no_next first tails t fault c n =
    let l : IsLike (first_of tails t) t = like_next first tails t c.alike in
    let limits : IsWithinLimits (merged (first_of tails t) (tails ++ t ∷ [])) =
    subst IsWithinLimits (sym (merged_same (first_of tails t) first (tails ++ t ∷ []) (tails ++ t ∷ []) (bare_next first tails t c.alike)
    (Same-refl (tails ++ t ∷ [])))) c.limits in
    passes _ fault l.schema (passes _ fault l.version (passes _ fault l.stride
    (passes _ fault l.other (passes _ fault c.agree (passes _ fault l.statistics (passes _ fault limits (λ h. h))))))) n

-- ---- no refusal

no_failure : (first : Tail) (front rest : List (List ℕ)) (bytes : List ℕ) (tails us vs : List Tail) (fault : MergeFault) → AreOpened front us
    → AreOpened (bytes ∷ rest) vs
    → IsWithinLimits first → CanMerge first (us ++ vs) → AreOpened front tails → InputFault tails bytes fault → ⊥
no_failure first front rest bytes tails us [] fault o p w c t h = absurd p
no_failure first front rest bytes tails us (v ∷ vs) fault o p w c t (inl h) = (tail_tests bytes).none v h.0 h.1 p.0
no_failure first front rest bytes tails us (v ∷ vs) fault o p w c t (inr h) =
    let same : tails ≡ us = one_opened front tails us t o in
    let one : h.0 ≡ v = (tail_tests bytes).one h.0 v h.1 p.0 in
    let next : NextFault us v fault = subst (λ (x : Tail). NextFault us x fault) one (subst (λ (x : List Tail). NextFault x h.0 fault) same h.2) in
    let here = sound_of first (front ++ bytes ∷ []) (us ++ v ∷ []) w (opened_push front us bytes v o p.0) in
    let behind = sound_of first rest vs w p.1 in
    let can : CanMerge first (us ++ v ∷ []) = can_left first (us ++ v ∷ []) vs here behind (subst (CanMerge first) (sym (append_assoc us (v ∷ []) vs)) c) in
    no_next first us v fault can next

no_refusal_at : (first : Tail) (inputs : List (List ℕ)) (ts : List Tail) (fault : MergeFault) → IsWithinLimits first → AreOpened inputs ts
    → CanMerge first ts → IsRefusedAt inputs fault → ⊥
no_refusal_at first inputs ts fault w o c r =
    let cut = opened_split r.front (r.bytes ∷ r.rest) ts (subst (λ (x : List (List ℕ)). AreOpened x ts) r.parts o) in
    no_failure first r.front r.rest r.bytes r.tails cut.0 cut.1 fault cut.2 cut.3 w (subst (CanMerge first) cut.4 c) r.opened r.fails

pub no_refusal : (inputs : List (List ℕ)) (first : Tail) (rest : List Tail) (fault : MergeFault) → AreOpened inputs (first ∷ rest)
    → CanMerge first (first ∷ rest) → IsMergeRefused inputs fault → ⊥
no_refusal inputs first rest fault o c (inl h) = subst (λ (x : List (List ℕ)). AreOpened x (first ∷ rest)) h.0 o
no_refusal inputs first rest fault o c (inr h) = let w = all_sound inputs (first ∷ rest) o in no_refusal_at first inputs (first ∷ rest) fault w.0 o c h

no_fault_of : (inputs : List (List ℕ)) (ts : List Tail) (tail : Tail) (fault : MergeFault) → AreOpened inputs ts → Merged ts tail → IsMergeRefused inputs fault → ⊥
no_fault_of inputs [] tail fault o m r = m
no_fault_of inputs (t ∷ ts) tail fault o m r = no_refusal inputs t ts fault o m.0 r

pub no_fault : (inputs : List (List ℕ)) (tail : Tail) (out : List ℕ) (fault : MergeFault) → IsMerge inputs tail out → IsMergeRefused inputs fault → ⊥
no_fault inputs tail out fault m r = no_fault_of inputs m.tails tail fault m.opened m.merged r

-- ---- inputs of one kind are merged or refused

abbrev IsRefusedSo : List (List ℕ) → Type 0
IsRefusedSo inputs = (fault : MergeFault) × ComesOfJoining fault × IsRefusedAt inputs fault

pub alike_from : (first x : Tail) → IsLike first x → (ys : List Tail) → AllByRecursion (IsLike first) ys → AllByRecursion (IsLike x) ys
alike_from first x l [] a = tt
alike_from first x l (y ∷ ys) a = (like_between first x y l a.0, alike_from first x l ys a.1)

alike_first : (first : Tail) (tails : List Tail) (t : Tail) → AllByRecursion (IsLike first) (tails ++ t ∷ [])
    → AllByRecursion (IsLike (first_of tails t)) (tails ++ t ∷ [])
alike_first first [] t a = alike_from first t a.0 (t ∷ []) a
alike_first first (x ∷ xs) t a = alike_from first x a.0 (x ∷ (xs ++ t ∷ [])) a

gathered_next : (first : Tail) (tails : List Tail) (t : Tail) → AllByRecursion (IsLike first) (tails ++ t ∷ []) → Agree (all_pairs (tails ++ t ∷ []))
    → IsWithinLimits (merged (first_of tails t) (tails ++ t ∷ [])) → AreGathered (tails ++ t ∷ [])
gathered_next first [] t a agree limits = record { alike = alike_from first t a.0 (t ∷ []) a; agree = agree; limits = limits }
gathered_next first (x ∷ xs) t a agree limits = record { alike = alike_from first x a.0 (x ∷ (xs ++ t ∷ [])) a; agree = agree; limits = limits }

alike_front : (first : Tail) (xs ys : List Tail) → AllByRecursion (IsLike first) (xs ++ ys) → AllByRecursion (IsLike first) xs
alike_front first [] ys a = tt
alike_front first (x ∷ xs) ys a = (a.0, alike_front first xs ys a.1)

gather_one : (first : Tail) (front xs : List (List ℕ)) (x : List ℕ) (tails ts : List Tail) (t : Tail) → AreOpened front tails → IsTail x t
    → AllByRecursion (IsLike first) (tails ++ t ∷ []) → AreGathered tails
    → Decided (Agree (all_pairs (tails ++ t ∷ []))) → Decided (IsWithinLimits (merged (first_of tails t) (tails ++ t ∷ [])))
    → (AreGathered (tails ++ t ∷ []) → AreGathered ts ⊎ IsRefusedSo (front ++ x ∷ xs)) → AreGathered ts ⊎ IsRefusedSo (front ++ x ∷ xs)
gather_one first front xs x tails ts t o p a g (inr no_agree) limits next =
    let l : IsLike (first_of tails t) t = like_next first tails t a in
    inr (
      UserMetadataConflict (length tails),
      tt,
      record {
        front = front;
        bytes = x;
        rest = xs;
        tails = tails;
        parts = refl;
        opened = o;
        gathered = g;
        fails = inr (t, p, inr (l.schema, inr (l.version, inr (l.stride, inr (l.other, inl (no_agree, refl))))));
      },
    )
gather_one first front xs x tails ts t o p a g (inl agree) (inr no_limits) next =
    let l : IsLike (first_of tails t) t = like_next first tails t a in
    inr (
      Limit (length tails),
      tt,
      record {
        front = front;
        bytes = x;
        rest = xs;
        tails = tails;
        parts = refl;
        opened = o;
        gathered = g;
        fails = inr (t, p, inr (l.schema, inr (l.version, inr (l.stride, inr (l.other, inr (agree, inr (l.statistics, inl (no_limits, refl))))))));
      },
    )
gather_one first front xs x tails ts t o p a g (inl agree) (inl limits) next = next (gathered_next first tails t a agree limits)

gather : (first : Tail) (front xs : List (List ℕ)) (tails ts : List Tail) → AreOpened front tails → AreOpened xs ts
    → AllByRecursion (IsLike first) (tails ++ ts) → AreGathered tails
    → AreGathered (tails ++ ts) ⊎ IsRefusedSo (front ++ xs)
gather first front [] tails [] o p a g = inl (subst AreGathered (sym (append-nil tails)) g)
gather first front [] tails (t ∷ ts) o p a g = absurd p
gather first front (x ∷ xs) tails [] o p a g = absurd p
gather first front (x ∷ xs) tails (t ∷ ts) o p a g =
    let all : AllByRecursion (IsLike first) ((tails ++ t ∷ []) ++ ts) = subst (AllByRecursion (IsLike first)) (sym (append_assoc tails (t ∷ []) ts)) a in
    let sound : AllByRecursion IsWithinLimits (tails ++ t ∷ []) = all_sound (front ++ x ∷ []) (tails ++ t ∷ []) (opened_push front tails x t o p.0) in
    gather_one first front xs x tails (tails ++ t ∷ ts) t o p.0 (alike_front first (tails ++ t ∷ []) ts all) g
    (agreeing (all_pairs (tails ++ t ∷ []))) (within_limits (first_of tails t) (tails ++ t ∷ []) (first_within tails t sound) sound
    (alike_first first tails t (alike_front first (tails ++ t ∷ []) ts all)))
    (λ next. subst (λ (z : List (List ℕ)). AreGathered (tails ++ t ∷ ts) ⊎ IsRefusedSo z) (append_assoc front (x ∷ []) xs) (
    subst (λ (z : List Tail). AreGathered z ⊎ IsRefusedSo ((front ++ x ∷ []) ++ xs)) (append_assoc tails (t ∷ []) ts) (
    gather first (front ++ x ∷ []) xs (tails ++ t ∷ []) ts (opened_push front tails x t o p.0) p.1 all next)))

-- ---- each step too

abbrev StepSo : Group → Type 0
StepSo g = (fault : MergeFault) × ComesOfJoining fault × StepRefused g fault

abbrev SomeSo : Groups → Type 0
SomeSo gs = (fault : MergeFault) × ComesOfJoining fault × SomeRefused gs fault

try_step : (gs : Groups) (first : Tail) (ts : List Tail) (a : AllGiven first gs ts) → CanMerge a.head (a.head ∷ a.rest) ⊎ IsRefusedSo a.files
try_step gs first ts a = gather a.head [] a.files [] (a.head ∷ a.rest) tt a.opened
    (alike_of_fellows first a.head (a.head ∷ a.rest) a.fellows.0.bare a.fellows) tt

step_of : (first : Tail) (gs : Groups) (ts : List Tail) → ((out : List ℕ) → Gives (merge gs) out → length out < 18446744073709551616)
    → AllGiven first gs ts ⊎ SomeSo gs → Given first (merge gs) ts ⊎ StepSo (merge gs)
step_of first gs ts short (inr s) = inr (s.0, s.1, inl s.2)
step_of first gs ts short (inl a) = elim (try_step gs first ts a) [
  | inl can ↦ inl (given_step first gs ts a can short)
  | inr r ↦ inr (r.0, r.1, inr (a.files, a.gives, inr r.2))
]

one_of : (first : Tail) (g : Group) (ts : List Tail) → Given first g ts ⊎ StepSo g → AllGiven first (one g) ts ⊎ SomeSo (one g)
one_of first g ts (inl a) = inl (all_given_one first g ts a)
one_of first g ts (inr s) = inr s

and_of : (first : Tail) (g : Group) (gs : Groups) (us vs : List Tail) → AreOpened (leaves g) us → Given first g us ⊎ StepSo g
    → AllGiven first gs vs ⊎ SomeSo gs
    → AllGiven first (and g gs) (us ++ vs) ⊎ SomeSo (and g gs)
and_of first g gs us vs o (inl a) (inl b) = inl (all_given_and first g gs us vs o a b)
and_of first g gs us vs o (inl a) (inr s) = inr (s.0, s.1, inr s.2)
and_of first g gs us vs o (inr s) b = inr (s.0, s.1, inl s.2)

alike_back : (first : Tail) (xs ys : List Tail) → AllByRecursion (IsLike first) (xs ++ ys) → AllByRecursion (IsLike first) ys
alike_back first [] ys a = a
alike_back first (x ∷ xs) ys a = alike_back first xs ys a.1

mutual
  try : (first : Tail) (g : Group) (ts : List Tail) → AreOpened (leaves g) ts → AllByRecursion (IsLike first) ts → AreShort g → Given first g ts ⊎ StepSo g
  try first (input bytes) ts o a s = inl (given_input first bytes ts o a)
  try first (merge gs) ts o a s = step_of first gs ts s.0 (try_all first gs ts o a s.1)

  try_all : (first : Tail) (gs : Groups) (ts : List Tail) → AreOpened (all_leaves gs) ts → AllByRecursion (IsLike first) ts → AllShort gs
      → AllGiven first gs ts ⊎ SomeSo gs
  try_all first (one g) ts o a s = one_of first g ts (try first g ts o a s)
  try_all first (and g gs) ts o a s =
      let cut = opened_split (leaves g) (all_leaves gs) ts o in
      let all : AllByRecursion (IsLike first) (cut.0 ++ cut.1) = subst (AllByRecursion (IsLike first)) cut.4 a in
      subst (λ (x : List Tail). AllGiven first (and g gs) x ⊎ SomeSo (and g gs)) (sym cut.4) (
      and_of first g gs cut.0 cut.1 cut.2 (try first g cut.0 cut.2 (alike_front first cut.0 cut.1 all) s.0)
      (try_all first gs cut.1 cut.3 (alike_back first cut.0 cut.1 all) s.1))

-- what was given can be merged at once where it can be in the last step
pub at_once : (first : Tail) (gs : Groups) (ts : List Tail) (a : AllGiven first gs ts) → AllByRecursion (IsLike first) ts → CanMerge a.head (a.head ∷ a.rest)
    → CanMerge first ts
at_once first gs ts a alike can = record {
  alike = alike;
  agree = Agree-back (a.head ∷ a.rest) ts a.same can.agree;
  limits = subst IsWithinLimits (merged_same a.head first (a.head ∷ a.rest) ts a.fellows.0.bare a.same) can.limits;
}

last_step : (gs : Groups) (w : AreFellows (all_leaves gs)) → IsFlatRefused gs → AllGiven w.first gs (w.first ∷ w.rest) ⊎ SomeSo gs → IsStepRefused gs
last_step gs w r (inr s) = (s.0, s.1, inl s.2)
last_step gs w r (inl a) = elim (try_step gs w.first (w.first ∷ w.rest) a) [
  | inl can ↦ absurd (no_refusal (all_leaves gs) w.first w.rest r.0 w.opened (at_once w.first gs (w.first ∷ w.rest) a w.alike can) r.2)
  | inr s ↦ (s.0, s.1, inr (a.files, a.gives, inr s.2))
]

mutual
  no_step : (first : Tail) (g : Group) (ts : List Tail) (fault : MergeFault) → IsWithinLimits first → AreOpened (leaves g) ts → CanMerge first ts
      → AreShort g → StepRefused g fault → ⊥
  no_step first (input bytes) ts fault w o c s r = r
  no_step first (merge gs) ts fault w o c s (inl r) = no_some first gs ts fault w o c s.1 r
  no_step first (merge gs) ts fault w o c s (inr r) =
      let a = all_given first gs ts w o c s.1 in
      no_refusal a.files a.head a.rest fault a.opened (can_step first gs ts a c) (subst (λ (x : List (List ℕ)). IsMergeRefused x fault) (a.only r.0 r.1) r.2)

  no_some : (first : Tail) (gs : Groups) (ts : List Tail) (fault : MergeFault) → IsWithinLimits first → AreOpened (all_leaves gs) ts → CanMerge first ts
      → AllShort gs → SomeRefused gs fault → ⊥
  no_some first (one g) ts fault w o c s r = no_step first g ts fault w o c s r
  no_some first (and g gs) ts fault w o c s (inl r) =
      let cut = opened_split (leaves g) (all_leaves gs) ts o in
      let here = sound_of first (leaves g) cut.0 w cut.2 in
      let behind = sound_of first (all_leaves gs) cut.1 w cut.3 in
      no_step first g cut.0 fault w cut.2 (can_left first cut.0 cut.1 here behind (subst (CanMerge first) cut.4 c)) s.0 r
  no_some first (and g gs) ts fault w o c s (inr r) =
      let cut = opened_split (leaves g) (all_leaves gs) ts o in
      let here = sound_of first (leaves g) cut.0 w cut.2 in
      let behind = sound_of first (all_leaves gs) cut.1 w cut.3 in
      no_some first gs cut.1 fault w cut.3 (can_right first cut.0 cut.1 here behind (subst (CanMerge first) cut.4 c)) s.1 r

root_refused : (first : Tail) (gs : Groups) (ts : List Tail) (fault : MergeFault) → IsWithinLimits first → AreOpened (all_leaves gs) ts → CanMerge first ts
    → AllShort gs → StepRefused (merge gs) fault → ⊥
root_refused first gs ts fault w o c s (inl r) = no_some first gs ts fault w o c s r
root_refused first gs ts fault w o c s (inr r) =
    let a = all_given first gs ts w o c s in
    no_refusal a.files a.head a.rest fault a.opened (can_step first gs ts a c) (subst (λ (x : List (List ℕ)). IsMergeRefused x fault) (a.only r.0 r.1) r.2)

flat_so : (gs : Groups) (w : AreFellows (all_leaves gs)) → AllShort gs → IsStepRefused gs
    → CanMerge w.first (w.first ∷ w.rest) ⊎ IsRefusedSo (all_leaves gs) → IsFlatRefused gs
flat_so gs w s r (inl can) = absurd (root_refused w.first gs (w.first ∷ w.rest) r.0
    (all_sound (all_leaves gs) (w.first ∷ w.rest) w.opened).0 w.opened can s r.2)
flat_so gs w s r (inr h) = (h.0, h.1, inr h.2)

pub grouping_refused : (gs : Groups) → AllShort gs → AreFellows (all_leaves gs) → IsFlatRefused gs ↔ IsStepRefused gs
grouping_refused gs s w = (
  λ r. last_step gs w r (try_all w.first gs (w.first ∷ w.rest) w.opened w.alike s),
  λ r. flat_so gs w s r (gather w.first [] (all_leaves gs) [] (w.first ∷ w.rest) tt w.opened w.alike tt),
)
