-- What calls of `merge` gave as steps of groupings.
use Rattle.std.proofs.Common.{◌≡◌, ◌∙◌, ◌↔◌, ◌⊎◌, ℕ, ◌<◌, List, [], ◌∷◌, ◌++◌, length, Option, Some, inl, inr, refl, sym, ap, subst}
use Rattle.std.specs.Prelude.{IsPermutation}
use Rattle.std.proofs.lemmas.List.Sorted.{IsPermutation-append_comm}
use Rattle.orc_tail.specs.declared.tail.Tail.{Tail}
use Rattle.orc_merger.specs.declared.fault.MergeFault.{MergeFault}
use Rattle.orc_merger.specs.declared.fault.MergeFault.TheVariants.{NoInput, File, SchemaDiffers, VersionDiffers, StrideDiffers, OtherFooterFields}
use Rattle.orc_merger.specs.declared.fault.MergeFault.TheVariants.{UserMetadataConflict, NoStripeStatistics, Limit, SourceFailed, WriteFailed, OutOfMemory}
use Rattle.orc_merger.specs.Merging.{Merged, AreOpened, IsMerge}
use Rattle.orc_merger.specs.Faults.{IsMergeRefused, IsDeviceFault}
use Rattle.orc_merger.specs.Outcomes.{WroteMerge, IsAnswer}
use Rattle.orc_merge_laws.specs.Grouping.{Groups, input, merge, one, and, all_leaves, Gives, AllGive, AllShort, Wrote, AllWrote, ComesOfJoining, AreFellows, IsFlatRefused, IsStepRefused}
use Rattle.orc_merge_laws.proofs.OneFault.{one_merge}
use Rattle.orc_merge_laws.proofs.Refusing.{no_fault}
use Rattle.orc_theorems.specs.Groupings.{pair, at_once, first_two, last_two, MergedTo, IsStepAnswer}
use Rattle.orc_theorems.proofs.Told.{bytes_are}

-- what the theorem says of the last merge of a grouping
abbrev pub LastMerge : Type 0
LastMerge = (groups : Groups) (files : List (List ℕ)) (tail : Tail) (old new : Option (List ℕ)) → AllWrote groups files
    → WroteMerge files tail old new → WroteMerge (all_leaves groups) tail old new

-- ---- a merge of lists of inputs

abbrev inputs_of : List ℕ → List (List ℕ) → Groups
inputs_of x [] = one (input x)
inputs_of x (y ∷ ys) = and (input x) (inputs_of y ys)

wrote_inputs : (x : List ℕ) (xs : List (List ℕ)) → AllWrote (inputs_of x xs) (x ∷ xs)
wrote_inputs x [] = (x, refl, refl)
wrote_inputs x (y ∷ ys) = (x, y ∷ ys, refl, wrote_inputs y ys, refl)

leaves_inputs : (x : List ℕ) (xs : List (List ℕ)) → all_leaves (inputs_of x xs) ≡ x ∷ xs
leaves_inputs x [] = refl
leaves_inputs x (y ∷ ys) = ap (λ (z : List (List ℕ)). x ∷ z) (leaves_inputs y ys)

no_merge : (ts : List Tail) (tail : Tail) → AreOpened [] ts → Merged ts tail → ⊥
no_merge [] tail o m = m
no_merge (t ∷ ts) tail o m = o

-- a step over inputs
wrote_flat : (xs : List (List ℕ)) (tail : Tail) (out : List ℕ) → IsMerge xs tail out → length out < 18446744073709551616
    → (gs : Groups) × (all_leaves gs ≡ xs) × Wrote (merge gs) out
wrote_flat [] tail out m few = absurd (no_merge m.tails tail m.opened m.merged)
wrote_flat (x ∷ xs) tail out m few = (inputs_of x xs, leaves_inputs x xs, (x ∷ xs, tail, wrote_inputs x xs, m, few))

pub two_wrote : LastMerge → (xs ys : List (List ℕ)) (t u tail : Tail) (first second : List ℕ) (o p q r old new : Option (List ℕ))
    → o ≡ Some [] → p ≡ Some first → WroteMerge xs t o p → q ≡ Some [] → r ≡ Some second → WroteMerge ys u q r
    → WroteMerge (first ∷ second ∷ []) tail old new → WroteMerge (xs ++ ys) tail old new
two_wrote last xs ys t u tail first second o p q r old new a b v d e w z =
    let one_is : v.bytes ≡ first = bytes_are o p first v.bytes a b v.told_is in
    let other_is : w.bytes ≡ second = bytes_are q r second w.bytes d e w.told_is in
    let left = wrote_flat xs t first (subst (λ (x : List ℕ). IsMerge xs t x) one_is v.merge) (subst (λ (x : List ℕ). length x < 18446744073709551616) one_is v.few) in
    let right = wrote_flat ys u second (subst (λ (x : List ℕ). IsMerge ys u x) other_is w.merge) (subst (λ (x : List ℕ). length x < 18446744073709551616) other_is w.few) in
    let wrote : AllWrote (and (merge left.0) (one (merge right.0))) (first ∷ second ∷ []) = (first, second ∷ [], left.2, (second, right.2, refl), refl) in
    let leaves : all_leaves left.0 ++ all_leaves right.0 ≡ xs ++ ys = rw (left.1, right.1) refl in
    subst (λ (l : List (List ℕ)). WroteMerge l tail old new) leaves
    (last (and (merge left.0) (one (merge right.0))) (first ∷ second ∷ []) tail old new wrote z)

-- ---- files in memory

-- what was merged into an empty vector
pub into_vector : (files : List (List ℕ)) (tail : Tail) (old new : Option (List ℕ)) (out : List ℕ) → old ≡ Some [] → new ≡ Some out
    → WroteMerge files tail old new → WroteMerge files tail (Some []) (Some out)
into_vector files tail old new out empty is w =
    subst (λ (o : Option (List ℕ)). WroteMerge files tail o (Some out)) empty (subst (λ (n : Option (List ℕ)). WroteMerge files tail old n) is w)

-- its bytes, in place of those that a vector has got
pub merge_of : (files : List (List ℕ)) (tail : Tail) (out : List ℕ) → WroteMerge files tail (Some []) (Some out)
    → IsMerge files tail out × (length out < 18446744073709551616)
merge_of files tail out w =
    let is : w.bytes ≡ out = bytes_are (Some []) (Some out) out w.bytes refl refl w.told_is in
    (subst (λ (x : List ℕ). IsMerge files tail x) is w.merge, subst (λ (x : List ℕ). length x < 18446744073709551616) is w.few)

pub wrote_pair : (a b : List ℕ) (t : Tail) (out : List ℕ) → WroteMerge (a ∷ b ∷ []) t (Some []) (Some out) → Wrote (pair a b) out
wrote_pair a b t out w =
    let m = merge_of (a ∷ b ∷ []) t out w in
    (a ∷ b ∷ [], t, (a, b ∷ [], refl, (b, refl, refl), refl), m.0, m.1)

pub wrote_at_once : (a b c : List ℕ) (t : Tail) (out : List ℕ) → WroteMerge (a ∷ b ∷ c ∷ []) t (Some []) (Some out) → Wrote (at_once a b c) out
wrote_at_once a b c t out w =
    let m = merge_of (a ∷ b ∷ c ∷ []) t out w in
    (a ∷ b ∷ c ∷ [], t, (a, b ∷ c ∷ [], refl, (b, c ∷ [], refl, (c, refl, refl), refl), refl), m.0, m.1)

-- the steps before the last
pub below_first_two : (a b c front : List ℕ) (t : Tail) → WroteMerge (a ∷ b ∷ []) t (Some []) (Some front)
    → AllWrote (and (pair a b) (one (input c))) (front ∷ c ∷ [])
below_first_two a b c front t w = (front, c ∷ [], wrote_pair a b t front w, (c, refl, refl), refl)

pub below_last_two : (a b c back : List ℕ) (t : Tail) → WroteMerge (b ∷ c ∷ []) t (Some []) (Some back)
    → AllWrote (and (input a) (one (pair b c))) (a ∷ back ∷ [])
below_last_two a b c back t w = (a, back ∷ [], refl, (back, wrote_pair b c t back w, refl), refl)

pub wrote_first_two : (a b c front out : List ℕ) (t u : Tail) → WroteMerge (a ∷ b ∷ []) t (Some []) (Some front)
    → WroteMerge (front ∷ c ∷ []) u (Some []) (Some out) → Wrote (first_two a b c) out
wrote_first_two a b c front out t u v w =
    let m = merge_of (front ∷ c ∷ []) u out w in
    (front ∷ c ∷ [], u, below_first_two a b c front t v, m.0, m.1)

pub wrote_last_two : (a b c back out : List ℕ) (t u : Tail) → WroteMerge (b ∷ c ∷ []) t (Some []) (Some back)
    → WroteMerge (a ∷ back ∷ []) u (Some []) (Some out) → Wrote (last_two a b c) out
wrote_last_two a b c back out t u v w =
    let m = merge_of (a ∷ back ∷ []) u out w in
    (a ∷ back ∷ [], u, below_last_two a b c back t v, m.0, m.1)

-- ---- steps that are refused

-- what comes of joining is no device's fault, so the inputs are refused for it
pub is_refused : (files : List (List ℕ)) (e : MergeFault) → ComesOfJoining e → IsAnswer files e → IsMergeRefused files e
is_refused files e joins (inr r) = r
is_refused files NoInput joins (inl d) = absurd joins
is_refused files (File i f) joins (inl d) = absurd joins
is_refused files (SchemaDiffers i) joins (inl d) = absurd joins
is_refused files (VersionDiffers i) joins (inl d) = absurd joins
is_refused files (StrideDiffers i) joins (inl d) = absurd joins
is_refused files (OtherFooterFields i) joins (inl d) = absurd joins
is_refused files (UserMetadataConflict i) joins (inl d) = absurd d
is_refused files (NoStripeStatistics i) joins (inl d) = absurd joins
is_refused files (Limit i) joins (inl d) = absurd d
is_refused files (SourceFailed i) joins (inl d) = absurd joins
is_refused files WriteFailed joins (inl d) = absurd joins
is_refused files OutOfMemory joins (inl d) = absurd joins

-- the inputs of a pair are themselves
inputs_are : (a b : List ℕ) (files : List (List ℕ)) → AllGive (and (input a) (one (input b))) files → files ≡ a ∷ b ∷ []
inputs_are a b files g =
    let rest : g.1 ≡ b ∷ [] = g.3.2 ∙ ap (λ (z : List ℕ). z ∷ []) g.3.1 in
    g.4 ∙ ap (λ (z : List ℕ). z ∷ g.1) g.2 ∙ ap (λ (z : List (List ℕ)). a ∷ z) rest

merge_of_pair : (a b out : List ℕ) (g : Gives (pair a b) out) → IsMerge (a ∷ b ∷ []) g.1 out
merge_of_pair a b out g = subst (λ (files : List (List ℕ)). IsMerge files g.1 out) (inputs_are a b g.0 g.2) g.3

-- a pair that is refused gives nothing
pub short_refused : (a b c : List ℕ) (e : MergeFault) → IsMergeRefused (a ∷ b ∷ []) e → AllShort (and (pair a b) (one (input c)))
short_refused a b c e r =
    ((λ out g. absurd (no_fault (a ∷ b ∷ []) g.1 out e (merge_of_pair a b out g) r), (tt, tt)), tt)

-- one that was written gives what was written
pub short_wrote : (a b c front : List ℕ) (t : Tail) → WroteMerge (a ∷ b ∷ []) t (Some []) (Some front) → AllShort (and (pair a b) (one (input c)))
short_wrote a b c front t w =
    let m = merge_of (a ∷ b ∷ []) t front w in (
      (
        λ out g. subst (λ (x : List ℕ). length x < 18446744073709551616) (sym (one_merge (a ∷ b ∷ []) t g.1 front out m.0 (merge_of_pair a b out g)).1) m.1,
        (tt, tt),
      ),
      tt,
    )

pub step_refused : (a b c : List ℕ) (e : MergeFault) → ComesOfJoining e → IsMergeRefused (a ∷ b ∷ []) e → IsStepRefused (and (pair a b) (one (input c)))
step_refused a b c e joins r = (e, joins, inl (inl (inr (a ∷ b ∷ [], (a, b ∷ [], refl, (b, refl, refl), refl), r))))

pub last_refused : (a b c front : List ℕ) (t : Tail) (e : MergeFault) → WroteMerge (a ∷ b ∷ []) t (Some []) (Some front) → ComesOfJoining e
    → IsMergeRefused (front ∷ c ∷ []) e → IsStepRefused (and (pair a b) (one (input c)))
last_refused a b c front t e w joins r =
    let m = merge_of (a ∷ b ∷ []) t front w in
    let gave : Gives (pair a b) front = (a ∷ b ∷ [], t, (a, b ∷ [], refl, (b, refl, refl), refl), m.0) in
    (e, joins, inr (front ∷ c ∷ [], (front, c ∷ [], gave, (c, refl, refl), refl), r))

-- ---- three files in two steps

-- what the theorem says of refusals
abbrev pub RefusedLaw : Type 0
RefusedLaw = (groups : Groups) → AllShort groups → AreFellows (all_leaves groups) → IsFlatRefused groups ↔ IsStepRefused groups

pub first_refuses : RefusedLaw → (a b c : List ℕ) (e : MergeFault) → IsAnswer (a ∷ b ∷ []) e → ComesOfJoining e → AreFellows (a ∷ b ∷ c ∷ [])
    → (fault : MergeFault) × ComesOfJoining fault × IsMergeRefused (a ∷ b ∷ c ∷ []) fault
first_refuses law a b c e answer joins fellows =
    let r = is_refused (a ∷ b ∷ []) e joins answer in
    (law (and (pair a b) (one (input c))) (short_refused a b c e r) fellows).1 (step_refused a b c e joins r)

pub last_refuses : RefusedLaw → (a b c front there : List ℕ) (t : Tail) (e : MergeFault) → WroteMerge (a ∷ b ∷ []) t (Some []) (Some front) → there ≡ front
    → IsAnswer (there ∷ c ∷ []) e → ComesOfJoining e → AreFellows (a ∷ b ∷ c ∷ [])
    → (fault : MergeFault) × ComesOfJoining fault × IsMergeRefused (a ∷ b ∷ c ∷ []) fault
last_refuses law a b c front there t e w same answer joins fellows =
    let r = is_refused (front ∷ c ∷ []) e joins (subst (λ (x : List ℕ). IsAnswer (x ∷ c ∷ []) e) same answer) in
    (law (and (pair a b) (one (input c))) (short_wrote a b c front t w) fellows).1 (last_refused a b c front t e w joins r)

-- what the last step wrote is the merge of all three
pub steps_wrote : LastMerge → (a b c front there out : List ℕ) (t u : Tail) → WroteMerge (a ∷ b ∷ []) t (Some []) (Some front) → there ≡ front
    → WroteMerge (there ∷ c ∷ []) u (Some []) (Some out)
    → Wrote (first_two a b c) out × WroteMerge (a ∷ b ∷ c ∷ []) u (Some []) (Some out)
steps_wrote last a b c front there out t u v same w =
    let z = subst (λ (x : List ℕ). WroteMerge (x ∷ c ∷ []) u (Some []) (Some out)) same w in (
      wrote_first_two a b c front out t u v z,
      last (and (pair a b) (one (input c))) (front ∷ c ∷ []) u (Some []) (Some out) (below_first_two a b c front t v) z,
    )

-- what the theorem says of two groupings
abbrev pub AlikeLaw : Type 0
AlikeLaw = (groups others : Groups) (out other : List ℕ) → Wrote (merge groups) out → Wrote (merge others) other → all_leaves others ≡ all_leaves groups → other ≡ out

pub first_two_same : AlikeLaw → (a b c left out : List ℕ) (t : Tail) → Wrote (first_two a b c) left → WroteMerge (a ∷ b ∷ c ∷ []) t (Some []) (Some out) → left ≡ out
first_two_same alike a b c left out t v w =
    alike (and (input a) (and (input b) (one (input c)))) (and (pair a b) (one (input c))) out left (wrote_at_once a b c t out w) v refl

pub last_two_wrote : (a b c back there right : List ℕ) (t u : Tail) → WroteMerge (b ∷ c ∷ []) t (Some []) (Some back) → there ≡ back → WroteMerge (a ∷ there ∷ []) u (Some []) (Some right)
    → Wrote (last_two a b c) right
last_two_wrote a b c back there right t u x same y = wrote_last_two a b c back right t u x (subst (λ (l : List ℕ). WroteMerge (a ∷ l ∷ []) u (Some []) (Some right)) same y)

pub last_two_same : AlikeLaw → (a b c right out : List ℕ) (t : Tail) → Wrote (last_two a b c) right → WroteMerge (a ∷ b ∷ c ∷ []) t (Some []) (Some out) → right ≡ out
last_two_same alike a b c right out t v w =
    alike (and (input a) (and (input b) (one (input c)))) (and (input a) (one (pair b c))) out right (wrote_at_once a b c t out w) v refl

-- one of two is one of three
pub either_more : {A B C : Type 0} → A ⊎ B → A ⊎ (B ⊎ C)
either_more (inl a) = inl a
either_more (inr b) = inr (inl b)

-- what the theorem says of every grouping
abbrev pub GivenLaw : Type 0
GivenLaw = (groups : Groups) (out : List ℕ) → AllShort groups → Gives (merge groups) out ↔ ((tail : Tail) × IsMerge (all_leaves groups) tail out)

-- it gives the bytes that joining its files at once gives, and no others
pub given_is : GivenLaw → (groups : Groups) (files : List (List ℕ)) (tail : Tail) (out other : List ℕ) → AllShort groups → all_leaves groups ≡ files → IsMerge files tail out
    → Gives (merge groups) other ↔ (other ≡ out)
given_is law groups files tail out other short leaves m = (
  λ gives.
      let flat = (law groups other short).0 gives in
      (one_merge files tail flat.0 out other m (subst (λ (l : List (List ℕ)). IsMerge l flat.0 other) leaves flat.1)).1,
  λ same. (law groups other short).1 (tail, subst (λ (l : List (List ℕ)). IsMerge l tail other) (sym leaves) (subst (λ (x : List ℕ). IsMerge files tail x) (sym same) m)),
)

-- ---- orders

-- what the theorem says of them
abbrev pub OrdersLaw : Type 0
OrdersLaw = (files others : List (List ℕ)) (tail : Tail) (out : List ℕ) → IsMerge files tail out → IsPermutation files others
    → (its_tail : Tail) × (other : List ℕ) × IsMerge others its_tail other

-- files that can be merged are refused for a device alone
pub of_device : (files : List (List ℕ)) (tail : Tail) (out : List ℕ) (e : MergeFault) → IsMerge files tail out → IsAnswer files e → IsDeviceFault e
of_device files tail out e m (inl d) = d
of_device files tail out e m (inr r) = absurd (no_fault files tail out e m r)

-- and so they are in the other order
pub turned_of_device : OrdersLaw → (a b out : List ℕ) (tail : Tail) (e : MergeFault) → IsMerge (a ∷ b ∷ []) tail out → IsAnswer (b ∷ a ∷ []) e → IsDeviceFault e
turned_of_device law a b out tail e m answer =
    let there = law (a ∷ b ∷ []) (b ∷ a ∷ []) tail out m (IsPermutation-append_comm (a ∷ []) (b ∷ [])) in
    of_device (b ∷ a ∷ []) there.0 there.1 e there.2 answer

-- ---- refusals of steps

gave_pair : (a b out : List ℕ) (t : Tail) → WroteMerge (a ∷ b ∷ []) t (Some []) (Some out) → Gives (pair a b) out
gave_pair a b out t w = (a ∷ b ∷ [], t, (a, b ∷ [], refl, (b, refl, refl), refl), (merge_of (a ∷ b ∷ []) t out w).0)

pub first_step : (a b c : List ℕ) (e : MergeFault) → IsAnswer (a ∷ b ∷ []) e → IsStepAnswer (first_two a b c) e
first_step a b c e (inl d) = inl d
first_step a b c e (inr r) = inr (inl (inl (inr (a ∷ b ∷ [], (a, b ∷ [], refl, (b, refl, refl), refl), r))))

pub first_last_step : (a b c front there : List ℕ) (t : Tail) (e : MergeFault) → WroteMerge (a ∷ b ∷ []) t (Some []) (Some front) → there ≡ front → IsAnswer (there ∷ c ∷ []) e
    → IsStepAnswer (first_two a b c) e
first_last_step a b c front there t e w same (inl d) = inl d
first_last_step a b c front there t e w same (inr r) =
    let refused = subst (λ (x : List ℕ). IsMergeRefused (x ∷ c ∷ []) e) same r in
    inr (inr (front ∷ c ∷ [], (front, c ∷ [], gave_pair a b front t w, (c, refl, refl), refl), refused))

pub last_step : (a b c : List ℕ) (e : MergeFault) → IsAnswer (b ∷ c ∷ []) e → IsStepAnswer (last_two a b c) e
last_step a b c e (inl d) = inl d
last_step a b c e (inr r) = inr (inl (inr (inr (b ∷ c ∷ [], (b, c ∷ [], refl, (c, refl, refl), refl), r))))

pub last_last_step : (a b c back there : List ℕ) (t : Tail) (e : MergeFault) → WroteMerge (b ∷ c ∷ []) t (Some []) (Some back) → there ≡ back → IsAnswer (a ∷ there ∷ []) e
    → IsStepAnswer (last_two a b c) e
last_last_step a b c back there t e w same (inl d) = inl d
last_last_step a b c back there t e w same (inr r) =
    let refused = subst (λ (x : List ℕ). IsMergeRefused (a ∷ x ∷ []) e) same r in
    inr (inr (a ∷ back ∷ [], (a, back ∷ [], refl, (back, gave_pair b c back t w, refl), refl), refused))

pub only_step : (a b c : List ℕ) (e : MergeFault) → IsAnswer (a ∷ b ∷ c ∷ []) e → IsStepAnswer (at_once a b c) e
only_step a b c e (inl d) = inl d
only_step a b c e (inr r) = inr (inr (a ∷ b ∷ c ∷ [], (a, b ∷ c ∷ [], refl, (b, c ∷ [], refl, (c, refl, refl), refl), refl), r))

-- what a merge into a vector gave
pub gave_vector : (files : List (List ℕ)) (tail : Tail) (old new : Option (List ℕ)) (out : List ℕ) → old ≡ Some [] → new ≡ Some out → WroteMerge files tail old new → MergedTo files out
gave_vector files tail old new out empty is w = (tail, (merge_of files tail out (into_vector files tail old new out empty is w)).0)
