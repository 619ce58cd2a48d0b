-- Inputs have one merged file at most, and one fault is the first.
use Rattle.std.proofs.Common.{◌≡◌, ℕ, ◌⊎◌, inl, inr, List, [], ◌∷◌, ◌++◌, length, refl, sym, ap, ◌∙◌, subst}
use Rattle.std.specs.List.{concat}
use Rattle.orc_tail.specs.Tails.{tail_tests}
use Rattle.orc_tail.specs.Images.{image}
use Rattle.orc_tail.specs.declared.tail.Tail.{Tail}
use Rattle.orc_merger.specs.declared.fault.MergeFault.{MergeFault}
use Rattle.orc_merger.specs.Merging.{Merged, AreOpened, bodies, IsMerge}
use Rattle.orc_merger.specs.Faults.{Tested, NextFault, AreGathered, InputFault, IsRefusedAt, IsMergeRefused, AreOne}
use Rattle.orc_merge_laws.proofs.Opened.{one_opened}
use Rattle.orc_merge_laws.proofs.Refusing.{no_refusal}

-- ---- one merged file

one_tail : (ts : List Tail) (t u : Tail) → Merged ts t → Merged ts u → u ≡ t
one_tail [] t u m n = absurd m
one_tail (x ∷ xs) t u m n = n.1 ∙ sym m.1

pub one_merge : (inputs : List (List ℕ)) (tail other : Tail) (out bytes : List ℕ) → IsMerge inputs tail out → IsMerge inputs other bytes
    → (other ≡ tail) × (bytes ≡ out)
one_merge inputs tail other out bytes m n =
    let tails : n.tails ≡ m.tails = one_opened inputs n.tails m.tails n.opened m.opened in
    let same : other ≡ tail = one_tail m.tails tail other m.merged (subst (λ (ts : List Tail). Merged ts other) tails n.merged) in (
      same,
      n.written ∙ ap (λ (ts : List Tail). image (concat (bodies inputs ts)) other) tails ∙ ap (λ (t : Tail). image (concat (bodies inputs m.tails)) t) same
          ∙ sym m.written,
    )

-- ---- one fault of the next input

one_test : {Holds R S : Type 0} (fails e f : MergeFault) → (R → S → e ≡ f) → Tested Holds fails e R → Tested Holds fails f S → e ≡ f
one_test fails e f rest (inl p) (inl q) = p.1 ∙ sym q.1
one_test fails e f rest (inl p) (inr q) = absurd (p.0 q.0)
one_test fails e f rest (inr p) (inl q) = absurd (q.0 p.0)
one_test fails e f rest (inr p) (inr q) = rest p.1 q.1

one_next : (before : List Tail) (tail : Tail) (e f : MergeFault) → NextFault before tail e → NextFault before tail f → e ≡ f
one_next before tail e f n m =
    one_test _ e f (one_test _ e f (one_test _ e f (one_test _ e f (one_test _ e f (one_test _ e f (one_test _ e f (λ h k. absurd h))))))) n m

one_input : (before : List Tail) (bytes : List ℕ) (e f : MergeFault) → InputFault before bytes e → InputFault before bytes f → AreOne e f
one_input before bytes e f (inl p) (inl q) = inr (length before, p.0, q.0, (tail_tests bytes).single p.0 q.0 p.1 q.1, p.2, q.2)
one_input before bytes e f (inl p) (inr q) = absurd ((tail_tests bytes).none q.0 p.0 p.1 q.1)
one_input before bytes e f (inr p) (inl q) = absurd ((tail_tests bytes).none p.0 q.0 q.1 p.1)
one_input before bytes e f (inr p) (inr q) =
    let one : p.0 ≡ q.0 = (tail_tests bytes).one p.0 q.0 p.1 q.1 in
    inl (one_next before q.0 e f (subst (λ (t : Tail). NextFault before t e) one p.2) q.2)

-- ---- one input that is refused

-- of two fronts of a list, each with an element behind it, one goes on as the other, or they are one
compared : {X : Type 0} (us vs : List X) (x y : X) (ps qs : List X) → us ++ x ∷ ps ≡ vs ++ y ∷ qs
    → ((us ≡ vs) × (x ≡ y)) ⊎ (((mid : List X) × (vs ≡ us ++ x ∷ mid)) ⊎ ((mid : List X) × (us ≡ vs ++ y ∷ mid)))
compared [] [] x y ps qs e = let same : x ≡ y = cc in inl (refl, same)
compared {X} [] (v ∷ vs) x y ps qs e = let same : v ≡ x = cc in inr (inl (vs, ap (λ (z : X). z ∷ vs) same))
compared {X} (u ∷ us) [] x y ps qs e = let same : u ≡ y = cc in inr (inr (us, ap (λ (z : X). z ∷ us) same))
compared {X} (u ∷ us) (v ∷ vs) x y ps qs e =
    let head : u ≡ v = cc in let rest : us ++ x ∷ ps ≡ vs ++ y ∷ qs = cc in
    elim (compared us vs x y ps qs rest) [
      | inl same ↦ inl (ap (λ (z : X). z ∷ us) head ∙ ap (λ (zs : List X). v ∷ zs) same.0, same.1)
      | inr (inl later) ↦ inr (inl (later.0, ap (λ (z : X). z ∷ vs) (sym head) ∙ ap (λ (zs : List X). u ∷ zs) later.1))
      | inr (inr later) ↦ inr (inr (later.0, ap (λ (z : X). z ∷ us) head ∙ ap (λ (zs : List X). v ∷ zs) later.1))
    ]

none_opened : (front rest : List (List ℕ)) (bytes : List ℕ) → AreOpened (front ++ bytes ∷ rest) [] → ⊥
none_opened [] rest bytes o = o
none_opened (x ∷ front) rest bytes o = o

-- an input that is refused isn't among those that are gathered
not_gathered : (inputs : List (List ℕ)) (fault : MergeFault) (r : IsRefusedAt inputs fault) (mid : List (List ℕ)) (ts : List Tail)
    → AreOpened (r.front ++ r.bytes ∷ mid) ts → AreGathered ts → ⊥
not_gathered inputs fault r mid [] o g = none_opened r.front mid r.bytes o
not_gathered inputs fault r mid (t ∷ ts) o g =
    no_refusal (r.front ++ r.bytes ∷ mid) t ts fault o g
    (inr (record { front = r.front; bytes = r.bytes; rest = mid; tails = r.tails; parts = refl; opened = r.opened; gathered = r.gathered; fails = r.fails }))

one_place : (inputs : List (List ℕ)) (e f : MergeFault) (r : IsRefusedAt inputs e) (s : IsRefusedAt inputs f) → r.front ≡ s.front → r.bytes ≡ s.bytes
    → AreOne e f
one_place inputs e f r s front bytes =
    let opened : AreOpened s.front r.tails = subst (λ (x : List (List ℕ)). AreOpened x r.tails) front r.opened in
    let tails : r.tails ≡ s.tails = one_opened s.front r.tails s.tails opened s.opened in
    one_input s.tails s.bytes e f (subst (λ (b : List ℕ). InputFault s.tails b e) bytes (subst (λ (ts : List Tail). InputFault ts r.bytes e) tails r.fails))
    s.fails

one_refusal : (inputs : List (List ℕ)) (e f : MergeFault) → IsRefusedAt inputs e → IsRefusedAt inputs f → AreOne e f
one_refusal inputs e f r s = elim (compared r.front s.front r.bytes s.bytes r.rest s.rest (sym r.parts ∙ s.parts)) [
  | inl same ↦ one_place inputs e f r s same.0 same.1
  | inr (inl later) ↦ absurd (not_gathered inputs e r later.0 s.tails (subst (λ (x : List (List ℕ)). AreOpened x s.tails) later.1 s.opened) s.gathered)
  | inr (inr later) ↦ absurd (not_gathered inputs f s later.0 r.tails (subst (λ (x : List (List ℕ)). AreOpened x r.tails) later.1 r.opened) r.gathered)
]

some_input : (front rest : List (List ℕ)) (bytes : List ℕ) → front ++ bytes ∷ rest ≡ [] → ⊥
some_input [] rest bytes e = cc
some_input (x ∷ front) rest bytes e = cc

pub one_fault : (inputs : List (List ℕ)) (e f : MergeFault) → IsMergeRefused inputs e → IsMergeRefused inputs f → AreOne e f
one_fault inputs e f (inl p) (inl q) = inl (p.1 ∙ sym q.1)
one_fault inputs e f (inl p) (inr s) = absurd (some_input s.front s.rest s.bytes (sym s.parts ∙ p.0))
one_fault inputs e f (inr r) (inl q) = absurd (some_input r.front r.rest r.bytes (sym r.parts ∙ q.0))
one_fault inputs e f (inr r) (inr s) = one_refusal inputs e f r s
