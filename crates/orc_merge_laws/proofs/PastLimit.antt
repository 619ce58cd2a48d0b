-- A limit that inputs pass is one of stripes, bytes, rows or values.
use Rattle.std.proofs.Common.{◌≡◌, ℕ, zero, suc, ◌+◌, inl, inr, List, [], ◌∷◌, ◌++◌, length, take, refl, sym, ap, ◌∙◌, subst, arith}
use Rattle.std.specs.List.{AllByRecursion}
use Rattle.orc_tail.specs.Images.{IsWithinLimits}
use Rattle.orc_tail.specs.declared.tail.Tail.{Tail}
use Rattle.orc_merger.specs.declared.fault.MergeFault.{MergeFault}
use Rattle.orc_merger.specs.declared.fault.MergeFault.TheVariants.{SchemaDiffers, VersionDiffers, StrideDiffers, OtherFooterFields}
use Rattle.orc_merger.specs.declared.fault.MergeFault.TheVariants.{UserMetadataConflict, NoStripeStatistics, Limit}
use Rattle.orc_merger.specs.Merging.{AreOpened, IsLike}
use Rattle.orc_merger.specs.Faults.{first_of, Tested, NextFault, AreGathered, InputFault, IsMergeRefused}
use Rattle.orc_merger.specs.Limits.{AreFewInAll}
use Rattle.orc_merger.proofs.Opened.{opened_push}
use Rattle.orc_merge_laws.proofs.Opened.{all_sound}
use Rattle.orc_merge_laws.proofs.Cover.{alike_next, first_within}
use Rattle.orc_merger.proofs.Together.{limits_of_few}

-- a test that doesn't fail so is passed
past : {H R X : Type 0} (fails e : MergeFault) → (e ≡ fails → ⊥) → (H → R → X) → Tested H fails e R → X
past fails e other f (inl p) = absurd (other p.1)
past fails e other f (inr p) = f p.0 p.1

abbrev PastLimit : List Tail → Tail → ℕ → Type 0
PastLimit tails t i = (i ≡ length tails) × (AreFewInAll (tails ++ t ∷ []) → ⊥)

limited : (tails : List Tail) (t : Tail) (i : ℕ) → AreGathered tails → AllByRecursion IsWithinLimits (tails ++ t ∷ []) → NextFault tails t (Limit i) → PastLimit tails t i
limited tails t i gathered within =
    let n : ℕ = length tails in
    past (SchemaDiffers n) (Limit i) (λ e. cc) (λ schema.
    past (VersionDiffers n) (Limit i) (λ e. cc) (λ version.
    past (StrideDiffers n) (Limit i) (λ e. cc) (λ stride.
    past (OtherFooterFields n) (Limit i) (λ e. cc) (λ other.
    past (UserMetadataConflict n) (Limit i) (λ e. cc) (λ agree.
    past (NoStripeStatistics n) (Limit i) (λ e. cc) (λ statistics last.
    let like : IsLike (first_of tails t) t = record { schema = schema; version = version; stride = stride; other = other; statistics = statistics } in
    elim last [
      | inl above ↦
          let at : Limit i ≡ Limit n = above.1 in
          let number : i ≡ n = cc in
          (number, λ few. above.0 (limits_of_few (first_of tails t) (tails ++ t ∷ []) (first_within tails t within) within (alike_next tails t gathered like) few))
      | inr none ↦ absurd none.1
    ]))))))

take_front : (xs : List (List ℕ)) (y : List ℕ) (zs : List (List ℕ)) (n : ℕ) → length xs ≡ n → take (suc n) (xs ++ y ∷ zs) ≡ xs ++ y ∷ []
take_front [] y zs zero e = refl
take_front [] y zs (suc n) e = absurd (omega (arith, e))
take_front (x ∷ xs) y zs zero e = absurd (omega (arith, e))
take_front (x ∷ xs) y zs (suc n) e = ap (λ (r : List (List ℕ)). x ∷ r) (take_front xs y zs n (omega (arith, e)))

as_many : (xs : List (List ℕ)) (ts : List Tail) → AreOpened xs ts → length xs ≡ length ts
as_many [] [] o = refl
as_many [] (t ∷ ts) o = absurd o
as_many (x ∷ xs) [] o = absurd o
as_many (x ∷ xs) (t ∷ ts) o = ap suc (as_many xs ts o.1)

abbrev ArePast : List (List ℕ) → ℕ → Type 0
ArePast inputs i = (tails : List Tail) × AreOpened (take (i + 1) inputs) tails × (AreFewInAll tails → ⊥)

past_input : (inputs front rest : List (List ℕ)) (bytes : List ℕ) (tails : List Tail) (i : ℕ) → inputs ≡ front ++ bytes ∷ rest → AreOpened front tails → AreGathered tails
    → InputFault tails bytes (Limit i) → ArePast inputs i
past_input inputs front rest bytes tails i parts o g (inl h) = let wrong = h.2 in cc
past_input inputs front rest bytes tails i parts o g (inr h) =
    let opened : AreOpened (front ++ bytes ∷ []) (tails ++ h.0 ∷ []) = opened_push front tails bytes h.0 o h.1 in
    let past : PastLimit tails h.0 i = limited tails h.0 i g (all_sound (front ++ bytes ∷ []) (tails ++ h.0 ∷ []) opened) h.2 in
    let one : i + 1 ≡ suc i = omega arith in
    let number : length front ≡ i = as_many front tails o ∙ sym past.0 in (
      tails ++ h.0 ∷ [],
      subst (λ (xs : List (List ℕ)). AreOpened xs (tails ++ h.0 ∷ [])) (sym (ap (λ (n : ℕ). take n inputs) one ∙ ap (take (suc i)) parts ∙ take_front front bytes rest i number)) opened,
      past.1,
    )

pub past_limit : (inputs : List (List ℕ)) (i : ℕ) → IsMergeRefused inputs (Limit i) → ArePast inputs i
past_limit inputs i (inl h) = let wrong = h.1 in cc
past_limit inputs i (inr r) = past_input inputs r.front r.rest r.bytes r.tails i r.parts r.opened r.gathered r.fails
