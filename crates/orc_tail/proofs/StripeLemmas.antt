-- Testing stripes one after the other.
use Rattle.std.specs.Prelude.{◌≡◌, ℕ, ◌+◌, ◌<◌, ◌≤◌, List, [], ◌∷◌, length, drop}
use Rattle.std.proofs.Common.{get_or, sym, ap, subst, inr, arith, add-one, drop-cons}
use Rattle.orc_wire.specs.declared.stripe_info.StripeInfo.{StripeInfo}
use Rattle.orc_tail.specs.Stripes.{stripe_tests, stripe_end, stripe_length, stripes_rows, stripes_length, most_stripe_rows, IsLaid, AllBefore}
use Rattle.orc_tail.specs.declared.fault.FileFault.{FileFault}

module _ (ss : List StripeInfo) (i : ℕ) (d : StripeInfo) (lt : i < length ss) where
  abbrev s : StripeInfo
  s = get_or ss i d

  pub next_is : drop i ss ≡ s ∷ drop (i + 1) ss
  next_is = rw add-one (drop-cons ss i d lt)

  pub rows_next : (rows all : ℕ) → rows + stripes_rows (drop i ss) ≡ all → rows + s.number_of_rows + stripes_rows (drop (i + 1) ss) ≡ all
  rows_next rows all h = omega (arith, h, ap stripes_rows next_is)

  pub bytes_next : (bytes all : ℕ) → bytes + stripes_length (drop i ss) ≡ all → bytes + stripe_length s + stripes_length (drop (i + 1) ss) ≡ all
  bytes_next bytes all h = omega (arith, h, ap stripes_length next_is)

  module _ (from end before : ℕ) (end_is : end ≡ stripe_end s) (low : from ≤ s.offset) (high : end ≤ before) (few : s.number_of_rows ≤ most_stripe_rows) where
    pub pass_next : (W : Type 0) → ((stripe_tests i from before (drop i ss)).finds tt → W) → (stripe_tests (i + 1) end before (drop (i + 1) ss)).finds tt → W
    pass_next W h rest =
        h (subst (λ (t : List StripeInfo). (stripe_tests i from before t).finds tt) (sym next_is)
        ((low, omega (arith, high, end_is)), (few, subst (λ (t : ℕ). (stripe_tests (i + 1) t before (drop (i + 1) ss)).finds tt) end_is rest)))

    pub fail_next : (W : FileFault → Type 0) → ((fault : FileFault) → (stripe_tests i from before (drop i ss)).fails fault → W fault) → (fault : FileFault)
        → (stripe_tests (i + 1) end before (drop (i + 1) ss)).fails fault → W fault
    fail_next W h fault rest =
        h fault (subst (λ (t : List StripeInfo). (stripe_tests i from before t).fails fault) (sym next_is)
        (inr ((low, omega (arith, high, end_is)), inr (few, subst (λ (t : ℕ). (stripe_tests (i + 1) t before (drop (i + 1) ss)).fails fault) end_is rest))))

  pub laid_next : (place end : ℕ) → end ≡ stripe_end s → s.offset ≡ place → (W : Type 0) → (IsLaid place (drop i ss) → W) → IsLaid end (drop (i + 1) ss) → W
  laid_next place end end_is at W h rest =
      h (subst (λ (t : List StripeInfo). IsLaid place t) (sym next_is) (at, subst (λ (t : ℕ). IsLaid t (drop (i + 1) ss)) end_is rest))

  pub laid_first : (place : ℕ) → IsLaid place (drop i ss) → (s.offset ≡ place) × IsLaid (stripe_end s) (drop (i + 1) ss)
  laid_first place h = subst (λ (t : List StripeInfo). IsLaid place t) next_is h

  pub laid_rest : (place end : ℕ) → end ≡ stripe_end s → IsLaid place (drop i ss) → IsLaid end (drop (i + 1) ss)
  laid_rest place end end_is h = subst (λ (t : ℕ). IsLaid t (drop (i + 1) ss)) (sym end_is) (laid_first place h).1

-- stripes that pass end at the place or before it
pub all_before : (n from before size : ℕ) (ss : List StripeInfo) → before ≤ size → (stripe_tests n from before ss).finds tt → AllBefore size ss
all_before n from before size [] le h = tt
all_before n from before size (s ∷ ss) le h = let q = h.0.1 in (omega (arith, q, le), all_before (n + 1) (stripe_end s) before size ss le h.1.1)
