-- The distinct items of a list, as they come.
use Rattle.std.proofs.Common.{◌≡◌, ℕ, zero, suc, ◌<◌, ◌≤◌, ◌+◌, Bool, true, false, cond, ◌||◌, not, List, [], ◌∷◌, ◌++◌, length, take, get_or, refl, subst, sym, ap, ◌∙◌}
use Rattle.std.specs.Cmp.{IsEquivalence}
use Rattle.std.specs.List.{list_any}
use Rattle.std.proofs.lemmas.List.Folds.{list_any-append, list_any_more}
use Rattle.std.proofs.lemmas.List.{take_all}
use Rattle.std.proofs.lemmas.Map.Keys.{IsDistinct-push}
use Rattle.orc_stripe_writer.specs.Dictionary.{is_worth}
use Rattle.orc_stripe_writer.specs.DictionaryChoice.{AreEachOnce, HasTooMany}
use Rattle.std.proofs.lemmas.Bool.{false≢true}

module _ {K : Type 0} {eq : K → K → Bool} (laws : IsEquivalence eq) where
  -- the keys of a set are the items that have been found
  pub record AreFound (items keys few : List K) : Type 0 where
    pub all : AreEachOnce eq items few
    pub stored : (q : K) → list_any (eq q) keys ≡ list_any (eq q) few

  or_false : (b : Bool) → (b || false) ≡ b
  or_false true = refl
  or_false false = refl

  pushed : (few : List K) (k q : K) → list_any (eq q) (few ++ k ∷ []) ≡ (list_any (eq q) few || eq q k)
  pushed few k q = list_any-append (eq q) few (k ∷ []) ∙ ap (λ b. list_any (eq q) few || b) (or_false (eq q k))

  cond_or : (a b : Bool) → cond a true b ≡ (b || a)
  cond_or true true = refl
  cond_or true false = refl
  cond_or false true = refl
  cond_or false false = refl

  or_there : (a b : Bool) → (b ≡ true → a ≡ true) → (a || b) ≡ a
  or_there true b h = refl
  or_there false true h = sym (h refl)
  or_there false false h = refl

  -- an item that isn't there yet
  pub new_item : (xs keys more few : List K) (i : ℕ) (k : K) → i < length xs → k ≡ get_or xs i k → AreFound (take i xs) keys few
      → list_any (eq k) keys ≡ false → ((q : K) → list_any (eq q) more ≡ cond (eq k q) true (list_any (eq q) keys)) → AreFound (take (i + 1) xs) more (few ++ k ∷ [])
  new_item xs keys more few i k lt is found absent put = record {
    all = record {
      apart = IsDistinct-push laws few k found.all.apart (sym (found.stored k) ∙ absent);
      same = λ q. pushed few k q ∙ ap (λ b. b || eq q k) (found.all.same q) ∙ ap (λ (x : K). list_any (eq q) (take i xs) || eq q x) is ∙ sym (list_any_more (eq q) xs i k lt);
    };
    stored = λ q. put q ∙ cond_or (eq k q) (list_any (eq q) keys) ∙ ap (λ b. list_any (eq q) keys || b) (laws.symm k q) ∙ ap (λ b. b || eq q k) (found.stored q) ∙ sym (pushed few k q);
  }

  alike : (k q : K) (xs : List K) → eq q k ≡ true → list_any (eq q) xs ≡ list_any (eq k) xs
  alike k q [] e = refl
  alike k q (x ∷ xs) e = (λ j. laws.congr q k x e j || alike k q xs e j)

  -- an item that is there already
  pub old_item : (xs keys few : List K) (i : ℕ) (k : K) → i < length xs → k ≡ get_or xs i k → AreFound (take i xs) keys few → list_any (eq k) keys ≡ true → AreFound (take (i + 1) xs) keys few
  old_item xs keys few i k lt is found present =
      let there : (q : K) → eq q k ≡ true → list_any (eq q) (take i xs) ≡ true = λ q e. alike k q (take i xs) e ∙ sym (found.all.same k) ∙ sym (found.stored k) ∙ present in
      record {
        all = record {
          apart = found.all.apart;
          same = λ q. found.all.same q ∙ sym (or_there (list_any (eq q) (take i xs)) (eq q k) (there q)) ∙ ap (λ (x : K). list_any (eq q) (take i xs) || eq q x) is ∙ sym (list_any_more (eq q) xs i k lt);
        };
        stored = found.stored;
      }

  -- what has been found of the front of a list is too many for all of it
  or_within : (b l r : Bool) → (l ≡ true → r ≡ true) → (b || l) ≡ true → (b || r) ≡ true
  or_within true l r f h = refl
  or_within false l r f h = f h

  not_any : (p : K → Bool) (xs : List K) → list_any p (take zero xs) ≡ true → ⊥
  not_any p [] h = false≢true h
  not_any p (x ∷ xs) h = false≢true h

  within_all : (p : K → Bool) (xs : List K) (i : ℕ) → list_any p (take i xs) ≡ true → list_any p xs ≡ true
  within_all p xs zero h = absurd (not_any p xs h)
  within_all p [] (suc i) h = h
  within_all p (x ∷ xs) (suc i) h = or_within (p x) (list_any p (take i xs)) (list_any p xs) (within_all p xs i) h

  pub all_found : (xs keys few : List K) (i : ℕ) → length xs ≤ i → AreFound (take i xs) keys few → AreEachOnce eq xs few
  all_found xs keys few i le found = subst (λ items. AreEachOnce eq items few) (take_all i xs le) found.all

  pub too_many : (xs keys few : List K) (i : ℕ) → AreFound (take i xs) keys few → is_worth (length few) (length xs) ≡ false → HasTooMany eq xs
  too_many xs keys few i found many = record { some = few; apart = found.all.apart; within = λ q h. within_all (eq q) xs i (sym (found.all.same q) ∙ h); many = many }

pub absent_by : (there added : Bool) → added ≡ not there → added ≡ true → there ≡ false
absent_by true added is h = sym h ∙ is
absent_by false added is h = refl

pub present_by : (there added : Bool) → added ≡ not there → added ≡ false → there ≡ true
present_by true added is h = refl
present_by false added is h = sym h ∙ is
