-- That any texts have entries, and that distinct ones of them are no more.
use Rattle.std.proofs.Common.{◌≡◌, ℕ, zero, ◌≤◌, Bool, true, false, nat_eq, List, [], ◌∷◌, length, map, refl, sym, ap, subst, ◌∙◌, arith, inl, inr, ◌⊎◌}
use Rattle.std.specs.Cmp.Lexicographic.{slice_cmp, pointwise, same_text}
use Rattle.std.specs.List.{Contains, AllByRecursion, IsDistinct, list_any}
use Rattle.std.specs.List.Sorted.{IsStrictlySortedBy}
use Rattle.std.specs.Ordering.{nat_cmp, ordering_reverse}
use Rattle.std.specs.declared.cmp.Ordering.{Ordering}
use Rattle.std.specs.declared.cmp.Ordering.TheVariants.{Less, Equal, Greater}
use Rattle.std.proofs.lemmas.Cmp.{nat_list_eq_equiv, nat_list_cmp_total}
use Rattle.std.proofs.lemmas.List.{length-map}
use Rattle.std.proofs.lemmas.List.Folds.{Any-from_list_any, list_any-from_Any}
use Rattle.std.proofs.lemmas.Map.Lookups.{exact_bytes}
use Rattle.std.proofs.lemmas.Map.Made.{length-le_from_is_member}
use Rattle.orc_stripe_writer.specs.declared.byte_string.ByteString.{ByteString}
use Rattle.orc_stripe_writer.specs.Dictionary.{AreDistinct, is_worth}
use Rattle.orc_stripe_writer.specs.DictionaryChoice.{AreEachOnce, HasTooMany, HaveManyEntries}
use Rattle.orc_stripe_writer.proofs.DictionaryLemmas.{from_map, to_map, in_tail, here, later}

-- a text put among others in order
abbrev pub by : Ordering → List (List ℕ) → List (List ℕ) → List (List ℕ) → List (List ℕ)
by Less first same after = first
by Equal first same after = same
by Greater first same after = after

abbrev pub put : List ℕ → List (List ℕ) → List (List ℕ)
put t [] = t ∷ []
put t (x ∷ xs) = by (slice_cmp nat_cmp t x) (t ∷ x ∷ xs) (x ∷ xs) (x ∷ put t xs)

-- the entries of texts
abbrev pub entries : List (List ℕ) → List (List ℕ)
entries [] = []
entries (t ∷ ts) = put t (entries ts)

below : (x y : List ℕ) (xs : List (List ℕ)) → slice_cmp nat_cmp x y ≡ Less → AllByRecursion (λ z. slice_cmp nat_cmp y z ≡ Less) xs → AllByRecursion (λ z. slice_cmp nat_cmp x z ≡ Less) xs
below x y [] h all = tt
below x y (z ∷ xs) h all = (nat_list_cmp_total.trans x y z h all.0, below x y xs h all.1)

put_below : (x t : List ℕ) (xs : List (List ℕ)) → slice_cmp nat_cmp x t ≡ Less → AllByRecursion (λ z. slice_cmp nat_cmp x z ≡ Less) xs → AllByRecursion (λ z. slice_cmp nat_cmp x z ≡ Less) (put t xs)
put_below x t [] h all = (h, tt)
put_below x t (y ∷ xs) h all = by_cases (slice_cmp nat_cmp t y) (put_below x t xs h all.1)
  where
    by_cases : (o : Ordering) → AllByRecursion (λ z. slice_cmp nat_cmp x z ≡ Less) (put t xs) → AllByRecursion (λ z. slice_cmp nat_cmp x z ≡ Less) (by o (t ∷ y ∷ xs) (y ∷ xs) (y ∷ put t xs))
    by_cases Less rest = (h, all)
    by_cases Equal rest = all
    by_cases Greater rest = (all.0, rest)

put_sorted : (t : List ℕ) (xs : List (List ℕ)) → IsStrictlySortedBy (slice_cmp nat_cmp) xs → IsStrictlySortedBy (slice_cmp nat_cmp) (put t xs)
unfolding IsStrictlySortedBy
put_sorted t [] h = (tt, tt)
put_sorted t (x ∷ xs) h = by_cases (slice_cmp nat_cmp t x) refl (put_sorted t xs h.1)
  where
    by_cases : (o : Ordering) → slice_cmp nat_cmp t x ≡ o → IsStrictlySortedBy (slice_cmp nat_cmp) (put t xs) → IsStrictlySortedBy (slice_cmp nat_cmp) (by o (t ∷ x ∷ xs) (x ∷ xs) (x ∷ put t xs))
    by_cases Less is rest = ((is, below t x xs is h.0), h)
    by_cases Equal is rest = h
    by_cases Greater is rest = (put_below x t xs (nat_list_cmp_total.antisymm x t ∙ ap ordering_reverse is) h.0, rest)

-- what is in a list to which a text was put
put_has : (t u : List ℕ) (xs : List (List ℕ)) → Contains (put t xs) u → (t ≡ u) ⊎ Contains xs u
put_has t u [] c = in_tail t u [] c
put_has t u (x ∷ xs) c = by_cases (slice_cmp nat_cmp t x) (put_has t u xs) c
  where
    further : (t ≡ u) ⊎ Contains xs u → (t ≡ u) ⊎ Contains (x ∷ xs) u
    further (inl e) = inl e
    further (inr c) = inr (later x u xs c)

    in_rest : (Contains (put t xs) u → (t ≡ u) ⊎ Contains xs u) → (x ≡ u) ⊎ Contains (put t xs) u → (t ≡ u) ⊎ Contains (x ∷ xs) u
    in_rest f (inl e) = inr (zero, omega arith, e)
    in_rest f (inr c) = further (f c)

    by_cases : (o : Ordering) → (Contains (put t xs) u → (t ≡ u) ⊎ Contains xs u) → Contains (by o (t ∷ x ∷ xs) (x ∷ xs) (x ∷ put t xs)) u → (t ≡ u) ⊎ Contains (x ∷ xs) u
    by_cases Less f c = in_tail t u (x ∷ xs) c
    by_cases Equal f c = inr c
    by_cases Greater f c = in_rest f (in_tail x u (put t xs) c)

put_itself : (t : List ℕ) (xs : List (List ℕ)) → Contains (put t xs) t
put_itself t [] = here t []
put_itself t (x ∷ xs) = by_cases (slice_cmp nat_cmp t x) refl (put_itself t xs)
  where
    by_cases : (o : Ordering) → slice_cmp nat_cmp t x ≡ o → Contains (put t xs) t → Contains (by o (t ∷ x ∷ xs) (x ∷ xs) (x ∷ put t xs)) t
    by_cases Less is c = here t (x ∷ xs)
    by_cases Equal is c = (zero, omega arith, sym (exact_bytes t x is))
    by_cases Greater is c = later x t (put t xs) c

put_keeps : (t u : List ℕ) (xs : List (List ℕ)) → Contains xs u → Contains (put t xs) u
put_keeps t u [] c = absurd (omega (arith, c.1))
put_keeps t u (x ∷ xs) c = by_cases (slice_cmp nat_cmp t x) (put_keeps t u xs)
  where
    in_rest : (Contains xs u → Contains (put t xs) u) → (x ≡ u) ⊎ Contains xs u → Contains (x ∷ put t xs) u
    in_rest f (inl e) = (zero, omega arith, e)
    in_rest f (inr c) = later x u (put t xs) (f c)

    by_cases : (o : Ordering) → (Contains xs u → Contains (put t xs) u) → Contains (by o (t ∷ x ∷ xs) (x ∷ xs) (x ∷ put t xs)) u
    by_cases Less f = later t u (x ∷ xs) c
    by_cases Equal f = c
    by_cases Greater f = in_rest f (in_tail x u xs c)

-- any texts have entries
pub entries_are : (ts : List (List ℕ)) → AreDistinct ts (entries ts)
unfolding IsStrictlySortedBy
entries_are [] = record { ascend = tt; there = λ t c. c; used = λ t c. c }
entries_are (t ∷ ts) =
    let rest = entries_are ts in
    record {
      ascend = put_sorted t (entries ts) rest.ascend;
      there = λ u c. elim (in_tail t u ts c) [ inl e ↦ subst (λ (v : List ℕ). Contains (put t (entries ts)) v) e (put_itself t (entries ts)) | inr more ↦ put_keeps t u (entries ts) (rest.there u more) ];
      used = λ u c. elim (put_has t u (entries ts) c) [ inl e ↦ (zero, omega arith, e) | inr more ↦ later t u ts (rest.used u more) ];
    }

abbrev pub now : ByteString → List ℕ
now t = t.0.now

abbrev pub alike : ByteString → ByteString → Bool
alike x y = pointwise nat_eq x.0.now y.0.now

-- texts go from a list to another that has what it has
moved : (xs ys : List (ByteString)) → ((q : ByteString) → list_any (alike q) xs ≡ true → list_any (alike q) ys ≡ true) → (t : List ℕ) → Contains (map now xs) t → Contains (map now ys) t
moved xs ys f t c =
    let a = from_map now xs t c in
    let b = Any-from_list_any (alike a.of) ys (f a.of (list_any-from_Any (alike a.of) xs (a.there.0, a.of, a.there.1, a.there.2, nat_list_eq_equiv.refl a.of.0.now))) in
    let equal : now a.of ≡ now b.1 = same_text (now a.of) (now b.1) (sym b.4) in
    subst (λ (v : List ℕ). Contains (map now ys) v) (sym equal ∙ a.is) (to_map now ys b.1 (b.0, b.2, b.3))

-- the entries of each of the texts, once, are those of all
pub all_distinct : (all few : List (ByteString)) (es : List (List ℕ)) → AreEachOnce alike all few → AreDistinct (map now few) es → AreDistinct (map now all) es
all_distinct all few es same found = record {
  ascend = found.ascend;
  there = λ t c. found.there t (moved all few (λ q h. same.same q ∙ h) t c);
  used = λ t c. moved few all (λ q h. sym (same.same q) ∙ h) t (found.used t c);
}

apart_from : (x : ByteString) (xs : List (ByteString)) → AllByRecursion (λ y. alike x y ≡ false) xs → AllByRecursion (λ y. pointwise nat_eq (now x) y ≡ false) (map now xs)
apart_from x [] h = tt
apart_from x (y ∷ xs) h = (h.0, apart_from x xs h.1)

apart : (xs : List (ByteString)) → IsDistinct alike xs → IsDistinct (pointwise nat_eq) (map now xs)
unfolding IsDistinct
apart [] h = tt
apart (x ∷ xs) h = (apart_from x xs h.0, apart xs h.1)

worth_less : (a b n : ℕ) → is_worth a n ≡ false → a ≤ b → is_worth b n ≡ false
worth_less a b n h le = grind (arith, h, le)

-- where some of the texts are too many, the entries of all are
pub all_many : (all : List (ByteString)) → HasTooMany alike all → HaveManyEntries (map now all)
all_many all many =
    let es = entries (map now all) in
    let are = entries_are (map now all) in
    let member : (q : List ℕ) → list_any (pointwise nat_eq q) (map now many.some) ≡ true → list_any (pointwise nat_eq q) es ≡ true = λ q h.
    let b = Any-from_list_any (pointwise nat_eq q) (map now many.some) h in
    let c = are.there b.1 (moved many.some all many.within b.1 (b.0, b.2, b.3)) in
    list_any-from_Any (pointwise nat_eq q) es (c.0, b.1, c.1, c.2, b.4) in
    let few : length (map now many.some) ≤ length es = length-le_from_is_member nat_list_eq_equiv (map now many.some) es (apart many.some many.apart) member in
    record {
      entries = es;
      distinct = are;
      not_worth = rw (length-map all now) (worth_less (length many.some) (length es) (length all) many.many (rw (length-map many.some now) at few));
    }
