-- The places of a struct's fields in the order of their names: each is there once, if no name comes twice.
use Rattle.std.proofs.Common.{◌≡◌, ◌≢◌, ℕ, zero, suc, ◌<◌, ◌≤◌, ◌==◌, cond, List, [], ◌∷◌, length, get_or, drop, Bool, true, false, not, String, Global, string_bytes, string_cmp, bytes_eq, is_eq, Ordering, Less, Equal, Greater, refl, sym, ap, ◌∙◌, subst, arith, drop-cons}
use Rattle.std.proofs.lemmas.Bool.Decides.{nat_tests}
use Rattle.std.specs.List.{AllByRecursion}
use Rattle.std.specs.Ordering.{match_ordering}
use Rattle.std.specs.BTreeMap.{insert_entry}
use Rattle.std.proofs.lemmas.Bool.{and_parts, or_parts, not-true}
use Rattle.std.proofs.lemmas.Map.Text.{is_eq-slice_cmp}
use Rattle.orc_values.specs.Shapes.{Shape, names_of}
use Rattle.orc_values.specs.Views.{fields_of}
use Rattle.orc_json_rows.specs.FieldNames.{is_among, all_differ}
use Rattle.orc_json_printer.specs.LaidOut.{times, AreAllPlaces}
use Rattle.orc_json_printer.specs.Texts.{no_name, AreWithin, entry_places}
use Rattle.orc_json_printer.proofs.Prints.{Entry}

-- ---- an entry whose key is new

-- no key is one of the names
abbrev pub AreNew : List (List ℕ) → List Entry → Type 0
AreNew ns es = AllByRecursion (λ e. is_among ns (string_bytes e.0) ≡ false) es

abbrev IsApart : String Global → List Entry → Type 0
IsApart k es = AllByRecursion (λ e. bytes_eq (string_bytes k) (string_bytes e.0) ≡ false) es

not_tied : (k l : String Global) → bytes_eq (string_bytes k) (string_bytes l) ≡ false → string_cmp k l ≡ Equal → ⊥
not_tied k l apart tied = let t : bytes_eq (string_bytes k) (string_bytes l) ≡ true = sym (is_eq-slice_cmp (string_bytes k) (string_bytes l)) ∙ ap is_eq tied in cc

swapped : (a b : Bool) (n : ℕ) → cond a (suc (cond b (suc n) n)) (cond b (suc n) n) ≡ cond b (suc (cond a (suc n) n)) (cond a (suc n) n)
swapped true true n = refl
swapped true false n = refl
swapped false true n = refl
swapped false false n = refl

inserted : (k : String Global) (i p : ℕ) (es : List Entry) → IsApart k es → times p (entry_places (insert_entry string_cmp es k i)) ≡ times p (i ∷ entry_places es)
inserted k i p [] h = refl
inserted k i p (e ∷ es) h = by (inserted k i p es h.1) (string_cmp k e.0) refl where
  by : times p (entry_places (insert_entry string_cmp es k i)) ≡ times p (i ∷ entry_places es) → (o : Ordering) → string_cmp k e.0 ≡ o → times p (entry_places (match_ordering o ((k, i) ∷ e ∷ es) ((e.0, i) ∷ es) (e ∷ insert_entry string_cmp es k i))) ≡ times p (i ∷ entry_places (e ∷ es))
  by later Less is = refl
  by later Equal is = absurd (not_tied k e.0 h.0 is)
  by later Greater is = ap (λ (n : ℕ). cond (e.1 == p) (suc n) n) later ∙ swapped (e.1 == p) (i == p) (times p (entry_places es))

one_longer : (k : String Global) (i : ℕ) (es : List Entry) → IsApart k es → length (insert_entry string_cmp es k i) ≡ suc (length es)
one_longer k i [] h = refl
one_longer k i (e ∷ es) h = by (one_longer k i es h.1) (string_cmp k e.0) refl where
  by : length (insert_entry string_cmp es k i) ≡ suc (length es) → (o : Ordering) → string_cmp k e.0 ≡ o → length (match_ordering o ((k, i) ∷ e ∷ es) ((e.0, i) ∷ es) (e ∷ insert_entry string_cmp es k i)) ≡ suc (length (e ∷ es))
  by later Less is = refl
  by later Equal is = absurd (not_tied k e.0 h.0 is)
  by later Greater is = ap suc later

new_at : (ns : List (List ℕ)) (o : Ordering) (a b c : List Entry) → AreNew ns a → AreNew ns b → AreNew ns c → AreNew ns (match_ordering o a b c)
new_at ns Less a b c p q r = p
new_at ns Equal a b c p q r = q
new_at ns Greater a b c p q r = r

new_more : (ns : List (List ℕ)) (k : String Global) (i : ℕ) (es : List Entry) → is_among ns (string_bytes k) ≡ false → AreNew ns es → AreNew ns (insert_entry string_cmp es k i)
new_more ns k i [] own h = (own, tt)
new_more ns k i (e ∷ es) own h = new_at ns (string_cmp k e.0) _ _ _ (own, h) (h.0, h.1) (h.0, new_more ns k i es own h.1)

-- ---- a name after the other

-- the fields so far, those with these names being left
pub record PlacesSoFar (ns : List (List ℕ)) (i : ℕ) (es : List Entry) : Type 0 where
  pub many : length es ≡ i
  pub early : (p : ℕ) → p < i → times p (entry_places es) ≡ 1
  pub late : (p : ℕ) → i ≤ p → times p (entry_places es) ≡ 0
  pub new : AreNew ns es

pub no_places : (ns : List (List ℕ)) → PlacesSoFar ns 0 []
no_places ns = record { many = refl; early = λ p lt. absurd (omega (arith, lt)); late = λ p le. refl; new = tt }

one_more : (b : Bool) (i p t : ℕ) → (i == p) ≡ b → (p < i → t ≡ 1) → (i ≤ p → t ≡ 0) → p < suc i → cond b (suc t) t ≡ 1
one_more true i p t is early late lt = let e : i ≡ p = grind (arith, nat_tests) in ap suc (late (omega (arith, e)))
one_more false i p t is early late lt = let e : i ≢ p = grind (arith, nat_tests) in early (grind arith)

none_more : (b : Bool) (i p t : ℕ) → (i == p) ≡ b → (i ≤ p → t ≡ 0) → suc i ≤ p → cond b (suc t) t ≡ 0
none_more true i p t is late le = let e : i ≡ p = grind (arith, nat_tests) in absurd (omega (arith, e, le))
none_more false i p t is late le = late (omega (arith, le))

apart_from : (n : List ℕ) (ns : List (List ℕ)) (k : String Global) (es : List Entry) → string_bytes k ≡ n → AreNew (n ∷ ns) es → IsApart k es
apart_from n ns k [] is h = tt
apart_from n ns k (e ∷ es) is h = (ap (λ (x : List ℕ). bytes_eq x (string_bytes e.0)) is ∙ (or_parts (bytes_eq n (string_bytes e.0)) (is_among ns (string_bytes e.0)) h.0).0, apart_from n ns k es is h.1)

new_later : (n : List ℕ) (ns : List (List ℕ)) (es : List Entry) → AreNew (n ∷ ns) es → AreNew ns es
new_later n ns [] h = tt
new_later n ns (e ∷ es) h = ((or_parts (bytes_eq n (string_bytes e.0)) (is_among ns (string_bytes e.0)) h.0).1, new_later n ns es h.1)

places_more : (n : List ℕ) (ns : List (List ℕ)) (i : ℕ) (es : List Entry) (k : String Global) → string_bytes k ≡ n → is_among ns n ≡ false → PlacesSoFar (n ∷ ns) i es → PlacesSoFar ns (suc i) (insert_entry string_cmp es k i)
places_more n ns i es k is own s =
    let apart = apart_from n ns k es is s.new in
    record {
      many = one_longer k i es apart ∙ ap suc s.many;
      early = λ p lt. inserted k i p es apart ∙ one_more (i == p) i p (times p (entry_places es)) refl (s.early p) (s.late p) lt;
      late = λ p le. inserted k i p es apart ∙ none_more (i == p) i p (times p (entry_places es)) refl (s.late p) le;
      new = new_more ns k i es (ap (is_among ns) is ∙ own) (new_later n ns es s.new);
    }

differ_at : (fs : List (List ℕ × Shape)) (i : ℕ) → i < length fs → all_differ (names_of (fields_of fs)) ≡ true → is_among (names_of (fields_of (drop (suc i) fs))) (get_or fs i no_name).0 ≡ false
differ_at [] i lt h = absurd (omega (arith, lt))
differ_at (f ∷ fs) zero lt h = not-true (is_among (names_of (fields_of fs)) f.0) (and_parts (not (is_among (names_of (fields_of fs)) f.0)) (all_differ (names_of (fields_of fs))) h).0
differ_at (f ∷ fs) (suc i) lt h = differ_at fs i (omega (arith, lt)) (and_parts (not (is_among (names_of (fields_of fs)) f.0)) (all_differ (names_of (fields_of fs))) h).1

-- the place of a field more
pub field_placed : (fs : List (List ℕ × Shape)) (i : ℕ) (es : List Entry) (k : String Global) → i < length fs → string_bytes k ≡ (get_or fs i no_name).0 → all_differ (names_of (fields_of fs)) ≡ true
    → PlacesSoFar (names_of (fields_of (drop i fs))) i es → PlacesSoFar (names_of (fields_of (drop (suc i) fs))) (suc i) (insert_entry string_cmp es k i)
field_placed fs i es k lt is differ s =
    let left : drop i fs ≡ get_or fs i no_name ∷ drop (suc i) fs = drop-cons fs i no_name lt in
    places_more (get_or fs i no_name).0 (names_of (fields_of (drop (suc i) fs))) i es k is (differ_at fs i lt differ)
    (subst (λ (t : List (List ℕ × Shape)). PlacesSoFar (names_of (fields_of t)) i es) left s)

within_places : (n : ℕ) (es : List Entry) → AreWithin n es → AllByRecursion (λ (p : ℕ). p < n) (entry_places es)
within_places n [] h = tt
within_places n (e ∷ es) h = (h.0, within_places n es h.1)

many-entries : (es : List Entry) → length (entry_places es) ≡ length es
many-entries [] = refl
many-entries (e ∷ es) = ap suc (many-entries es)

-- those of all fields
pub all_placed : (ns : List (List ℕ)) (n : ℕ) (es : List Entry) → AreWithin n es → PlacesSoFar ns n es → AreAllPlaces n (entry_places es)
all_placed ns n es within s = record { many = many-entries es ∙ s.many; within = within_places n es within; once = s.early }

-- ---- each place is there once

pub within_at : (n : ℕ) (ps : List ℕ) (i : ℕ) → i < length ps → AllByRecursion (λ (p : ℕ). p < n) ps → get_or ps i 0 < n
within_at n [] i lt h = absurd (omega (arith, lt))
within_at n (p ∷ ps) zero lt h = h.0
within_at n (p ∷ ps) (suc i) lt h = within_at n ps i (omega (arith, lt)) h.1

same_place : (p : ℕ) → (p == p) ≡ true
same_place p = grind (arith, nat_tests)

counted : (b : Bool) (t : ℕ) → t ≤ cond b (suc t) t
counted true t = omega arith
counted false t = omega arith

there : (ps : List ℕ) (i p : ℕ) → i < length ps → get_or ps i 0 ≡ p → 0 < times p ps
there [] i p lt is = absurd (omega (arith, lt))
there (q ∷ ps) zero p lt is = let e : (q == p) ≡ true = ap (λ (x : ℕ). x == p) is ∙ same_place p in rw e (omega arith)
there (q ∷ ps) (suc i) p lt is = let more = there ps i p (omega (arith, lt)) is in omega (arith, more, counted (q == p) (times p ps))

-- a place that is there twice is counted twice
twice : (ps : List ℕ) (j i p : ℕ) → j < i → i < length ps → get_or ps j 0 ≡ p → get_or ps i 0 ≡ p → 1 < times p ps
twice [] j i p less lt first second = absurd (omega (arith, lt))
twice (q ∷ ps) j zero p less lt first second = absurd (omega (arith, less))
twice (q ∷ ps) zero (suc i) p less lt first second = let e : (q == p) ≡ true = ap (λ (x : ℕ). x == p) first ∙ same_place p in let more = there ps i p (omega (arith, lt)) second in rw e (omega (arith, more))
twice (q ∷ ps) (suc j) (suc i) p less lt first second = let more = twice ps j i p (omega (arith, less)) (omega (arith, lt)) first second in omega (arith, more, counted (q == p) (times p ps))

-- no two are one
pub apart_places : (n : ℕ) (ps : List ℕ) (j i : ℕ) → AreAllPlaces n ps → j < i → i < length ps → get_or ps j 0 ≢ get_or ps i 0
apart_places n ps j i all less lt = λ same.
    let once = all.once (get_or ps i 0) (within_at n ps i lt all.within) in
    let two = twice ps j i (get_or ps i 0) less lt same refl in
    omega (arith, once, two)

-- a place that is counted is there
pub found : (ps : List ℕ) (p : ℕ) → 0 < times p ps → (i : ℕ) × (i < length ps) × (get_or ps i 0 ≡ p)
found [] p h = absurd (omega (arith, h))
found (q ∷ ps) p h = by (found ps p) (q == p) refl where
  by : (0 < times p ps → (i : ℕ) × (i < length ps) × (get_or ps i 0 ≡ p)) → (b : Bool) → (q == p) ≡ b → (i : ℕ) × (i < length (q ∷ ps)) × (get_or (q ∷ ps) i 0 ≡ p)
  by behind true is = (0, omega arith, grind (arith, nat_tests))
  by behind false is =
      let less : 0 < times p ps = subst (λ (b : Bool). 0 < cond b (suc (times p ps)) (times p ps)) is h in
      let later = behind less in
      (suc later.0, omega (arith, later.1), later.2)
