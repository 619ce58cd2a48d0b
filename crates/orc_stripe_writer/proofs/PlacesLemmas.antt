-- Where entries stand, as far as they were looked at.
use Rattle.std.proofs.Common.{◌≡◌, ℕ, zero, suc, ◌<◌, ◌≤◌, ◌+◌, nat_eq, map, Bool, true, false, cond, ◌||◌, Option, Some, List, length, take, get_or, slice_get, IfSome, ℤ, pos, [], ◌∷◌, ◌++◌, refl, sym, ap, ◌∙◌, subst, arith}
use Rattle.std.specs.List.{list_any, Contains}
use Rattle.std.specs.Cmp.Lexicographic.{pointwise, same_text}
use Rattle.std.proofs.lemmas.Cmp.{nat_list_eq_equiv}
use Rattle.std.proofs.lemmas.List.{length-map, get_or-map, map_more, map_push, take_all}
use Rattle.std.proofs.lemmas.List.Folds.{list_any_more, list_any_at}
use Rattle.orc_rle.specs.declared.sign.Sign.{Sign}
use Rattle.orc_rle.specs.Values.{InRange, AllInRange}
use Rattle.orc_stripe_writer.specs.declared.byte_string.ByteString.{ByteString}
use Rattle.std.specs.Option.{is_some}
use Rattle.orc_stripe_writer.specs.Dictionary.{byte_strings, dictionary_entry, AreNamed}
use Rattle.orc_stripe_writer.specs.EntryIndexes.{same_bytes, AreEntryPlaces}
use Rattle.orc_stripe_writer.proofs.DictionaryLemmas.{from_map}
use Rattle.std.proofs.lemmas.Bool.{false≢true}

pub record ArePlacesOf (told : ByteString → Option ℕ) (entries : List (ByteString)) (i : ℕ) : Type 0 where
  pub known : (text : ByteString) → list_any (same_bytes text) (take i entries) ≡ true → is_some (told text) ≡ true
  pub named : (text : ByteString) → IfSome (told text) (λ place. slice_get (byte_strings entries) place ≡ Some text.0.now)

pub string_there : (strings : List ByteString) (i : ℕ) (d : ByteString) → i < length strings → Contains (byte_strings strings) (get_or strings i d).0.now
string_there strings i d lt = (i, omega (arith, lt, length-map strings (λ (p : ByteString). p.0.now)), get_or-map (λ (p : ByteString). p.0.now) strings i d _ lt)

-- one place more is told
pub named_more : (entries : List (List ℕ)) (places : List ℤ) (strings : List ByteString) (i : ℕ) (d : ByteString) (p : ℕ) → i < length strings → AreNamed entries places (byte_strings (take i strings))
    → slice_get entries p ≡ Some (get_or strings i d).0.now → AreNamed entries (places ++ pos p ∷ []) (byte_strings (take (i + 1) strings))
named_more entries places strings i d p lt are is =
    let text = (get_or strings i d).0.now in
    let front = byte_strings (take i strings) in
    let more : byte_strings (take (i + 1) strings) ≡ front ++ text ∷ [] = map_more (λ (s : ByteString). s.0.now) strings i d lt in
    map_push (dictionary_entry entries) places (pos p) ∙ (λ j. are j ++ is j ∷ []) ∙ sym (map_push (λ (t : List ℕ). Some t) front text) ∙ ap (λ (ts : List (List ℕ)). map (λ (t : List ℕ). Some t) ts) (sym more)

place_at : (entries : List (ByteString)) (i : ℕ) (d : ByteString) → i < length entries → slice_get (byte_strings entries) i ≡ Some (get_or entries i d).0.now
place_at [] i d lt = absurd (omega (arith, lt))
place_at (x ∷ xs) zero d lt = refl
place_at (x ∷ xs) (suc i) d lt = place_at xs i d (omega (arith, lt))

known_by : (s l : Bool) (i : ℕ) (o : Option ℕ) → (l ≡ true → is_some o ≡ true) → (l || s) ≡ true → is_some (cond s (Some i) o) ≡ true
known_by true l i o f h = refl
known_by false true i o f h = f refl
known_by false false i o f h = absurd (false≢true h)

-- one entry more is told
pub places_more : (told new : ByteString → Option ℕ) (entries : List (ByteString)) (i : ℕ) (key : ByteString) → i < length entries → key ≡ get_or entries i key → ArePlacesOf told entries i
    → ((q : ByteString) → new q ≡ cond (same_bytes key q) (Some i) (told q)) → ArePlacesOf new entries (i + 1)
places_more told new entries i key lt is found put = record {
  known = λ q h.
      let here : (list_any (same_bytes q) (take i entries) || same_bytes key q) ≡ true =
      ap (λ b. list_any (same_bytes q) (take i entries) || b) (nat_list_eq_equiv.symm key.0.now q.0.now ∙ ap (λ (k : ByteString). same_bytes q k) is) ∙ sym (list_any_more (same_bytes q) entries i key lt) ∙ h in
      ap is_some (put q) ∙ known_by (same_bytes key q) (list_any (same_bytes q) (take i entries)) i (told q) (found.known q) here;
  named = λ q. subst (λ (o : Option ℕ). IfSome o (λ place. slice_get (byte_strings entries) place ≡ Some q.0.now)) (sym (put q)) (by_cases q (same_bytes key q) refl);
}
  where
    by_cases : (q : ByteString) (s : Bool) → same_bytes key q ≡ s → IfSome (cond s (Some i) (told q)) (λ place. slice_get (byte_strings entries) place ≡ Some q.0.now)
    by_cases q true e = place_at entries i key lt ∙ ap (λ (k : ByteString). Some k.0.now) (sym is) ∙ ap (λ (t : List ℕ). Some t) (same_text key.0.now q.0.now (sym e))
    by_cases q false e = found.named q

-- all entries are told
pub all_places : (told : ByteString → Option ℕ) (entries : List (ByteString)) (i : ℕ) → length entries ≤ i → ArePlacesOf told entries i → AreEntryPlaces told (byte_strings entries)
all_places told entries i le found = record {
  known = λ text c.
      let a = from_map (λ (t : ByteString). t.0.now) entries text.0.now c in
      let same : same_bytes text (get_or entries a.there.0 a.of) ≡ true = ap (λ (k : ByteString). same_bytes text k) a.there.2 ∙ ap (λ (t : List ℕ). pointwise nat_eq text.0.now t) a.is ∙ nat_list_eq_equiv.refl text.0.now in
      found.known text (ap (λ (es : List (ByteString)). list_any (same_bytes text) es) (take_all i entries le) ∙ list_any_at (same_bytes text) entries a.there.0 a.of a.there.1 same);
  named = found.named;
}

pub in_range_more : (sign : Sign) (xs : List ℤ) (n : ℤ) → AllInRange sign xs → InRange sign n → AllInRange sign (xs ++ n ∷ [])
in_range_more sign [] n all h = (h, tt)
in_range_more sign (x ∷ xs) n all h = (all.0, in_range_more sign xs n all.1 h)
