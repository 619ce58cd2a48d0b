-- The streams of all columns, found in one pass over the directory.
use Rattle.std.proofs.Common.{◌≡◌, ℕ, zero, suc, ◌+◌, ◌*◌, ◌-◌, ◌<◌, List, [], ◌∷◌, length, map, get_or, set, take, drop, replicate, true, false, ◌∙◌, sym, ap, refl, subst, arith, inl, inr, not, ◌==◌, nat_le, length-set}
use Rattle.std.proofs.lemmas.Bool.{and_parts, cases_Bool, both_ways, eqb-true, not-true, eq-eqb, and_from, or_parts}
use Rattle.std.proofs.lemmas.List.{get_or-set_same, get_or-set_other, map-set, length-map, length-replicate, length-drop}
use Rattle.orc_wire.specs.declared.stripe_footer.StreamMsg.{StreamMsg}
use Rattle.orc_directory.specs.declared.located.Slice.{Slice}
use Rattle.orc_directory.specs.Directory.{slice, has_stream, is_stream_of, have_room, names_once}
use Rattle.orc_directory.specs.Located.{slice_bytes, stream_at, AreLocated, LocatesNext}

-- a stream that is named nowhere is empty
none_named : (column kind : ℕ) (streams : List StreamMsg) (bytes : List ℕ) → has_stream column kind streams ≡ false → slice column kind streams bytes ≡ []
none_named column kind [] bytes h = refl
none_named column kind (s ∷ ss) bytes h =
    let p = or_parts (is_stream_of column kind s) (has_stream column kind ss) h in
    rw p.0 (none_named column kind ss (drop s.length bytes) p.1)

-- the streams that are still to come have room and are named once; a stream is found among them, or it was found
pub record Searches (columns : ℕ) (streams left : List StreamMsg) (bytes rest : List ℕ) (slices : List Slice) : Type 0 where
  pub room : have_room (length rest) left ≡ true
  pub once : names_once left ≡ true
  pub len : length slices ≡ 4 * columns
  pub coming : (column kind : ℕ) → column < columns → kind < 4 → has_stream column kind left ≡ true → slice column kind left rest ≡ slice column kind streams bytes
  pub found : (column kind : ℕ) → column < columns → kind < 4 → has_stream column kind left ≡ false → stream_at slices column kind ≡ slice column kind streams bytes

-- at first none is found
none_at : (n : ℕ) (none : Slice) (i : ℕ) → slice_bytes none ≡ [] → get_or (map slice_bytes (replicate n none)) i [] ≡ []
none_at zero none i h = refl
none_at (suc n) none zero h = h
none_at (suc n) none (suc i) h = none_at n none i h

pub search_starts : (columns : ℕ) (streams : List StreamMsg) (bytes : List ℕ) (none : Slice) (slices : List Slice) → have_room (length bytes) streams ≡ true
    → names_once streams ≡ true → slice_bytes none ≡ [] → slices ≡ replicate (4 * columns) none → Searches columns streams streams bytes bytes slices
search_starts columns streams bytes none slices room once empty h = record {
  room = room;
  once = once;
  len = ap length h ∙ length-replicate (4 * columns) none;
  coming = λ column kind lt few there. refl;
  found = λ column kind lt few not_there.
      ap (λ t. stream_at t column kind) h ∙ (none_at (4 * columns) none (4 * column + kind) empty ∙ sym (none_named column kind streams bytes not_there));
}

is_same : (column kind : ℕ) (s : StreamMsg) → is_stream_of column kind s ≡ true → (s.column ≡ column) × (s.kind ≡ kind)
is_same column kind s h =
    let p = and_parts (s.column == column) (s.kind == kind) h in
    (eqb-true s.column column p.0, eqb-true s.kind kind p.1)

same_is : (column kind : ℕ) (s : StreamMsg) → s.column ≡ column → s.kind ≡ kind → is_stream_of column kind s ≡ true
same_is column kind s c k = and_from (s.column == column) (s.kind == kind) (eq-eqb s.column column c) (eq-eqb s.kind kind k)

pub finds_one : (columns : ℕ) (s : StreamMsg) (front : List ℕ) (old new : List Slice) (one : Slice) → length old ≡ 4 * columns → s.kind < 4 → s.column < columns
    → slice_bytes one ≡ front → new ≡ set old (4 * s.column + s.kind) one → LocatesNext columns s front old new
finds_one columns s front old new one len few there is h =
    let at = 4 * s.column + s.kind in
    let maps : map slice_bytes new ≡ set (map slice_bytes old) at (slice_bytes one) = ap (map slice_bytes) h ∙ map-set slice_bytes old at one in
    record {
      len = ap length h ∙ length-set old at one;
      this = λ column kind lt small same.
          let p = is_same column kind s same in
          let place : 4 * column + kind ≡ at = omega (arith, p.0, p.1) in
          let inside : at < length (map slice_bytes old) = omega (arith, length-map old slice_bytes, len, few, there) in
          ap (λ t. get_or t (4 * column + kind) []) maps ∙ (ap (λ i. get_or (set (map slice_bytes old) at (slice_bytes one)) i []) place ∙ (get_or-set_same (map slice_bytes old) at (slice_bytes one) [] inside ∙ is));
      others = λ column kind lt small other.
          let apart : 4 * column + kind ≡ at → ⊥ = λ e.
          both_ways (is_stream_of column kind s) other (same_is column kind s (omega (arith, e, few, small)) (omega (arith, e, few, small))) in
          ap (λ t. get_or t (4 * column + kind) []) maps ∙ get_or-set_other (map slice_bytes old) at (4 * column + kind) (slice_bytes one) [] apart;
    }

pub finds_none : (columns : ℕ) (s : StreamMsg) (front : List ℕ) (slices : List Slice) → (s.kind < 4 → s.column < columns → ⊥) → LocatesNext columns s front slices slices
finds_none columns s front slices outside = record {
  len = refl;
  this = λ column kind lt small same. let p = is_same column kind s same in absurd (outside (omega (arith, p.1, small)) (omega (arith, p.0, lt)));
  others = λ column kind lt small other. refl;
}

-- the next stream is found
pub search_goes_on : (columns : ℕ) (streams : List StreamMsg) (s : StreamMsg) (left : List StreamMsg) (bytes rest : List ℕ) (old new : List Slice)
    → Searches columns streams (s ∷ left) bytes rest old → LocatesNext columns s (take s.length rest) old new → Searches columns streams left bytes (drop s.length rest) new
search_goes_on columns streams s left bytes rest old new h f =
    let fits = and_parts (nat_le s.length (length rest)) (have_room (length rest - s.length) left) h.room in
    let once = and_parts (not (has_stream s.column s.kind left)) (names_once left) h.once in
    let none_again : (column kind : ℕ) → is_stream_of column kind s ≡ true → has_stream column kind left ≡ false = λ column kind same.
    let p = is_same column kind s same in
    subst (λ k. has_stream column k left ≡ false) p.1 (subst (λ c. has_stream c s.kind left ≡ false) p.0 (not-true (has_stream s.column s.kind left) once.0)) in
    record {
      room = ap (λ n. have_room n left) (length-drop s.length rest) ∙ fits.1;
      once = once.1;
      len = f.len ∙ h.len;
      coming = λ column kind lt few there.
          elim (cases_Bool (is_stream_of column kind s)) [
            | inl same ↦ absurd (both_ways (has_stream column kind left) (none_again column kind same) there)
            | inr other ↦ let k = h.coming column kind lt few (rw other there) in rw other at k
          ];
      found = λ column kind lt few none.
          elim (cases_Bool (is_stream_of column kind s)) [
            | inl same ↦ let k = h.coming column kind lt few (rw same refl) in f.this column kind lt few same ∙ (rw same at k)
            | inr other ↦ f.others column kind lt few other ∙ h.found column kind lt few (rw other none)
          ];
    }

-- at the end all are found
pub search_ends : (columns : ℕ) (streams : List StreamMsg) (bytes rest : List ℕ) (slices : List Slice) → Searches columns streams [] bytes rest slices
    → AreLocated columns streams bytes slices
search_ends columns streams bytes rest slices h = record { len = h.len; are = λ column kind lt few. h.found column kind lt few refl }
