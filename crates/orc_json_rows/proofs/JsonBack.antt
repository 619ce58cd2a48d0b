-- A row that fits reads back from its JSON.
use Rattle.std.proofs.Common.{◌≡◌, List, [], ◌∷◌, Bool, true, false, not, Some, bytes_eq, inl, inr, refl, sym, ap, ◌∙◌, subst, Ordering, Less, Equal, Greater, ℕ, ℤ}
use Rattle.std.proofs.lemmas.Bool.{and_parts, or_right, or_parts, not-true}
use Rattle.std.specs.Ordering.{is_lt, nat_cmp, match_ordering, ordering_reverse}
use Rattle.std.specs.Cmp.Lexicographic.{slice_cmp}
use Rattle.std.proofs.lemmas.Cmp.{nat_list_cmp_total}
use Rattle.std.proofs.lemmas.Slice.Eq.{bytes_eq-Decides}
use Rattle.serde_json.specs.Data.{Data, object, Members, no_members, member, put}
use Rattle.serde_json.specs.Find.{get_member}
use Rattle.serde_json.proofs.Views.{get_member-put, get_member-put_other}
use Rattle.orc_values.specs.Shapes.{Shape, scalar, list_of, map_of, struct_of, Fields, no_field, field, names_of}
use Rattle.orc_values.specs.Cells.{Atom, bool, int, date, text, bytes, Cell, null, leaf, list, struct, pairs, Cells, end, more, Pairs, no_pair, pair}
use Rattle.orc_values.specs.Fits.{fits, all_fit, each_fits, pairs_fit}
use Rattle.orc_json_rows.specs.FieldNames.{is_among, all_differ, is_distinct, are_distinct, all_known}
use Rattle.orc_json_rows.specs.Days.{has_text}
use Rattle.orc_json_rows.specs.JsonLeaves.{atom_json, date_json}
use Rattle.orc_json_rows.specs.JsonRows.{JsonSpells, PairsSpell, EachSpells, FieldsSpell}
use Rattle.orc_json_rows.specs.JsonPrinting.{json_of, each_json, pairs_json, members_json, KeysAscendFrom, AreInOrder}
use Rattle.orc_json_rows.proofs.JsonLeaves.{leaf_back}

-- ---- names

pub same_bytes : (n : List ℕ) → bytes_eq n n ≡ true
same_bytes n = (bytes_eq-Decides n n).1 refl

other_bytes : (m n : List ℕ) → bytes_eq m n ≡ false → n ≡ m → ⊥
other_bytes m n h e = let t : bytes_eq m n ≡ true = (bytes_eq-Decides m n).1 (sym e) in cc

abbrev pub AllAmong : List (List ℕ) → List (List ℕ) → Type 0
AllAmong ns [] = Unit {0}
AllAmong ns (m ∷ ms) = (is_among ns m ≡ true) × AllAmong ns ms

among_more : (ns ms : List (List ℕ)) (n : List ℕ) → AllAmong ns ms → AllAmong (n ∷ ns) ms
among_more ns [] n h = tt
among_more ns (m ∷ ms) n h = (or_right (bytes_eq n m) (is_among ns m) h.0, among_more ns ms n h.1)

all_among : (ns : List (List ℕ)) → AllAmong ns ns
all_among [] = tt
all_among (n ∷ ns) = (rw (same_bytes n) refl, among_more ns ns n (all_among ns))

-- ---- keys of what is printed

put_known_at : (o : Ordering) (ns : List (List ℕ)) (k l : List ℕ) (d e : Data) (ms : Members) → is_among ns k ≡ true → is_among ns l ≡ true → all_known ns ms ≡ true → all_known ns (put k d ms) ≡ true
    → all_known ns (match_ordering o (member k d (member l e ms)) (member l d ms) (member l e (put k d ms))) ≡ true
put_known_at Less ns k l d e ms a b h r = rw (a, b, h) refl
put_known_at Equal ns k l d e ms a b h r = rw (b, h) refl
put_known_at Greater ns k l d e ms a b h r = rw (b, r) refl

pub put_known : (ns : List (List ℕ)) (k : List ℕ) (d : Data) (ms : Members) → is_among ns k ≡ true → all_known ns ms ≡ true → all_known ns (put k d ms) ≡ true
put_known ns k d no_members a h = rw a refl
put_known ns k d (member l e ms) a h =
    let p = and_parts (is_among ns l) (all_known ns ms) h in
    put_known_at (slice_cmp nat_cmp k l) ns k l d e ms a p.0 p.1 (put_known ns k d ms a p.1)

members_known : (ns : List (List ℕ)) (fs : Fields) (cs : Cells) (ms : Members) → AllAmong ns (names_of fs) → all_known ns ms ≡ true → all_known ns (members_json fs cs ms) ≡ true
members_known ns no_field cs ms a h = h
members_known ns (field name s fs) end ms a h = h
members_known ns (field name s fs) (more c cs) ms a h = members_known ns fs cs (put name (json_of s c) ms) a.1 (put_known ns name (json_of s c) ms a.0 h)

-- a key that no later field has keeps its value
later_keeps : (name : List ℕ) (fs : Fields) (cs : Cells) (ms : Members) → is_among (names_of fs) name ≡ false → get_member name (members_json fs cs ms) ≡ get_member name ms
later_keeps name no_field cs ms h = refl
later_keeps name (field n s fs) end ms h = refl
later_keeps name (field n s fs) (more c cs) ms h =
    let p = or_parts (bytes_eq n name) (is_among (names_of fs) name) h in
    later_keeps name fs cs (put n (json_of s c) ms) p.1 ∙ get_member-put_other name n (json_of s c) ms (other_bytes n name p.0)

-- ---- keys in order

-- l comes before k where k comes after l
turned : (k l : List ℕ) → slice_cmp nat_cmp k l ≡ Greater → is_lt (slice_cmp nat_cmp l k) ≡ true
turned k l h = ap is_lt (nat_list_cmp_total.antisymm l k ∙ ap ordering_reverse h)

below_put_at : (o : Ordering) (l k m : List ℕ) (d e : Data) (ms : Members) → is_lt (slice_cmp nat_cmp l k) ≡ true → is_lt (slice_cmp nat_cmp l m) ≡ true
    → KeysAscendFrom l (match_ordering o (member k d (member m e ms)) (member m d ms) (member m e (put k d ms)))
below_put_at Less l k m d e ms h g = h
below_put_at Equal l k m d e ms h g = g
below_put_at Greater l k m d e ms h g = g

below_put : (l k : List ℕ) (d : Data) (ms : Members) → is_lt (slice_cmp nat_cmp l k) ≡ true → KeysAscendFrom l ms → KeysAscendFrom l (put k d ms)
below_put l k d no_members h g = h
below_put l k d (member m e ms) h g = below_put_at (slice_cmp nat_cmp k m) l k m d e ms h g

put_ordered_at : (o : Ordering) (k l : List ℕ) (d e : Data) (ms : Members) → slice_cmp nat_cmp k l ≡ o → KeysAscendFrom l ms → AreInOrder ms → AreInOrder (put k d ms)
    → AreInOrder (match_ordering o (member k d (member l e ms)) (member l d ms) (member l e (put k d ms)))
put_ordered_at Less k l d e ms is h g r = (ap is_lt is, (h, g))
put_ordered_at Equal k l d e ms is h g r = (h, g)
put_ordered_at Greater k l d e ms is h g r = (below_put l k d ms (turned k l is) h, r)

put_ordered : (k : List ℕ) (d : Data) (ms : Members) → AreInOrder ms → AreInOrder (put k d ms)
put_ordered k d no_members h = (tt, tt)
put_ordered k d (member l e ms) h = put_ordered_at (slice_cmp nat_cmp k l) k l d e ms refl h.0 h.1 (put_ordered k d ms h.1)

in_order : (fs : Fields) (cs : Cells) (ms : Members) → AreInOrder ms → AreInOrder (members_json fs cs ms)
in_order no_field cs ms h = h
in_order (field name s fs) end ms h = h
in_order (field name s fs) (more c cs) ms h = in_order fs cs (put name (json_of s c) ms) (put_ordered name (json_of s c) ms h)

no_object_date : (n : ℤ) (b : Bool) (ms : Members) → has_text n ≡ b → date_json n ≡ object ms → ⊥
no_object_date n true ms e h = let q = rw e at h in cc
no_object_date n false ms e h = let q = rw e at h in cc

no_object : (a : Atom) (ms : Members) → atom_json a ≡ object ms → ⊥
no_object (bool b) ms h = cc
no_object (int z) ms h = cc
no_object (date n) ms h = no_object_date n (has_text n) ms refl h
no_object (text s) ms h = cc
no_object (bytes bs) ms h = cc

pub object_in_order : (s : Shape) (c : Cell) (ms : Members) → json_of s c ≡ object ms → AreInOrder ms
object_in_order (scalar k o) (leaf a) ms h = absurd (no_object a ms h)
object_in_order (struct_of fs o) (struct cs) ms h =
    let same : members_json fs cs no_members ≡ ms = cc in subst AreInOrder same (in_order fs cs no_members tt)
object_in_order (scalar k o) null ms h = let none : ⊥ = cc in absurd none
object_in_order (scalar k o) (list cs) ms h = let none : ⊥ = cc in absurd none
object_in_order (scalar k o) (struct cs) ms h = let none : ⊥ = cc in absurd none
object_in_order (scalar k o) (pairs ps) ms h = let none : ⊥ = cc in absurd none
object_in_order (list_of s o) null ms h = let none : ⊥ = cc in absurd none
object_in_order (list_of s o) (leaf a) ms h = let none : ⊥ = cc in absurd none
object_in_order (list_of s o) (list cs) ms h = let none : ⊥ = cc in absurd none
object_in_order (list_of s o) (struct cs) ms h = let none : ⊥ = cc in absurd none
object_in_order (list_of s o) (pairs ps) ms h = let none : ⊥ = cc in absurd none
object_in_order (map_of s t o) null ms h = let none : ⊥ = cc in absurd none
object_in_order (map_of s t o) (leaf a) ms h = let none : ⊥ = cc in absurd none
object_in_order (map_of s t o) (list cs) ms h = let none : ⊥ = cc in absurd none
object_in_order (map_of s t o) (struct cs) ms h = let none : ⊥ = cc in absurd none
object_in_order (map_of s t o) (pairs ps) ms h = let none : ⊥ = cc in absurd none
object_in_order (struct_of fs o) null ms h = let none : ⊥ = cc in absurd none
object_in_order (struct_of fs o) (leaf a) ms h = let none : ⊥ = cc in absurd none
object_in_order (struct_of fs o) (list cs) ms h = let none : ⊥ = cc in absurd none
object_in_order (struct_of fs o) (pairs ps) ms h = let none : ⊥ = cc in absurd none

-- ---- what fits reads back

each_back : (Is : Data → Cell → Type 0) (g : Cell → Data) (s : Shape) → ((c : Cell) → fits c s ≡ true → Is (g c) c) → (cs : Cells) → all_fit cs s ≡ true → EachSpells Is (each_json g cs) cs
each_back Is g s r end h = tt
each_back Is g s r (more c cs) h =
    let q = and_parts (fits c s) (all_fit cs s) h in
    (r c q.0, each_back Is g s r cs q.1)

pairs_back : (K V : Data → Cell → Type 0) (f g : Cell → Data) (s t : Shape) → ((c : Cell) → fits c s ≡ true → K (f c) c) → ((c : Cell) → fits c t ≡ true → V (g c) c) → (ps : Pairs) → pairs_fit ps s t ≡ true
    → PairsSpell K V (pairs_json f g ps) ps
pairs_back K V f g s t a b no_pair h = tt
pairs_back K V f g s t a b (pair k v ps) h =
    let q = and_parts (fits k s) _ h in
    let r = and_parts (fits v t) (pairs_fit ps s t) q.1 in
    ((f k, g v, refl, a k q.0, b v r.0), pairs_back K V f g s t a b ps r.1)

mutual
  pub reads_back : (s : Shape) (c : Cell) → is_distinct s ≡ true → fits c s ≡ true → JsonSpells s (json_of s c) c
  reads_back (scalar k o) null u h = refl
  reads_back (scalar k o) (leaf a) u h = leaf_back k a h
  reads_back (scalar k o) (list cs) u h = cc
  reads_back (scalar k o) (struct cs) u h = cc
  reads_back (scalar k o) (pairs ps) u h = cc
  reads_back (list_of s o) null u h = inl (refl, refl)
  reads_back (list_of s o) (leaf a) u h = cc
  reads_back (list_of s o) (list cs) u h = inr (each_json (λ x. json_of s x) cs, cs, refl, refl, each_back (λ e x. JsonSpells s e x) (λ x. json_of s x) s (λ c q. reads_back s c u q) cs h)
  reads_back (list_of s o) (struct cs) u h = cc
  reads_back (list_of s o) (pairs ps) u h = cc
  reads_back (map_of s t o) null u h = inl (refl, refl)
  reads_back (map_of s t o) (leaf a) u h = cc
  reads_back (map_of s t o) (list cs) u h = cc
  reads_back (map_of s t o) (struct cs) u h = cc
  reads_back (map_of s t o) (pairs ps) u h =
      let w = and_parts (is_distinct s) (is_distinct t) u in
      inr (pairs_json (λ x. json_of s x) (λ x. json_of t x) ps, ps, refl, refl, pairs_back (λ e x. JsonSpells s e x) (λ e x. JsonSpells t e x) (λ x. json_of s x) (λ x. json_of t x) s t (λ c q. reads_back s c w.0 q) (λ c q. reads_back t c w.1 q) ps h)
  reads_back (struct_of fs o) null u h = inl (refl, refl)
  reads_back (struct_of fs o) (leaf a) u h = cc
  reads_back (struct_of fs o) (list cs) u h = cc
  reads_back (struct_of fs o) (pairs ps) u h = cc
  reads_back (struct_of fs o) (struct cs) u h =
      let q = and_parts (all_differ (names_of fs)) (are_distinct fs) u in
      inr (members_json fs cs no_members, cs, refl, refl, members_known (names_of fs) fs cs no_members (all_among (names_of fs)) refl, fields_back fs cs no_members q.0 q.1 h)

  fields_back : (fs : Fields) (cs : Cells) (ms : Members) → all_differ (names_of fs) ≡ true → are_distinct fs ≡ true → each_fits cs fs ≡ true → FieldsSpell fs (object (members_json fs cs ms)) cs
  fields_back no_field end ms n u h = tt
  fields_back no_field (more c cs) ms n u h = cc
  fields_back (field name s fs) end ms n u h = cc
  fields_back (field name s fs) (more c cs) ms n u h =
      let ns = and_parts (not (is_among (names_of fs) name)) (all_differ (names_of fs)) n in
      let us = and_parts (is_distinct s) (are_distinct fs) u in
      let hs = and_parts (fits c s) (each_fits cs fs) h in
      let here : get_member name (members_json fs cs (put name (json_of s c) ms)) ≡ Some (json_of s c) =
      later_keeps name fs cs (put name (json_of s c) ms) (not-true (is_among (names_of fs) name) ns.0) ∙ get_member-put name (json_of s c) ms in
      (rw here (reads_back s c us.0 hs.0), fields_back fs cs (put name (json_of s c) ms) ns.1 us.1 hs.1)
