-- Names that are looked up among those before them, and keys that are counted.
use Rattle.std.proofs.Common.{◌≡◌, ℕ, zero, suc, ◌+◌, ◌<◌, ◌≤◌, ◌==◌, List, [], ◌∷◌, length, get_or, drop, Bool, true, false, not, ◌&&◌, ◌||◌, Option, option_map, Some, None, String, Global, Less, Equal, string_bytes, string_cmp, bytes_eq, nat_cmp, refl, sym, ap, ◌∙◌, subst, arith, rules}
use Rattle.std.specs.Prelude.{is_some}
use Rattle.std.specs.List.{AllByRecursion}
use Rattle.std.specs.List.Sorted.{IsStrictlySortedBy}
use Rattle.std.specs.Map.{keys_of}
use Rattle.std.specs.Cmp.Lexicographic.{slice_cmp}
use Rattle.std.proofs.lemmas.Bool.{and_parts, not-true}
use Rattle.std.proofs.lemmas.List.{drop_all}
use Rattle.std.proofs.lemmas.Bool.Decides.{nat_tests}
use Rattle.std.proofs.lemmas.Cmp.{nat_list_cmp_total, tied_itself}
use Rattle.std.proofs.lemmas.Slice.Eq.{bytes_eq-Decides}
use Rattle.serde_json.specs.Data.{Data, Members, null, object, no_members, put}
use Rattle.serde_json.specs.Find.{get, get_member}
use Rattle.serde_json.specs.View.{view as json_view, members_view}
use Rattle.serde_json.specs.declared.value.Value.{Null, the_lemmas}
use Rattle.serde_json.proofs.Views.{Entry, member_here, member_later, get_member-put, get_member-put_other}
use Rattle.orc_values.specs.Shapes.{Shape, names_of}
use Rattle.orc_values.specs.Views.{shape, name_and_type, fields}
use Rattle.orc_json_rows.specs.FieldNames.{is_among, all_differ, are_distinct, is_distinct, all_known}
use Rattle.orc_json_rows.specs.KnownKeys.{one_if_some, count_keys}
use Rattle.orc_values.specs.declared.tree.Field.{Field}
use Rattle.orc_values.proofs.Views.{name_and_type-is}
use Rattle.orc_values.proofs.Listed.{names_from}

-- ---- names that differ

pub view-Null : json_view Null ≡ null
view-Null = search (rules, the_lemmas)

-- each name is new among the members that the earlier ones made
abbrev pub differ_after : Members → List (List ℕ) → Bool
differ_after ms [] = true
differ_after ms (n ∷ ns) = not (is_some (get_member n ms)) && differ_after (put n null ms) ns

-- none of the names is a member's key
abbrev are_new : Members → List (List ℕ) → Bool
are_new ms [] = true
are_new ms (n ∷ ns) = not (is_some (get_member n ms)) && are_new ms ns

get_put : (m n : List ℕ) (ms : Members) → is_some (get_member m (put n null ms)) ≡ (bytes_eq m n || is_some (get_member m ms))
get_put m n ms = by (bytes_eq m n) refl where
  by : (b : Bool) → bytes_eq m n ≡ b → is_some (get_member m (put n null ms)) ≡ (bytes_eq m n || is_some (get_member m ms))
  by true e =
      let same : m ≡ n = (bytes_eq-Decides m n).0 e in
      rw e (ap is_some (ap (λ (x : List ℕ). get_member x (put n null ms)) same ∙ get_member-put n null ms))
  by false e =
      let other : m ≡ n → ⊥ = λ same. let t : bytes_eq m n ≡ true = (bytes_eq-Decides m n).1 same in cc in
      rw e (ap is_some (get_member-put_other m n null ms other))

among_new : (a b c d : Bool) → (not (a || b) && (c && not d)) ≡ (not b && c) && not (a || d)
among_new true b c d = both_false b c where
  both_false : (x y : Bool) → false ≡ (not x && y) && false
  both_false true y = refl
  both_false false true = refl
  both_false false false = refl
among_new false true c d = refl
among_new false false c d = refl

new_after : (n : List ℕ) (ms : Members) (ns : List (List ℕ)) → are_new (put n null ms) ns ≡ are_new ms ns && not (is_among ns n)
new_after n ms [] = refl
new_after n ms (m ∷ ns) =
    ap (λ (b : Bool). not b && are_new (put n null ms) ns) (get_put m n ms)
    ∙ (ap (λ (b : Bool). not (bytes_eq m n || is_some (get_member m ms)) && b) (new_after n ms ns)
    ∙ among_new (bytes_eq m n) (is_some (get_member m ms)) (are_new ms ns) (is_among ns n))

turned : (a b c d : Bool) → a && ((b && c) && d) ≡ (a && b) && (c && d)
turned true true c d = refl
turned true false c d = refl
turned false b c d = refl

differ_by : (ms : Members) (ns : List (List ℕ)) → differ_after ms ns ≡ are_new ms ns && all_differ ns
differ_by ms [] = refl
differ_by ms (n ∷ ns) =
    let fresh = not (is_some (get_member n ms)) in
    ap (λ (b : Bool). fresh && b) (differ_by (put n null ms) ns ∙ ap (λ (b : Bool). b && all_differ ns) (new_after n ms ns))
    ∙ turned fresh (are_new ms ns) (not (is_among ns n)) (all_differ ns)

all_new : (ns : List (List ℕ)) → are_new no_members ns ≡ true
all_new [] = refl
all_new (n ∷ ns) = all_new ns

pub differ_after-none : (ns : List (List ℕ)) → differ_after no_members ns ≡ all_differ ns
differ_after-none ns = differ_by no_members ns ∙ ap (λ (b : Bool). b && all_differ ns) (all_new ns)

pub differ_stop : (ms : Members) (n : List ℕ) (ns all : List (List ℕ)) (whole : Bool) → all ≡ n ∷ ns → is_some (get_member n ms) ≡ true → differ_after ms all ≡ whole → false ≡ whole
differ_stop ms n ns all whole e there h =
    let now : differ_after ms (n ∷ ns) ≡ false = ap (λ (b : Bool). not b && differ_after (put n null ms) ns) there in
    sym now ∙ (ap (differ_after ms) (sym e) ∙ h)

pub differ_more : (ms more : Members) (n : List ℕ) (ns all : List (List ℕ)) (whole : Bool) → all ≡ n ∷ ns → is_some (get_member n ms) ≡ false → more ≡ put n null ms → differ_after ms all ≡ whole
    → differ_after more ns ≡ whole
differ_more ms more n ns all whole e fresh is h =
    let now : differ_after ms (n ∷ ns) ≡ differ_after (put n null ms) ns = ap (λ (b : Bool). not b && differ_after (put n null ms) ns) fresh in
    ap (λ (t : Members). differ_after t ns) is ∙ (sym now ∙ (ap (differ_after ms) (sym e) ∙ h))

-- ---- keys that are known

abbrev one_if : Bool → ℕ
one_if true = 1
one_if false = 0

-- how many of the names are keys
abbrev hits : Members → List (List ℕ) → ℕ
hits ms [] = 0
hits ms (n ∷ ns) = one_if (is_some (get_member n ms)) + hits ms ns

no_hits : (ns : List (List ℕ)) → hits no_members ns ≡ 0
no_hits [] = refl
no_hits (n ∷ ns) = omega (arith, no_hits ns)

less_not_same : (a b : List ℕ) → slice_cmp nat_cmp a b ≡ Less → a ≡ b → ⊥
less_not_same a b less same =
    let tied : slice_cmp nat_cmp a a ≡ Equal = tied_itself nat_list_cmp_total a in
    let h : slice_cmp nat_cmp a a ≡ Less = subst (λ (x : List ℕ). slice_cmp nat_cmp a x ≡ Less) (sym same) less in
    cc

-- a key below the others is none of them
not_later : (k : String Global) (es : List Entry) → AllByRecursion (λ y. string_cmp k y ≡ Less) (keys_of es) → get_member (string_bytes k) (members_view es) ≡ None
not_later k [] all = refl
not_later k (e ∷ es) all = member_later (string_bytes k) e es (less_not_same (string_bytes k) (string_bytes e.0) all.0) ∙ not_later k es all.1

hit_here : (x y t m : Bool) (h g : ℕ) → x ≡ true → y ≡ false → t ≡ true → m ≡ false → h ≡ one_if m + g → one_if x + h ≡ one_if (t || m) + (one_if y + g)
hit_here x y t m h g a b c d e =
    let same : h ≡ 0 + g = subst (λ (u : Bool). h ≡ one_if u + g) d e in
    rw (a, b, c) (omega (arith, same))

hit_later : (x y t m : Bool) (h g : ℕ) → x ≡ y → t ≡ false → h ≡ one_if m + g → one_if x + h ≡ one_if (t || m) + (one_if y + g)
hit_later x y t m h g a b e = rw (a, b) (omega (arith, e))

-- one more member: one more name is a key, if its key is among the names
hits_more : (e : Entry) (es : List Entry) (ns : List (List ℕ)) → get_member (string_bytes e.0) (members_view es) ≡ None → all_differ ns ≡ true
    → hits (members_view (e ∷ es)) ns ≡ one_if (is_among ns (string_bytes e.0)) + hits (members_view es) ns
hits_more e es [] none differ = refl
hits_more e es (n ∷ ns) none differ = by (hits_more e es ns none (and_parts (not (is_among ns n)) (all_differ ns) differ).1) (bytes_eq n (string_bytes e.0)) refl where
  by : hits (members_view (e ∷ es)) ns ≡ one_if (is_among ns (string_bytes e.0)) + hits (members_view es) ns → (b : Bool) → bytes_eq n (string_bytes e.0) ≡ b
      → hits (members_view (e ∷ es)) (n ∷ ns) ≡ one_if (is_among (n ∷ ns) (string_bytes e.0)) + hits (members_view es) (n ∷ ns)
  by rest true is =
      let p = and_parts (not (is_among ns n)) (all_differ ns) differ in
      let same : n ≡ string_bytes e.0 = (bytes_eq-Decides n (string_bytes e.0)).0 is in
      let other : is_among ns (string_bytes e.0) ≡ false = ap (is_among ns) (sym same) ∙ not-true (is_among ns n) p.0 in
      hit_here _ _ (bytes_eq n (string_bytes e.0)) (is_among ns (string_bytes e.0)) _ _ (ap is_some (member_here n e es same))
      (ap is_some (ap (λ (x : List ℕ). get_member x (members_view es)) same ∙ none)) is other rest
  by rest false is =
      let other : n ≡ string_bytes e.0 → ⊥ = λ same. let t : bytes_eq n (string_bytes e.0) ≡ true = (bytes_eq-Decides n (string_bytes e.0)).1 same in cc in
      hit_later _ _ (bytes_eq n (string_bytes e.0)) (is_among ns (string_bytes e.0)) _ _ (ap is_some (member_later n e es other)) is rest

record Counted (es : List Entry) (ns : List (List ℕ)) : Type 0 where
  pub most : hits (members_view es) ns ≤ length es
  pub same : (hits (members_view es) ns == length es) ≡ all_known ns (members_view es)

one_more : (h n : ℕ) → (1 + h == suc n) ≡ (h == n)
one_more h n = grind (arith, nat_tests)

too_few : (h n : ℕ) → h ≤ n → (0 + h == suc n) ≡ false
too_few h n le = grind (arith, nat_tests)

counted_next : (among : Bool) (h n : ℕ) (known : Bool) → h ≤ n → (h == n) ≡ known → (one_if among + h == suc n) ≡ (among && known)
counted_next true h n known le e = one_more h n ∙ e
counted_next false h n known le e = too_few h n le

one_or_none : (b : Bool) → one_if b ≤ 1
one_or_none true = omega arith
one_or_none false = omega arith

-- as many names are keys as there are keys, exactly where each key is a name
counted : (es : List Entry) (ns : List (List ℕ)) → IsStrictlySortedBy string_cmp (keys_of es) → all_differ ns ≡ true → Counted es ns
unfolding IsStrictlySortedBy
counted [] ns sorted differ = record { most = omega (arith, no_hits ns); same = rw (no_hits ns) refl }
counted (e ∷ es) ns sorted differ =
    let rest = counted es ns sorted.1 differ in
    let more = hits_more e es ns (not_later e.0 es sorted.0) differ in
    let among = is_among ns (string_bytes e.0) in
    record {
      most = omega (arith, more, rest.most, one_or_none among);
      same = ap (λ (m : ℕ). m == suc (length es)) more ∙ counted_next among (hits (members_view es) ns) (length es) (all_known ns (members_view es)) rest.most rest.same;
    }

one_if_same : (o : Option Data) → one_if_some o ≡ one_if (is_some o)
one_if_same None = refl
one_if_same (Some d) = refl

-- the names that are keys of an object are those that are keys of its members
count_is_hits : (ms : Members) (ns : List (List ℕ)) → count_keys ns (object ms) ≡ hits ms ns
count_is_hits ms [] = refl
count_is_hits ms (n ∷ ns) = ap (λ (x : ℕ). x + count_keys ns (object ms)) (one_if_same (get_member n ms)) ∙ ap (λ (x : ℕ). one_if (is_some (get_member n ms)) + x) (count_is_hits ms ns)

-- as many names are keys of the object as it has keys, exactly where each key is a name
pub counted_known : (es : List Entry) (ns : List (List ℕ)) (known len : ℕ) → IsStrictlySortedBy string_cmp (keys_of es) → all_differ ns ≡ true
    → known ≡ count_keys ns (object (members_view es)) → len ≡ length es → (known == len) ≡ all_known ns (members_view es)
counted_known es ns known len sorted differ is size =
    ap (λ (n : ℕ). n == len) (is ∙ count_is_hits (members_view es) ns) ∙ ap (λ (n : ℕ). hits (members_view es) ns == n) size ∙ (counted es ns sorted differ).same

-- ---- keys that are counted field by field

pub one_at_most : (o : Option Data) → one_if_some o ≤ 1
one_at_most None = omega arith
one_at_most (Some d) = omega arith

pub count_none : (fs : List Field) (d : Data) (i : ℕ) → length fs ≤ i → count_keys (names_of (fields (drop i fs))) d ≡ 0
count_none fs d i le = rw (drop_all i fs le) refl

pub count_more : (fs : List Field) (d : Data) (i : ℕ) (f : Field) → i < length fs → f ≡ get_or fs i f
    → count_keys (names_of (fields (drop i fs))) d ≡ one_if_some (get (string_bytes f.name) d) + count_keys (names_of (fields (drop (suc i) fs))) d
count_more fs d i f lt is = ap (λ (ns : List (List ℕ)). count_keys ns d) (names_from fs i f lt is)

pub some_map : {X Y : Type 0} (f : X → Y) (o : Option X) → is_some o ≡ is_some (option_map f o)
some_map f None = refl
some_map f (Some x) = refl

-- a struct's fields are named once each in what they contain
pub distinct_at : (fs : List Field) (i : ℕ) (f : Field) → i < length fs → f ≡ get_or fs i f → are_distinct (fields fs) ≡ true → is_distinct (shape f.tree) ≡ true
distinct_at [] i f lt is h = absurd (omega (arith, lt))
distinct_at (g ∷ fs) zero f lt is h =
    let p = and_parts (is_distinct (name_and_type g).1) (are_distinct (fields fs)) h in
    ap (λ (x : Field). is_distinct (shape x.tree)) is ∙ (ap (λ (x : List ℕ × Shape). is_distinct x.1) (sym (name_and_type-is g)) ∙ p.0)
distinct_at (g ∷ fs) (suc i) f lt is h =
    let p = and_parts (is_distinct (name_and_type g).1) (are_distinct (fields fs)) h in
    distinct_at fs i f (omega (arith, lt)) is p.1
