-- Laws of how each kind of member is written, with their proofs (Protocol Buffers encoding; packed lists
-- as in "Packed Repeated Fields").
use Rattle.std.specs.Prelude.{◌≡◌, ℕ, ◌+◌, ◌^◌, ◌<◌, ◌≤◌, List, [], ◌∷◌, length, ◌++◌, ◌⊎◌, Option, Some, None, Bool, true, false, ◌==◌}
use Rattle.std.specs.Prelude.{nat_le, refl, ⊤}
use Rattle.std.specs.Option.{option_or, option_to_list, unwrap_or, IfSome}
use Rattle.std.specs.Bool.{MatchBool}
use Rattle.std.specs.List.{AllByRecursion}
use Rattle.std.proofs.Common.{sym, ◌∙◌, ap, subst, inl, inr, arith, append_assoc, length-append, lit≤, lit<}
use Rattle.std.proofs.lemmas.List.{append-nil}
use Rattle.std.proofs.lemmas.Bool.{cases_lt}
use Rattle.std.proofs.lemmas.Bool.Decides.{nat_tests}
use Rattle.orc_bits.specs.Varint.{IsVarint, NoVarint, varint_text}
use Rattle.orc_bits.proofs.VarintLemmas.{varint_text-is}
use Rattle.orc_bits.proofs.VarintLaws.{no_varint, one_fault}
use Rattle.orc_wire.specs.declared.fault.WireFault.{WireFault}
use Rattle.orc_wire.specs.Fields.{Payload, varint, eight, four, sized, Item, IsField, IsFields, fault_at}
use Rattle.orc_wire.specs.laws.FieldLaws.{one_varint}
use Rattle.orc_wire.specs.Members.{Member}
use Rattle.orc_wire.specs.Spells.{bytes_of_field}
use Rattle.orc_wire.specs.Parts.{AreVarints, FailsNext, PackedFails, MessageIn, OnlyFails, JoinsOnly, PackedPart}
use Rattle.orc_wire.specs.Kinds.{FieldPart, number_part, small, signed, small_signed, flag, bytes_part, packed, message, kept_from, no_front, last, known, every_value, each, only}
use Rattle.orc_wire.specs.CanonicalText.{field_text, some_text, shown_text, known_text, list_text, varints_text, packed_text}
use Rattle.orc_wire.specs.Canonical.{IsOutside, IsBetween, AddsToFront, Canonical, all_both}
use Rattle.orc_wire.specs.CanonicalFields.{IsNumber, eqb_same, eqb_other, eqb_is, at_number}
use Rattle.orc_wire.specs.CanonicalFields.{bytes_hears, item_at, field_at, sized_holds, payload_shorter, Single}
use Rattle.orc_wire.specs.CanonicalFields.{a_number, a_small, a_signed, a_small_signed, a_flag, a_text}
use Rattle.orc_wire.specs.CanonicalFields.{message_is, message_silent, message_hears, message_single, message_read, a_message}

pub between_push : {low high : ℕ} (more : List Item) (item : Item)
    → IsBetween low high item
    → AllByRecursion (IsBetween low high) more
    → AllByRecursion (IsBetween low high) (more ++ item ∷ [])
between_push [] item is h = (is, tt)
between_push (x ∷ more) item is h = (h.0, between_push more item is h.1)

pub one_between : (n : ℕ) (payload : Payload) (place : ℕ)
    → AllByRecursion (IsBetween n (n + 1)) (item_at n payload place ∷ [])
one_between n payload place = (record { least = omega arith; most = omega arith }, tt)

pub next_number : (n : ℕ) → n ≤ n + 1
next_number n = omega arith

pub last_number : (n : ℕ) → IsNumber n → n + 1 ≤ 2 ^ 29
last_number n is = let m = is.most in omega (arith, m)

-- nothing is added
pub adds_none : {V : Type 0} (member : Member V) (low high base : ℕ) (before : List Item) (front : List ℕ) (v : V)
    → IsFields base before front → member.says before v → AddsToFront member low high (λ m. ⊥) base before front [] v
adds_none member low high base before front v are says = record {
  more = [];
  are = subst (λ (t : List ℕ). IsFields base before t) (sym (append-nil front)) are;
  says = says;
  between = tt;
  shows = λ m e. absurd e;
}

either_fits : {V : Type 0} (P : V → Type 0) (p : Option V) (old : V) → IfSome p P → P old → P (unwrap_or p old)
either_fits P None old given h = h
either_fits P (Some v) old given h = given

some_fits : {V : Type 0} (P : V → Type 0) (p old : Option V) → IfSome p P → IfSome old P → IfSome (option_or p old) P
some_fits P None old given h = h
some_fits P (Some v) old given h = given

listed_fits : {V : Type 0} (P : V → Type 0) (p : Option V) → IfSome p P → AllByRecursion P (option_to_list p)
listed_fits P None given = tt
listed_fits P (Some v) given = (given, tt)

module _ {V : Type 0} (n : ℕ) (is : IsNumber n) (part : FieldPart (Option V)) (s : Single n part) where
  pub last_again : (default v : V)
      → s.bounded v
      → s.whole v
      → length (field_text n (s.payload v)) < 2 ^ 64
      → (base : ℕ) (before : List Item) (front : List ℕ)
      → IsFields base before front
      → (last default part).says before default
      → AddsToFront (last default part) n (n + 1) s.counts base before front (field_text n (s.payload v)) v
  last_again default v can whole len base before front are says = record {
    more = item_at n (s.payload v) (base + length front) ∷ [];
    are = (front, refl, are, field_at n (s.payload v) (base + length front) is (s.holds v can len));
    says = (default, Some v, says, s.gives v (base + length front) can whole len, refl);
    between = one_between n (s.payload v) (base + length front);
    shows = λ m e. s.shows v (base + length front) m before e;
  }

  pub last_read : (default : V)
      → s.bounded default
      → (base : ℕ) (fields : List Item) (bytes : List ℕ) (v : V)
      → IsFields base fields bytes
      → (last default part).says fields v
      → s.bounded v
  last_read default fits base [] bytes v are e = subst s.bounded (sym e) fits
  last_read default fits base (item ∷ before) bytes v are says =
      let old = last_read default fits base before are.0 says.0 are.2 says.2 in
      let given = s.read (base + length are.0) item says.1 are.3 says.3 in
      subst s.bounded (sym says.4) (either_fits s.bounded says.1 says.0 given old)

  -- always, also if it is the default
  abbrev pub written_always : (default : V) → s.bounded default → Canonical (last default part)
  written_always default fits = record {
    text = λ v. field_text n (s.payload v);
    bounded = s.bounded;
    whole = s.whole;
    low = n;
    high = n + 1;
    ordered = next_number n;
    few = last_number n is;
    always = s.counts;
    deaf = λ item before v few out says. (v, None, says, s.silent item out, refl);
    again = last_again default;
    hears = λ item v fault. s.hears item fault;
    single = λ item v. s.single item;
    read = last_read default fits;
  }

  pub known_again : (v : Option V)
      → IfSome v s.bounded
      → IfSome v s.whole
      → length (known_text s.payload n v) < 2 ^ 64
      → (base : ℕ) (before : List Item) (front : List ℕ)
      → IsFields base before front
      → (known part).says before None
      → AddsToFront (known part) n (n + 1) (λ m. ⊥) base before front (known_text s.payload n v) v
  known_again None can whole len base before front are says = adds_none (known part) n (n + 1) base before front None are says
  known_again (Some v) can whole len base before front are says = record {
    more = item_at n (s.payload v) (base + length front) ∷ [];
    are = (front, refl, are, field_at n (s.payload v) (base + length front) is (s.holds v can len));
    says = (None, Some v, says, s.gives v (base + length front) can whole len, refl);
    between = one_between n (s.payload v) (base + length front);
    shows = λ m e. absurd e;
  }

  pub known_read : (base : ℕ) (fields : List Item) (bytes : List ℕ) (v : Option V)
      → IsFields base fields bytes → (known part).says fields v → IfSome v s.bounded
  known_read base [] bytes v are e = subst (λ (t : Option V). IfSome t s.bounded) (sym e) tt
  known_read base (item ∷ before) bytes v are says =
      let old = known_read base before are.0 says.0 are.2 says.2 in
      let given = s.read (base + length are.0) item says.1 are.3 says.3 in
      subst (λ (t : Option V). IfSome t s.bounded) (sym says.4) (some_fits s.bounded says.1 says.0 given old)

  -- if it is known
  abbrev pub text_if_known : Canonical (known part)
  text_if_known = record {
    text = known_text s.payload n;
    bounded = λ v. IfSome v s.bounded;
    whole = λ v. IfSome v s.whole;
    low = n;
    high = n + 1;
    ordered = next_number n;
    few = last_number n is;
    always = λ m. ⊥;
    deaf = λ item before v few out says. (v, None, says, s.silent item out, refl);
    again = known_again;
    hears = λ item v fault. s.hears item fault;
    single = λ item v. s.single item;
    read = known_read;
  }

  pub each_adds : (vs : List V)
      → AllByRecursion s.bounded vs
      → AllByRecursion s.whole vs
      → length (list_text s.payload n vs) < 2 ^ 64
      → (old : List V) (base : ℕ) (before : List Item) (front : List ℕ)
      → IsFields base before front
      → (each part).says before old
      → AddsToFront (each part) n (n + 1) (λ m. ⊥) base before front (list_text s.payload n vs) (old ++ vs)
  each_adds [] can whole len old base before front are says =
      adds_none (each part) n (n + 1) base before front (old ++ []) are (subst (λ (t : List V). (each part).says before t) (sym (append-nil old)) says)
  each_adds (v ∷ vs) can whole len old base before front are says =
      let place = base + length front in
      let item = item_at n (s.payload v) place in
      let sum = length-append item.text (list_text s.payload n vs) in
      let first : length item.text < 2 ^ 64 = omega (arith, len, sum) in
      let rest = each_adds vs can.1 whole.1 (omega (arith, len, sum)) (old ++ v ∷ []) base (item ∷ before) (front ++ item.text)
      (front, refl, are, field_at n (s.payload v) place is (s.holds v can.0 first)) (old, Some v, says, s.gives v place can.0 whole.0 first, refl) in
      let assoc : rest.more ++ (item ∷ before) ≡ (rest.more ++ item ∷ []) ++ before = sym (append_assoc rest.more (item ∷ []) before) in
      let values : (old ++ v ∷ []) ++ vs ≡ old ++ (v ∷ vs) = append_assoc old (v ∷ []) vs in
      record {
        more = rest.more ++ item ∷ [];
        are = subst (λ (t : List Item). IsFields base t (front ++ list_text s.payload n (v ∷ vs))) assoc
            (subst (λ (t : List ℕ). IsFields base (rest.more ++ (item ∷ before)) t) (append_assoc front item.text (list_text s.payload n vs)) rest.are);
        says = subst (λ (t : List Item). (each part).says t (old ++ (v ∷ vs))) assoc
            (subst (λ (t : List V). (each part).says (rest.more ++ (item ∷ before)) t) values rest.says);
        between = between_push rest.more item (record { least = omega arith; most = omega arith }) rest.between;
        shows = λ m e. absurd e;
      }

  pub each_read : (base : ℕ) (fields : List Item) (bytes : List ℕ) (vs : List V)
      → IsFields base fields bytes → (each part).says fields vs → AllByRecursion s.bounded vs
  each_read base [] bytes vs are e = subst (λ (t : List V). AllByRecursion s.bounded t) (sym e) tt
  each_read base (item ∷ before) bytes vs are says =
      let old = each_read base before are.0 says.0 are.2 says.2 in
      let given = s.read (base + length are.0) item says.1 are.3 says.3 in
      subst (λ (t : List V). AllByRecursion s.bounded t) (sym says.4)
      (all_both s.bounded says.0 (option_to_list says.1) old (listed_fits s.bounded says.1 given))

  -- repeated: a field for each value, in order
  abbrev pub for_each : Canonical (each part)
  for_each = record {
    text = list_text s.payload n;
    bounded = λ vs. AllByRecursion s.bounded vs;
    whole = λ vs. AllByRecursion s.whole vs;
    low = n;
    high = n + 1;
    ordered = next_number n;
    few = last_number n is;
    always = λ m. ⊥;
    deaf = λ item before v few out says. (v, None, says, s.silent item out, sym (append-nil v));
    again = λ vs can whole len base before front are says. each_adds vs can whole len [] base before front are says;
    hears = λ item v fault. s.hears item fault;
    single = λ item v. s.single item;
    read = each_read;
  }

-- ---- packed lists

-- each number is below the limit
abbrev pub AreBelow : ℕ → List ℕ → Type 0
AreBelow limit ns = AllByRecursion (λ n. n < limit) ns

pub varints_are : (limit : ℕ)
    → limit ≤ 2 ^ 64 → (ns : List ℕ) → AreBelow limit ns → AreVarints limit ns (varints_text ns)
varints_are limit le [] h = refl
varints_are limit le (n ∷ ns) h =
    (varint_text n, varints_text ns, (let b = h.0 in varint_text-is n (omega (arith, b, le))).varint, h.0, refl, varints_are limit le ns h.1)

pub packed_other : (limit n : ℕ) (item : Item) → IsOutside n (n + 1) item.number → (packed limit n).gives item []
packed_other limit n item out = rw (eqb_other item.number n out) refl

pub packed_is : (limit n : ℕ) (ns : List ℕ) (place : ℕ) → AreVarints limit ns (varints_text ns)
    → (packed limit n).gives (item_at n (sized (varints_text ns)) place) ns
packed_is limit n ns place are = rw (eqb_same n) are

no_values : (limit : ℕ) (ns : List ℕ) → AreVarints limit ns [] → [] ≡ ns
no_values limit [] are = refl
no_values limit (n ∷ ns) are = absurd (no_front are.0 are.1 n are.2 are.4)

packed_adds : (limit n : ℕ) (is : IsNumber n) (ns bytes : List ℕ)
    → AreVarints limit ns bytes
    → (bytes ≡ varints_text ns)
    → length (some_text n bytes) < 2 ^ 64
    → (base : ℕ) (before : List Item) (front : List ℕ)
    → IsFields base before front
    → (every_value (packed limit n)).says before []
    → AddsToFront (every_value (packed limit n)) n (n + 1) (λ m. ⊥) base before front (some_text n bytes) ns
packed_adds limit n is ns [] are e len base before front fields says =
    adds_none (every_value (packed limit n)) n (n + 1) base before front ns fields
    (subst (λ (t : List ℕ). (every_value (packed limit n)).says before t) (no_values limit ns are) says)
packed_adds limit n is ns (b ∷ bytes) are e len base before front fields says = record {
  more = item_at n (sized (b ∷ bytes)) (base + length front) ∷ [];
  are = (front, refl, fields, field_at n (sized (b ∷ bytes)) (base + length front) is (sized_holds (b ∷ bytes) (payload_shorter n (b ∷ bytes) len)));
  says = (
    [],
    ns,
    says,
    subst (λ (t : List ℕ). (packed limit n).gives (item_at n (sized t) (base + length front)) ns) (sym e)
        (packed_is limit n ns (base + length front) (subst (λ (t : List ℕ). AreVarints limit ns t) e are)),
    refl,
  );
  between = one_between n (sized (b ∷ bytes)) (base + length front);
  shows = λ m e. absurd e;
}

same_next : (limit : ℕ) (bytes : List ℕ) (place : ℕ) (e f : WireFault)
    → FailsNext limit bytes place e → FailsNext limit bytes place f → e ≡ f
same_next limit bytes place e f (inl p) (inl q) = p.3 ∙ (ap (fault_at place) (one_fault bytes p.1 q.1 p.2 q.2) ∙ sym q.3)
same_next limit bytes place e f (inl p) (inr q) =
    absurd (no_varint q.0.front q.0.rest q.0.value p.1 (subst (λ (t : List ℕ). NoVarint t p.1) q.0.parts p.2) q.0.is)
same_next limit bytes place e f (inr p) (inl q) =
    absurd (no_varint p.0.front p.0.rest p.0.value q.1 (subst (λ (t : List ℕ). NoVarint t q.1) p.0.parts q.2) p.0.is)
same_next limit bytes place e f (inr p) (inr q) = p.1 ∙ sym q.1

-- bytes that begin with a valid varint have no fault there
good_next : (limit : ℕ) (bytes front rest : List ℕ) (n place : ℕ) (e : WireFault)
    → FailsNext limit bytes place e → IsVarint front n → n < limit → bytes ≡ front ++ rest → ⊥
good_next limit bytes front rest n place e (inl p) is lt parts = no_varint front rest n p.1 (subst (λ (t : List ℕ). NoVarint t p.1) parts p.2) is
good_next limit bytes front rest n place e (inr p) is lt parts =
    let t = one_varint front p.0.front rest p.0.rest n p.0.value is p.0.is (sym parts ∙ p.0.parts) in
    omega (arith, t.number, lt, p.0.large)

same_within : (limit : ℕ) (ns ms a b x y bytes : List ℕ) (place : ℕ) (e f : WireFault)
    → AreVarints limit ns a
    → AreVarints limit ms b
    → bytes ≡ a ++ x
    → bytes ≡ b ++ y
    → FailsNext limit x place e
    → FailsNext limit y place f
    → e ≡ f
same_within limit [] [] a b x y bytes place e f p q u v g h =
    let at : x ≡ y = sym (u ∙ ap (λ (t : List ℕ). t ++ x) p) ∙ (v ∙ ap (λ (t : List ℕ). t ++ y) q) in
    same_next limit y place e f (subst (λ (t : List ℕ). FailsNext limit t place e) at g) h
same_within limit [] (m ∷ ms) a b x y bytes place e f p q u v g h =
    let at : x ≡ q.0 ++ (q.1 ++ y) = sym (u ∙ ap (λ (t : List ℕ). t ++ x) p) ∙ (v ∙ (ap (λ (t : List ℕ). t ++ y) q.4 ∙ append_assoc q.0 q.1 y)) in
    absurd (good_next limit x q.0 (q.1 ++ y) m place e g q.2 q.3 at)
same_within limit (n ∷ ns) [] a b x y bytes place e f p q u v g h =
    let at : y ≡ p.0 ++ (p.1 ++ x) = sym (v ∙ ap (λ (t : List ℕ). t ++ y) q) ∙ (u ∙ (ap (λ (t : List ℕ). t ++ x) p.4 ∙ append_assoc p.0 p.1 x)) in
    absurd (good_next limit y p.0 (p.1 ++ x) n place f h p.2 p.3 at)
same_within limit (n ∷ ns) (m ∷ ms) a b x y bytes place e f p q u v g h =
    let left : bytes ≡ p.0 ++ (p.1 ++ x) = u ∙ (ap (λ (t : List ℕ). t ++ x) p.4 ∙ append_assoc p.0 p.1 x) in
    let right : bytes ≡ q.0 ++ (q.1 ++ y) = v ∙ (ap (λ (t : List ℕ). t ++ y) q.4 ∙ append_assoc q.0 q.1 y) in
    let t = one_varint p.0 q.0 (p.1 ++ x) (q.1 ++ y) n m p.2 q.2 (sym left ∙ right) in
    same_within limit ns ms p.1 q.1 x y (p.1 ++ x) place e f p.5 q.5 refl t.rest g h

one_packed_fault : (limit : ℕ) (payload : Payload) (place : ℕ) (e f : WireFault)
    → PackedFails limit payload place e → PackedFails limit payload place f → e ≡ f
one_packed_fault limit (varint v) place e f p q = p.1 ∙ sym q.1
one_packed_fault limit (eight b) place e f p q = absurd p
one_packed_fault limit (four b) place e f p q = absurd p
one_packed_fault limit (sized b) place e f p q =
    same_within limit p.values q.values p.front q.front p.rest q.rest b place e f p.are q.are p.parts q.parts p.fails q.fails

one_if_fault : (test : Bool) (limit : ℕ) (payload : Payload) (place : ℕ) (e f : WireFault)
    → MatchBool test (PackedFails limit payload place e) ⊥
    → MatchBool test (PackedFails limit payload place f) ⊥
    → e ≡ f
one_if_fault true limit payload place e f p q = one_packed_fault limit payload place e f p q
one_if_fault false limit payload place e f p q = absurd p

test_true : (test : Bool) (P : Type 0) → MatchBool test P ⊥ → test ≡ true
test_true true P h = refl
test_true false P h = absurd h

varints_below : (limit : ℕ) (ns bytes : List ℕ) → AreVarints limit ns bytes → AreBelow limit ns
varints_below limit [] bytes are = tt
varints_below limit (n ∷ ns) bytes are = (are.3, varints_below limit ns are.1 are.5)

packed_below : (limit : ℕ) (payload : Payload) (ns : List ℕ) → PackedPart limit payload ns → AreBelow limit ns
packed_below limit (varint v) ns is = subst (λ (t : List ℕ). AreBelow limit t) (sym is.1) (is.0, tt)
packed_below limit (eight b) ns e = subst (λ (t : List ℕ). AreBelow limit t) (sym e) tt
packed_below limit (four b) ns e = subst (λ (t : List ℕ). AreBelow limit t) (sym e) tt
packed_below limit (sized b) ns are = varints_below limit ns b are

below_if : (test : Bool) (limit : ℕ) (payload : Payload) (ns : List ℕ)
    → MatchBool test (PackedPart limit payload ns) (ns ≡ []) → AreBelow limit ns
below_if true limit payload ns is = packed_below limit payload ns is
below_if false limit payload ns e = subst (λ (t : List ℕ). AreBelow limit t) (sym e) tt

module _ (limit n : ℕ) (few : limit ≤ 2 ^ 64) (is : IsNumber n) where
  pub packed_again : (ns : List ℕ)
      → AreBelow limit ns
      → ⊤
      → length (packed_text n ns) < 2 ^ 64
      → (base : ℕ) (before : List Item) (front : List ℕ)
      → IsFields base before front
      → (every_value (packed limit n)).says before []
      → AddsToFront (every_value (packed limit n)) n (n + 1) (λ m. ⊥) base before front (packed_text n ns) ns
  packed_again ns can whole len base before front are says =
      packed_adds limit n is ns (varints_text ns) (varints_are limit few ns can) refl len base before front are says

  pub packed_hears : (item : Item) (v : List ℕ) (fault : WireFault)
      → (packed limit n).refuses item fault → IsBetween n (n + 1) item
  packed_hears item v fault bad =
      at_number n item.number (eqb_is item.number n (test_true (item.number == n) (PackedFails limit item.payload item.place fault) bad)) item refl

  pub packed_single : (item : Item) (v : List ℕ) (e f : WireFault)
      → (packed limit n).refuses item e → (packed limit n).refuses item f → e ≡ f
  packed_single item v e f p q = one_if_fault (item.number == n) limit item.payload item.place e f p q

  pub packed_read : (fields : List Item) (ns : List ℕ) → (every_value (packed limit n)).says fields ns → AreBelow limit ns
  packed_read [] ns e = subst (λ (t : List ℕ). AreBelow limit t) (sym e) tt
  packed_read (item ∷ before) ns says =
      let old = packed_read before says.0 says.2 in
      let given = below_if (item.number == n) limit item.payload says.1 says.3 in
      subst (λ (t : List ℕ). AreBelow limit t) (sym says.4) (all_both (λ m. m < limit) says.0 says.1 old given)

  -- one packed list, or nothing for an empty one
  abbrev pub as_packed : Canonical (every_value (packed limit n))
  as_packed = record {
    text = packed_text n;
    bounded = AreBelow limit;
    whole = λ ns. ⊤;
    low = n;
    high = n + 1;
    ordered = next_number n;
    few = last_number n is;
    always = λ m. ⊥;
    deaf = λ item before v few out says. (v, [], says, packed_other limit n item out, sym (append-nil v));
    again = packed_again;
    hears = packed_hears;
    single = packed_single;
    read = λ base fields bytes ns are says. packed_read fields ns says;
  }

-- ---- fields that are kept

-- bytes that are fields with numbers from n on
pub record AreKept (n : ℕ) (bytes : List ℕ) : Type 0 where
  pub fields : List Item
  pub are : IsFields 0 fields bytes
  pub from : AllByRecursion (IsBetween n (2 ^ 29)) fields

pub le_yes : (m n : ℕ) → m ≤ n → nat_le m n ≡ true
le_yes m n le = grind (arith, nat_tests)

pub le_no : (m n : ℕ) → n < m → nat_le m n ≡ false
le_no m n lt = grind (arith, nat_tests)

pub kept_silent : (n : ℕ) (item : Item)
    → item.number < 2 ^ 29 → IsOutside n (2 ^ 29) item.number → (kept_from n).gives item []
kept_silent n item most (inl lt) = rw (le_no n item.number lt) refl
kept_silent n item most (inr ge) = absurd (omega (arith, ge, most))

-- the same field at another place
abbrev pub field_moved : ℕ → Item → Item
field_moved place item = record { number = item.number; place = place; payload = item.payload; text = item.text }

pub moved_field : (place at : ℕ) (item : Item) → IsField at item → IsField place (field_moved place item)
moved_field place at item is = record {
  key = is.key;
  rest = is.rest;
  parts = is.parts;
  keyed = is.keyed;
  least = is.least;
  most = is.most;
  holds = is.holds;
  at_place = refl;
}

-- More fields after the front, with numbers from n on, whose bytes are kept as they are.
record KeptBehind (n base : ℕ) (before : List Item) (front bytes : List ℕ) : Type 0 where
  more : List Item
  are : IsFields base (more ++ before) (front ++ bytes)
  says : (every_value (kept_from n)).says (more ++ before) bytes
  between : AllByRecursion (IsBetween n (2 ^ 29)) more

kept_behind : (n base : ℕ) (before : List Item) (front : List ℕ)
    → IsFields base before front
    → (every_value (kept_from n)).says before []
    → (fields : List Item) (bytes : List ℕ)
    → IsFields 0 fields bytes
    → AllByRecursion (IsBetween n (2 ^ 29)) fields
    → KeptBehind n base before front bytes
kept_behind n base before front are says [] bytes e from = record {
  more = [];
  are = subst (λ (t : List ℕ). IsFields base before t) (sym (ap (λ (t : List ℕ). front ++ t) e ∙ append-nil front)) are;
  says = subst (λ (t : List ℕ). (every_value (kept_from n)).says before t) (sym e) says;
  between = tt;
}
kept_behind n base before front are says (item ∷ fields) bytes h from =
    let r = kept_behind n base before front are says fields h.0 h.2 from.1 in
    let place = base + length (front ++ h.0) in
    let parts : front ++ bytes ≡ (front ++ h.0) ++ item.text = ap (λ (t : List ℕ). front ++ t) h.1 ∙ sym (append_assoc front h.0 item.text) in
    let b = from.0 in
    record {
      more = field_moved place item ∷ r.more;
      are = (front ++ h.0, parts, r.are, moved_field place (0 + length h.0) item h.3);
      says = (h.0, item.text, r.says, rw (le_yes n item.number b.least) refl, h.1);
      between = (record { least = b.least; most = b.most }, r.between);
    }

pub kept_again : (n : ℕ) (bytes : List ℕ)
    → AreKept n bytes
    → (base : ℕ) (before : List Item) (front : List ℕ)
    → IsFields base before front
    → (every_value (kept_from n)).says before []
    → AddsToFront (every_value (kept_from n)) n (2 ^ 29) (λ m. ⊥) base before front bytes bytes
kept_again n bytes kept base before front are says =
    let r = kept_behind n base before front are says kept.fields bytes kept.are kept.from in
    record { more = r.more; are = r.are; says = r.says; between = r.between; shows = λ m e. absurd e }

module _ (n : ℕ) (is : IsNumber n) where
  pub kept_ordered : n ≤ 2 ^ 29
  kept_ordered = let m = is.most in omega (arith, m)

  -- as they stood
  abbrev pub as_kept : Canonical (every_value (kept_from n))
  as_kept = record {
    text = λ v. v;
    bounded = λ v. ⊤;
    whole = AreKept n;
    low = n;
    high = 2 ^ 29;
    ordered = kept_ordered;
    few = omega arith;
    always = λ m. ⊥;
    deaf = λ item before v few out says. (v, [], says, kept_silent n item few out, sym (append-nil v));
    again = λ v can whole len base before front are says. kept_again n v whole base before front are says;
    hears = λ item v fault bad. absurd bad;
    single = λ item v e f p q. absurd p;
    read = λ base fields bytes v are says. tt;
  }

-- The bytes that the fields of a message keep are fields with kept numbers.
pub says_kept : (n base : ℕ) (fields : List Item) (bytes kept : List ℕ)
    → IsFields base fields bytes → (every_value (kept_from n)).says fields kept → AreKept n kept
says_kept n base [] bytes kept are e = record { fields = []; are = e; from = tt }
says_kept n base (item ∷ before) bytes kept are says =
    let old = says_kept n base before are.0 says.0 are.2 says.2 in
    let most = are.3.most in
    elim (cases_lt item.number n) [
      | inr le ↦
          let part : says.1 ≡ item.text = says.3 ∙ rw (le_yes n item.number le) refl in
          record {
            fields = field_moved (0 + length says.0) item ∷ old.fields;
            are = (says.0, says.4 ∙ ap (λ (t : List ℕ). says.0 ++ t) part, old.are, moved_field (0 + length says.0) (base + length are.0) item are.3);
            from = (record { least = le; most = most }, old.from);
          }
      | inl lt ↦
          let part : says.1 ≡ [] = says.3 ∙ rw (le_no n item.number lt) refl in
          let same : kept ≡ says.0 = says.4 ∙ (ap (λ (t : List ℕ). says.0 ++ t) part ∙ append-nil says.0) in
          subst (λ (t : List ℕ). AreKept n t) (sym same) old
    ]

-- ---- a message that occurs once, written if its text is not empty

module _ {C : Type 0} (members : Member C) (w : Canonical members) (required : ℕ)
    (there : (required ≡ 0) ⊎ w.always required) (n : ℕ) (is : IsNumber n) where
  -- the text contains all of the message, and is not empty
  abbrev pub IsShown : C → Type 0
  IsShown c = w.whole c × (w.text c ≡ [] → ⊥)

  only_some : (c : C) (bytes : List ℕ)
      → bytes ≡ w.text c
      → w.bounded c
      → w.whole c
      → (bytes ≡ [] → ⊥)
      → length (some_text n bytes) < 2 ^ 64
      → (base : ℕ) (before : List Item) (front : List ℕ)
      → IsFields base before front
      → (only members required n).says before None
      → AddsToFront (only members required n) n (n + 1) (λ m. ⊥) base before front (some_text n bytes) (Some c)
  only_some c [] e can whole some len base before front are says = absurd (some refl)
  only_some c (b ∷ bytes) e can whole some len base before front are says =
      let place = base + length front in
      let size = payload_shorter n (b ∷ bytes) len in
      let gives = message_is members w required there n c place can whole (subst (λ (t : List ℕ). length t < 2 ^ 64) e size) in
      record {
        more = item_at n (sized (b ∷ bytes)) place ∷ [];
        are = (front, refl, are, field_at n (sized (b ∷ bytes)) place is (sized_holds (b ∷ bytes) size));
        says = (
          None,
          Some c,
          says,
          subst (λ (t : List ℕ). MessageIn members required n (item_at n (sized t) place) (bytes_of_field n (item_at n (sized t) place)) (Some c)) (sym e) gives,
          refl,
        );
        between = one_between n (sized (b ∷ bytes)) place;
        shows = λ m e. absurd e;
      }

  pub only_again : (v : Option C)
      → IfSome v w.bounded
      → IfSome v IsShown
      → length (shown_text w.text n v) < 2 ^ 64
      → (base : ℕ) (before : List Item) (front : List ℕ)
      → IsFields base before front
      → (only members required n).says before None
      → AddsToFront (only members required n) n (n + 1) (λ m. ⊥) base before front (shown_text w.text n v) v
  only_again None can whole len base before front are says = adds_none (only members required n) n (n + 1) base before front None are says
  only_again (Some c) can whole len base before front are says = only_some c (w.text c) refl can whole.0 whole.1 len base before front are says

  pub only_deaf : (item : Item) (before : List Item) (v : Option C)
      → IsOutside n (n + 1) item.number
      → (only members required n).says before v
      → (only members required n).says (item ∷ before) v
  only_deaf item before None out says = (None, None, says, message_silent members w required there n item out, refl)
  only_deaf item before (Some c) out says = (Some c, None, says, message_silent members w required there n item out, (refl, refl))

  pub only_hears : (item : Item) (v : Option C) (fault : WireFault)
      → OnlyFails members required n item v fault → IsBetween n (n + 1) item
  only_hears item None fault bad = message_hears members w required there n item fault bad
  only_hears item (Some c) fault bad = bytes_hears n item bad.0 bad.1

  pub only_single : (item : Item) (v : Option C) (e f : WireFault)
      → OnlyFails members required n item v e → OnlyFails members required n item v f → e ≡ f
  only_single item None e f p q = message_single members w required there n item e f p q
  only_single item (Some c) e f p q = p.2 ∙ sym q.2

  only_joins : (old p v : Option C) → JoinsOnly old p v → IfSome old w.bounded → IfSome p w.bounded → IfSome v w.bounded
  only_joins None p v e old given = subst (λ (t : Option C). IfSome t w.bounded) (sym e) given
  only_joins (Some c) p v join old given = subst (λ (t : Option C). IfSome t w.bounded) (sym join.1) old

  pub only_read : (fields : List Item) (v : Option C) → (only members required n).says fields v → IfSome v w.bounded
  only_read [] v e = subst (λ (t : Option C). IfSome t w.bounded) (sym e) tt
  only_read (item ∷ before) v says =
      only_joins says.0 says.1 v says.4 (only_read before says.0 says.2) (message_read members w required there n item (bytes_of_field n item) says.1 says.3)

  -- an embedded message that may occur once, written if its text is not empty
  abbrev pub where_shown : Canonical (only members required n)
  where_shown = record {
    text = shown_text w.text n;
    bounded = λ v. IfSome v w.bounded;
    whole = λ v. IfSome v IsShown;
    low = n;
    high = n + 1;
    ordered = next_number n;
    few = last_number n is;
    always = λ m. ⊥;
    deaf = λ item before v few. only_deaf item before v;
    again = only_again;
    hears = only_hears;
    single = only_single;
    read = λ base fields bytes v are says. only_read fields v says;
  }

-- ---- one name for each line of the table of messages

-- uint64, always written
abbrev pub always_number : (n : ℕ) → IsNumber n → Canonical (last 0 (number_part n))
always_number n is = written_always n is (number_part n) (a_number n) 0 (lit< tt)

-- uint32 or an enum, always written
abbrev pub always_small : (n : ℕ) → IsNumber n → Canonical (last 0 (small n))
always_small n is = written_always n is (small n) (a_small n) 0 (lit< tt)

-- string or bytes, always written
abbrev pub always_text : (n : ℕ) → IsNumber n → Canonical (last [] (bytes_part n))
always_text n is = written_always n is (bytes_part n) (a_text n) [] tt

-- optional uint64, written if it is known
abbrev pub known_number : (n : ℕ) → IsNumber n → Canonical (known (number_part n))
known_number n is = text_if_known n is (number_part n) (a_number n)

-- optional uint32, written if it is known
abbrev pub known_small : (n : ℕ) → IsNumber n → Canonical (known (small n))
known_small n is = text_if_known n is (small n) (a_small n)

-- optional sint64, written if it is known
abbrev pub known_signed : (n : ℕ) → IsNumber n → Canonical (known (signed n))
known_signed n is = text_if_known n is (signed n) (a_signed n)

-- optional sint32, written if it is known
abbrev pub known_small_signed : (n : ℕ) → IsNumber n → Canonical (known (small_signed n))
known_small_signed n is = text_if_known n is (small_signed n) (a_small_signed n)

-- optional bool, written if it is known
abbrev pub known_flag : (n : ℕ) → IsNumber n → Canonical (known (flag n))
known_flag n is = text_if_known n is (flag n) (a_flag n)

-- optional string or bytes, written if it is known
abbrev pub text_where_known : (n : ℕ) → IsNumber n → Canonical (known (bytes_part n))
text_where_known n is = text_if_known n is (bytes_part n) (a_text n)

-- repeated string or bytes, a field for each
abbrev pub each_as_text : (n : ℕ) → IsNumber n → Canonical (each (bytes_part n))
each_as_text n is = for_each n is (bytes_part n) (a_text n)

-- repeated embedded messages, a field for each; a required member of such a message is always written
abbrev pub each_message : {C : Type 0} (members : Member C) (w : Canonical members) (required : ℕ)
    → (required ≡ 0) ⊎ w.always required → (n : ℕ) → IsNumber n → Canonical (each (message members required n))
each_message members w required there n is =
    for_each n is (message members required n) (a_message members w required there n)

-- repeated uint32, packed
abbrev pub small_list : (n : ℕ) → IsNumber n → Canonical (every_value (packed (2 ^ 32) n))
small_list n is = as_packed (2 ^ 32) n (lit≤ tt) is

-- repeated uint64, packed
abbrev pub number_list : (n : ℕ) → IsNumber n → Canonical (every_value (packed (2 ^ 64) n))
number_list n is = as_packed (2 ^ 64) n (lit≤ tt) is
