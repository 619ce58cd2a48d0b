-- Laws of what one written field gives, with their proofs (Protocol Buffers encoding; signed numbers as in
-- "Signed Integers").
use Rattle.std.specs.Prelude.{◌≡◌, ℕ, ◌+◌, ◌*◌, ◌^◌, ◌<◌, ◌≤◌, List, [], ◌∷◌, length, ◌++◌, ◌⊎◌, Option, Some, None, Bool, true, false, not, cond, ◌==◌}
use Rattle.std.specs.Prelude.{nat_eq, refl, ⊤, ℤ}
use Rattle.std.specs.Option.{option_map, IfSome}
use Rattle.std.specs.List.{AllByRecursion}
use Rattle.std.proofs.Common.{sym, ◌∙◌, ap, subst, inl, inr, arith, length-append, ◌||◌}
use Rattle.std.proofs.lemmas.Bool.Decides.{nat_tests}
use Rattle.orc_bits.specs.Varint.{varint_text}
use Rattle.orc_bits.specs.Zigzag.{zig}
use Rattle.orc_bits.proofs.VarintLemmas.{varint_text-is}
use Rattle.orc_wire.specs.declared.fault.WireFault.{WireFault}
use Rattle.orc_wire.specs.Fields.{Payload, varint, eight, four, sized, Item, wire, IsPayload, IsField}
use Rattle.orc_wire.specs.Members.{Member}
use Rattle.orc_wire.specs.Spells.{as_number, as_bytes, number_in, bytes_of_field, has_number, Spells}
use Rattle.orc_wire.specs.laws.SpellsLaws.{one_refusal}
use Rattle.orc_wire.specs.Parts.{inside, MessageIn, MessageFails}
use Rattle.orc_wire.specs.Kinds.{FieldPart, number_part, small, signed, small_signed, flag, bytes_part, message}
use Rattle.orc_wire.specs.CanonicalText.{flag_number, payload_text, field_text}
use Rattle.orc_wire.specs.Canonical.{IsOutside, IsBetween, Canonical, spells_again}

-- a number that a field may have
pub record IsNumber (n : ℕ) : Type 0 where
  pub least : 1 ≤ n
  pub most : n < 2 ^ 29

pub eqb_same : (n : ℕ) → nat_eq n n ≡ true
eqb_same n = grind (arith, nat_tests)

pub eqb_other : (m n : ℕ) → IsOutside n (n + 1) m → nat_eq m n ≡ false
eqb_other m n (inl lt) = grind (arith, nat_tests)
eqb_other m n (inr ge) = grind (arith, nat_tests)

pub eqb_is : (m n : ℕ) → nat_eq m n ≡ true → m ≡ n
eqb_is m n e = grind (arith, nat_tests)

pub no_number : (n : ℕ) (item : Item) → IsOutside n (n + 1) item.number → None ≡ number_in n item
no_number n item out = rw (eqb_other item.number n out) refl

pub no_bytes : (n : ℕ) (item : Item) → IsOutside n (n + 1) item.number → None ≡ bytes_of_field n item
no_bytes n item out = rw (eqb_other item.number n out) refl

cond_some : {X : Type 0} (b : Bool) (o : Option X) (x : X) → cond b o None ≡ Some x → b ≡ true
cond_some true o x e = refl
cond_some false o x e = absurd cc

pub at_number : (n m : ℕ) → m ≡ n → (item : Item) → item.number ≡ m → IsBetween n (n + 1) item
at_number n m e item f = record { least = omega (arith, e, f); most = omega (arith, e, f) }

pub number_hears : (n : ℕ) (item : Item) (v : ℕ) → number_in n item ≡ Some v → IsBetween n (n + 1) item
number_hears n item v e = at_number n item.number (eqb_is item.number n (cond_some (item.number == n) (as_number item.payload) v e)) item refl

pub bytes_hears : (n : ℕ) (item : Item) (b : List ℕ) → bytes_of_field n item ≡ Some b → IsBetween n (n + 1) item
bytes_hears n item b e = at_number n item.number (eqb_is item.number n (cond_some (item.number == n) (as_bytes item.payload) b e)) item refl

-- a field with this payload, in its shortest text
abbrev pub item_at : ℕ → Payload → ℕ → Item
item_at n payload place = record { number = n; place = place; payload = payload; text = field_text n payload }

pub wire_most : (p : Payload) → wire p ≤ 5
wire_most (varint n) = omega arith
wire_most (eight n) = omega arith
wire_most (four n) = omega arith
wire_most (sized n) = omega arith

pub field_at : (n : ℕ) (payload : Payload) (place : ℕ)
    → IsNumber n → IsPayload payload (payload_text payload) → IsField place (item_at n payload place)
field_at n payload place is holds = record {
  key = varint_text (n * 8 + wire payload);
  rest = payload_text payload;
  parts = refl;
  keyed = (let m = is.most in varint_text-is (n * 8 + wire payload) (omega (arith, m, wire_most payload))).varint;
  least = is.least;
  most = is.most;
  holds = holds;
  at_place = refl;
}

pub varint_holds : (v : ℕ) → v < 2 ^ 64 → IsPayload (varint v) (payload_text (varint v))
varint_holds v lt = (varint_text-is v lt).varint

pub sized_holds : (b : List ℕ) → length b < 2 ^ 64 → IsPayload (sized b) (payload_text (sized b))
sized_holds b lt = record { size = varint_text (length b); sized = (varint_text-is (length b) lt).varint; parts = refl }

pub payload_shorter : (n : ℕ) (b : List ℕ) → length (field_text n (sized b)) < 2 ^ 64 → length b < 2 ^ 64
payload_shorter n b lt =
    omega (arith, lt, length-append (varint_text (n * 8 + 2)) (varint_text (length b) ++ b), length-append (varint_text (length b)) b)

pub or_true : (b : Bool) → (b || true) ≡ true
or_true true = refl
or_true false = refl

pub number_is : (n v place : ℕ) → Some v ≡ number_in n (item_at n (varint v) place)
number_is n v place = rw (eqb_same n) refl

pub bytes_is : (n : ℕ) (b : List ℕ) (place : ℕ) → Some b ≡ bytes_of_field n (item_at n (sized b) place)
bytes_is n b place = rw (eqb_same n) refl

pub shows_number : (n v place m : ℕ) (before : List Item)
    → m ≡ n → has_number m (item_at n (varint v) place ∷ before) ≡ true
shows_number n v place m before e =
    let here : has_number n (item_at n (varint v) place ∷ before) ≡ true = rw (eqb_same n) (or_true (has_number n before)) in
    subst (λ (k : ℕ). has_number k (item_at n (varint v) place ∷ before) ≡ true) (sym e) here

-- ---- what one field gives

-- a value that one field contains
pub record Single {V : Type 0} (n : ℕ) (part : FieldPart (Option V)) : Type 1 where
  pub payload : V → Payload
  pub bounded : V → Type 0
  pub whole : V → Type 0
  pub counts : ℕ → Type 0
  pub holds : (v : V)
      → bounded v → length (field_text n (payload v)) < 2 ^ 64 → IsPayload (payload v) (payload_text (payload v))
  pub gives : (v : V) (place : ℕ)
      → bounded v
      → whole v
      → length (field_text n (payload v)) < 2 ^ 64
      → part.gives (item_at n (payload v) place) (Some v)
  pub silent : (item : Item) → IsOutside n (n + 1) item.number → part.gives item None
  pub shows : (v : V) (place m : ℕ) (before : List Item)
      → counts m → has_number m (item_at n (payload v) place ∷ before) ≡ true
  pub hears : (item : Item) (fault : WireFault) → part.refuses item fault → IsBetween n (n + 1) item
  pub single : (item : Item) (e f : WireFault) → part.refuses item e → part.refuses item f → e ≡ f
  pub read : (place : ℕ) (item : Item) (p : Option V) → IsField place item → part.gives item p → IfSome p bounded

payload_fits : (p : Payload) (bytes : List ℕ) → IsPayload p bytes → IfSome (as_number p) (λ v. v < 2 ^ 64)
payload_fits (varint v) bytes is = is.fits
payload_fits (eight b) bytes is = tt
payload_fits (four b) bytes is = tt
payload_fits (sized b) bytes is = tt

cond_fits : {X : Type 0} (P : X → Type 0) (b : Bool) (o : Option X) → IfSome o P → IfSome (cond b o None) P
cond_fits P true o h = h
cond_fits P false o h = tt

-- the number of a field has 64 bits
pub number_fits : (n place : ℕ) (item : Item) → IsField place item → IfSome (number_in n item) (λ v. v < 2 ^ 64)
number_fits n place item is = cond_fits (λ v. v < 2 ^ 64) (item.number == n) (as_number item.payload) (payload_fits item.payload is.rest is.holds)

pub signed_fits : (limit : ℕ) (p : Option ℤ) (o : Option ℕ)
    → option_map zig p ≡ o → IfSome o (λ v. v < limit) → IfSome p (λ z. zig z < limit)
signed_fits limit None o e h = tt
signed_fits limit (Some z) o e h = subst (λ (t : Option ℕ). IfSome t (λ v. v < limit)) (sym e) h

pub some_top : {V : Type 0} (o : Option V) → IfSome o (λ v. ⊤)
some_top None = tt
some_top (Some v) = tt

pub all_top : {V : Type 0} (xs : List V) → AllByRecursion (λ v. ⊤) xs
all_top [] = tt
all_top (x ∷ xs) = (tt, all_top xs)

-- a varint of 64 bits (uint64)
abbrev pub a_number : (n : ℕ) → Single n (number_part n)
a_number n = record {
  payload = λ v. varint v;
  bounded = λ v. v < 2 ^ 64;
  whole = λ v. ⊤;
  counts = λ m. m ≡ n;
  holds = λ v lt len. varint_holds v lt;
  gives = λ v place lt whole len. number_is n v place;
  silent = λ item out. no_number n item out;
  shows = λ v place m before e. shows_number n v place m before e;
  hears = λ item fault bad. absurd bad;
  single = λ item e f p q. absurd p;
  read = λ place item p is e. subst (λ (t : Option ℕ). IfSome t (λ v. v < 2 ^ 64)) (sym e) (number_fits n place item is);
}

-- a varint of 32 bits (uint32 or an enum)
abbrev pub a_small : (n : ℕ) → Single n (small n)
a_small n = record {
  payload = λ v. varint v;
  bounded = λ v. v < 2 ^ 32;
  whole = λ v. ⊤;
  counts = λ m. m ≡ n;
  holds = λ v lt len. varint_holds v (omega (arith, lt));
  gives = λ v place lt whole len. (number_is n v place, lt);
  silent = λ item out. (no_number n item out, tt);
  shows = λ v place m before e. shows_number n v place m before e;
  hears = λ item fault bad. number_hears n item bad.value bad.is;
  single = λ item e f p q. p.fails ∙ sym q.fails;
  read = λ place item p is gives. gives.1;
}

-- a signed number as a varint of 64 bits, by ZigZag (sint64)
abbrev pub a_signed : (n : ℕ) → Single n (signed n)
a_signed n = record {
  payload = λ v. varint (zig v);
  bounded = λ v. zig v < 2 ^ 64;
  whole = λ v. ⊤;
  counts = λ m. m ≡ n;
  holds = λ v lt len. varint_holds (zig v) lt;
  gives = λ v place lt whole len. number_is n (zig v) place;
  silent = λ item out. no_number n item out;
  shows = λ v place m before e. shows_number n (zig v) place m before e;
  hears = λ item fault bad. absurd bad;
  single = λ item e f p q. absurd p;
  read = λ place item p is e. signed_fits (2 ^ 64) p (number_in n item) e (number_fits n place item is);
}

-- a signed number as a varint of 32 bits, by ZigZag (sint32)
abbrev pub a_small_signed : (n : ℕ) → Single n (small_signed n)
a_small_signed n = record {
  payload = λ v. varint (zig v);
  bounded = λ v. zig v < 2 ^ 32;
  whole = λ v. ⊤;
  counts = λ m. m ≡ n;
  holds = λ v lt len. varint_holds (zig v) (omega (arith, lt));
  gives = λ v place lt whole len. (number_is n (zig v) place, lt);
  silent = λ item out. (no_number n item out, tt);
  shows = λ v place m before e. shows_number n (zig v) place m before e;
  hears = λ item fault bad. number_hears n item bad.value bad.is;
  single = λ item e f p q. p.fails ∙ sym q.fails;
  read = λ place item p is gives. gives.1;
}

pub flag_is : (n : ℕ) (b : Bool) (place : ℕ) → (flag n).gives (item_at n (varint (flag_number b)) place) (Some b)
flag_is n true place = rw (eqb_same n) refl
flag_is n false place = rw (eqb_same n) refl

pub flag_fits : (b : Bool) → flag_number b < 2 ^ 64
flag_fits true = omega arith
flag_fits false = omega arith

-- a boolean as the varint 0 or 1 (bool)
abbrev pub a_flag : (n : ℕ) → Single n (flag n)
a_flag n = record {
  payload = λ v. varint (flag_number v);
  bounded = λ v. ⊤;
  whole = λ v. ⊤;
  counts = λ m. m ≡ n;
  holds = λ v lt len. varint_holds (flag_number v) (flag_fits v);
  gives = λ v place lt whole len. flag_is n v place;
  silent = λ item out. ap (option_map (λ (v : ℕ). not (v == 0))) (no_number n item out);
  shows = λ v place m before e. shows_number n (flag_number v) place m before e;
  hears = λ item fault bad. absurd bad;
  single = λ item e f p q. absurd p;
  read = λ place item p is gives. some_top p;
}

-- the length of the bytes, and the bytes (string or bytes)
abbrev pub a_text : (n : ℕ) → Single n (bytes_part n)
a_text n = record {
  payload = λ v. sized v;
  bounded = λ v. ⊤;
  whole = λ v. ⊤;
  counts = λ m. ⊥;
  holds = λ v lt len. sized_holds v (payload_shorter n v len);
  gives = λ v place lt whole len. bytes_is n v place;
  silent = λ item out. no_bytes n item out;
  shows = λ v place m before e. absurd e;
  hears = λ item fault bad. absurd bad;
  single = λ item e f p q. absurd p;
  read = λ place item p is gives. some_top p;
}

module _ {C : Type 0} (members : Member C) (w : Canonical members) (required : ℕ)
    (there : (required ≡ 0) ⊎ w.always required) (n : ℕ) where
  pub message_is : (c : C) (place : ℕ)
      → w.bounded c
      → w.whole c
      → length (w.text c) < 2 ^ 64
      → MessageIn members required n (item_at n (sized (w.text c)) place)
      (bytes_of_field n (item_at n (sized (w.text c)) place)) (Some c)
  message_is c place can whole len =
      let item = item_at n (sized (w.text c)) place in
      let is : Spells members required (inside item (w.text c)) (w.text c) c = spells_again members w required (inside item (w.text c)) c can whole len there in
      subst (λ (t : Option (List ℕ)). MessageIn members required n item t (Some c)) (bytes_is n (w.text c) place) (c, refl, is)

  pub message_silent : (item : Item)
      → IsOutside n (n + 1) item.number → MessageIn members required n item (bytes_of_field n item) None
  message_silent item out = subst (λ (t : Option (List ℕ)). MessageIn members required n item t None) (no_bytes n item out) refl

  fails_some : (item : Item) (bytes : Option (List ℕ)) (fault : WireFault)
      → MessageFails members required n item bytes fault → (b : List ℕ) × (bytes ≡ Some b)
  fails_some item None fault bad = absurd bad
  fails_some item (Some b) fault bad = (b, refl)

  pub message_hears : (item : Item) (fault : WireFault)
      → MessageFails members required n item (bytes_of_field n item) fault → IsBetween n (n + 1) item
  message_hears item fault bad = let s = fails_some item (bytes_of_field n item) fault bad in bytes_hears n item s.0 s.1

  one_message : (item : Item) (bytes : Option (List ℕ)) (e f : WireFault) → MessageFails members required n item bytes e
      → MessageFails members required n item bytes f → e ≡ f
  one_message item None e f p q = absurd p
  one_message item (Some b) e f p q = one_refusal members required (inside item b) w.single b e f p q

  pub message_single : (item : Item) (e f : WireFault) → MessageFails members required n item (bytes_of_field n item) e
      → MessageFails members required n item (bytes_of_field n item) f → e ≡ f
  message_single item e f p q = one_message item (bytes_of_field n item) e f p q

  pub message_read : (item : Item) (bytes : Option (List ℕ)) (p : Option C)
      → MessageIn members required n item bytes p → IfSome p w.bounded
  message_read item None p e = subst (λ (t : Option C). IfSome t w.bounded) (sym e) tt
  message_read item (Some b) p h =
      let is = h.2 in subst (λ (t : Option C). IfSome t w.bounded) (sym h.1) (w.read (inside item b) is.fields b h.0 is.are is.says)

  -- the length of an embedded message's text, and that text
  abbrev pub a_message : Single n (message members required n)
  a_message = record {
    payload = λ c. sized (w.text c);
    bounded = λ c. w.bounded c;
    whole = λ c. w.whole c;
    counts = λ m. ⊥;
    holds = λ c can len. sized_holds (w.text c) (payload_shorter n (w.text c) len);
    gives = λ c place can whole len. message_is c place can whole (payload_shorter n (w.text c) len);
    silent = message_silent;
    shows = λ c place m before e. absurd e;
    hears = message_hears;
    single = message_single;
    read = λ place item p is gives. message_read item (bytes_of_field n item) p gives;
  }
