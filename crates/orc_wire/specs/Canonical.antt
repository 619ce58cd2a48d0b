-- Laws of how a member is written, with their proofs: what is written says the same again, and what is
-- read has the bits of its fields (Protocol Buffers encoding, "Serialization Stability"). The texts in
-- words are in CanonicalText.
use Rattle.std.specs.Prelude.{◌≡◌, ℕ, ◌^◌, ◌<◌, ◌≤◌, List, [], ◌∷◌, length, ◌++◌, ◌⊎◌, Bool, true, false, ◌||◌, refl}
use Rattle.std.specs.Option.{is_some}
use Rattle.std.specs.List.{AllByRecursion}
use Rattle.std.proofs.Common.{sym, ◌∙◌, ap, subst, inl, inr, arith, append_assoc, length-append}
use Rattle.std.proofs.lemmas.List.{append-nil}
use Rattle.std.proofs.lemmas.Bool.Decides.{nat_tests}
use Rattle.orc_wire.specs.declared.fault.WireFault.{WireFault}
use Rattle.orc_wire.specs.Fields.{Item, IsFields}
use Rattle.orc_wire.specs.Members.{Member, FieldPairs, shaped, ◌and◌}
use Rattle.orc_wire.specs.Spells.{number_in, has_number, Spells}

-- ---- how a member is written

-- a number that isn't in this range
abbrev pub IsOutside : ℕ → ℕ → ℕ → Type 0
IsOutside low high n = (n < low) ⊎ (high ≤ n)

-- the number is one of low .. high - 1
pub record IsBetween (low high : ℕ) (item : Item) : Type 0 where
  pub least : low ≤ item.number
  pub most : item.number < high

-- More fields after the front, which make the member say v.
pub record AddsToFront {V : Type 0} (member : Member V) (low high : ℕ) (always : ℕ → Type 0)
    (base : ℕ) (before : List Item) (front added : List ℕ) (v : V) : Type 0 where
  pub more : List Item
  pub are : IsFields base (more ++ before) (front ++ added)
  pub says : member.says (more ++ before) v
  pub between : AllByRecursion (IsBetween low high) more
  pub shows : (n : ℕ) → always n → has_number n (more ++ before) ≡ true

-- The canonical text of a member, and its laws.
pub record Canonical {V : Type 0} (member : Member V) : Type 1 where
  -- what is written for v
  pub text : V → List ℕ
  -- its numbers have the bits that their types give them
  pub bounded : V → Type 0
  -- the text contains all of v
  pub whole : V → Type 0
  -- the member's field numbers are low .. high - 1, and these are always written
  pub low : ℕ
  pub high : ℕ
  pub ordered : low ≤ high
  pub few : high ≤ 2 ^ 29
  pub always : ℕ → Type 0
  -- other fields say nothing of it
  pub deaf : (item : Item) (before : List Item) (v : V)
      → item.number < 2 ^ 29 → IsOutside low high item.number → member.says before v → member.says (item ∷ before) v
  -- its text says it
  pub again : (v : V)
      → bounded v
      → whole v
      → length (text v) < 2 ^ 64
      → (base : ℕ) (before : List Item) (front : List ℕ)
      → IsFields base before front
      → member.says before member.start
      → AddsToFront member low high always base before front (text v) v
  -- it refuses its own fields alone, each for one reason
  pub hears : (item : Item) (v : V) (fault : WireFault) → member.refuses item v fault → IsBetween low high item
  pub single : (item : Item) (v : V) (e f : WireFault) → member.refuses item v e → member.refuses item v f → e ≡ f
  -- what is read has numbers of those bits
  pub read : (base : ℕ) (fields : List Item) (bytes : List ℕ) (v : V)
      → IsFields base fields bytes → member.says fields v → bounded v

deaf_all : {V : Type 0} (member : Member V) (w : Canonical member) (low high : ℕ) (more before : List Item) (v : V)
    → high ≤ 2 ^ 29
    → ((n : ℕ) → low ≤ n → n < high → IsOutside w.low w.high n)
    → AllByRecursion (IsBetween low high) more
    → member.says before v
    → member.says (more ++ before) v
deaf_all member w low high [] before v few out h says = says
deaf_all member w low high (item ∷ more) before v few out h says =
    let most = h.0.most in
    w.deaf item (more ++ before) v (omega (arith, most, few)) (out item.number h.0.least h.0.most) (deaf_all member w low high more before v few out h.1 says)

all_widen : (low high low2 high2 : ℕ) (more : List Item)
    → low2 ≤ low → high ≤ high2 → AllByRecursion (IsBetween low high) more → AllByRecursion (IsBetween low2 high2) more
all_widen low high low2 high2 [] p q h = tt
all_widen low high low2 high2 (item ∷ more) p q h =
    (let b = h.0 in record { least = omega (arith, b.least, p); most = omega (arith, b.most, q) }, all_widen low high low2 high2 more p q h.1)

pub all_both : {V : Type 0} (P : V → Type 0) (a b : List V)
    → AllByRecursion P a → AllByRecursion P b → AllByRecursion P (a ++ b)
all_both P [] b p q = q
all_both P (x ∷ a) b p q = (p.0, all_both P a b p.1 q)

still_has : (n : ℕ) (more before : List Item) → has_number n before ≡ true → has_number n (more ++ before) ≡ true
still_has n [] before h = h
still_has n (item ∷ more) before h = ap (λ (b : Bool). b || is_some (number_in n item)) (still_has n more before h)

none_wanted : (n : ℕ) (fields : List Item) → n ≡ 0 → has_number n fields ≡ true
none_wanted n [] e = grind (arith, nat_tests)
none_wanted n (item ∷ before) e = ap (λ (b : Bool). b || is_some (number_in n item)) (none_wanted n before e)

-- one member after the other, in ascending numbers
module _ {V W : Type 0} (a : Member V) (b : Member W) (x : Canonical a) (y : Canonical b) (apart : x.high ≤ y.low) where
  pub both_deaf : (item : Item) (before : List Item) (v : V × W)
      → item.number < 2 ^ 29
      → IsOutside x.low y.high item.number
      → (a and b).says before v
      → (a and b).says (item ∷ before) v
  both_deaf item before v few (inl lt) says =
      let p = x.ordered in
      (x.deaf item before v.0 few (inl lt) says.0, y.deaf item before v.1 few (inl (omega (arith, lt, apart, p))) says.1)
  both_deaf item before v few (inr ge) says =
      let p = y.ordered in
      (x.deaf item before v.0 few (inr (omega (arith, ge, apart, p))) says.0, y.deaf item before v.1 few (inr ge) says.1)

  pub both_again : (v : V × W)
      → x.bounded v.0 × y.bounded v.1
      → x.whole v.0 × y.whole v.1
      → length (x.text v.0 ++ y.text v.1) < 2 ^ 64
      → (base : ℕ) (before : List Item) (front : List ℕ)
      → IsFields base before front
      → (a and b).says before (a and b).start
      → AddsToFront (a and b) x.low y.high (λ n. x.always n ⊎ y.always n) base before front (x.text v.0 ++ y.text v.1) v
  both_again v can whole len base before front are says =
      let p = x.ordered in
      let q = y.ordered in
      let sum = length-append (x.text v.0) (y.text v.1) in
      let first = x.again v.0 can.0 whole.0 (omega (arith, len, sum)) base before front are says.0 in
      let start = deaf_all b y x.low x.high first.more before b.start x.few (λ n le lt. inl (omega (arith, lt, apart))) first.between says.1 in
      let second = y.again v.1 can.1 whole.1 (omega (arith, len, sum)) base (first.more ++ before) (front ++ x.text v.0) first.are start in
      let kept = deaf_all a x y.low y.high second.more (first.more ++ before) v.0 y.few (λ n le lt. inr (omega (arith, le, apart))) second.between first.says in
      let assoc : second.more ++ (first.more ++ before) ≡ (second.more ++ first.more) ++ before = sym (append_assoc second.more first.more before) in
      record {
        more = second.more ++ first.more;
        are = subst (λ (t : List Item). IsFields base t (front ++ (x.text v.0 ++ y.text v.1))) assoc
            (subst (λ (t : List ℕ). IsFields base (second.more ++ (first.more ++ before)) t) (append_assoc front (x.text v.0) (y.text v.1)) second.are);
        says = subst (λ (t : List Item). (a and b).says t v) assoc (kept, second.says);
        between = all_both (IsBetween x.low y.high) second.more first.more
            (all_widen y.low y.high x.low y.high second.more (omega (arith, apart, p)) (omega arith) second.between)
            (all_widen x.low x.high x.low y.high first.more (omega arith) (omega (arith, apart, q)) first.between);
        shows = λ n h. ap (has_number n) (sym assoc) ∙
            elim h [ inl k ↦ still_has n second.more (first.more ++ before) (first.shows n k) | inr k ↦ second.shows n k ];
      }

  pub both_ordered : x.low ≤ y.high
  both_ordered = let p = x.ordered in let q = y.ordered in omega (arith, p, q, apart)

  pub both_hears : (item : Item) (v : V × W) (fault : WireFault)
      → (a and b).refuses item v fault → IsBetween x.low y.high item
  both_hears item v fault (inl r) = let h = x.hears item v.0 fault r in let q = y.ordered in record { least = h.least; most = omega (arith, h.most, apart, q) }
  both_hears item v fault (inr r) = let h = y.hears item v.1 fault r in let p = x.ordered in record { least = omega (arith, h.least, apart, p); most = h.most }

  pub both_single : (item : Item) (v : V × W) (e f : WireFault)
      → (a and b).refuses item v e → (a and b).refuses item v f → e ≡ f
  both_single item v e f (inl r) (inl s) = x.single item v.0 e f r s
  both_single item v e f (inl r) (inr s) = let h = x.hears item v.0 e r in let k = y.hears item v.1 f s in absurd (omega (arith, h.most, k.least, apart))
  both_single item v e f (inr r) (inl s) = let h = x.hears item v.0 f s in let k = y.hears item v.1 e r in absurd (omega (arith, h.most, k.least, apart))
  both_single item v e f (inr r) (inr s) = y.single item v.1 e f r s

  pub both_read : (base : ℕ) (fields : List Item) (bytes : List ℕ) (v : V × W)
      → IsFields base fields bytes → (a and b).says fields v → x.bounded v.0 × y.bounded v.1
  both_read base fields bytes v are says = (x.read base fields bytes v.0 are says.0, y.read base fields bytes v.1 are says.1)

  -- the text of one member, then that of the other, whose field numbers are higher
  abbrev pub both_members : Canonical (a and b)
  both_members = record {
    text = λ v. x.text v.0 ++ y.text v.1;
    bounded = λ v. x.bounded v.0 × y.bounded v.1;
    whole = λ v. x.whole v.0 × y.whole v.1;
    low = x.low;
    high = y.high;
    ordered = both_ordered;
    few = y.few;
    always = λ n. x.always n ⊎ y.always n;
    deaf = both_deaf;
    again = both_again;
    hears = both_hears;
    single = both_single;
    read = both_read;
  }

-- The second member is written if the first passes a test; else it must have its value for a missing field.
module _ {V W : Type 0} (a : Member V) (b : Member W) (x : Canonical a) (y : Canonical b) (test : V → Bool)
    (apart : x.high ≤ y.low) where
  -- the text contains both members if the test passes; else the first, and the second has its value for a missing field
  abbrev pub WholeIf : Bool → V × W → Type 0
  WholeIf true v = x.whole v.0 × y.whole v.1
  WholeIf false v = x.whole v.0 × (v.1 ≡ b.start)

  -- the first text, and after it the second if the test passes
  abbrev pub text_if : Bool → V × W → List ℕ
  text_if true v = x.text v.0 ++ y.text v.1
  text_if false v = x.text v.0

  pub again_if : (t : Bool) (v : V × W)
      → x.bounded v.0 × y.bounded v.1
      → WholeIf t v
      → length (text_if t v) < 2 ^ 64
      → (base : ℕ) (before : List Item) (front : List ℕ)
      → IsFields base before front
      → (a and b).says before (a and b).start
      → AddsToFront (a and b) x.low y.high x.always base before front (text_if t v) v
  again_if true v can whole len base before front are says =
      let r = both_again a b x y apart v can whole len base before front are says in
      record { more = r.more; are = r.are; says = r.says; between = r.between; shows = λ n h. r.shows n (inl h) }
  again_if false v can whole len base before front are says =
      let q = y.ordered in
      let r = x.again v.0 can.0 whole.0 len base before front are says.0 in
      let start = deaf_all b y x.low x.high r.more before b.start x.few (λ n le lt. inl (omega (arith, lt, apart))) r.between says.1 in
      record {
        more = r.more;
        are = r.are;
        says = (r.says, subst (λ (w : W). b.says (r.more ++ before) w) (sym whole.1) start);
        between = all_widen x.low x.high x.low y.high r.more (omega arith) (omega (arith, apart, q)) r.between;
        shows = r.shows;
      }

  -- two members, the second of which is written if the first passes the test
  abbrev pub both_if : Canonical (a and b)
  both_if = record {
    text = λ v. text_if (test v.0) v;
    bounded = λ v. x.bounded v.0 × y.bounded v.1;
    whole = λ v. WholeIf (test v.0) v;
    low = x.low;
    high = y.high;
    ordered = both_ordered a b x y apart;
    few = y.few;
    always = x.always;
    deaf = both_deaf a b x y apart;
    again = λ v. again_if (test v.0) v;
    hears = both_hears a b x y apart;
    single = both_single a b x y apart;
    read = both_read a b x y apart;
  }

-- the members of a record
module _ {V W : Type 0} (shape : FieldPairs V W) (m : Member V) (x : Canonical m) where
  pub shaped_again : (w : W)
      → x.bounded (shape.into w)
      → x.whole (shape.into w)
      → length (x.text (shape.into w)) < 2 ^ 64
      → (base : ℕ) (before : List Item) (front : List ℕ)
      → IsFields base before front
      → (shaped shape m).says before (shaped shape m).start
      → AddsToFront (shaped shape m) x.low x.high x.always base before front (x.text (shape.into w)) w
  shaped_again w can whole len base before front are says =
      let r = x.again (shape.into w) can whole len base before front are (subst (λ (v : V). m.says before v) (shape.here m.start) says) in
      record { more = r.more; are = r.are; says = r.says; between = r.between; shows = r.shows }

  -- the text of a record is that of its members
  abbrev pub shaped_text : Canonical (shaped shape m)
  shaped_text = record {
    text = λ w. x.text (shape.into w);
    bounded = λ w. x.bounded (shape.into w);
    whole = λ w. x.whole (shape.into w);
    low = x.low;
    high = x.high;
    ordered = x.ordered;
    few = x.few;
    always = x.always;
    deaf = λ item before w. x.deaf item before (shape.into w);
    again = shaped_again;
    hears = λ item w. x.hears item (shape.into w);
    single = λ item w. x.single item (shape.into w);
    read = λ base fields bytes w are says. x.read base fields bytes (shape.into w) are says;
  }

-- the text of a message spells that message
pub spells_again : {C : Type 0} (member : Member C) (w : Canonical member) (required base : ℕ) (c : C)
    → w.bounded c
    → w.whole c
    → length (w.text c) < 2 ^ 64
    → (required ≡ 0) ⊎ w.always required
    → Spells member required base (w.text c) c
spells_again member w required base c can whole len there =
    let r = w.again c can whole len base [] [] refl member.starts in
    let fields : r.more ++ [] ≡ r.more = append-nil r.more in
    record {
      fields = r.more;
      are = subst (λ (t : List Item). IsFields base t (w.text c)) fields r.are;
      says = subst (λ (t : List Item). member.says t c) fields r.says;
      complete = elim there [ inl none ↦ none_wanted required r.more none | inr k ↦ ap (has_number required) (sym fields) ∙ r.shows required k ];
    }
