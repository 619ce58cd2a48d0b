-- Bytes spell one message at most, none where there is a fault, and have one fault at most (Protocol
-- Buffers encoding, "Message Structure").
use Rattle.std.specs.Prelude.{◌≡◌, ℕ, ◌+◌, ◌<◌, List, [], ◌∷◌, length, ◌++◌, ◌⊎◌, true, false, refl}
use Rattle.std.proofs.Common.{sym, ◌∙◌, ap, subst, inl, inr, arith, append_assoc, length-append}
use Rattle.std.proofs.lemmas.List.{append-nil}
use Rattle.orc_bits.specs.Varint.{IsChain}
use Rattle.orc_wire.specs.declared.fault.WireFault.{WireFault}
use Rattle.orc_wire.specs.Fields.{Item, IsField, IsFields, NoField}
use Rattle.orc_wire.specs.laws.FieldLaws.{one_field, none_field}
use Rattle.orc_wire.specs.laws.FaultLaws.{one_no_field}
use Rattle.orc_wire.specs.Members.{Member}
use Rattle.orc_wire.specs.Spells.{has_number, Spells, EndsBadly, IsRefused, IsIncomplete, Faults}

-- the first fields of a list
abbrev pub IsFrontOfFields : List Item → List Item → Type 0
IsFrontOfFields fs [] = fs ≡ []
IsFrontOfFields fs (g ∷ gs) = (fs ≡ g ∷ gs) ⊎ IsFrontOfFields fs gs

none_within : (gs : List Item) → IsFrontOfFields [] gs
none_within [] = refl
none_within (g ∷ gs) = inr (none_within gs)

-- the field that comes next in the list, behind its first fields
pub record Next (fs gs : List Item) : Type 0 where
  pub item : Item
  pub within : IsFrontOfFields (item ∷ fs) gs

within_next : (fs gs : List Item) → IsFrontOfFields fs gs → (fs ≡ gs) ⊎ Next fs gs
within_next fs [] e = inl e
within_next fs (g ∷ gs) (inl e) = inl e
within_next fs (g ∷ gs) (inr w) = elim (within_next fs gs w) [
  | inl e ↦ inr (record { item = g; within = inl (ap (λ (t : List Item). g ∷ t) e) })
  | inr n ↦ inr (record { item = n.item; within = inr n.within })
]

within_says : {C : Type 0} (members : Member C) (fs gs : List Item) (c : C)
    → IsFrontOfFields fs gs → members.says gs c → (d : C) × members.says fs d
within_says members fs [] c e says = (c, subst (λ (t : List Item). members.says t c) (sym e) says)
within_says members fs (g ∷ gs) c (inl e) says = (c, subst (λ (t : List Item). members.says t c) (sym e) says)
within_says members fs (g ∷ gs) c (inr w) says = let p = members.back g gs c says in within_says members fs gs p.0 w p.1

-- the fields are spelled by a front of the bytes
pub record Front (base : ℕ) (fs : List Item) (all : List ℕ) : Type 0 where
  pub front : List ℕ
  pub rest : List ℕ
  pub parts : all ≡ front ++ rest
  pub are : IsFields base fs front

within_front : (base : ℕ) (fs gs : List Item) (all : List ℕ) → IsFrontOfFields fs gs → IsFields base gs all → Front base fs all
within_front base fs [] all e are =
    record { front = all; rest = []; parts = sym (append-nil all); are = subst (λ (t : List Item). IsFields base t all) (sym e) are }
within_front base fs (g ∷ gs) all (inl e) are =
    record { front = all; rest = []; parts = sym (append-nil all); are = subst (λ (t : List Item). IsFields base t all) (sym e) are }
within_front base fs (g ∷ gs) all (inr w) are =
    let r = within_front base fs gs are.0 w are.2 in
    record {
      front = r.front;
      rest = r.rest ++ g.text;
      parts = are.1 ∙ (ap (λ (t : List ℕ). t ++ g.text) r.parts ∙ append_assoc r.front r.rest g.text);
      are = r.are;
    }

one_bytes : (base : ℕ) (fs : List Item) (a b : List ℕ) → IsFields base fs a → IsFields base fs b → a ≡ b
one_bytes base [] a b p q = p ∙ sym q
one_bytes base (f ∷ fs) a b p q = p.1 ∙ (ap (λ (t : List ℕ). t ++ f.text) (one_bytes base fs p.0 q.0 p.2 q.2) ∙ sym q.1)

pub chain_some : (key : List ℕ) → IsChain key → 0 < length key
chain_some [] h = absurd h
chain_some (b ∷ bs) h = omega arith

pub text_some : (place : ℕ) (item : Item) → IsField place item → 0 < length item.text
text_some place item is = omega (arith, chain_some is.key is.keyed.chain, ap length is.parts, length-append is.key is.rest)

no_text : (place : ℕ) (item : Item) (x : List ℕ) → IsField place item → item.text ++ x ≡ [] → ⊥
no_text place item x is e = omega (arith, text_some place item is, ap length e, length-append item.text x)

same_rest : (a x y : List ℕ) → a ++ x ≡ a ++ y → x ≡ y
same_rest [] x y e = e
same_rest (b ∷ a) x y e = same_rest a x y cc

no_more : (a x : List ℕ) → a ≡ a ++ x → x ≡ []
no_more a x e = sym (same_rest a [] x (append-nil a ∙ e))

-- what follows the first fields: nothing, or a field
pub record Follows (base : ℕ) (fs gs : List Item) (front rest : List ℕ) : Type 0 where
  pub item : Item
  pub more : List ℕ
  pub parts : rest ≡ item.text ++ more
  pub next : IsField (base + length front) item
  pub within : IsFrontOfFields (item ∷ fs) gs

-- these are all fields, and nothing follows them
pub record EndFields (fs gs : List Item) (rest : List ℕ) : Type 0 where
  pub fields : fs ≡ gs
  pub rest_is : rest ≡ []

after_within : (base : ℕ) (fs gs : List Item) (front rest all : List ℕ)
    → IsFrontOfFields fs gs
    → IsFields base fs front
    → IsFields base gs all
    → all ≡ front ++ rest
    → EndFields fs gs rest ⊎ Follows base fs gs front rest
after_within base fs gs front rest all w f g e = elim (within_next fs gs w) [
  | inl same ↦
      let whole : front ≡ all = one_bytes base gs front all (subst (λ (t : List Item). IsFields base t front) same f) g in
      inl (record { fields = same; rest_is = no_more front rest (whole ∙ e) })
  | inr n ↦
      let r = within_front base (n.item ∷ fs) gs all n.within g in
      let fronts : r.are.0 ≡ front = one_bytes base fs r.are.0 front r.are.2 f in
      let is : IsField (base + length front) n.item = subst (λ (t : List ℕ). IsField (base + length t) n.item) fronts r.are.3 in
      let parts : front ++ rest ≡ front ++ (n.item.text ++ r.rest) =
      sym e ∙ (r.parts ∙ (ap (λ (t : List ℕ). t ++ r.rest) r.are.1 ∙
      (append_assoc r.are.0 n.item.text r.rest ∙ ap (λ (t : List ℕ). t ++ (n.item.text ++ r.rest)) fronts))) in
      inr (record { item = n.item; more = r.rest; parts = same_rest front rest (n.item.text ++ r.rest) parts; next = is; within = n.within })
]

front_within : (base : ℕ) (fs gs : List Item) (front rest all : List ℕ)
    → IsFields base fs front → IsFields base gs all → all ≡ front ++ rest → IsFrontOfFields fs gs
front_within base [] gs front rest all f g e = none_within gs
front_within base (item ∷ fs) gs front rest all f g e =
    let parts : all ≡ f.0 ++ (item.text ++ rest) = e ∙ (ap (λ (t : List ℕ). t ++ rest) f.1 ∙ append_assoc f.0 item.text rest) in
    let w = front_within base fs gs f.0 (item.text ++ rest) all f.2 g parts in
    elim (after_within base fs gs f.0 (item.text ++ rest) all w f.2 g parts) [
      | inl ends ↦ absurd (no_text (base + length f.0) item rest f.3 ends.rest_is)
      | inr next ↦
          let same = one_field (base + length f.0) item next.item rest next.more f.3 next.next next.parts in
          subst (λ (t : Item). IsFrontOfFields (t ∷ fs) gs) (sym same) next.within
    ]

pub after_front : (base : ℕ) (fs gs : List Item) (front rest all : List ℕ)
    → IsFields base fs front
    → IsFields base gs all
    → all ≡ front ++ rest
    → EndFields fs gs rest ⊎ Follows base fs gs front rest
after_front base fs gs front rest all f g e = after_within base fs gs front rest all (front_within base fs gs front rest all f g e) f g e

pub one_fields : (base : ℕ) (fs gs : List Item) (all : List ℕ) → IsFields base fs all → IsFields base gs all → fs ≡ gs
one_fields base fs gs all f g = elim (after_front base fs gs all [] all f g (sym (append-nil all))) [
  | inl ends ↦ ends.fields
  | inr next ↦ absurd (no_text (base + length all) next.item next.more next.next (sym next.parts))
]

module _ {C : Type 0} (members : Member C) (required : ℕ) where
  pub one_spelled : (base : ℕ) (bytes : List ℕ) (c d : C)
      → Spells members required base bytes c → Spells members required base bytes d → c ≡ d
  one_spelled base bytes c d p q =
      let same = one_fields base p.fields q.fields bytes p.are q.are in
      members.one q.fields c d (subst (λ (t : List Item). members.says t c) same p.says) q.says

  ends_badly : (base : ℕ) (bytes : List ℕ) (c : C) (fault : WireFault)
      → EndsBadly members required base bytes fault → Spells members required base bytes c → ⊥
  ends_badly base bytes c fault bad is = elim (after_front base bad.fields is.fields bad.front bad.rest bytes bad.are is.are bad.parts) [
    | inl ends ↦ bad.some ends.rest_is
    | inr next ↦ none_field (base + length bad.front) next.item next.more fault
        (subst (λ (t : List ℕ). NoField (base + length bad.front) t fault) next.parts bad.fails) next.next
  ]

  is_refused : (base : ℕ) (bytes : List ℕ) (c : C) (fault : WireFault)
      → IsRefused members required base bytes fault → Spells members required base bytes c → ⊥
  is_refused base bytes c fault bad is = elim (after_front base bad.fields is.fields bad.front (bad.item.text ++ bad.rest) bytes bad.are is.are bad.parts) [
    | inl ends ↦ no_text (base + length bad.front) bad.item bad.rest bad.next ends.rest_is
    | inr next ↦
        let same = one_field (base + length bad.front) bad.item next.item bad.rest next.more bad.next next.next next.parts in
        let said = within_says members (next.item ∷ bad.fields) is.fields c next.within is.says in
        members.none bad.item bad.fields bad.content said.0 fault bad.says bad.fails
        (subst (λ (t : Item). members.says (t ∷ bad.fields) said.0) (sym same) said.1)
  ]

  is_incomplete : (base : ℕ) (bytes : List ℕ) (c : C) (fault : WireFault)
      → IsIncomplete members required base bytes fault → Spells members required base bytes c → ⊥
  is_incomplete base bytes c fault bad is =
      let same = one_fields base bad.fields is.fields bytes bad.are is.are in
      let t : true ≡ false = sym is.complete ∙ (ap (λ (t : List Item). has_number required t) (sym same) ∙ bad.incomplete) in
      cc

  pub none_spelled : (base : ℕ) (bytes : List ℕ) (c : C) (fault : WireFault) → Faults members required base bytes fault
      → Spells members required base bytes c → ⊥
  none_spelled base bytes c fault bad is = elim bad [
    | inl x ↦ ends_badly base bytes c fault x is
    | inr (inl x) ↦ is_refused base bytes c fault x is
    | inr (inr x) ↦ is_incomplete base bytes c fault x is
  ]

-- ---- one fault

-- b begins with a, and what stands behind a is the rest of b and what stands behind b
record BeginsLonger (a b x y : List ℕ) : Type 0 where
  more : List ℕ
  front : b ≡ a ++ more
  rest : x ≡ more ++ y

either_front : (a b x y : List ℕ) → a ++ x ≡ b ++ y → BeginsLonger a b x y ⊎ BeginsLonger b a y x
either_front [] b x y e = inl (record { more = b; front = refl; rest = e })
either_front (c ∷ a) [] x y e = inr (record { more = c ∷ a; front = refl; rest = sym e })
either_front (c ∷ a) (d ∷ b) x y e =
    let same : c ≡ d = cc in
    let tail : a ++ x ≡ b ++ y = cc in
    elim (either_front a b x y tail) [
      | inl r ↦ inl (record { more = r.more; front = let f = r.front in cc; rest = r.rest })
      | inr r ↦ inr (record { more = r.more; front = let f = r.front in cc; rest = r.rest })
    ]

module _ {C : Type 0} (members : Member C) (required base : ℕ) where
  -- fields that are read, and what comes next is no further field of any message
  record Stops (bytes : List ℕ) : Type 0 where
    fields : List Item
    front : List ℕ
    rest : List ℕ
    content : C
    parts : bytes ≡ front ++ rest
    are : IsFields base fields front
    says : members.says fields content
    stuck : (item : Item) (more : List ℕ) (d : C)
        → rest ≡ item.text ++ more → IsField (base + length front) item → members.says (item ∷ fields) d → ⊥

  -- the fields, the bytes that spell them, and the bytes left are the same
  record SameStop (fs gs : List Item) (a b x y : List ℕ) : Type 0 where
    fields : fs ≡ gs
    front : a ≡ b
    rest : x ≡ y

  reach_same : (bytes : List ℕ) (p q : Stops bytes)
      → BeginsLonger p.front q.front p.rest q.rest → SameStop p.fields q.fields p.front q.front p.rest q.rest
  reach_same bytes p q r = elim (after_front base p.fields q.fields p.front r.more q.front p.are q.are r.front) [
    | inl ends ↦
        let empty = ends.rest_is in
        record {
          fields = ends.fields;
          front = sym (r.front ∙ (ap (λ (t : List ℕ). p.front ++ t) empty ∙ append-nil p.front));
          rest = r.rest ∙ ap (λ (t : List ℕ). t ++ q.rest) empty;
        }
    | inr next ↦
        let said = within_says members (next.item ∷ p.fields) q.fields q.content next.within q.says in
        let parts : p.rest ≡ next.item.text ++ (next.more ++ q.rest) = r.rest ∙
        (ap (λ (t : List ℕ). t ++ q.rest) next.parts ∙ append_assoc next.item.text next.more q.rest) in
        absurd (p.stuck next.item (next.more ++ q.rest) said.0 parts next.next said.1)
  ]

  same_stop : (bytes : List ℕ) (p q : Stops bytes) → SameStop p.fields q.fields p.front q.front p.rest q.rest
  same_stop bytes p q = elim (either_front p.front q.front p.rest q.rest (sym p.parts ∙ q.parts)) [
    | inl r ↦ reach_same bytes p q r
    | inr r ↦
        let s = reach_same bytes q p r in
        record { fields = sym s.fields; front = sym s.front; rest = sym s.rest }
  ]

  -- reading stops before what is no field
  abbrev badly_stops : (bytes : List ℕ) (fault : WireFault) → EndsBadly members required base bytes fault → Stops bytes
  badly_stops bytes fault bad = record {
    fields = bad.fields;
    front = bad.front;
    rest = bad.rest;
    content = bad.content;
    parts = bad.parts;
    are = bad.are;
    says = bad.says;
    stuck = λ item more d e is says. none_field (base + length bad.front) item more fault
        (subst (λ (t : List ℕ). NoField (base + length bad.front) t fault) e bad.fails) is;
  }

  -- reading stops before a field that a member refuses
  abbrev refused_stops : (bytes : List ℕ) (fault : WireFault)
      → IsRefused members required base bytes fault → Stops bytes
  refused_stops bytes fault bad = record {
    fields = bad.fields;
    front = bad.front;
    rest = bad.item.text ++ bad.rest;
    content = bad.content;
    parts = bad.parts;
    are = bad.are;
    says = bad.says;
    stuck = λ item more d e is says.
        let same = one_field (base + length bad.front) bad.item item bad.rest more bad.next is e in
        members.none bad.item bad.fields bad.content d fault bad.says bad.fails (subst (λ (t : Item). members.says (t ∷ bad.fields) d) (sym same) says);
  }

  -- reading stops at the end, where the required field is missing
  abbrev incomplete_stops : (bytes : List ℕ) (fault : WireFault)
      → IsIncomplete members required base bytes fault → Stops bytes
  incomplete_stops bytes fault bad = record {
    fields = bad.fields;
    front = bytes;
    rest = [];
    content = bad.content;
    parts = sym (append-nil bytes);
    are = bad.are;
    says = bad.says;
    stuck = λ item more d e is says. no_text (base + length bytes) item more is (sym e);
  }

  badly_badly : (bytes : List ℕ) (e f : WireFault)
      → EndsBadly members required base bytes e → EndsBadly members required base bytes f → e ≡ f
  badly_badly bytes e f p q =
      let s = same_stop bytes (badly_stops bytes e p) (badly_stops bytes f q) in
      let front = subst (λ (t : List ℕ). NoField (base + length t) p.rest e) s.front p.fails in
      one_no_field (base + length q.front) q.rest e f (subst (λ (t : List ℕ). NoField (base + length q.front) t e) s.rest front) q.fails

  badly_refused : (bytes : List ℕ) (e f : WireFault)
      → EndsBadly members required base bytes e → IsRefused members required base bytes f → ⊥
  badly_refused bytes e f p q =
      let s = same_stop bytes (badly_stops bytes e p) (refused_stops bytes f q) in
      let front = subst (λ (t : List ℕ). NoField (base + length t) p.rest e) s.front p.fails in
      none_field (base + length q.front) q.item q.rest e (subst (λ (t : List ℕ). NoField (base + length q.front) t e) s.rest front) q.next

  badly_incomplete : (bytes : List ℕ) (e f : WireFault)
      → EndsBadly members required base bytes e → IsIncomplete members required base bytes f → ⊥
  badly_incomplete bytes e f p q =
      let s = same_stop bytes (badly_stops bytes e p) (incomplete_stops bytes f q) in p.some s.rest

  refused_incomplete : (bytes : List ℕ) (e f : WireFault)
      → IsRefused members required base bytes e → IsIncomplete members required base bytes f → ⊥
  refused_incomplete bytes e f p q =
      let s = same_stop bytes (refused_stops bytes e p) (incomplete_stops bytes f q) in
      no_text (base + length p.front) p.item p.rest p.next s.rest

  module _ (single : (item : Item) (c : C) (e f : WireFault)
      → members.refuses item c e → members.refuses item c f → e ≡ f) where
    refused_refused : (bytes : List ℕ) (e f : WireFault)
        → IsRefused members required base bytes e → IsRefused members required base bytes f → e ≡ f
    refused_refused bytes e f p q =
        let s = same_stop bytes (refused_stops bytes e p) (refused_stops bytes f q) in
        let next = subst (λ (t : List ℕ). IsField (base + length t) p.item) s.front p.next in
        let item = one_field (base + length q.front) p.item q.item p.rest q.rest next q.next s.rest in
        let said = subst (λ (t : List Item). members.says t p.content) s.fields p.says in
        let content = members.one q.fields p.content q.content said q.says in
        let moved = subst (λ (t : Item). members.refuses t p.content e) item p.fails in
        single q.item q.content e f (subst (λ (t : C). members.refuses q.item t e) content moved) q.fails

    -- bytes have one fault at most
    pub one_refusal : (bytes : List ℕ) (e f : WireFault)
        → Faults members required base bytes e → Faults members required base bytes f → e ≡ f
    one_refusal bytes e f (inl p) (inl q) = badly_badly bytes e f p q
    one_refusal bytes e f (inl p) (inr (inl q)) = absurd (badly_refused bytes e f p q)
    one_refusal bytes e f (inl p) (inr (inr q)) = absurd (badly_incomplete bytes e f p q)
    one_refusal bytes e f (inr (inl p)) (inl q) = absurd (badly_refused bytes f e q p)
    one_refusal bytes e f (inr (inl p)) (inr (inl q)) = refused_refused bytes e f p q
    one_refusal bytes e f (inr (inl p)) (inr (inr q)) = absurd (refused_incomplete bytes e f p q)
    one_refusal bytes e f (inr (inr p)) (inl q) = absurd (badly_incomplete bytes f e q p)
    one_refusal bytes e f (inr (inr p)) (inr (inl q)) = absurd (refused_incomplete bytes f e q p)
    one_refusal bytes e f (inr (inr p)) (inr (inr q)) = p.fails ∙ sym q.fails
