-- Members of a message: what the fields say of each, as a relation of their list alone (Protocol
-- Buffers encoding, "Message Structure").
use Rattle.std.specs.Prelude.{◌≡◌, List, [], ◌∷◌, ◌⊎◌, refl}
use Rattle.std.proofs.Common.{sym, ◌∙◌, ap, subst, inl, inr}
use Rattle.orc_wire.specs.declared.fault.WireFault.{WireFault}
use Rattle.orc_wire.specs.Fields.{Item, HoldsBytes}

-- What the fields say, joined in order from what each of them gives. The last field stands first in the list.
abbrev pub Joined : {V P : Type 0} → V → (V → P → V → Type 0) → (Item → P → Type 0) → List Item → V → Type 0
Joined zero join gives [] v = v ≡ zero
Joined {V} {P} zero join gives (item ∷ before) v =
    (old : V) × (part : P) × Joined zero join gives before old × gives item part × join old part v

-- How a member is read: what a list of fields says, what one more field makes of a value, and which fault it has.
pub record Member (V : Type 0) : Type 1 where
  pub says : List Item → V → Type 0
  pub steps : Item → V → V → Type 0
  pub refuses : Item → V → WireFault → Type 0
  pub start : V
  pub starts : says [] start
  pub grow : (item : Item) (before : List Item) (v w : V) → says before v → steps item v w → says (item ∷ before) w
  pub back : (item : Item) (before : List Item) (w : V) → says (item ∷ before) w → (v : V) × says before v
  pub one : (fields : List Item) (v w : V) → says fields v → says fields w → v ≡ w
  pub none : (item : Item) (before : List Item) (v w : V) (fault : WireFault)
      → says before v → refuses item v fault → says (item ∷ before) w → ⊥
  pub cover : (item : Item) (v : V)
      → HoldsBytes item.payload → ((w : V) × steps item v w) ⊎ ((fault : WireFault) × refuses item v fault)

-- If the value is v, then the member does not refuse the field.
abbrev pub Passes : {V : Type 0} → Member V → Item → V → Type 0
Passes member item v = (fault : WireFault) → member.refuses item v fault → ⊥

module _ {V P : Type 0} (zero : V) (join : V → P → V → Type 0) (gives : Item → P → Type 0)
    (refuses : Item → V → WireFault → Type 0)
    (one_part : (item : Item) (a b : P) → gives item a → gives item b → a ≡ b)
    (one_join : (old : V) (part : P) (v w : V) → join old part v → join old part w → v ≡ w)
    (no_step : (item : Item) (old : V) (part : P) (v : V) (fault : WireFault)
    → refuses item old fault → gives item part → join old part v → ⊥)
    (some_step : (item : Item) (old : V)
    → HoldsBytes item.payload
    → ((v : V) × ((part : P) × gives item part × join old part v))
    ⊎ ((fault : WireFault) × refuses item old fault)) where
  pub one_joined : (fields : List Item) (v w : V)
      → Joined zero join gives fields v → Joined zero join gives fields w → v ≡ w
  one_joined [] v w p q = p ∙ sym q
  one_joined (item ∷ before) v w p q =
      let olds = one_joined before q.0 p.0 q.2 p.2 in
      let parts = one_part item q.1 p.1 q.3 p.3 in
      let moved = subst (λ (t : P). join p.0 t w) parts (subst (λ (t : V). join t q.1 w) olds q.4) in
      one_join p.0 p.1 v w p.4 moved

  pub none_joined : (item : Item) (before : List Item) (v w : V) (fault : WireFault)
      → Joined zero join gives before v → refuses item v fault → Joined zero join gives (item ∷ before) w → ⊥
  none_joined item before v w fault says bad h =
      let olds = one_joined before h.0 v h.2 says in
      no_step item v h.1 w fault bad h.3 (subst (λ (t : V). join t h.1 w) olds h.4)

  -- the member that joins what each of its fields gives, in order
  abbrev pub joined_member : Member V
  joined_member = record {
    says = Joined zero join gives;
    steps = λ item v w. (part : P) × gives item part × join v part w;
    refuses = refuses;
    start = zero;
    starts = refl;
    grow = λ item before v w says step. (v, step.0, says, step.1, step.2);
    back = λ item before w h. (h.0, h.2);
    one = one_joined;
    none = none_joined;
    cover = some_step;
  }

-- two members of one message
pub one_pair : {V W : Type 0} (a b : V × W) → a.0 ≡ b.0 → a.1 ≡ b.1 → a ≡ b
one_pair {V} {W} a b p q = ap (λ (t : V). let r : V × W = (t, a.1) in r) p ∙ ap (λ (t : W). let r : V × W = (b.0, t) in r) q

pub pair_steps : {V W : Type 0} (a : Member V) (b : Member W) (item : Item) (v : V × W)
    → HoldsBytes item.payload
    → ((w : V × W) × (a.steps item v.0 w.0 × b.steps item v.1 w.1))
    ⊎ ((fault : WireFault) × (a.refuses item v.0 fault ⊎ b.refuses item v.1 fault))
pair_steps a b item v are = elim (a.cover item v.0 are) [
  | inl x ↦ elim (b.cover item v.1 are) [ inl y ↦ inl ((x.0, y.0), (x.1, y.1)) | inr bad ↦ inr (bad.0, inr bad.1) ]
  | inr bad ↦ inr (bad.0, inl bad.1)
]

infixr 5 ◌and◌
-- one member of a message, and others
abbrev pub ◌and◌ : {V W : Type 0} → Member V → Member W → Member (V × W)
◌and◌ {V} {W} a b = record {
  says = λ fields v. a.says fields v.0 × b.says fields v.1;
  steps = λ item v w. a.steps item v.0 w.0 × b.steps item v.1 w.1;
  refuses = λ item v fault. a.refuses item v.0 fault ⊎ b.refuses item v.1 fault;
  start = (a.start, b.start);
  starts = (a.starts, b.starts);
  grow = λ item before v w says step. (a.grow item before v.0 w.0 says.0 step.0, b.grow item before v.1 w.1 says.1 step.1);
  back = λ item before w h. let p = a.back item before w.0 h.0 in let q = b.back item before w.1 h.1 in ((p.0, q.0), (p.1, q.1));
  one = λ fields v w p q. one_pair v w (a.one fields v.0 w.0 p.0 q.0) (b.one fields v.1 w.1 p.1 q.1);
  none = λ item before v w fault says bad h.
      elim bad [ inl x ↦ a.none item before v.0 w.0 fault says.0 x h.0 | inr x ↦ b.none item before v.1 w.1 fault says.1 x h.1 ];
  cover = pair_steps a b;
}

-- a record's fields as pairs, and back
pub record FieldPairs (V W : Type 0) : Type 0 where
  pub into : W → V
  pub from : V → W
  pub there : (w : W) → from (into w) ≡ w
  pub here : (v : V) → into (from v) ≡ v

pub shaped_steps : {V W : Type 0} (shape : FieldPairs V W) (m : Member V) (item : Item) (v : W)
    → HoldsBytes item.payload
    → ((w : W) × m.steps item (shape.into v) (shape.into w))
    ⊎ ((fault : WireFault) × m.refuses item (shape.into v) fault)
shaped_steps {V} {W} shape m item v are = elim (m.cover item (shape.into v) are) [
  | inl x ↦ inl (shape.from x.0, subst (λ (u : V). m.steps item (shape.into v) u) (sym (shape.here x.0)) x.1)
  | inr bad ↦ inr bad
]

-- the members of a record
abbrev pub shaped : {V W : Type 0} → FieldPairs V W → Member V → Member W
shaped {V} {W} shape m = record {
  says = λ fields w. m.says fields (shape.into w);
  steps = λ item v w. m.steps item (shape.into v) (shape.into w);
  refuses = λ item w fault. m.refuses item (shape.into w) fault;
  start = shape.from m.start;
  starts = subst (λ (v : V). m.says [] v) (sym (shape.here m.start)) m.starts;
  grow = λ item before v w says step. m.grow item before (shape.into v) (shape.into w) says step;
  back = λ item before w h. let p = m.back item before (shape.into w) h in (shape.from p.0, subst (λ (v : V). m.says before v) (sym (shape.here p.0)) p.1);
  one = λ fields v w p q. sym (shape.there v) ∙ (ap shape.from (m.one fields (shape.into v) (shape.into w) p q) ∙ shape.there w);
  none = λ item before v w fault says bad h. m.none item before (shape.into v) (shape.into w) fault says bad h;
  cover = shaped_steps shape m;
}
