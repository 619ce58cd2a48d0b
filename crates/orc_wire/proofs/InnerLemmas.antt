-- A message in a field.
use Rattle.std.proofs.Common.{◌≡◌, ℕ, List, Option, Some, None, Bool, true, false, refl, sym, ap, ◌∙◌, subst}
use Rattle.std.specs.Option.{is_some}
use Rattle.orc_wire.specs.Fields.{Item}
use Rattle.orc_wire.specs.Members.{Member, Passes}
use Rattle.orc_wire.specs.declared.fault.WireFault.{WireFault}
use Rattle.orc_wire.specs.declared.fault.WireFault.TheVariants.{RepeatedMessage}
use Rattle.orc_wire.specs.Kinds.{Allows, message, only}
use Rattle.orc_wire.specs.Spells.{bytes_of_field, Spells, Faults}
use Rattle.orc_wire.specs.laws.SpellsLaws.{none_spelled}
use Rattle.orc_wire.specs.Parts.{inside, MessageIn, MessageFails, OnlyFails, JoinsOnly}

pub message_read : {C : Type 0} (members : Member C) (required n : ℕ) (item : Item) (bytes : List ℕ) (base : ℕ) (c : C) → Some bytes ≡ bytes_of_field n item → base ≡ inside item bytes
    → Spells members required base bytes c → MessageIn members required n item (bytes_of_field n item) (Some c)
message_read {C} members required n item bytes base c e at is =
    let here : Spells members required (inside item bytes) bytes c = subst (λ (t : ℕ). Spells members required t bytes c) at is in
    subst (λ (t : Option (List ℕ)). MessageIn members required n item t (Some c)) e (c, refl, here)

pub joins_none : {C : Type 0} (o p : Option C) → is_some o ≡ false → JoinsOnly o p p
joins_none None p e = refl
joins_none (Some m) p e = let h : true ≡ false = e in absurd cc

-- ---- a field that is only tested

module _ {C : Type 0} (members : Member C) (required n : ℕ) (item : Item) where
  -- it holds no message
  pub absent_allowed : None ≡ bytes_of_field n item → Allows (message members required n) item
  absent_allowed e = λ fault bad. subst (λ (t : Option (List ℕ)). MessageFails members required n item t fault) (sym e) bad

  pub absent_passes : None ≡ bytes_of_field n item → (old : Option C) → Passes (only members required n) item old
  absent_passes e None = absent_allowed e
  absent_passes e (Some c) = λ fault bad. let h : None ≡ Some bad.0 = e ∙ bad.1 in cc

  pub absent_keeps : None ≡ bytes_of_field n item → (old new : Option C) → (only members required n).steps item old new → is_some new ≡ is_some old
  absent_keeps e None new step =
      let none : step.0 ≡ None = subst (λ (t : Option (List ℕ)). MessageIn members required n item t step.0) (sym e) step.1 in
      ap is_some (step.2 ∙ none)
  absent_keeps e (Some c) new step = ap is_some step.2.1

  module _ (bytes : List ℕ) (base : ℕ) (there : Some bytes ≡ bytes_of_field n item) (at : base ≡ inside item bytes) where
    -- it holds a message
    pub present_allowed : (c : C) × Spells members required base bytes c → Allows (message members required n) item
    present_allowed is = λ fault bad.
        let here = subst (λ (t : ℕ). Spells members required t bytes is.0) at is.1 in
        none_spelled members required (inside item bytes) bytes is.0 fault (subst (λ (t : Option (List ℕ)). MessageFails members required n item t fault) (sym there) bad) here

    pub present_fails : (fault : WireFault) → Faults members required base bytes fault → (message members required n).refuses item fault
    present_fails fault bad = subst (λ (t : Option (List ℕ)). MessageFails members required n item t fault) there (subst (λ (t : ℕ). Faults members required t bytes fault) at bad)

    -- it is the first one
    pub first_passes : (old : Option C) → is_some old ≡ false → (c : C) × Spells members required base bytes c → Passes (only members required n) item old
    first_passes None e is = present_allowed is
    first_passes (Some c) e is = let h : true ≡ false = e in absurd cc

    pub first_fails : (old : Option C) → is_some old ≡ false → (fault : WireFault) → Faults members required base bytes fault → (only members required n).refuses item old fault
    first_fails None e fault bad = present_fails fault bad
    first_fails (Some c) e fault bad = let h : true ≡ false = e in absurd cc

    pub first_keeps : (old new : Option C) → is_some old ≡ false → (only members required n).steps item old new → is_some new ≡ true
    first_keeps None new e step =
        let some : MessageIn members required n item (Some bytes) step.0 = subst (λ (t : Option (List ℕ)). MessageIn members required n item t step.0) (sym there) step.1 in
        ap is_some (step.2 ∙ some.1)
    first_keeps (Some c) new e step = let h : true ≡ false = e in absurd cc

    -- there was one before
    pub repeated_fails : (old : Option C) → is_some old ≡ true → (only members required n).refuses item old (RepeatedMessage item.place)
    repeated_fails None e = let h : false ≡ true = e in absurd cc
    repeated_fails (Some c) e = (bytes, sym there, refl)
