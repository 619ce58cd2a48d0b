-- Tests that bytes must pass, one after the other (this project's). Each test finds something or fails with a fault,
-- and the next test comes only if it finds something. A test carries its laws, so a list of tests has them, too: it
-- finds at most one thing; if it fails, it finds nothing; and it fails with one fault (which of several faults of types
-- is unspecified).
use Rattle.std.specs.Prelude.{◌≡◌, ℕ, List, ◌⊎◌}
use Rattle.std.proofs.Common.{sym, ◌∙◌, subst, inl, inr}
use Rattle.orc_wire.specs.declared.fault.WireFault.{WireFault}
use Rattle.orc_wire.specs.Members.{Member}
use Rattle.orc_wire.specs.Spells.{Spells, Faults}
use Rattle.orc_wire.specs.laws.SpellsLaws.{one_spelled, none_spelled}
use Rattle.orc_wire.specs.declared.type_msg.TypeMsg.{TypeMsg}
use Rattle.orc_values.specs.Shapes.{Shape}
use Rattle.orc_types.specs.Schemas.{HasTypes}
use Rattle.orc_types.specs.Faults.{TypesFault}
use Rattle.orc_trees.specs.declared.fault.TypeFault.{TypeFault}
use Rattle.orc_trees.specs.declared.fault.TypeFault.TheVariants.{OutOfMemory}
use Rattle.orc_types.proofs.Trees.{one_schema}
use Rattle.orc_types.proofs.Exclusion.{no_schema}
use Rattle.orc_tail.specs.declared.fault.FileFault.{FileFault}
use Rattle.orc_tail.specs.declared.fault.FileFault.TheVariants.{BadTypes}

-- the fault is `BadTypes`
abbrev pub IsOfTypes : FileFault → Type 0
IsOfTypes fault = (why : TypeFault) × (fault ≡ BadTypes why)

-- two faults are equal, or both are `BadTypes`
abbrev pub AreAlike : FileFault → FileFault → Type 0
AreAlike e f = (e ≡ f) ⊎ (IsOfTypes e × IsOfTypes f)

-- what a test finds, and the faults with which it fails; and its laws
pub record Test (A : Type 0) : Type 1 where
  pub finds : A → Type 0
  pub fails : FileFault → Type 0
  pub one : (a b : A) → finds a → finds b → a ≡ b
  pub none : (a : A) (fault : FileFault) → fails fault → finds a → ⊥
  pub single : (e f : FileFault) → fails e → fails f → AreAlike e f

-- finds this, and tests nothing
abbrev pub gives : {A : Type 0} → A → Test A
gives a = record {
  finds = λ b. b ≡ a;
  fails = λ fault. ⊥;
  one = λ b c p q. p ∙ sym q;
  none = λ b fault bad is. bad;
  single = λ e f p q. absurd p;
}

pub one_check : {A : Type 0} (P : Type 0) (fault : FileFault) (rest : Test A) (e f : FileFault)
    → ((P → ⊥) × (e ≡ fault)) ⊎ (P × rest.fails e)
    → ((P → ⊥) × (f ≡ fault)) ⊎ (P × rest.fails f) → AreAlike e f
one_check P fault rest e f (inl p) (inl q) = inl (p.1 ∙ sym q.1)
one_check P fault rest e f (inl p) (inr q) = absurd (p.0 q.0)
one_check P fault rest e f (inr p) (inl q) = absurd (q.0 p.0)
one_check P fault rest e f (inr p) (inr q) = rest.single e f p.1 q.1

-- P must hold, else the test fails with `fault`; then the rest
abbrev pub check : {A : Type 0} → Type 0 → FileFault → Test A → Test A
check P fault rest = record {
  finds = λ a. P × rest.finds a;
  fails = λ f. ((P → ⊥) × (f ≡ fault)) ⊎ (P × rest.fails f);
  one = λ a b p q. rest.one a b p.1 q.1;
  none = λ a f bad is. elim bad [ inl here ↦ here.0 is.0 | inr later ↦ rest.none a f later.1 is.1 ];
  single = one_check P fault rest;
}

pub fails_once : {A B : Type 0} (test : Test A) (rest : A → Test B) (b : B) (f : FileFault)
    → test.fails f ⊎ ((a : A) × test.finds a × (rest a).fails f) → (a : A) × test.finds a × (rest a).finds b → ⊥
fails_once test rest b f (inl here) is = test.none is.0 f here is.1
fails_once {A} test rest b f (inr later) is =
    (rest is.0).none b f (subst (λ (a : A). (rest a).fails f) (test.one later.0 is.0 later.1 is.1) later.2) is.2

pub one_then : {A B : Type 0} (test : Test A) (rest : A → Test B) (e f : FileFault)
    → test.fails e ⊎ ((a : A) × test.finds a × (rest a).fails e)
    → test.fails f ⊎ ((a : A) × test.finds a × (rest a).fails f) → AreAlike e f
one_then test rest e f (inl p) (inl q) = test.single e f p q
one_then test rest e f (inl p) (inr q) = absurd (test.none q.0 e p q.1)
one_then test rest e f (inr p) (inl q) = absurd (test.none p.0 f q p.1)
one_then {A} test rest e f (inr p) (inr q) =
    (rest q.0).single e f (subst (λ (a : A). (rest a).fails e) (test.one p.0 q.0 p.1 q.1) p.2) q.2

-- the rest needs what the test finds
infixr 5 ◌then◌
-- one test and then another, which may use what the first one found
abbrev pub ◌then◌ : {A B : Type 0} → Test A → (A → Test B) → Test B
◌then◌ {A} {B} test rest = record {
  finds = λ b. (a : A) × test.finds a × (rest a).finds b;
  fails = λ f. test.fails f ⊎ ((a : A) × test.finds a × (rest a).fails f);
  one = λ b c p q. (rest q.0).one b c (subst (λ (a : A). (rest a).finds b) (test.one p.0 q.0 p.1 q.1) p.2) q.2;
  none = λ b f bad is. fails_once test rest b f bad is;
  single = one_then test rest;
}

-- the bytes must spell a message, else the test fails with `fault`
abbrev pub reads : {C : Type 0} → Member C → List ℕ → FileFault → Test C
reads members bytes fault = record {
  finds = Spells members 0 0 bytes;
  fails = λ f. ((why : WireFault) × Faults members 0 0 bytes why) × (f ≡ fault);
  one = one_spelled members 0 0 bytes;
  none = λ c f bad is. none_spelled members 0 0 bytes c bad.0.0 bad.0.1 is;
  single = λ e f p q. inl (p.1 ∙ sym q.1);
}

-- the types must make a schema
abbrev pub schema_of : List TypeMsg → Test Shape
schema_of types = record {
  finds = λ s. HasTypes s types;
  fails = λ f. (why : TypeFault) × TypesFault types why × (why ≡ OutOfMemory → ⊥) × (f ≡ BadTypes why);
  one = one_schema types;
  none = λ s f bad is. bad.2 (no_schema types s bad.0 is bad.1);
  single = λ e f p q. inr ((p.0, p.3), (q.0, q.3));
}
