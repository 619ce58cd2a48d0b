use Rattle.std.specs.Prelude.{IfOk, IfErr, OnOk}
use Rattle.std.proofs.Common.{◌≢◌, ℕ, suc, Bool, false, [], ◌∷◌, sym, subst}
use Rattle.orc_values.specs.Own.{own_cell}
use Rattle.orc_values.specs.declared.kind.Scalar.TheVariants as kind
use Rattle.orc_column_reader.specs.Fronts.{Leaves}
use Rattle.orc_column_reader.specs.ReaderFaults.{ValuesMeet}
use Rattle.orc_directory.specs.declared.fault.StripeFault.{StripeFault}
use Rattle.orc_directory.specs.declared.fault.StripeFault.TheVariants.{OutOfMemory}
use Rattle.orc_column_walk.specs.OwnLeft.{OwnValuesLeft}
use Rattle.orc_column_walk.proofs.NextLemmas.{is_scalar}
use Rattle.orc_column_walk.proofs.next_value.NumberValuesNextValue.next.Goals as goal

pub returns-in-Long-clause-found : goal.returns-in-Long-clause-found
returns-in-Long-clause-found c =
    subst (λ s. IfOk c.next_scalar.result (λ own. Leaves (OwnValuesLeft s c.args.source.now) (OwnValuesLeft s c.next_scalar.new.self) (own_cell own ∷ [])))
    (sym (is_scalar c.args.tree.now c.in-Scalar.kind c.in-Scalar.field-1 kind.Long c.in-Scalar.is c.in-Long.is)) c.next_scalar.ensures.found

pub returns-in-Long-clause-before : goal.returns-in-Long-clause-before
returns-in-Long-clause-before c =
    subst (λ s. OnOk c.next_scalar.result ((all : Bool) (n : ℕ) (f : StripeFault) → ValuesMeet s c.next_scalar.new.self all n f → ValuesMeet s c.args.source.now all (suc n) f))
    (sym (is_scalar c.args.tree.now c.in-Scalar.kind c.in-Scalar.field-1 kind.Long c.in-Scalar.is c.in-Long.is)) c.next_scalar.ensures.before

pub returns-in-Long-clause-fault : goal.returns-in-Long-clause-fault
returns-in-Long-clause-fault c =
    subst (λ s. IfErr c.next_scalar.result (λ cause. cause ≢ OutOfMemory → (n : ℕ) → ValuesMeet s c.args.source.now false (suc n) cause))
    (sym (is_scalar c.args.tree.now c.in-Scalar.kind c.in-Scalar.field-1 kind.Long c.in-Scalar.is c.in-Long.is)) c.next_scalar.ensures.fault

pub returns-in-Int-clause-found : goal.returns-in-Int-clause-found
returns-in-Int-clause-found c =
    subst (λ s. IfOk c.next_scalar-in-Int.result (λ own. Leaves (OwnValuesLeft s c.args.source.now) (OwnValuesLeft s c.next_scalar-in-Int.new.self) (own_cell own ∷ [])))
    (sym (is_scalar c.args.tree.now c.in-Scalar.kind c.in-Scalar.field-1 kind.Int c.in-Scalar.is c.in-Int.is)) c.next_scalar-in-Int.ensures.found

pub returns-in-Int-clause-before : goal.returns-in-Int-clause-before
returns-in-Int-clause-before c =
    subst (λ s. OnOk c.next_scalar-in-Int.result ((all : Bool) (n : ℕ) (f : StripeFault) → ValuesMeet s c.next_scalar-in-Int.new.self all n f → ValuesMeet s c.args.source.now all (suc n) f))
    (sym (is_scalar c.args.tree.now c.in-Scalar.kind c.in-Scalar.field-1 kind.Int c.in-Scalar.is c.in-Int.is)) c.next_scalar-in-Int.ensures.before

pub returns-in-Int-clause-fault : goal.returns-in-Int-clause-fault
returns-in-Int-clause-fault c =
    subst (λ s. IfErr c.next_scalar-in-Int.result (λ cause. cause ≢ OutOfMemory → (n : ℕ) → ValuesMeet s c.args.source.now false (suc n) cause))
    (sym (is_scalar c.args.tree.now c.in-Scalar.kind c.in-Scalar.field-1 kind.Int c.in-Scalar.is c.in-Int.is)) c.next_scalar-in-Int.ensures.fault
