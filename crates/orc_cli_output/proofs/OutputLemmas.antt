-- Known bytes that grow step by step.
use Rattle.std.proofs.Common.{◌≡◌, ◌⊎◌, ℕ, ◌<◌, List, ◌++◌, length, take, sym, ap, ◌∙◌, append_assoc, Some, None, Option, Result, Ok, Err, IsErrAnd, IfErr, inl, inr, subst}
use Rattle.std.specs.Io.KnownBytes.{Appends, Keeps}
use Rattle.orc_tail.specs.declared.fault.FileFault.{FileFault}
use Rattle.orc_tail.specs.declared.fault.FileFault.TheVariants as file
use Rattle.orc_cli_output.specs.declared.fault.CliFault.{CliFault}
use Rattle.orc_cli_output.specs.declared.fault.CliFault.TheVariants.{File}
use Rattle.orc_cli_output.specs.Output.{AppendsPart, IsWantOfMemory, IsOutputOrMemory, write_failed}

pub appends_more : (old mid new : Option (List ℕ)) (x y : List ℕ) → Appends old mid x → Appends mid new y → Appends old new (x ++ y)
appends_more None mid new x y p q = tt
appends_more (Some a) None new x y p q = absurd p
appends_more (Some a) (Some b) None x y p q = absurd q
appends_more (Some a) (Some b) (Some c) x y p q = q ∙ (ap (λ (t : List ℕ). t ++ y) p ∙ append_assoc a x y)

pub appends_kept : (old mid new : Option (List ℕ)) (x : List ℕ) → Appends old mid x → Keeps mid new → Appends old new x
appends_kept None mid new x p q = tt
appends_kept (Some a) None new x p q = absurd p
appends_kept (Some a) (Some b) None x p q = absurd q
appends_kept (Some a) (Some b) (Some c) x p q = q ∙ p

pub kept_appends : (old mid new : Option (List ℕ)) (x : List ℕ) → Keeps old mid → Appends mid new x → Appends old new x
kept_appends None mid new x p q = tt
kept_appends (Some a) None new x p q = absurd p
kept_appends (Some a) (Some b) None x p q = absurd q
kept_appends (Some a) (Some b) (Some c) x p q = q ∙ ap (λ (t : List ℕ). t ++ x) p

-- part of the rest is part of the whole
pub part_after : (old mid new : Option (List ℕ)) (at : ℕ) (bytes : List ℕ) → at < length bytes → Appends old mid (take at bytes) → Keeps mid new → AppendsPart old new bytes
part_after old mid new at bytes lt p q = (at, lt, appends_kept old mid new (take at bytes) p q)

-- want of memory, said as a fault of the layer of files, is that layer's own
pub file_want : (why : FileFault) → IsWantOfMemory (File why) → why ≡ file.OutOfMemory
file_want why (inl e) = cc
file_want why (inr (inl e)) = absurd (cc)
file_want why (inr (inr (inl e))) = absurd (cc)
file_want why (inr (inr (inr e))) = absurd (cc)

-- the exit of a `?` on a want of memory
pub outside_from : (r : Result (Unit {0}) CliFault) (fault : CliFault) → IsWantOfMemory fault → IsErrAnd r (λ y. y ≡ fault) → IfErr r IsOutputOrMemory
outside_from (Ok _) fault want is = tt
outside_from (Err e) fault want is = inr (subst IsWantOfMemory (sym is) want)

-- what the exit of a `?` answers
pub err_gives : {T E : Type 0} (r : Result T E) (fault : E) → IsErrAnd r (λ y. y ≡ fault) → r ≡ Err fault
err_gives (Ok _) fault is = absurd is
err_gives (Err e) fault is = ap Err is

no_want : (fault : CliFault) → IsWantOfMemory fault → fault ≡ write_failed → ⊥
no_want fault (inl h) failed = cc
no_want fault (inr (inl h)) failed = cc
no_want fault (inr (inr (inl h))) failed = cc
no_want fault (inr (inr (inr h))) failed = cc

-- an output that failed has a part
pub part_of : (fault : CliFault) (P Q : Type 0) → ((fault ≡ write_failed) × P) ⊎ (IsWantOfMemory fault × Q) → fault ≡ write_failed → P
part_of fault P Q (inl h) failed = h.1
part_of fault P Q (inr h) failed = absurd (no_want fault h.0 failed)

pub same_file : (why other : FileFault) → File why ≡ File other → why ≡ other
same_file why other e = cc
