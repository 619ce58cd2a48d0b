-- Faults of a run: at its first byte, and never for want of memory.
use Rattle.std.proofs.Common.{◌≡◌, ◌∙◌, sym, ap, refl, List, ℕ, inl, [], inr, ◌∷◌, Bool, false, ◌+◌, ◌%◌, true}
use Rattle.orc_bits.specs.Varint.{NoVarint}
use Rattle.orc_bits.specs.declared.fault.BitFault.{BitFault}
use Rattle.orc_bits.specs.declared.fault.BitFault.TheVariants as bits
use Rattle.orc_rle.specs.declared.fault.RunFault.{RunFault}
use Rattle.orc_rle.specs.declared.fault.RunFault.TheVariants.{OutOfMemory, Short, BadDelta, PatchOrder, PatchPlace, PatchRange, ValueRange}
use Rattle.orc_rle.specs.Stream.{at_place}
use Rattle.orc_rle.specs.Values.{run_fault}
use Rattle.orc_rle.specs.Delta.{NoStart, NoDelta}
use Rattle.orc_rle.specs.Direct.{NoDirect}
use Rattle.orc_rle.specs.Patches.{gap_of}
use Rattle.orc_rle.specs.Patching.{NoPatch, NoPatches, put_patch}
use Rattle.orc_bits.specs.Width.{width_at}
use Rattle.orc_rle.specs.Header.{code_in}
use Rattle.orc_rle.specs.Patched.{NoPatched}
use Rattle.orc_rle.specs.declared.sign.Sign.{Sign}
use Rattle.orc_rle.specs.RunTwo.{NoShapeTwo, NoRunTwo}

-- a fault at place 0 that is not want of memory
pub record IsAtStart (fault : RunFault) : Type 0 where
  pub place : fault ≡ at_place fault 0
  pub no_memory : fault ≡ OutOfMemory → ⊥

pub plain : (fault known : RunFault)
    → fault ≡ known → at_place known 0 ≡ known → (known ≡ OutOfMemory → ⊥) → IsAtStart fault
plain fault known e place none = record {
  place = e ∙ (sym place ∙ sym (ap (λ (k : RunFault). at_place k 0) e));
  no_memory = λ h. none (sym e ∙ h);
}

pub short_plain : (fault : RunFault) → fault ≡ Short 0 → IsAtStart fault
short_plain fault e = plain fault (Short 0) e refl (λ h. absurd cc)

pub missing_plain : (rest : List ℕ) (fault : RunFault) (why : BitFault)
    → NoVarint rest why → fault ≡ run_fault why → IsAtStart fault
missing_plain rest fault bits.Short none e = plain fault (run_fault bits.Short) e refl (λ h. absurd cc)
missing_plain rest fault bits.TooLong none e = plain fault (run_fault bits.TooLong) e refl (λ h. absurd cc)
missing_plain rest fault bits.OutOfMemory none e = absurd none

start_plain : (rest : List ℕ) (fault : RunFault) → NoStart rest fault → IsAtStart fault
start_plain rest fault (inl p) = missing_plain rest fault p.0 p.1 p.2
start_plain rest fault (inr p) = let m = p.missing in missing_plain p.more fault m.0 m.1 m.2

pub delta_plain : (head : ℕ) (rest : List ℕ) (fault : RunFault) → NoDelta head rest fault → IsAtStart fault
delta_plain head [] fault p = short_plain fault p
delta_plain head (low ∷ rest) fault (inl p) = plain fault (BadDelta 0) p.1 refl (λ h. absurd cc)
delta_plain head (low ∷ rest) fault (inr (a, inl p)) = start_plain rest fault p
delta_plain head (low ∷ rest) fault (inr (a, inr p)) = short_plain fault p.fault_is

pub direct_plain : (head : ℕ) (rest : List ℕ) (fault : RunFault) → NoDirect head rest fault → IsAtStart fault
direct_plain head [] fault p = short_plain fault p
direct_plain head (low ∷ rest) fault p = short_plain fault p.1

patch_plain : (w pw : ℕ) (first : Bool) (from entry : ℕ) (old : List ℕ) (fault : RunFault)
    → NoPatch w pw first from entry old fault → IsAtStart fault
patch_plain w pw first from entry old fault (inl p) = plain fault (PatchOrder 0) p.fault_is refl (λ h. absurd cc)
patch_plain w pw first from entry old fault (inr (inl p)) = plain fault (PatchPlace 0) p.fault_is refl (λ h. absurd cc)
patch_plain w pw first from entry old fault (inr (inr p)) = plain fault (PatchRange 0) p.fault_is refl (λ h. absurd cc)

pub patches_plain : (w pw : ℕ) (first : Bool) (from : ℕ) (es old : List ℕ) (fault : RunFault)
    → NoPatches w pw first from es old fault → IsAtStart fault
patches_plain w pw first from [] old fault p = absurd p
patches_plain w pw first from (n ∷ es) old fault (inl p) = patch_plain w pw first from n old fault p
patches_plain w pw first from (n ∷ es) old fault (inr p) = patches_plain w pw false (from + gap_of pw n) es (put_patch w pw from n old) fault p.1

pub patched_plain : (head : ℕ) (rest : List ℕ) (fault : RunFault) → NoPatched head rest fault → IsAtStart fault
patched_plain head [] fault p = short_plain fault p
patched_plain head (low ∷ []) fault p = short_plain fault p
patched_plain head (low ∷ third ∷ []) fault p = short_plain fault p
patched_plain head (low ∷ third ∷ fourth ∷ rest) fault (inl p) = plain fault (PatchRange 0) p.1 refl (λ h. absurd cc)
patched_plain head (low ∷ third ∷ fourth ∷ rest) fault (inr (a, inl p)) = short_plain fault p.1
patched_plain head (low ∷ third ∷ fourth ∷ rest) fault (inr (a, inr p)) =
    patches_plain (width_at (code_in head)) (width_at (third % 32)) true 0 p.entries p.numbers fault p.breaks

shape_plain : (bytes : List ℕ) (fault : RunFault) → NoShapeTwo bytes fault → IsAtStart fault
shape_plain [] fault p = short_plain fault p
shape_plain (head ∷ rest) fault (inl p) = short_plain fault p.1.1
shape_plain (head ∷ rest) fault (inr (inl p)) = direct_plain head rest fault p.2
shape_plain (head ∷ rest) fault (inr (inr (inl p))) = patched_plain head rest fault p.2
shape_plain (head ∷ rest) fault (inr (inr (inr p))) = delta_plain head rest fault p.1

pub run_two_fault_plain : (sign : Sign) (bytes : List ℕ) (fault : RunFault) → NoRunTwo sign bytes fault → IsAtStart fault
run_two_fault_plain sign bytes fault (inl p) = shape_plain bytes fault p
run_two_fault_plain sign bytes fault (inr p) = plain fault (ValueRange 0) p.1 refl (λ h. absurd cc)
