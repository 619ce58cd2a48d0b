-- Marks, one after the other.
use Rattle.std.proofs.Common.{◌≡◌, ◌≤◌, ℕ, zero, suc, ◌+◌, Bool, true, false, Option, Some, None, List, [], ◌∷◌, ◌++◌, length, replicate, refl, sym, ap, arith}
use Rattle.std.specs.Option.{is_some}
use Rattle.std.proofs.lemmas.List.{length-replicate}
use Rattle.orc_rle.specs.declared.fault.RunFault.{RunFault}
use Rattle.orc_column_reader.specs.Columns.{MarksLeft}
use Rattle.orc_column_reader.specs.Faults.{RunsFail}
use Rattle.orc_column_reader.specs.Fronts.{Leaves}
use Rattle.orc_column_reader.specs.RunFaults.{Always}
use Rattle.orc_column_reader.specs.RunsMet.{MarksMeet}
use Rattle.orc_column_reader.specs.declared.bits.Bits.{Bits}
use Rattle.orc_directory.specs.declared.fault.StreamKind.TheVariants.{Present}
use Rattle.orc_column_reader.proofs.NeedLemmas.{runs_more}
use Rattle.orc_column_walk.proofs.ReadLemmas.{Meets, AreRead, none_read, one_read}
use Rattle.orc_values.specs.Trues.{trues}
use Rattle.orc_values.proofs.Lists.{trues_append}

abbrev pub PresentMet : ℕ → Option Bits → Meets
PresentMet column present all n f = RunsFail Present column (Always all n (MarksMeet present)) f

few_trues : (b : Bool) → trues (b ∷ []) ≤ 1
few_trues true = omega arith
few_trues false = omega arith

-- so many marks were read, and so many of them are true
pub record MarksRead (column : ℕ) (before after : Option Bits) (count values : ℕ) : Type 0 where
  pub marks : List Bool
  pub read : AreRead (MarksLeft before) (MarksLeft after) (PresentMet column before) (PresentMet column after) count marks
  pub counted : values ≡ trues marks
  pub few : values ≤ count

pub no_marks_read : (column : ℕ) (present : Option Bits) → MarksRead column present present 0 0
no_marks_read column present = record { marks = []; read = none_read (MarksLeft present) (PresentMet column present); counted = refl; few = omega arith }

pub mark_read : (column : ℕ) (before between after : Option Bits) (count values more values' : ℕ) (mark : Bool) → MarksRead column before between count values → Leaves (MarksLeft between) (MarksLeft after) (mark ∷ [])
    → ((n : ℕ) (f : RunFault) → MarksMeet after n f → MarksMeet between (suc n) f) → more ≡ trues (mark ∷ []) → values' ≡ values + more → MarksRead column before after (count + 1) values'
mark_read column before between after count values more values' mark r leave fault im is = record {
  marks = r.marks ++ mark ∷ [];
  read = one_read (MarksLeft before) (MarksLeft between) (MarksLeft after) (PresentMet column before) (PresentMet column between) (PresentMet column after) count r.marks mark r.read leave
      (λ all n f h. runs_more Present column all n (MarksMeet after) (MarksMeet between) f fault h);
  counted = omega (arith, r.counted, im, is, trues_append r.marks (mark ∷ []));
  few = omega (arith, r.few, im, is, few_trues mark);
}

pub trues_all : (n : ℕ) → trues (replicate n true) ≡ n
trues_all zero = refl
trues_all (suc n) = ap suc (trues_all n)

-- without PRESENT nothing is null
pub all_marked : (present : Option Bits) (n : ℕ) → is_some present ≡ false → (marks : List Bool) × (length marks ≡ n) × MarksLeft present marks × (n ≡ trues marks)
all_marked None n e = let long = length-replicate n true in (replicate n true, long, ap (λ (k : ℕ). replicate k true) (sym long), sym (trues_all n))
all_marked (Some bits) n e = cc
