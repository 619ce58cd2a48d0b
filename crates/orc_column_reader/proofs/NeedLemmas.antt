-- How many values and cells are needed, as they are read.
use Rattle.std.proofs.Common.{ℕ, zero, suc, ◌+◌, ◌≤◌, ℤ, pos, Bool, true, false, List, [], ◌∷◌, length, map, refl, sym, ap, ◌∙◌, subst, arith}
use Rattle.orc_rle.specs.declared.fault.RunFault.{RunFault}
use Rattle.orc_directory.specs.declared.fault.StreamKind.{StreamKind}
use Rattle.orc_directory.specs.declared.fault.StripeFault.{StripeFault}
use Rattle.orc_column_reader.specs.Faults.{RunsFail}
use Rattle.orc_column_reader.specs.Fronts.{Precedes}
use Rattle.orc_column_reader.specs.Needs.{MarksBegin, ValuesNeeded, ElementsNeeded}
use Rattle.orc_column_reader.specs.RunFaults.{Needed, Always, Integers, IntegersFirst}
use Rattle.orc_values.proofs.Lists.{sum_more}
use Rattle.orc_column_reader.proofs.BitsLemmas.{no_digits}

-- ---- one more is needed

needed_more : (all : Bool) (known n : ℕ) → Needed all known n → Needed all (suc known) (suc n)
needed_more true known n h = ap suc h
needed_more false known n h = omega (arith, h)

needed_less : (all : Bool) (known n : ℕ) → Needed all (suc known) (suc n) → Needed all known n
needed_less true known n h = omega (arith, h)
needed_less false known n h = omega (arith, h)

needed_some : (all : Bool) (known : ℕ) → Needed all (suc known) 0 → ⊥
needed_some true known h = omega (arith, h)
needed_some false known h = omega (arith, h)

before_at : (all : Bool) (known n : ℕ) (after before : ℕ → RunFault → Type 0) (f : RunFault) → ((m : ℕ) (g : RunFault) → after m g → before (suc m) g) → Always all known after f → Needed all (suc known) n → before n f
before_at all known zero after before f p h need = absurd (needed_some all known need)
before_at all known (suc n) after before f p h need = p n f (h n (needed_less all known n need))

pub always_before : (all : Bool) (known : ℕ) (after before : ℕ → RunFault → Type 0) (f : RunFault) → ((m : ℕ) (g : RunFault) → after m g → before (suc m) g) → Always all known after f → Always all (suc known) before f
always_before all known after before f p h = λ n need. before_at all known n after before f p h need

now_at : (known n : ℕ) (stops : ℕ → RunFault → Type 0) (f : RunFault) → ((m : ℕ) → stops (suc m) f) → suc known ≤ n → stops n f
now_at known zero stops f h le = absurd (omega (arith, le))
now_at known (suc n) stops f h le = h n

pub always_now : (known : ℕ) (stops : ℕ → RunFault → Type 0) (f : RunFault) → ((m : ℕ) → stops (suc m) f) → Always false (suc known) stops f
always_now known stops f h = λ n le. now_at known n stops f h le

pub always_end : (stops : ℕ → RunFault → Type 0) (f : RunFault) → stops 0 f → Always true 0 stops f
always_end stops f h = λ n is. subst (λ k. stops k f) (sym is) h

-- what stands for each number from one on stands for that one
pub always_all : (n : ℕ) (stops : ℕ → RunFault → Type 0) (f : RunFault) → Always false n stops f → Always true n stops f
always_all n stops f h = λ k is. h k (omega (arith, is))

-- ---- of a stream's fault

pub runs_more : (kind : StreamKind) (column : ℕ) (all : Bool) (n : ℕ) (after before : ℕ → RunFault → Type 0) (f : StripeFault) → ((m : ℕ) (g : RunFault) → after m g → before (suc m) g)
    → RunsFail kind column (Always all n after) f → RunsFail kind column (Always all (suc n) before) f
runs_more kind column all n after before f p h = (h.0, h.1, h.2, always_before all n after before h.0 p h.3)

pub runs_now : (kind : StreamKind) (column n : ℕ) (stops : ℕ → RunFault → Type 0) (f : StripeFault) → RunsFail kind column (λ g. (m : ℕ) → stops (suc m) g) f → RunsFail kind column (Always false (suc n) stops) f
runs_now kind column n stops f h = (h.0, h.1, h.2, always_now n stops h.0 h.3)

pub runs_all : (kind : StreamKind) (column n : ℕ) (stops : ℕ → RunFault → Type 0) (f : StripeFault) → RunsFail kind column (Always false n stops) f → RunsFail kind column (Always true n stops) f
runs_all kind column n stops f h = (h.0, h.1, h.2, always_all n stops h.0 h.3)

-- ---- values, by marks

pub values_true : (all : Bool) (n v : ℕ) (before after : List Bool → Type 0) → Precedes before after (true ∷ []) → ValuesNeeded all n after v → ValuesNeeded all (suc n) before (suc v)
values_true all n v before after p h = record { marks = true ∷ h.marks; come_first = p h.marks h.come_first; known = needed_more all (length h.marks) n h.known; counted = ap suc h.counted }

pub values_false : (all : Bool) (n v : ℕ) (before after : List Bool → Type 0) → Precedes before after (false ∷ []) → ValuesNeeded all n after v → ValuesNeeded all (suc n) before v
values_false all n v before after p h = record { marks = false ∷ h.marks; come_first = p h.marks h.come_first; known = needed_more all (length h.marks) n h.known; counted = h.counted }

pub values_now : (n : ℕ) (before after : List Bool → Type 0) → Precedes before after (true ∷ []) → after [] → ValuesNeeded false (suc n) before 1
values_now n before after p none = record { marks = true ∷ []; come_first = p [] none; known = omega arith; counted = refl }

pub values_end : (before : List Bool → Type 0) → before [] → ValuesNeeded true 0 before 0
values_end before none = record { marks = []; come_first = none; known = refl; counted = refl }

pub values_none : (n : ℕ) (before : List Bool → Type 0) → before [] → ValuesNeeded false n before 0
values_none n before none = record { marks = []; come_first = none; known = omega arith; counted = refl }

pub values_map : (all : Bool) (n v : ℕ) (one other : List Bool → Type 0) → ((marks : List Bool) → one marks → other marks) → ValuesNeeded all n one v → ValuesNeeded all n other v
values_map all n v one other p h = record { marks = h.marks; come_first = p h.marks h.come_first; known = h.known; counted = h.counted }

-- ---- elements, by lengths

pub elements_more : (all : Bool) (n size e : ℕ) (before after : List ℤ → Type 0) → Precedes before after (pos size ∷ []) → ElementsNeeded all n after e → ElementsNeeded all (suc n) before (size + e)
elements_more all n size e before after p h = record {
  lengths = size ∷ h.lengths;
  come_first = p (map pos h.lengths) h.come_first;
  known = needed_more all (length h.lengths) n h.known;
  counted = ap (λ k. size + k) h.counted ∙ sym (sum_more size h.lengths);
}

pub elements_now : (n size : ℕ) (before after : List ℤ → Type 0) → Precedes before after (pos size ∷ []) → after [] → ElementsNeeded false (suc n) before size
elements_now n size before after p none = record { lengths = size ∷ []; come_first = p [] none; known = omega arith; counted = omega (arith, sum_more size []) }

pub elements_end : (before : List ℤ → Type 0) → before [] → ElementsNeeded true 0 before 0
elements_end before none = record { lengths = []; come_first = none; known = refl; counted = refl }

pub elements_none : (n : ℕ) (before : List ℤ → Type 0) → before [] → ElementsNeeded false n before 0
elements_none n before none = record { lengths = []; come_first = none; known = omega arith; counted = refl }

pub elements_map : (all : Bool) (n e : ℕ) (one other : List ℤ → Type 0) → ((lengths : List ℤ) → one lengths → other lengths) → ElementsNeeded all n one e → ElementsNeeded all n other e
elements_map all n e one other p h = record { lengths = h.lengths; come_first = p (map pos h.lengths) h.come_first; known = h.known; counted = h.counted }

-- ---- nothing comes first

pub no_marks : (bytes : List ℕ) → MarksBegin bytes []
no_marks [] = refl
no_marks (b ∷ bs) = record { packed = []; runs = ([], b ∷ bs, [], refl, ([], (refl, refl))); more = []; digits_are = no_digits }

pub no_integers : (from : Integers) → IntegersFirst from []
no_integers from = ([], from.bytes, [], refl, ([], (refl, refl)))
