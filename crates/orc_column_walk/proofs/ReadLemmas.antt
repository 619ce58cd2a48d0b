-- Values that are read one after the other, of whatever kind, to the end of their stream.
use Rattle.std.proofs.Common.{◌≡◌, ℕ, suc, ◌+◌, ◌-◌, ◌<◌, Bool, true, false, List, [], ◌∷◌, ◌++◌, length, refl, ap, ◌∙◌, subst, arith, length-append, append-nil}
use Rattle.std.proofs.lemmas.List.{nil_from_length}
use Rattle.orc_column_reader.specs.Fronts.{Leaves, Lacks}
use Rattle.orc_directory.specs.declared.fault.StripeFault.{StripeFault}
use Rattle.orc_column_reader.proofs.Fronts.{nothing, one_after_other, cells_lacking}

-- which fault is met by who needs so many values more
abbrev pub Meets : Type 1
Meets = Bool → ℕ → StripeFault → Type 0

-- These were read: they are in front of what was spelled before, and what is met after was met before.
pub record AreRead {X : Type 0} (before after : List X → Type 0) (met meets : Meets) (count : ℕ) (xs : List X) : Type 0 where
  pub counted : length xs ≡ count
  pub leave : Leaves before after xs
  pub fault : (all : Bool) (n : ℕ) (f : StripeFault) → meets all n f → met all (count + n) f

pub none_read : {X : Type 0} (before : List X → Type 0) (met : Meets) → AreRead before before met met 0 []
none_read before met = record {
  counted = refl;
  leave = nothing before;
  fault = λ all n f h. let e : n ≡ 0 + n = omega arith in subst (λ (k : ℕ). met all k f) e h;
}

pub one_read : {X : Type 0} (before between after : List X → Type 0) (met meets next : Meets) (count : ℕ) (xs : List X) (x : X) → AreRead before between met meets count xs → Leaves between after (x ∷ [])
    → ((all : Bool) (n : ℕ) (f : StripeFault) → next all n f → meets all (suc n) f) → AreRead before after met next (count + 1) (xs ++ x ∷ [])
one_read before between after met meets next count xs x r leave fault = record {
  counted = omega (arith, r.counted, length-append xs (x ∷ []));
  leave = one_after_other before between after xs (x ∷ []) r.leave leave;
  fault = λ all n f h. let e : count + suc n ≡ count + 1 + n = omega arith in subst (λ (k : ℕ). met all k f) e (r.fault all (suc n) f (fault all n f h));
}

-- the next isn't there
pub read_lacks : {X : Type 0} (before between : List X → Type 0) (met meets : Meets) (taken count : ℕ) (xs : List X) → AreRead before between met meets taken xs → taken < count → Lacks between 1 → Lacks before count
read_lacks before between met meets taken count xs r lt none = cells_lacking before between xs taken count r.counted lt r.leave none

pub read_fault : {X : Type 0} (before between : List X → Type 0) (met meets : Meets) (taken count : ℕ) (xs : List X) (f : StripeFault) → AreRead before between met meets taken xs → taken < count
    → ((n : ℕ) → meets false (suc n) f) → met false count f
read_fault before between met meets taken count xs f r lt next =
    let more : ℕ = count - taken - 1 in
    let e : taken + suc more ≡ count = omega (arith, lt) in
    subst (λ (k : ℕ). met false k f) e (r.fault false (suc more) f (next more))

-- ---- the end

pub all_read : {X : Type 0} (before after : List X → Type 0) (xs : List X) → Leaves before after xs → after [] → before xs
all_read before after xs p h = subst before (append-nil xs) (p.found [] h)

pub over_read : {X : Type 0} (before after : List X → Type 0) (xs : List X) (count : ℕ) → Leaves before after xs → length xs ≡ count → (after [] → ⊥) → (all : List X) → before all → length all ≡ count → ⊥
over_read before after xs count p e none all h is =
    let i = p.only all h (omega (arith, e, is)) in
    let l = ap length i.1 ∙ length-append xs i.0 in
    none (subst after (nil_from_length i.0 (omega (arith, l, e, is))) i.2)

pub lack_read : {X : Type 0} (before : List X → Type 0) (count : ℕ) → Lacks before count → (all : List X) → before all → length all ≡ count → ⊥
lack_read before count none all h is = none all h (omega (arith, is))

-- values are left over
pub over_fault : (met meets : Meets) (count : ℕ) (f : StripeFault) → ((all : Bool) (n : ℕ) (g : StripeFault) → meets all n g → met all (count + n) g) → meets true 0 f → met true count f
over_fault met meets count f fault h = let e : count + 0 ≡ count = omega arith in subst (λ (k : ℕ). met true k f) e (fault true 0 f h)

-- all that were to be read
pub read_on : {X : Type 0} (before after : List X → Type 0) (met meets : Meets) (taken count : ℕ) (xs : List X) → AreRead before after met meets taken xs → taken ≡ count
    → (all : Bool) (n : ℕ) (f : StripeFault) → meets all n f → met all (count + n) f
read_on before after met meets taken count xs r e all n f h = subst (λ (k : ℕ). met all (k + n) f) e (r.fault all n f h)
