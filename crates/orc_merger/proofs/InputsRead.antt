-- One more input is read: it has its tail, or is refused behind those before it.
use Rattle.std.proofs.Common.{◌≡◌, ℕ, zero, suc, ◌+◌, ◌<◌, ◌⊎◌, inl, inr, List, [], ◌∷◌, ◌++◌, length, get_or, set, map, take, drop, Option, Some, refl, sym, ap, ◌∙◌, subst, arith}
use Rattle.std.specs.Prelude.{slice_index, slice_index_or}
use Rattle.std.specs.Option.{IfSome}
use Rattle.std.proofs.lemmas.List.{take_more, drop_more, take-append-drop, get_or-map, length-map, length_push}
use Rattle.orc_tail.specs.Stripes.{AllBefore}
use Rattle.orc_tail.specs.Tails.{IsTail, TailOpenFault, IsOfTail}
use Rattle.orc_tail.specs.Images.{IsWithinLimits}
use Rattle.orc_tail.specs.declared.tail.Tail.{Tail}
use Rattle.orc_tail.specs.declared.fault.FileFault.{FileFault}
use Rattle.orc_tail.specs.declared.fault.FileFault.TheVariants as file_fault
use Rattle.orc_merger.specs.declared.fault.MergeFault.{MergeFault}
use Rattle.orc_merger.specs.declared.fault.MergeFault.TheVariants as fault
use Rattle.orc_merger.specs.Merging.{AreOpened}
use Rattle.orc_merger.specs.Faults.{NextFault, AreGathered, InputFault, IsMergeRefused, IsDeviceFault, IsOfBytes, IsOfMerge}
use Rattle.orc_merger.specs.Outcomes.{IsAnswer}
use Rattle.orc_merger.specs.Inputs.{EndWithinInputs, AreTailsOf, CountsFailure}
use Rattle.orc_merger.proofs.BytesOut.{told_at, index_rose}
use Rattle.orc_merger.proofs.Opened.{opened_push}
use Rattle.orc_values.proofs.Lists.{all_append}

-- ---- tails

within_push : (sizes : List ℕ) (ts : List Tail) (t : Tail) → EndWithinInputs sizes ts → length ts < length sizes
    → AllBefore (slice_index sizes (length ts)) t.stripes → EndWithinInputs sizes (ts ++ t ∷ [])
within_push [] ts t w lt b = absurd (omega (arith, lt))
within_push (n ∷ sizes) [] t w lt b = (b, tt)
within_push (n ∷ sizes) (u ∷ us) t w lt b = (w.0, within_push sizes us t w.1 (omega (arith, lt)) b)

-- what an input tells has a property where it is told
told_has : {A : Type 0} (told : A → Option (List ℕ)) (inputs : List A) (n : ℕ) (d : A) (P : List ℕ → Type 0) → n < length inputs
    → IfSome (told (get_or inputs n d)) P → (files : List (List ℕ)) → map told inputs ≡ map Some files → P (slice_index_or files n [])
told_has told inputs n d P lt h files same = subst (λ (o : Option (List ℕ)). IfSome o P) (told_at told inputs n d files lt same) h

as_many : {A : Type 0} (told : A → Option (List ℕ)) (inputs : List A) (files : List (List ℕ)) → map told inputs ≡ map Some files
    → length inputs ≡ length files
as_many told inputs files same = sym (length-map inputs told) ∙ ap length same ∙ length-map files Some

-- the tail of the next input stands behind those of the inputs before it
pub one_more : {A : Type 0} (told : A → Option (List ℕ)) (size : A → ℕ) (inputs : List A) (n : ℕ) (d : A) (ts : List Tail) (t : Tail)
    → n < length inputs → AreTailsOf (map told inputs) (map size inputs) n ts → IsWithinLimits t
    → AllBefore (size (get_or inputs n d)) t.stripes → IfSome (told (get_or inputs n d)) (λ bytes. IsTail bytes t)
    → AreTailsOf (map told inputs) (map size inputs) (n + 1) (ts ++ t ∷ [])
one_more {A} told size inputs n d ts t lt a limits before is =
    let many : length ts ≡ n = a.many in
    let short : length ts < length (map size inputs) = omega (arith, many, lt, length-map inputs size) in
    let at : slice_index (map size inputs) (length ts) ≡ size (get_or inputs n d) =
    ap (slice_index (map size inputs)) many ∙ get_or-map size inputs n d 0 lt in
    record {
      many = length_push ts t ∙ ap (λ (k : ℕ). k + 1) many;
      limits = all_append IsWithinLimits ts (t ∷ []) a.limits (limits, tt);
      within = within_push (map size inputs) ts t a.within short (subst (λ (k : ℕ). AllBefore k t.stripes) (sym at) before);
      opened = λ files same.
          let in_files : n < length files = omega (arith, lt, as_many told inputs files same) in
          subst (λ (z : List (List ℕ)). AreOpened z (ts ++ t ∷ [])) (sym (take_more files n [] in_files))
          (opened_push (take n files) ts (slice_index_or files n []) t (a.opened files same)
          (told_has told inputs n d (λ (bytes : List ℕ). IsTail bytes t) lt is files same));
    }

pub no_tails : (told : List (Option (List ℕ))) (sizes : List ℕ) → AreTailsOf told sizes 0 []
no_tails told sizes = record { many = refl; limits = tt; within = tt; opened = λ files same. tt }

-- ---- refusals

refused_at : (files : List (List ℕ)) (n : ℕ) (ts : List Tail) (e : MergeFault) → n < length files → AreOpened (take n files) ts → AreGathered ts
    → InputFault ts (slice_index_or files n []) e → IsMergeRefused files e
refused_at files n ts e lt o g fails =
    inr (record {
      front = take n files;
      bytes = slice_index_or files n [];
      rest = drop (n + 1) files;
      tails = ts;
      parts = sym (take-append-drop n files) ∙ ap (λ (z : List (List ℕ)). take n files ++ z) (drop_more files n [] lt);
      opened = o;
      gathered = g;
      fails = fails;
    })

-- why no tail is found
abbrev pub NoTail : ℕ → Option (List ℕ) → MergeFault → Type 0
NoTail n told e =
    (e ≡ fault.OutOfMemory) ⊎ ((e ≡ fault.SourceFailed n) ⊎ ((why : FileFault) × (e ≡ fault.File n why) × IfSome told (λ bytes. TailOpenFault bytes why) × IsOfBytes why × IsOfTail why))

pub open_refused : {A : Type 0} (told : A → Option (List ℕ)) (sizes : List ℕ) (inputs : List A) (n : ℕ) (d : A) (ts : List Tail) (e : MergeFault)
    → n < length inputs → AreTailsOf (map told inputs) sizes n ts → AreGathered ts
    → NoTail n (told (get_or inputs n d)) e → (files : List (List ℕ)) → map told inputs ≡ map Some files → IsAnswer files e
open_refused told sizes inputs n d ts e lt a g (inl is) files same = inl (subst IsDeviceFault (sym is) tt)
open_refused told sizes inputs n d ts e lt a g (inr (inl is)) files same = inl (subst IsDeviceFault (sym is) tt)
open_refused told sizes inputs n d ts e lt a g (inr (inr h)) files same =
    let in_files : n < length files = omega (arith, lt, as_many told inputs files same) in
    inr (refused_at files n ts e in_files (a.opened files same) g (inl (
      h.0,
      told_has told inputs n d (λ (bytes : List ℕ). TailOpenFault bytes h.0) lt h.2 files same,
      h.1 ∙ ap (λ (k : ℕ). fault.File k h.0) (sym a.many),
    )))

pub next_refused : {A : Type 0} (told : A → Option (List ℕ)) (sizes : List ℕ) (inputs : List A) (n : ℕ) (d : A) (ts : List Tail) (t : Tail) (e : MergeFault)
    → n < length inputs → AreTailsOf (map told inputs) sizes n ts → AreGathered ts
    → IfSome (told (get_or inputs n d)) (λ bytes. IsTail bytes t) → NextFault ts t e
    → (files : List (List ℕ)) → map told inputs ≡ map Some files → IsAnswer files e
next_refused told sizes inputs n d ts t e lt a g is next files same =
    let in_files : n < length files = omega (arith, lt, as_many told inputs files same) in
    inr (refused_at files n ts e in_files (a.opened files same) g (inr (
      t,
      told_has told inputs n d (λ (bytes : List ℕ). IsTail bytes t) lt is files same,
      next,
    )))

-- ---- counts

pub open_counted : {A : Type 0} (failures : A → ℕ) (inputs : List A) (n : ℕ) (d y : A) (told : Option (List ℕ)) (e : MergeFault) → n < length inputs
    → NoTail n told e → (e ≡ fault.SourceFailed n → failures (get_or inputs n d) < failures y)
    → CountsFailure (map failures inputs) (map failures (set inputs n y)) e
open_counted failures inputs n d y told e lt (inl is) rose = subst (CountsFailure (map failures inputs) (map failures (set inputs n y))) (sym is) tt
open_counted failures inputs n d y told e lt (inr (inl is)) rose =
    subst (CountsFailure (map failures inputs) (map failures (set inputs n y))) (sym is) (index_rose failures inputs n d y lt (rose is))
open_counted failures inputs n d y told e lt (inr (inr h)) rose =
    subst (CountsFailure (map failures inputs) (map failures (set inputs n y))) (sym h.1) h.3

-- ---- memory

pub no_memory : (e : MergeFault) → e ≡ fault.OutOfMemory → (told : List (Option (List ℕ))) → (files : List (List ℕ)) → told ≡ map Some files
    → IsAnswer files e
no_memory e is told files same = inl (subst IsDeviceFault (sym is) tt)

pub no_memory_counted : (old new : List ℕ) (e : MergeFault) → e ≡ fault.OutOfMemory → CountsFailure old new e
no_memory_counted old new e is = subst (CountsFailure old new) (sym is) tt

-- ---- names of faults

pub open_named : (inputs n : ℕ) (told : Option (List ℕ)) (e : MergeFault) → n < inputs → NoTail n told e → IsOfMerge inputs e
open_named inputs n told e lt (inl is) = let some : 0 < inputs = omega (arith, lt) in subst (IsOfMerge inputs) (sym is) some
open_named inputs n told e lt (inr (inl is)) = subst (IsOfMerge inputs) (sym is) lt
open_named inputs n told e lt (inr (inr h)) = subst (IsOfMerge inputs) (sym h.1) (lt, h.4, h.3)

pub no_memory_named : (inputs n : ℕ) (e : MergeFault) → n < inputs → e ≡ fault.OutOfMemory → IsOfMerge inputs e
no_memory_named inputs n e lt is = let some : 0 < inputs = omega (arith, lt) in subst (IsOfMerge inputs) (sym is) some

-- of a tail that isn't found
pub tail_unfound : (n : ℕ) (told : Option (List ℕ)) (why : FileFault) → (why ≡ file_fault.SourceFailed → ⊥) → (why ≡ file_fault.OutOfMemory → ⊥)
    → (why ≡ file_fault.OutOfMemory) ⊎ ((why ≡ file_fault.SourceFailed) ⊎ IfSome told (λ bytes. TailOpenFault bytes why)) → (why ≡ file_fault.SourceFailed) ⊎ IsOfTail why
    → NoTail n told (fault.File n why)
tail_unfound n told why source memory (inl is) named = absurd (memory is)
tail_unfound n told why source memory (inr (inl is)) named = absurd (source is)
tail_unfound n told why source memory (inr (inr fails)) (inl is) = absurd (source is)
tail_unfound n told why source memory (inr (inr fails)) (inr of_tail) =
    inr (inr (why, refl, fails, record { no_memory = memory; no_source = source }, of_tail))

pub as_long : {A : Type 0} (told : A → Option (List ℕ)) (xs ys : List A) → map told ys ≡ map told xs → length ys ≡ length xs
as_long told xs ys same = sym (length-map ys told) ∙ ap length same ∙ length-map xs told
