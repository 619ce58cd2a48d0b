-- How a call that reads one of the sources changes their counts of failures.
use Rattle.std.proofs.Common.{◌≡◌, ℕ, ◌+◌, ◌<◌, ◌⊎◌, inl, inr, List, length, get_or, set, map, Option, refl, sym, ap, ◌∙◌, subst, arith}
use Rattle.std.specs.Prelude.{slice_index}
use Rattle.std.proofs.Math.Seq.{map-set_same}
use Rattle.std.proofs.lemmas.List.{map-set, get_or-map, get_or-set_same}
use Rattle.orc_merger.specs.declared.fault.MergeFault.{MergeFault}
use Rattle.orc_merger.specs.declared.fault.MergeFault.TheVariants as fault
use Rattle.orc_merger.specs.Faults.{IsDeviceFault, IsOfMerge}
use Rattle.orc_merger.specs.Copies.{IsOfCopy}
use Rattle.orc_merger.specs.Outcomes.{counts_after}
use Rattle.orc_merger.specs.Inputs.{CountsFailure}
use Rattle.orc_merger.proofs.InputsRead.{NoTail}

pub above : (a b : ℕ) → b ≡ a + 1 → a < b
above a b e = omega (arith, e)

-- ---- faults that no source has

-- a fault after which all counts are what they were
abbrev pub IsNoSources : MergeFault → Type 0
IsNoSources e = (counts : List ℕ) → counts_after e counts ≡ counts

pub no_sources : (e f : MergeFault) → e ≡ f → IsNoSources f → IsNoSources e
no_sources e f is none = subst IsNoSources (sym is) none

pub memory_counts : (e : MergeFault) → e ≡ fault.OutOfMemory → IsNoSources e
memory_counts e is = no_sources e fault.OutOfMemory is (λ counts. refl)

pub written_counts : (e : MergeFault) → e ≡ fault.WriteFailed → IsNoSources e
written_counts e is = no_sources e fault.WriteFailed is (λ counts. refl)

-- what doesn't raise a count of a list leaves the list
pub unfailed_counts : (e : MergeFault) (counts : List ℕ) → CountsFailure counts counts e → counts_after e counts ≡ counts
unfailed_counts fault.NoInput counts h = refl
unfailed_counts (fault.File i why) counts h = refl
unfailed_counts (fault.SchemaDiffers i) counts h = refl
unfailed_counts (fault.VersionDiffers i) counts h = refl
unfailed_counts (fault.StrideDiffers i) counts h = refl
unfailed_counts (fault.OtherFooterFields i) counts h = refl
unfailed_counts (fault.UserMetadataConflict i) counts h = refl
unfailed_counts (fault.NoStripeStatistics i) counts h = refl
unfailed_counts (fault.Limit i) counts h = refl
unfailed_counts (fault.SourceFailed i) counts rose = absurd (omega (arith, rose))
unfailed_counts fault.WriteFailed counts h = refl
unfailed_counts fault.OutOfMemory counts h = refl

pub no_tail_own : (n : ℕ) (told : Option (List ℕ)) (e : MergeFault) → NoTail n told e → (e ≡ fault.SourceFailed n) ⊎ IsNoSources e
no_tail_own n told e (inl is) = inr (memory_counts e is)
no_tail_own n told e (inr (inl is)) = inl is
no_tail_own n told e (inr (inr h)) = inr (no_sources e (fault.File n h.0) h.1 (λ counts. refl))

-- ---- the counts of all sources

-- the source that was read failed
risen : {A : Type 0} (f : A → ℕ) (xs : List A) (n : ℕ) (d y : A) (e : MergeFault) → n < length xs → e ≡ fault.SourceFailed n
    → f y ≡ f (get_or xs n d) + 1 → map f (set xs n y) ≡ counts_after e (map f xs)
risen f xs n d y e lt is rose =
    let old : slice_index (map f xs) n ≡ f (get_or xs n d) = get_or-map f xs n d 0 lt in
    let now : f y ≡ slice_index (map f xs) n + 1 = rose ∙ ap (λ (k : ℕ). k + 1) (sym old) in
    let all : map f (set xs n y) ≡ set (map f xs) n (slice_index (map f xs) n + 1) = map-set f xs n y ∙ ap (λ (k : ℕ). set (map f xs) n k) now in
    subst (λ (x : MergeFault). map f (set xs n y) ≡ counts_after x (map f xs)) (sym is) all

-- one source was read, and the call failed
pub input_counts : {A : Type 0} (f : A → ℕ) (xs : List A) (n : ℕ) (d y : A) (e : MergeFault) → n < length xs
    → (e ≡ fault.SourceFailed n) ⊎ IsNoSources e → (e ≡ fault.SourceFailed n → f y ≡ f (get_or xs n d) + 1)
    → (e ≡ fault.SourceFailed n) ⊎ (f y ≡ f (get_or xs n d)) → map f (set xs n y) ≡ counts_after e (map f xs)
input_counts f xs n d y e lt (inl is) rose others = risen f xs n d y e lt is (rose is)
input_counts f xs n d y e lt (inr none) rose (inl is) = risen f xs n d y e lt is (rose is)
input_counts f xs n d y e lt (inr none) rose (inr same) = map-set_same f xs n y d same ∙ sym (none (map f xs))

-- one source was read, which didn't fail, and its input was refused
pub refused_counts : {A : Type 0} (f : A → ℕ) (xs : List A) (n : ℕ) (d y : A) (e : MergeFault) → f y ≡ f (get_or xs n d)
    → CountsFailure (map f xs) (map f xs) e → map f (set xs n y) ≡ counts_after e (map f xs)
refused_counts f xs n d y e same counted = map-set_same f xs n y d same ∙ sym (unfailed_counts e (map f xs) counted)

-- the count of the source that failed rose
pub source_rose : (old new : List ℕ) (e : MergeFault) (i : ℕ) → i < length old → e ≡ fault.SourceFailed i → new ≡ counts_after e old
    → slice_index old i < slice_index new i
source_rose old new e i lt is all =
    let one : new ≡ set old i (slice_index old i + 1) = subst (λ (x : MergeFault). new ≡ counts_after x old) is all in
    let at : slice_index new i ≡ slice_index old i + 1 = ap (λ (xs : List ℕ). slice_index xs i) one ∙ get_or-set_same old i (slice_index old i + 1) 0 lt in
    above (slice_index old i) (slice_index new i) at

-- ---- faults of copying

pub copy_own : (n inputs : ℕ) (e : MergeFault) → n < inputs → (e ≡ fault.SourceFailed n) ⊎ (e ≡ fault.WriteFailed) → IsOfCopy inputs e
copy_own n inputs e lt (inl is) = subst (IsOfCopy inputs) (sym is) lt
copy_own n inputs e lt (inr is) = subst (IsOfCopy inputs) (sym is) tt

pub copy_device : (inputs : ℕ) (e : MergeFault) → IsOfCopy inputs e → IsDeviceFault e
copy_device inputs (fault.SourceFailed i) h = tt
copy_device inputs fault.WriteFailed h = tt
copy_device inputs fault.OutOfMemory h = absurd h
copy_device inputs fault.NoInput h = absurd h
copy_device inputs (fault.File i why) h = absurd h
copy_device inputs (fault.SchemaDiffers i) h = absurd h
copy_device inputs (fault.VersionDiffers i) h = absurd h
copy_device inputs (fault.StrideDiffers i) h = absurd h
copy_device inputs (fault.OtherFooterFields i) h = absurd h
copy_device inputs (fault.UserMetadataConflict i) h = absurd h
copy_device inputs (fault.NoStripeStatistics i) h = absurd h
copy_device inputs (fault.Limit i) h = absurd h

pub copy_named : (inputs : ℕ) (e : MergeFault) → 0 < inputs → IsOfCopy inputs e → IsOfMerge inputs e
copy_named inputs (fault.SourceFailed i) some h = h
copy_named inputs fault.WriteFailed some h = some
copy_named inputs fault.OutOfMemory some h = absurd h
copy_named inputs fault.NoInput some h = absurd h
copy_named inputs (fault.File i why) some h = absurd h
copy_named inputs (fault.SchemaDiffers i) some h = absurd h
copy_named inputs (fault.VersionDiffers i) some h = absurd h
copy_named inputs (fault.StrideDiffers i) some h = absurd h
copy_named inputs (fault.OtherFooterFields i) some h = absurd h
copy_named inputs (fault.UserMetadataConflict i) some h = absurd h
copy_named inputs (fault.NoStripeStatistics i) some h = absurd h
copy_named inputs (fault.Limit i) some h = absurd h
