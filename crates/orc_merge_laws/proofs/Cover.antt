-- Inputs of bytes are merged or refused.
use Rattle.std.proofs.Common.{◌≡◌, ℕ, ◌⊎◌, inl, inr, List, [], ◌∷◌, ◌++◌, length, Bool, true, false, Option, Some, None, refl, sym, ◌∙◌, subst, append_assoc}
use Rattle.std.specs.List.{concat, AllByRecursion}
use Rattle.std.proofs.lemmas.List.{append-nil}
use Rattle.std.proofs.lemmas.Bool.{false≢true}
use Rattle.orc_bits.specs.Varint.{AllBytes}
use Rattle.orc_values.specs.Shapes.{Shape, width}
use Rattle.orc_types.specs.Schemas.{same_types}
use Rattle.orc_types.proofs.Exclusion.{equal_schemas}
use Rattle.orc_types.proofs.Decisions.{Decided, both, same_number, same_numbers}
use Rattle.orc_stats.specs.declared.stat.Stat.{Stat}
use Rattle.orc_tail.specs.Images.{image, IsWithinLimits}
use Rattle.orc_tail.specs.declared.tail.Tail.{Tail}
use Rattle.orc_tail.proofs.TailCover.{tail_cover}
use Rattle.orc_merger.specs.declared.fault.MergeFault.{MergeFault}
use Rattle.orc_merger.specs.declared.fault.MergeFault.TheVariants as fault
use Rattle.orc_merger.specs.Merging.{SameVersion, HasStatistics, IsLike, CanMerge, all_pairs, merged, AreOpened, bodies, IsMerge}
use Rattle.orc_merger.specs.Faults.{first_of, Tested, NextFault, AreGathered, InputFault, IsRefusedAt, IsMergeRefused}
use Rattle.orc_merge_laws.proofs.Limits.{within_limits}
use Rattle.orc_merger.proofs.Opened.{opened_push}
use Rattle.orc_merge_laws.proofs.Opened.{all_sound}
use Rattle.orc_merge_laws.proofs.Deciding.{agreeing}
use Rattle.orc_values.proofs.Lists.{all_append}

-- ---- decisions

same_schema : (s t : Shape) → Decided (s ≡ t)
same_schema s t = by (same_types s t) refl where
  by : (b : Bool) → same_types s t ≡ b → Decided (s ≡ t)
  by true e = inl ((equal_schemas s t).0 e)
  by false e = inr (λ same. false≢true (sym e ∙ (equal_schemas s t).1 same))

same_option : (a b : Option ℕ) → Decided (a ≡ b)
same_option None None = inl refl
same_option None (Some n) = inr (λ e. cc)
same_option (Some m) None = inr (λ e. cc)
same_option (Some m) (Some n) = by (same_number m n) where
  by : Decided (m ≡ n) → Decided (Some m ≡ Some n)
  by (inl e) = inl (rw e refl)
  by (inr other) = inr (λ e. let same : m ≡ n = cc in other same)

same_version : (first tail : Tail) → Decided (SameVersion first tail)
same_version first tail =
    by (both (same_numbers tail.version first.version) (both (same_option tail.writer first.writer) (same_option tail.writer_version first.writer_version)))
  where
    by : Decided ((tail.version ≡ first.version) × ((tail.writer ≡ first.writer) × (tail.writer_version ≡ first.writer_version)))
        → Decided (SameVersion first tail)
    by (inl p) = inl (record { version = p.0; writer = p.1.0; writer_version = p.1.1 })
    by (inr other) = inr (λ s. other (s.version, (s.writer, s.writer_version)))

all_wide : (n : ℕ) (stats : List (List Stat)) → Decided (AllByRecursion (λ (xs : List Stat). length xs ≡ n) stats)
all_wide n [] = inl tt
all_wide n (xs ∷ stats) = both (same_number (length xs) n) (all_wide n stats)

has_statistics : (tail : Tail) → Decided (HasStatistics tail)
has_statistics tail = by (both (same_number (length tail.stripe_stats) (length tail.stripes)) (all_wide (width tail.schema) tail.stripe_stats)) where
  by : Decided ((length tail.stripe_stats ≡ length tail.stripes) × AllByRecursion (λ (xs : List Stat). length xs ≡ width tail.schema) tail.stripe_stats)
      → Decided (HasStatistics tail)
  by (inl p) = inl (record { stripes = p.0; columns = p.1 })
  by (inr other) = inr (λ h. other (h.stripes, h.columns))

-- ---- the tests of the next input

-- it passes them all, or one is the first that it doesn't pass
abbrev Passes : Type 0 → (MergeFault → Type 0) → Type 0
Passes Done Fails = Done ⊎ ((fault : MergeFault) × Fails fault)

tested : {Done Holds : Type 0} {Rest : MergeFault → Type 0} (fails : MergeFault) → Decided Holds → (Holds → Passes Done Rest)
    → Passes Done (λ fault. Tested Holds fails fault (Rest fault))
tested {Done} {Holds} {Rest} fails (inr broken) rest = inr (fails, inl (broken, refl))
tested {Done} {Holds} {Rest} fails (inl holds) rest = by (rest holds) where
  by : Passes Done Rest → Passes Done (λ fault. Tested Holds fails fault (Rest fault))
  by (inl done) = inl done
  by (inr bad) = inr (bad.0, inr (holds, bad.1))

pub alike_next : (tails : List Tail) (t : Tail) → AreGathered tails → IsLike (first_of tails t) t → AllByRecursion (IsLike (first_of tails t)) (tails ++ t ∷ [])
alike_next [] t g l = (l, tt)
alike_next (x ∷ xs) t g l = all_append (IsLike x) (x ∷ xs) (t ∷ []) g.alike (l, tt)

pub first_within : (tails : List Tail) (t : Tail) → AllByRecursion IsWithinLimits (tails ++ t ∷ []) → IsWithinLimits (first_of tails t)
first_within [] t a = a.0
first_within (x ∷ xs) t a = a.0

gathered_of : (tails : List Tail) (t : Tail) → CanMerge (first_of tails t) (tails ++ t ∷ []) → AreGathered (tails ++ t ∷ [])
gathered_of [] t c = c
gathered_of (x ∷ xs) t c = c

next_passes : (tails : List Tail) (t : Tail) → AllByRecursion IsWithinLimits (tails ++ t ∷ []) → AreGathered tails
    → Passes (AreGathered (tails ++ t ∷ [])) (NextFault tails t)
next_passes tails t within g =
    let first : Tail = first_of tails t in
    let i : ℕ = length tails in
    tested (fault.SchemaDiffers i) (same_schema t.schema (first_of tails t).schema) (λ schema.
    tested (fault.VersionDiffers i) (same_version (first_of tails t) t) (λ version.
    tested (fault.StrideDiffers i) (same_number t.stride (first_of tails t).stride) (λ stride.
    tested (fault.OtherFooterFields i) (same_numbers t.other (first_of tails t).other) (λ other.
    tested (fault.UserMetadataConflict i) (agreeing (all_pairs (tails ++ t ∷ []))) (λ agree.
    tested (fault.NoStripeStatistics i) (has_statistics t) (λ statistics.
    let like : IsLike (first_of tails t) t = record { schema = schema; version = version; stride = stride; other = other; statistics = statistics } in
    let alike : AllByRecursion (IsLike (first_of tails t)) (tails ++ t ∷ []) = alike_next tails t g like in
    tested (fault.Limit i) (within_limits (first_of tails t) (tails ++ t ∷ []) (first_within tails t within) within alike) (λ limits.
    inl (gathered_of tails t (record { alike = alike; agree = agree; limits = limits })))))))))

-- ---- all inputs

abbrev Walked : List (List ℕ) → Type 0
Walked inputs = ((ts : List Tail) × AreOpened inputs ts × AreGathered ts) ⊎ ((fault : MergeFault) × IsRefusedAt inputs fault)

refused_here : (front rest : List (List ℕ)) (bytes : List ℕ) (tails : List Tail) (e : MergeFault) → AreOpened front tails → AreGathered tails
    → InputFault tails bytes e → Walked (front ++ bytes ∷ rest)
refused_here front rest bytes tails e o g fails =
    inr (e, record { front = front; bytes = bytes; rest = rest; tails = tails; parts = refl; opened = o; gathered = g; fails = fails })

walk : (front xs : List (List ℕ)) (tails : List Tail) → AreOpened front tails → AreGathered tails → AllByRecursion AllBytes xs → Walked (front ++ xs)
walk front [] tails o g b = inl (tails, subst (λ (x : List (List ℕ)). AreOpened x tails) (sym (append-nil front)) o, g)
walk front (x ∷ xs) tails o g b = elim (tail_cover x b.0) [
  | inr bad ↦ refused_here front xs x tails (fault.File (length tails) bad.0) o g (inl (bad.0, bad.1, refl))
  | inl found ↦
      let opened : AreOpened (front ++ x ∷ []) (tails ++ found.0 ∷ []) = opened_push front tails x found.0 o found.1 in
      elim (next_passes tails found.0 (all_sound (front ++ x ∷ []) (tails ++ found.0 ∷ []) opened) g) [
        | inr bad ↦ refused_here front xs x tails bad.0 o g (inr (found.0, found.1, bad.1))
        | inl next ↦ subst Walked (append_assoc front (x ∷ []) xs) (walk (front ++ x ∷ []) xs (tails ++ found.0 ∷ []) opened next b.1)
      ]
]

abbrev Merges : List (List ℕ) → Type 0
Merges inputs = (tail : Tail) × (out : List ℕ) × IsMerge inputs tail out

merges : (x : List ℕ) (xs : List (List ℕ)) (ts : List Tail) → AreOpened (x ∷ xs) ts → AreGathered ts → Merges (x ∷ xs)
merges x xs [] o g = absurd o
merges x xs (t ∷ ts) o g = (
  merged t (t ∷ ts),
  image (concat (bodies (x ∷ xs) (t ∷ ts))) (merged t (t ∷ ts)),
  record { tails = t ∷ ts; opened = o; merged = (g, refl); written = refl },
)

pub merge_or_fault : (inputs : List (List ℕ)) → AllByRecursion AllBytes inputs
    → ((tail : Tail) × (out : List ℕ) × IsMerge inputs tail out) ⊎ ((fault : MergeFault) × IsMergeRefused inputs fault)
merge_or_fault [] b = inr (fault.NoInput, inl (refl, refl))
merge_or_fault (x ∷ xs) b = elim (walk [] (x ∷ xs) [] tt tt b) [
  | inl w ↦ inl (merges x xs w.0 w.1 w.2)
  | inr r ↦ inr (r.0, inr r.1)
]
