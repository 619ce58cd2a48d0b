-- The tests of the next input: those of its kind, and those that ask of all inputs together.
use Rattle.std.proofs.Common.{◌≡◌, ℕ, zero, suc, ◌+◌, ◌<◌, ◌≤◌, inl, inr, true, List, [], ◌∷◌, ◌++◌, length, take, drop, refl, sym, subst, arith}
use Rattle.std.specs.Prelude.{All}
use Rattle.std.specs.List.{AllByRecursion}
use Rattle.std.proofs.lemmas.List.Elements.{All-from_recursion}
use Rattle.orc_values.specs.Shapes.{Shape, width}
use Rattle.orc_stats.specs.declared.stat.Stat.{Stat}
use Rattle.orc_stats.specs.Kinds.{body_is_of}
use Rattle.orc_stats.specs.Joining.{joined}
use Rattle.orc_tail.specs.Stripes.{most_rows, most_bytes}
use Rattle.orc_tail.specs.Statistics.{kind_at, AreOfColumns, AreStats, column_stats, of_columns}
use Rattle.orc_tail.specs.Images.{IsWithinLimits}
use Rattle.orc_tail.specs.declared.tail.Tail.{Tail}
use Rattle.orc_merger.specs.declared.gathered.Gathered.{Gathered}
use Rattle.orc_merger.specs.declared.fault.MergeFault.{MergeFault}
use Rattle.orc_merger.specs.declared.fault.MergeFault.TheVariants as fault
use Rattle.orc_merger.specs.Merging.{SameVersion, CanMerge, all_stats}
use Rattle.orc_merger.specs.Faults.{Tested, NextFault, IsOfMerge}
use Rattle.orc_merger.specs.Gathering.{without_joined, IsOfKind, KindFault, NextJoinFault}
use Rattle.orc_merger.specs.SoFar.{HasGathered}
use Rattle.orc_merger.specs.Inputs.{CountsFailure}
use Rattle.orc_merger.proofs.Limits.{Counted, HasRoom, limits_of, room_of}
use Rattle.orc_values.proofs.Lists.{all_append}

-- ---- of its kind

version_of_bare : (first t : Tail) → SameVersion (without_joined first) t → SameVersion first t
version_of_bare first t v = record { version = v.version; writer = v.writer; writer_version = v.writer_version }

bare_version : (first t : Tail) → SameVersion first t → SameVersion (without_joined first) t
bare_version first t v = record { version = v.version; writer = v.writer; writer_version = v.writer_version }

-- what is compared stands in the bare tail
pub kind_of : (first kept t : Tail) → kept ≡ without_joined first → IsOfKind kept t → IsOfKind first t
kind_of first kept t e kind =
    let k : IsOfKind (without_joined first) t = subst (λ (x : Tail). IsOfKind x t) e kind in
    record { schema = k.schema; version = version_of_bare first t k.version; stride = k.stride; other = k.other }

pub own_kind : (t : Tail) → IsOfKind t t
own_kind t = record { schema = refl; version = record { version = refl; writer = refl; writer_version = refl }; stride = refl; other = refl }

-- a test by other words, and other tests after it
retold : {H K R S : Type 0} (fails e : MergeFault) → (H → K) → (K → H) → (R → S) → Tested H fails e R → Tested K fails e S
retold fails e to back rest (inl p) = inl (λ k. p.0 (back k), p.1)
retold fails e to back rest (inr p) = inr (to p.0, rest p.1)

pub kind_refused : (first kept : Tail) (rest : List Tail) (t : Tail) (n : ℕ) (e : MergeFault) → kept ≡ without_joined first → length (first ∷ rest) ≡ n
    → KindFault n kept t e → NextFault (first ∷ rest) t e
kind_refused first kept rest t n e same many k =
    let bared : KindFault n (without_joined first) t e = subst (λ (x : Tail). KindFault n x t e) same k in
    let at : KindFault (length (first ∷ rest)) (without_joined first) t e = subst (λ (i : ℕ). KindFault i (without_joined first) t e) (sym many) bared in
    retold _ e (λ h. h) (λ h. h)
    (retold _ e (version_of_bare first t) (bare_version first t)
    (retold _ e (λ h. h) (λ h. h)
    (retold _ e (λ h. h) (λ h. h) (λ h. absurd h)))) at

pub join_refused : (first : Tail) (rest : List Tail) (t : Tail) (n : ℕ) (e : MergeFault) → length (first ∷ rest) ≡ n → IsOfKind first t
    → NextJoinFault n first t (first ∷ (rest ++ t ∷ [])) e → NextFault (first ∷ rest) t e
join_refused first rest t n e many k j =
    let at : NextJoinFault (length (first ∷ rest)) first t (first ∷ (rest ++ t ∷ [])) e =
    subst (λ (i : ℕ). NextJoinFault i first t (first ∷ (rest ++ t ∷ [])) e) (sym many) j in
    inr (k.schema, inr (k.version, inr (k.stride, inr (k.other, at))))

pub first_refused : (t : Tail) (e : MergeFault) → NextJoinFault 0 t t (t ∷ []) e → NextFault [] t e
first_refused t e j = let k = own_kind t in inr (k.schema, inr (k.version, inr (k.stride, inr (k.other, j))))

-- ---- no device

test_counted : {H R : Type 0} (old new : List ℕ) (fails e : MergeFault) → CountsFailure old new fails → (R → CountsFailure old new e) → Tested H fails e R
    → CountsFailure old new e
test_counted old new fails e c rest (inl p) = subst (CountsFailure old new) (sym p.1) c
test_counted old new fails e c rest (inr p) = rest p.1

pub kind_counted : (old new : List ℕ) (first t : Tail) (n : ℕ) (e : MergeFault) → KindFault n first t e → CountsFailure old new e
kind_counted old new first t n e k =
    test_counted old new (fault.SchemaDiffers n) e tt (test_counted old new (fault.VersionDiffers n) e tt
    (test_counted old new (fault.StrideDiffers n) e tt (test_counted old new (fault.OtherFooterFields n) e tt (λ h. absurd h)))) k

pub join_counted : (old new : List ℕ) (first t : Tail) (ts : List Tail) (n : ℕ) (e : MergeFault) → NextJoinFault n first t ts e → CountsFailure old new e
join_counted old new first t ts n e j =
    test_counted old new (fault.UserMetadataConflict n) e tt (test_counted old new (fault.NoStripeStatistics n) e tt
    (test_counted old new (fault.Limit n) e tt (λ h. absurd h))) j

-- ---- names of faults

test_named : {H R : Type 0} (inputs : ℕ) (fails e : MergeFault) → IsOfMerge inputs fails → (R → IsOfMerge inputs e) → Tested H fails e R → IsOfMerge inputs e
test_named inputs fails e is rest (inl p) = subst (IsOfMerge inputs) (sym p.1) is
test_named inputs fails e is rest (inr p) = rest p.1

pub kind_named : (inputs : ℕ) (first t : Tail) (n : ℕ) (e : MergeFault) → 0 < n → n < inputs → KindFault n first t e → IsOfMerge inputs e
kind_named inputs first t n e later lt k =
    test_named inputs (fault.SchemaDiffers n) e (later, lt) (test_named inputs (fault.VersionDiffers n) e (later, lt)
    (test_named inputs (fault.StrideDiffers n) e (later, lt) (test_named inputs (fault.OtherFooterFields n) e (later, lt) (λ h. absurd h)))) k

pub join_named : (inputs : ℕ) (first t : Tail) (ts : List Tail) (n : ℕ) (e : MergeFault) → n < inputs → NextJoinFault n first t ts e → IsOfMerge inputs e
join_named inputs first t ts n e lt j =
    test_named inputs (fault.UserMetadataConflict n) e lt (test_named inputs (fault.NoStripeStatistics n) e lt
    (test_named inputs (fault.Limit n) e lt (λ h. absurd h))) j

-- ---- nothing speaks against no inputs

none_counted : (s : Shape) (c n : ℕ) → Counted (of_columns (λ d. joined (kind_at s d) (column_stats d [])) c n)
none_counted s c zero = tt
none_counted s c (suc n) = let le : 0 ≤ 4611686018427387904 = omega arith in (le, none_counted s (suc c) n)

pub none_merge : (first : Tail) → IsWithinLimits first → CanMerge first []
none_merge first within =
    let few : 0 ≤ 65536 = omega arith in
    let most : 0 ≤ 1099511627776 = omega arith in
    let room : HasRoom first [] = record { stripes = few; bytes = most; rows = most; counts = none_counted first.schema 0 (width first.schema) } in
    record {
      alike = tt;
      agree = λ p q c d n. absurd (omega (arith, c.1));
      limits = limits_of first [] within tt tt room;
    }

-- ---- room for one more

pub end_few : (first : Tail) (ts : List Tail) (g : Gathered) → CanMerge first ts → HasGathered first ts g → g.end ≤ 3 + most_bytes
end_few first ts g c h =
    let few = (room_of first ts c.limits).bytes in let end = h.end in omega (arith, few, end)

pub rows_few : (first : Tail) (ts : List Tail) (g : Gathered) → CanMerge first ts → HasGathered first ts g → g.rows ≤ most_rows
rows_few first ts g c h =
    let few = (room_of first ts c.limits).rows in let rows = h.rows in omega (arith, few, rows)

-- ---- statistics of the columns' kinds

abbrev IsKind : Shape → ℕ → Stat → Type 0
IsKind s c x = body_is_of (kind_at s c) x.body ≡ true

kind_from : (s : Shape) (b c : ℕ) (xs : List Stat) → AreOfColumns s b xs → AllByRecursion (IsKind s (b + c)) (take 1 (drop c xs))
kind_from s b zero [] a = tt
kind_from s b (suc c) [] a = tt
kind_from s b zero (x ∷ xs) a = let z : b ≡ b + 0 = omega arith in (subst (λ (k : ℕ). IsKind s k x) z a.0.kind, tt)
kind_from s b (suc c) (x ∷ xs) a =
    let n : (b + 1) + c ≡ b + suc c = omega arith in
    subst (λ (k : ℕ). AllByRecursion (IsKind s k) (take 1 (drop c xs))) n (kind_from s (b + 1) c xs a.1)

kinds_of : (s : Shape) (c : ℕ) (stats : List (List Stat)) → AllByRecursion (AreStats s) stats → AllByRecursion (IsKind s c) (column_stats c stats)
kinds_of s c [] a = tt
kinds_of s c (xs ∷ stats) a =
    let z : 0 + c ≡ c = omega arith in
    let here : AllByRecursion (IsKind s c) (take 1 (drop c xs)) =
    subst (λ (k : ℕ). AllByRecursion (IsKind s k) (take 1 (drop c xs))) z (kind_from s 0 c xs a.0.kinds) in
    all_append (IsKind s c) (take 1 (drop c xs)) (column_stats c stats) here (kinds_of s c stats a.1)

-- each column's statistics of a merged tail are of its kind
pub merged_kinds : (first : Tail) (ts : List Tail) (c : ℕ) → CanMerge first ts
    → All (λ (x : Stat). body_is_of (kind_at first.schema c) x.body ≡ true) (column_stats c (all_stats ts))
merged_kinds first ts c can =
    All-from_recursion (IsKind first.schema c) (column_stats c (all_stats ts)) (kinds_of first.schema c (all_stats ts) can.limits.stripe_stats)
