-- A finding is in the list exactly where what it says of the file is so.
use Rattle.std.proofs.Common.{◌≡◌, ℕ, zero, suc, ◌<◌, ◌⊎◌, inl, inr, List, [], ◌∷◌, ◌++◌, length, refl, sym, subst, arith}
use Rattle.std.specs.Prelude.{Contains}
use Rattle.orc_wire.specs.declared.stripe_footer.StripeFooter.{StripeFooter}
use Rattle.orc_values.specs.Cells.{Cell}
use Rattle.orc_values.specs.Shapes.{width}
use Rattle.orc_stats.specs.declared.stat.Stat.{Stat}
use Rattle.orc_column_reader.specs.Stripe.{HasFooter}
use Rattle.orc_stripe_reader.specs.Opened.{Opened}
use Rattle.orc_stripe_reader.proofs.OneStripe.{one_footer}
use Rattle.orc_tail.specs.Stripes.{stripe_at}
use Rattle.orc_file_reader.specs.FileRows.{opened_stripe, cut_rows, FileIs}
use Rattle.orc_tail.specs.declared.tail.Tail.{Tail}
use Rattle.orc_check.specs.declared.finding.Finding.{Finding}
use Rattle.orc_check.specs.declared.finding.Finding.TheVariants.{StripeStatistic, IndexEntries, IndexStatistic, IndexPosition, FileStatistic}
use Rattle.orc_check.specs.Findings.{Unless, Both, OfEach, IndexedColumn, HasRightStatistic, HasRightPositions, OfGroup, IsIndexedColumn, OfIndex, OfColumn, OfStripe, OfStripes, OfFile, Findings, TellsStripe, TellsFile, stripe_told, rows_at}
use Rattle.orc_check.specs.Meanings.{numbered_stripe_bytes, HasColumn, IsColumnOf, IsSo}
use Rattle.orc_check.proofs.CheckLemmas.{below_or}
use Rattle.orc_check.proofs.OneList.{one_column}
use Rattle.orc_check.proofs.NoFinding.{stripe_is}

-- ---- a finding in a list

abbrev In : Finding → List Finding → Type 0
In f [] = ⊥
In f (g ∷ gs) = (f ≡ g) ⊎ In f gs

in_left : (f : Finding) (a b : List Finding) → In f a → In f (a ++ b)
in_left f [] b h = absurd h
in_left f (g ∷ a) b (inl e) = inl e
in_left f (g ∷ a) b (inr h) = inr (in_left f a b h)

in_right : (f : Finding) (a b : List Finding) → In f b → In f (a ++ b)
in_right f [] b h = h
in_right f (g ∷ a) b h = inr (in_right f a b h)

in_either : (f : Finding) (a b : List Finding) → In f (a ++ b) → In f a ⊎ In f b
in_either f [] b h = inr h
in_either f (g ∷ a) b (inl e) = inl (inl e)
in_either f (g ∷ a) b (inr h) = elim (in_either f a b h) [ inl x ↦ inl (inr x) | inr y ↦ inr y ]

contained_in : (xs : List Finding) (f : Finding) → Contains xs f → In f xs
contained_in [] f h = let lt = h.1 in absurd (omega (arith, lt))
contained_in (g ∷ gs) f (zero, lt, e) = inl (sym e)
contained_in (g ∷ gs) f (suc k, lt, e) = inr (contained_in gs f (k, omega (arith, lt), e))

in_contained : (xs : List Finding) (f : Finding) → In f xs → Contains xs f
in_contained [] f h = absurd h
in_contained (g ∷ gs) f (inl e) = (0, omega arith, sym e)
in_contained (g ∷ gs) f (inr h) = let c = in_contained gs f h in let lt = c.1 in (suc c.0, omega (arith, lt), c.2)

-- ---- what lists of findings say

-- a finding is in such a list exactly where this holds of it
abbrev Says : (List Finding → Type 0) → (Finding → Type 0) → Type 0
Says Of Holds = (found : List Finding) → Of found → (f : Finding) → (In f found → Holds f) × (Holds f → In f found)

unless_says : (P : Type 0) (g : Finding) → Says (Unless P g) (λ f. (f ≡ g) × (P → ⊥))
unless_says P g found (inl h) f = (λ x. absurd (subst (λ (xs : List Finding). In f xs) h.1 x), λ w. absurd (w.1 h.0))
unless_says P g found (inr h) f = (
  λ x. elim (subst (λ (xs : List Finding). In f xs) h.1 x) [ inl e ↦ (e, h.0) | inr n ↦ absurd n ],
  λ w. subst (λ (xs : List Finding). In f xs) (sym h.1) (inl w.0),
)

both_says : (P Q : List Finding → Type 0) (V W : Finding → Type 0) → Says P V → Says Q W → Says (Both P Q) (λ f. V f ⊎ W f)
both_says P Q V W p q found h f =
    let a = p h.0 h.2 f in
    let b = q h.1 h.3 f in (
      λ x. elim (in_either f h.0 h.1 (subst (λ (xs : List Finding). In f xs) h.4 x)) [ inl y ↦ inl (a.0 y) | inr y ↦ inr (b.0 y) ],
      λ w. subst (λ (xs : List Finding). In f xs) (sym h.4) (elim w [ inl v ↦ in_left f h.0 h.1 (a.1 v) | inr v ↦ in_right f h.0 h.1 (b.1 v) ]),
    )

-- one of those below a number
record OneBelow (W : ℕ → Finding → Type 0) (n : ℕ) (f : Finding) : Type 0 where
  k : ℕ
  below : k < n
  holds : W k f

each_says : (F : ℕ → List Finding → Type 0) (W : ℕ → Finding → Type 0) (n : ℕ) → ((k : ℕ) → k < n → Says (F k) (W k)) → Says (OfEach F n) (OneBelow W n)
each_says F W zero s found h f = (λ x. absurd (subst (λ (xs : List Finding). In f xs) h x), λ w. let lt = w.below in absurd (omega (arith, lt)))
each_says F W (suc n) s found h f =
    let b = both_says (OfEach F n) (F n) (OneBelow W n) (W n) (each_says F W n (λ k lt. s k (omega (arith, lt)))) (s n (omega arith)) found h f in (
      λ x. elim (b.0 x) [
        | inl w ↦ (let lt = w.below in record { k = w.k; below = omega (arith, lt); holds = w.holds })
        | inr w ↦ record { k = n; below = omega arith; holds = w }
      ],
      λ w. let lt = w.below in
          b.1 (elim (below_or w.k n (omega (arith, lt))) [
            | inl e ↦ inr (subst (λ (j : ℕ). W j f) e w.holds)
            | inr less ↦ inl (record { k = w.k; below = less; holds = w.holds })
          ]),
    )

-- ---- a column

module _ (view : Opened) (n : ℕ) (rows : List Cell) (c : ℕ) where
  -- of a group of the column
  abbrev GroupSays : IndexedColumn → ℕ → Finding → Type 0
  GroupSays x g f = ((f ≡ IndexStatistic n c g) × (HasRightStatistic x g → ⊥)) ⊎ ((f ≡ IndexPosition n c g) × (HasRightPositions x g → ⊥))

  record GroupsSay (f : Finding) : Type 0 where
    x : IndexedColumn
    is : IsIndexedColumn view rows c x
    one : OneBelow (GroupSays x) (length x.entries) f

  abbrev IndexSays : Finding → Type 0
  IndexSays f = (0 < view.stride) × (((f ≡ IndexEntries n c) × ((x : IndexedColumn) → IsIndexedColumn view rows c x → ⊥)) ⊎ GroupsSay f)

  groups_say : (x : IndexedColumn) (g : ℕ) → Says (OfGroup x n c g) (GroupSays x g)
  groups_say x g =
      both_says (Unless (HasRightStatistic x g) (IndexStatistic n c g)) (Unless (HasRightPositions x g) (IndexPosition n c g))
      (λ f. (f ≡ IndexStatistic n c g) × (HasRightStatistic x g → ⊥)) (λ f. (f ≡ IndexPosition n c g) × (HasRightPositions x g → ⊥))
      (unless_says (HasRightStatistic x g) (IndexStatistic n c g)) (unless_says (HasRightPositions x g) (IndexPosition n c g))

  index_says : Says (OfIndex view n rows c) IndexSays
  index_says found (inl h) f = (λ x. absurd (subst (λ (xs : List Finding). In f xs) h.1 x), λ w. let some = w.0 in let none = h.0 in absurd (omega (arith, some, none)))
  index_says found (inr (some, inl h)) f = (
    λ x. (some, inl (elim (subst (λ (xs : List Finding). In f xs) h.1 x) [ inl e ↦ (e, h.0) | inr n ↦ absurd n ])),
    λ w. elim w.1 [ inl y ↦ subst (λ (xs : List Finding). In f xs) (sym h.1) (inl y.0) | inr y ↦ absurd (h.0 y.x y.is) ],
  )
  index_says found (inr (some, inr h)) f =
      let g = each_says (OfGroup h.0 n c) (GroupSays h.0) (length h.0.entries) (λ k lt. groups_say h.0 k) found h.2 f in (
        λ x. (some, inr (record { x = h.0; is = h.1; one = g.0 x })),
        λ w. elim w.1 [
          | inl y ↦ absurd (y.1 h.0 h.1)
          | inr y ↦ g.1 (subst (λ (z : IndexedColumn). OneBelow (GroupSays z) (length z.entries) f) (one_column view rows c y.x h.0 y.is h.1) y.one)
        ],
      )

  abbrev ColumnSays : List Stat → Finding → Type 0
  ColumnSays told f = ((f ≡ StripeStatistic n c) × (TellsStripe view.schema told rows c → ⊥)) ⊎ IndexSays f

  column_says : (told : List Stat) → Says (OfColumn view told n rows c) (ColumnSays told)
  column_says told =
      both_says (Unless (TellsStripe view.schema told rows c) (StripeStatistic n c)) (OfIndex view n rows c)
      (λ f. (f ≡ StripeStatistic n c) × (TellsStripe view.schema told rows c → ⊥)) IndexSays
      (unless_says (TellsStripe view.schema told rows c) (StripeStatistic n c)) index_says

-- ---- a file

module _ (bytes : List ℕ) (tail : Tail) (rows : List Cell) (is : FileIs bytes tail rows) where
  abbrev parts : List (List Cell)
  parts = cut_rows tail.stripes rows

  -- the stripe with this number as it is opened
  abbrev view_of : ℕ → StripeFooter → Opened
  view_of n footer = opened_stripe tail n (numbered_stripe_bytes bytes tail n) footer

  record StripeSays (n : ℕ) (f : Finding) : Type 0 where
    footer : StripeFooter
    has_footer : HasFooter tail.schema (stripe_at tail.stripes n) (numbered_stripe_bytes bytes tail n) footer
    one : OneBelow (λ c. ColumnSays (view_of n footer) n (rows_at parts n) c (stripe_told tail n)) (width tail.schema) f

  stripe_says : (n : ℕ) → Says (OfStripe tail n (numbered_stripe_bytes bytes tail n) (rows_at parts n)) (StripeSays n)
  stripe_says n found h f =
      let e = each_says (OfColumn (view_of n h.0) (stripe_told tail n) n (rows_at parts n)) (λ c. ColumnSays (view_of n h.0) n (rows_at parts n) c (stripe_told tail n)) (width tail.schema)
      (λ c lt. column_says (view_of n h.0) n (rows_at parts n) c (stripe_told tail n)) found h.2 f in (
        λ x. record { footer = h.0; has_footer = h.1; one = e.0 x },
        λ w. e.1 (subst (λ (t : StripeFooter). OneBelow (λ c. ColumnSays (view_of n t) n (rows_at parts n) c (stripe_told tail n)) (width tail.schema) f)
            (one_footer tail.schema (stripe_at tail.stripes n) (numbered_stripe_bytes bytes tail n) w.footer h.0 w.has_footer h.1) w.one),
      )

  abbrev FileSays : Finding → Type 0
  FileSays = OneBelow (λ c f. (f ≡ FileStatistic c) × (TellsFile tail parts c → ⊥)) (width tail.schema)

  abbrev FindingsSay : Finding → Type 0
  FindingsSay f = OneBelow StripeSays (length tail.stripes) f ⊎ FileSays f

  findings_say : Says (Findings bytes tail rows) FindingsSay
  findings_say =
      both_says (OfStripes bytes tail parts) (OfFile tail parts) (OneBelow StripeSays (length tail.stripes)) FileSays
      (each_says (λ n. OfStripe tail n (numbered_stripe_bytes bytes tail n) (rows_at parts n)) StripeSays (length tail.stripes) (λ n lt. stripe_says n))
      (each_says (λ c. Unless (TellsFile tail parts c) (FileStatistic c)) (λ c f. (f ≡ FileStatistic c) × (TellsFile tail parts c → ⊥)) (width tail.schema)
      (λ c lt. unless_says (TellsFile tail parts c) (FileStatistic c)))

  -- ---- from what is said to what is so

  group_so : (n c : ℕ) (f : Finding) (footer : StripeFooter) → HasColumn tail n c → HasFooter tail.schema (stripe_at tail.stripes n) (numbered_stripe_bytes bytes tail n) footer → 0 < tail.stride
      → (h : GroupsSay (view_of n footer) n (rows_at parts n) c f) → GroupSays (view_of n footer) n (rows_at parts n) c h.x h.one.k f → IsSo bytes tail parts f
  group_so n c f footer there has some h (inl w) = subst (IsSo bytes tail parts) (sym w.0) (
    h.x,
    record { there = there; stride = some; footer = footer; has_footer = has; column = h.is },
    h.one.below,
    w.1,
  )
  group_so n c f footer there has some h (inr w) = subst (IsSo bytes tail parts) (sym w.0) (
    h.x,
    record { there = there; stride = some; footer = footer; has_footer = has; column = h.is },
    h.one.below,
    w.1,
  )

  column_so : (n c : ℕ) (f : Finding) (footer : StripeFooter) → HasColumn tail n c → HasFooter tail.schema (stripe_at tail.stripes n) (numbered_stripe_bytes bytes tail n) footer
      → ColumnSays (view_of n footer) n (rows_at parts n) c (stripe_told tail n) f → IsSo bytes tail parts f
  column_so n c f footer there has (inl w) = subst (IsSo bytes tail parts) (sym w.0) (there, w.1)
  column_so n c f footer there has (inr (some, inl w)) = subst (IsSo bytes tail parts) (sym w.0) (
    there,
    some,
    λ x h.
        let same = one_footer tail.schema (stripe_at tail.stripes n) (numbered_stripe_bytes bytes tail n) h.footer footer h.has_footer has in
        w.1 x (subst (λ (t : StripeFooter). IsIndexedColumn (view_of n t) (rows_at parts n) c x) same h.column),
  )
  column_so n c f footer there has (inr (some, inr h)) = group_so n c f footer there has some h h.one.holds

  said_so : (f : Finding) → FindingsSay f → IsSo bytes tail parts f
  said_so f (inl w) =
      let s = w.holds in
      let one = s.one in
      column_so w.k one.k f s.footer (record { stripe = w.below; column = one.below }) s.has_footer one.holds
  said_so f (inr w) = subst (IsSo bytes tail parts) (sym w.holds.0) (w.below, w.holds.1)

  -- ---- and back

  column_said : (n c : ℕ) (f : Finding) (footer : StripeFooter) → HasColumn tail n c → HasFooter tail.schema (stripe_at tail.stripes n) (numbered_stripe_bytes bytes tail n) footer
      → ColumnSays (view_of n footer) n (rows_at parts n) c (stripe_told tail n) f → FindingsSay f
  column_said n c f footer there has says =
      inl (record { k = n; below = there.stripe; holds = record { footer = footer; has_footer = has; one = record { k = c; below = there.column; holds = says } } })

  group_said : (n c g : ℕ) (f : Finding) (x : IndexedColumn) (h : IsColumnOf bytes tail parts n c x) → g < length x.entries → GroupSays (view_of n h.footer) n (rows_at parts n) c x g f → FindingsSay f
  group_said n c g f x h below says =
      column_said n c f h.footer h.there h.has_footer (inr (h.stride, inr (record { x = x; is = h.column; one = record { k = g; below = below; holds = says } })))

  so_said : (f : Finding) → IsSo bytes tail parts f → FindingsSay f
  so_said (StripeStatistic n c) h =
      let s = stripe_is bytes tail rows is n h.0.stripe in
      column_said n c (StripeStatistic n c) s.footer h.0 s.has_footer (inl (refl, h.1))
  so_said (IndexEntries n c) h =
      let s = stripe_is bytes tail rows is n h.0.stripe in
      column_said n c (IndexEntries n c) s.footer h.0 s.has_footer (inr (
        h.1,
        inl (refl, λ x own. h.2 x (record { there = h.0; stride = h.1; footer = s.footer; has_footer = s.has_footer; column = own })),
      ))
  so_said (IndexStatistic n c g) h = group_said n c g (IndexStatistic n c g) h.0 h.1 h.2 (inl (refl, h.3))
  so_said (IndexPosition n c g) h = group_said n c g (IndexPosition n c g) h.0 h.1 h.2 (inr (refl, h.3))
  so_said (FileStatistic c) h = inr (record { k = c; below = h.0; holds = (refl, h.1) })

  pub each_found : (found : List Finding) (f : Finding) → Findings bytes tail rows found → (Contains found f → IsSo bytes tail parts f) × (IsSo bytes tail parts f → Contains found f)
  each_found found f h =
      let s = findings_say found h f in (
        λ x. said_so f (s.0 (contained_in found f x)),
        λ x. in_contained found f (s.1 (so_said f x)),
      )
