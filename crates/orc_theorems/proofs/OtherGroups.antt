-- A group that isn't among those that the bold rule keeps has no row that matches.
use Rattle.std.proofs.Common.{◌≡◌, ◌∙◌, refl, sym, ap, arith, ℕ, zero, suc, ◌+◌, ◌*◌, ◌<◌, ◌==◌, ◌⊎◌, inl, inr, Bool, true, false, if◌then◌else◌, Option, Some, None, List, [], ◌∷◌, length, slice_get, subst, eqb-true}
use Rattle.std.specs.Prelude.{IfSome}
use Rattle.std.specs.List.{Contains}
use Rattle.std.proofs.lemmas.Bool.{cases_lt}
use Rattle.std.proofs.lemmas.List.Elements.{Contains-append_left, Contains-append_right}
use Rattle.orc_wire.specs.declared.row_index.RowIndexEntry.{RowIndexEntry}
use Rattle.orc_wire.specs.declared.row_index.RowIndexMsg.{RowIndexMsg}
use Rattle.orc_wire.specs.declared.stripe_footer.StripeFooter.{StripeFooter}
use Rattle.orc_values.specs.Cells.{Cell}
use Rattle.orc_values.specs.Shapes.{width, shape_at}
use Rattle.orc_stats.specs.declared.kind.StatKind.{StatKind}
use Rattle.orc_stats.specs.declared.stat.Stat.{Stat}
use Rattle.orc_stats.specs.Kinds.{kind_of}
use Rattle.orc_skipping.specs.Predicates.{Predicate}
use Rattle.orc_skipping.specs.Rules.{bold}
use Rattle.orc_skipping.specs.Right.{NoneMatches}
use Rattle.orc_skipping.specs.Tests.{said_of, at_column}
use Rattle.orc_skipping.specs.Groups.{keeps_entry, groups_kept}
use Rattle.orc_skipping.specs.declared.keeping_groups.GroupPlace.{GroupPlace}
use Rattle.orc_row_groups.specs.Groups.{group_count}
use Rattle.orc_row_groups.proofs.BoundLemmas.{group_there}
use Rattle.orc_stripe_reader.specs.Opened.{Opened}
use Rattle.orc_stripe_reader.specs.RowIndexes.{HasIndex}
use Rattle.orc_stripe_reader.specs.GroupCursors.{IsGroupEntry}
use Rattle.orc_stripe_reader.proofs.OneStripe.{one_footer}
use Rattle.orc_tail.specs.Stripes.{stripe_at, stripe_bytes}
use Rattle.orc_tail.specs.declared.tail.Tail.{Tail}
use Rattle.orc_file_reader.specs.FileRows.{opened_stripe, cut_rows, FileIs}
use Rattle.orc_check.specs.Findings.{Findings, stripe_told, rows_at}
use Rattle.orc_check.specs.RightIndexes.{HasIndexes}
use Rattle.orc_theorems.specs.StoredStats.{rows_of_group, stat_in_entry, IsStatOfGroup, AreStatsOfStripe, AreStatsOfGroup, AreStoredStats}
use Rattle.orc_theorems.specs.KeptGroups.{AreRowsAt, AreKeptByIndex, IsKeptByStatistic, AreKeptOfStripe, AreGroupsKept}
use Rattle.orc_theorems.proofs.GroupStats.{one_index}
use Rattle.orc_theorems.proofs.KeptLemmas.{index_there}

-- what the theorem says of the bold rule
abbrev pub BoldLaw : Type 0
BoldLaw = (bytes : List ℕ) (tail : Tail) (rows : List Cell) (told : ℕ → Option Stat) (part : List Cell) (p : Predicate) → FileIs bytes tail rows → Findings bytes tail rows []
    → AreStoredStats bytes tail rows told part → bold told p ≡ false → NoneMatches tail.schema p part

-- whatever the column's number is, the rule goes by its statistic
abbrev pub ColumnLaw : Type 0
ColumnLaw = (c : ℕ) (told : Option Stat) (p : Predicate) → bold (at_column c told) (said_of c p) ≡ bold (λ _. told) p

-- ---- the groups of a stripe

in_rest : (b : Bool) (y : GroupPlace) (rest : List GroupPlace) (x : GroupPlace) → Contains rest x → Contains (if b then y ∷ rest else rest) x
in_rest true y rest x h = Contains-append_right (y ∷ []) rest x h
in_rest false y rest x h = h

kept_or_not : (k : StatKind) (p : Predicate) (n from g h : ℕ) (es : List RowIndexEntry) (e : RowIndexEntry) → h ≡ from + g → slice_get es g ≡ Some e
    → (let place : GroupPlace = record { stripe = n; group = h } in Contains (groups_kept k p n from es) place ⊎ (keeps_entry k p e ≡ false))
kept_or_not k p n from g h [] e is at = cc
kept_or_not k p n from zero h (x ∷ es) e is at = by (keeps_entry k p x) refl
  where
    inside : (a b : RowIndexEntry) → Some a ≡ Some b → a ≡ b
    inside a b f = cc

    by : (b : Bool) → keeps_entry k p x ≡ b
        → (let place : GroupPlace = record { stripe = n; group = h } in
        let here : GroupPlace = record { stripe = n; group = from } in
        Contains (if b then here ∷ groups_kept k p n (suc from) es else groups_kept k p n (suc from) es) place ⊎ (keeps_entry k p e ≡ false))
    by true f =
        let same : from ≡ h = omega arith in
        inl (0, omega arith, λ i. record { stripe = n; group = same i })
    by false f = inr (ap (keeps_entry k p) (sym (inside x e at)) ∙ f)
kept_or_not k p n from (suc g) h (x ∷ es) e is at = elim (kept_or_not k p n (suc from) g h es e (omega arith) at) [
  | inl has ↦ inl (in_rest (keeps_entry k p x) (record { stripe = n; group = from }) (groups_kept k p n (suc from) es) (record { stripe = n; group = h }) has)
  | inr not_kept ↦ inr not_kept
]

entry_there : (es : List RowIndexEntry) (g : ℕ) → g < length es → (e : RowIndexEntry) × (slice_get es g ≡ Some e)
entry_there [] g lt = absurd (omega (arith, lt))
entry_there (e ∷ es) zero lt = (e, refl)
entry_there (e ∷ es) (suc g) lt = entry_there es g (omega (arith, lt))

-- ---- those of all stripes

own_of : (bytes : List ℕ) (tail : Tail) (c : ℕ) (p : Predicate) (m n : ℕ) (places : List GroupPlace) → AreGroupsKept bytes tail c p m places → n < m
    → (own : List GroupPlace) × AreKeptOfStripe bytes tail c p n own × ((x : GroupPlace) → Contains own x → Contains places x)
own_of bytes tail c p zero n places h lt = absurd (omega arith)
own_of bytes tail c p (suc m) n places h lt = elim (cases_lt n m) [
  | inl less ↦ (
      let r = own_of bytes tail c p m n h.0 h.1 less in
      (r.0, r.1, λ x has. subst (λ (l : List GroupPlace). Contains l x) (sym h.2.2) (Contains-append_left h.0 h.2.0 x (r.2 x has))))
  | inr past ↦ (
      let same : m ≡ n = omega (arith, past, lt) in
      (h.2.0, subst (λ (k : ℕ). AreKeptOfStripe bytes tail c p k h.2.0) same h.2.1, λ x has. subst (λ (l : List GroupPlace). Contains l x) (sym h.2.2) (Contains-append_right h.0 h.2.0 x has)))
]

-- what is stored of column c alone
at_one : (P : ℕ → Stat → Type 0) (c : ℕ) (told : Option Stat) → IfSome told (P c) → (d : ℕ) → IfSome (at_column c told d) (P d)
at_one P c told h d = by (d == c) refl
  where
    by : (t : Bool) → (d == c) ≡ t → IfSome (if t then told else None) (P d)
    by false e = tt
    by true e = subst (λ (j : ℕ). IfSome told (P j)) (sym (eqb-true d c e)) h

stored_of : (o : Option Stat) (P : Stat → Type 0) → ((x : Stat) → o ≡ Some x → P x) → IfSome o P
stored_of None P h = tt
stored_of (Some x) P h = h x refl

module _ (law : BoldLaw) (one : ColumnLaw) (bytes : List ℕ) (tail : Tail) (rows : List Cell) (is : FileIs bytes tail rows) (found : Findings bytes tail rows [])
    (indexes : HasIndexes bytes tail rows) (c : ℕ) (p : Predicate) (n : ℕ) (lt : n < length tail.stripes) (own : List GroupPlace) where
  abbrev text : List ℕ
  text = stripe_bytes (stripe_at tail.stripes n) bytes

  abbrev here : List Cell
  here = rows_at (cut_rows tail.stripes rows) n

  by_index : c < width tail.schema → AreKeptByIndex bytes tail c p n own → (g : ℕ) → g * tail.stride < (stripe_at tail.stripes n).number_of_rows
      → (let place : GroupPlace = record { stripe = n; group = g } in Contains own place ⊎ NoneMatches tail.schema (said_of c p) (rows_of_group tail.stride g here))
  by_index below k g begun =
      let s = tail.schema in
      let view : Opened = opened_stripe tail n text k.footer in
      let there = index_there bytes tail rows is indexes k.indexed n lt c below in
      let footer : there.footer ≡ k.footer = one_footer s (stripe_at tail.stripes n) text there.footer k.footer there.has_footer k.has_footer in
      let message : there.message ≡ k.message = one_index k.footer text c there.message k.message (subst (λ (f : StripeFooter). HasIndex f text c there.message) footer there.has_index) k.has_index in
      let whole : length k.message.entries ≡ group_count tail.stride (stripe_at tail.stripes n).number_of_rows = ap (λ (m : RowIndexMsg). length m.entries) (sym message) ∙ there.whole in
      let less : g < length k.message.entries = omega (arith, whole, group_there tail.stride (stripe_at tail.stripes n).number_of_rows g k.indexed begun) in
      let e = entry_there k.message.entries g less in
      let entry : IsGroupEntry view c g e.0 = (k.message, k.has_index, whole, e.1) in
      let told : Option Stat = stat_in_entry (shape_at s c) e.0 in
      let stats : AreStatsOfGroup bytes tail rows (at_column c told) (rows_of_group tail.stride g here) = record {
        stripe = n;
        group = g;
        footer = k.footer;
        there = lt;
        has_footer = k.has_footer;
        has_group = record { indexed = k.indexed; there = begun };
        rows_are = refl;
        stored = at_one (IsStatOfGroup view g) c told (stored_of told (IsStatOfGroup view g c) (λ x h. (below, (e.0, entry, h))));
      } in
      elim (kept_or_not (kind_of (shape_at s c)) p n 0 g g k.message.entries e.0 (omega arith) e.1) [
        | inl has ↦ inl (subst (λ (l : List GroupPlace). (let place : GroupPlace = record { stripe = n; group = g } in Contains l place)) (sym k.places_are) has)
        | inr skipped ↦ inr (law bytes tail rows (at_column c told) (rows_of_group tail.stride g here) (said_of c p) is found
            (inr (inl stats))
            (one c told p ∙ skipped))
      ]

  by_statistic : IsKeptByStatistic tail c p n own
      → (let place : GroupPlace = record { stripe = n; group = 0 } in Contains own place ⊎ NoneMatches tail.schema (said_of c p) here)
  by_statistic k = by (bold (λ _. Some k.told) p) refl
    where
      by : (b : Bool) → bold (λ _. Some k.told) p ≡ b
          → (let place : GroupPlace = record { stripe = n; group = 0 } in Contains own place ⊎ NoneMatches tail.schema (said_of c p) here)
      by true e =
          let place : GroupPlace = record { stripe = n; group = 0 } in
          let is_kept : own ≡ place ∷ [] = k.places_are ∙ ap (λ (b : Bool). if b then place ∷ [] else []) e in
          inl (subst (λ (l : List GroupPlace). Contains l place) (sym is_kept) (0, omega arith, refl))
      by false e =
          let stats : AreStatsOfStripe tail rows (at_column c (Some k.told)) here = record {
            stripe = n;
            there = lt;
            rows_are = refl;
            stored = at_one (λ d x. slice_get (stripe_told tail n) d ≡ Some x) c (Some k.told) k.stored;
          } in
          inr (law bytes tail rows (at_column c (Some k.told)) here (said_of c p) is found (inl stats) (one c (Some k.told) p ∙ e))

-- ---- the others

pub others : BoldLaw → ColumnLaw → (bytes : List ℕ) (tail : Tail) (rows : List Cell) → FileIs bytes tail rows → Findings bytes tail rows [] → HasIndexes bytes tail rows
    → (c : ℕ) (p : Predicate) (places : List GroupPlace) → AreGroupsKept bytes tail c p (length tail.stripes) places
    → (place : GroupPlace) (part : List Cell) → AreRowsAt tail rows place part → Contains places place ⊎ NoneMatches tail.schema (said_of c p) part
others law one bytes tail rows is found indexes c p places kept place part (inl h) =
    let r = own_of bytes tail c p (length tail.stripes) place.stripe places kept h.is_place.there in
    by r.0 r.1.1 r.1.0 r.2
  where
    by : (own : List GroupPlace) → AreKeptByIndex bytes tail c p place.stripe own ⊎ IsKeptByStatistic tail c p place.stripe own → c < width tail.schema
        → ((x : GroupPlace) → Contains own x → Contains places x) → Contains places place ⊎ NoneMatches tail.schema (said_of c p) part
    by own (inl k) below within = elim (by_index law one bytes tail rows is found indexes c p place.stripe h.is_place.there own below k place.group h.is_place.begun) [
      | inl has ↦ inl (within place has)
      | inr none ↦ inr (subst (NoneMatches tail.schema (said_of c p)) (sym h.rows_are) none)
    ]
    by own (inr k) below within = absurd (omega (arith, k.unindexed, h.is_place.indexed))
others law one bytes tail rows is found indexes c p places kept place part (inr h) =
    let r = own_of bytes tail c p (length tail.stripes) place.stripe places kept h.there in
    by r.0 r.1.1 r.2
  where
    by : (own : List GroupPlace) → AreKeptByIndex bytes tail c p place.stripe own ⊎ IsKeptByStatistic tail c p place.stripe own
        → ((x : GroupPlace) → Contains own x → Contains places x) → Contains places place ⊎ NoneMatches tail.schema (said_of c p) part
    by own (inl k) within = absurd (omega (arith, k.indexed, h.unindexed))
    by own (inr k) within = elim (by_statistic law one bytes tail rows is found indexes c p place.stripe h.there own k) [
      | inl has ↦ inl (within place (subst (λ (g : ℕ). (let x : GroupPlace = record { stripe = place.stripe; group = g } in Contains own x)) (sym h.first) has))
      | inr none ↦ inr (subst (NoneMatches tail.schema (said_of c p)) (sym h.rows_are) none)
    ]
