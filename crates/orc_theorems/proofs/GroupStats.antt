-- Statistics in the entries of row indexes, in a file without findings.
use Rattle.std.proofs.Common.{◌≡◌, sym, ap, ◌∙◌, arith, ℕ, zero, suc, ◌+◌, ◌*◌, ◌<◌, ◌≤◌, inl, inr, Option, Some, List, [], ◌∷◌, length, take, drop, slice_get, subst, true}
use Rattle.std.specs.Prelude.{IfSome}
use Rattle.std.specs.List.{AllByRecursion}
use Rattle.std.proofs.Math.Nat.{suc-mul, mul-le-mul_right}
use Rattle.std.proofs.Math.Seq.{take-add, drop-append_seam, take-append_seam}
use Rattle.std.proofs.lemmas.Bool.{cases_lt}
use Rattle.std.proofs.lemmas.Grind.{div_ceil_times}
use Rattle.std.proofs.lemmas.List.{take-append-drop, get_or-map, get_or_past, take_all, length-map}
use Rattle.std.proofs.lemmas.List.FromFn.{get_or-map-range_with_len, length-map-range_with_len}
use Rattle.orc_wire.specs.Messages.{row_index}
use Rattle.orc_wire.specs.laws.SpellsLaws.{one_spelled}
use Rattle.orc_wire.specs.declared.row_index.RowIndexEntry.{RowIndexEntry}
use Rattle.orc_wire.specs.declared.row_index.RowIndexMsg.{RowIndexMsg}
use Rattle.orc_wire.specs.declared.stripe_footer.StripeFooter.{StripeFooter}
use Rattle.orc_values.specs.Cells.{Cell}
use Rattle.orc_values.specs.Columns.{cells}
use Rattle.orc_values.specs.Fits.{fits, RowsFit}
use Rattle.orc_values.specs.Shapes.{Shape, width, shape_at}
use Rattle.orc_values.proofs.Together.{cells-append}
use Rattle.orc_values.proofs.Lists.{all_take}
use Rattle.orc_stats.specs.declared.stat.Stat.{Stat}
use Rattle.orc_stats.specs.Kinds.{kind_of}
use Rattle.orc_stats.specs.Statistics.{stat}
use Rattle.orc_row_groups.specs.Bounds.{bound_at, group_of}
use Rattle.orc_row_groups.specs.Groups.{group_count, starts_of_groups, cells_before, bounds_of}
use Rattle.orc_row_groups.proofs.BoundLemmas.{group_there}
use Rattle.orc_stripe_reader.specs.Opened.{Opened}
use Rattle.orc_stripe_reader.specs.RowIndexes.{HasIndex, index_text}
use Rattle.orc_stripe_reader.specs.GroupCursors.{IsGroupEntry}
use Rattle.orc_stripe_reader.proofs.OneStripe.{one_footer}
use Rattle.orc_tail.specs.Stripes.{stripe_at, stripe_bytes}
use Rattle.orc_tail.specs.declared.tail.Tail.{Tail}
use Rattle.orc_file_reader.specs.FileRows.{opened_stripe, cut_rows, FileIs}
use Rattle.orc_check.specs.Findings.{rows_at}
use Rattle.orc_check.specs.RightIndexes.{HasIndexes, HasAgreeingIndex}
use Rattle.orc_check.proofs.NoFinding.{stripe_is}
use Rattle.orc_skipping.proofs.Alike.{IsAlike}
use Rattle.orc_theorems.specs.StoredStats.{rows_of_group, stat_in_entry, AreStatsOfGroup}
use Rattle.orc_theorems.proofs.ReadyStats.{IsReady, ready, if_so, told_alike}

-- ---- a group's cells are those of its rows

front_cells : (s : Shape) (c n : ℕ) (rows : List Cell) → take (cells_before s c rows n) (cells s c rows) ≡ cells s c (take n rows)
front_cells s c n rows =
    ap (λ (rs : List Cell). take (cells_before s c rows n) (cells s c rs)) (sym (take-append-drop n rows))
    ∙ ap (take (cells_before s c rows n)) (cells-append s c (take n rows) (drop n rows))
    ∙ take-append_seam (cells s c (take n rows)) (cells s c (drop n rows))

between_cells : (s : Shape) (c n m : ℕ) (rows : List Cell)
    → drop (cells_before s c rows n) (cells s c (take (n + m) rows)) ≡ cells s c (take m (drop n rows))
between_cells s c n m rows =
    ap (λ (rs : List Cell). drop (cells_before s c rows n) (cells s c rs)) (take-add n m rows)
    ∙ ap (drop (cells_before s c rows n)) (cells-append s c (take n rows) (take m (drop n rows)))
    ∙ drop-append_seam (cells s c (take n rows)) (cells s c (take m (drop n rows)))

starts_long : (stride rows : ℕ) → length (starts_of_groups stride rows) ≡ group_count stride rows
starts_long stride rows = length-map-range_with_len (λ n. n * stride) 0 (group_count stride rows)

pub bounds_long : (s : Shape) (c stride : ℕ) (rows : List Cell) → length (bounds_of s c rows (starts_of_groups stride (length rows))) ≡ group_count stride (length rows)
bounds_long s c stride rows = length-map (starts_of_groups stride (length rows)) (cells_before s c rows) ∙ starts_long stride (length rows)

module _ (s : Shape) (c stride : ℕ) (rows : List Cell) (some : 0 < stride) where
  abbrev bounds : List ℕ
  bounds = bounds_of s c rows (starts_of_groups stride (length rows))

  abbrev count : ℕ
  count = length (cells s c rows)

  bound_there : (g : ℕ) → g < group_count stride (length rows) → bound_at count bounds g ≡ cells_before s c rows (g * stride)
  bound_there g less =
      let lt : g < length (starts_of_groups stride (length rows)) = omega (arith, less, starts_long stride (length rows)) in
      get_or-map (cells_before s c rows) (starts_of_groups stride (length rows)) g 0 count lt
      ∙ ap (cells_before s c rows) (get_or-map-range_with_len (λ n. n * stride) 0 (group_count stride (length rows)) g g 0 less (omega arith))

  -- the cells before the end of a group, which may be the last
  front_to : (g : ℕ) → take (bound_at count bounds (suc g)) (cells s c rows) ≡ cells s c (take (g * stride + stride) rows)
  front_to g = elim (cases_lt (suc g) (group_count stride (length rows))) [
    | inl less ↦
        ap (λ n. take n (cells s c rows)) (bound_there (suc g) less)
        ∙ front_cells s c (suc g * stride) rows
        ∙ ap (λ n. cells s c (take n rows)) (suc-mul g stride)
    | inr past ↦ (
        let long : length bounds ≤ suc g = omega (arith, past, bounds_long s c stride rows) in
        let all : length rows ≤ group_count stride (length rows) * stride = (div_ceil_times (length rows) stride some).0 in
        let more : group_count stride (length rows) * stride ≤ suc g * stride = mul-le-mul_right stride past in
        let few : length rows ≤ g * stride + stride = omega (arith, all, more, suc-mul g stride) in
        ap (λ n. take n (cells s c rows)) (get_or_past bounds (suc g) count long)
        ∙ take_all count (cells s c rows) (omega arith)
        ∙ ap (cells s c) (sym (take_all (g * stride + stride) rows few)))
  ]

  pub group_is : (g : ℕ) → g < group_count stride (length rows)
      → group_of (cells s c rows) bounds g ≡ cells s c (rows_of_group stride g rows)
  group_is g less =
      ap (drop (bound_at count bounds g)) (front_to g)
      ∙ ap (λ n. drop n (cells s c (take (g * stride + stride) rows))) (bound_there g less)
      ∙ between_cells s c (g * stride) stride rows

-- ---- an entry

all_drop : {X : Type 0} (P : X → Type 0) (n : ℕ) (xs : List X) → AllByRecursion P xs → AllByRecursion P (drop n xs)
all_drop P zero xs h = h
all_drop P (suc n) [] h = tt
all_drop P (suc n) (x ∷ xs) h = all_drop P n xs h.1

pub one_index : (footer : StripeFooter) (bytes : List ℕ) (c : ℕ) (a b : RowIndexMsg) → HasIndex footer bytes c a → HasIndex footer bytes c b → a ≡ b
one_index footer bytes c a b p q = one_spelled row_index 0 0 (index_text footer bytes c) a b p.1 q.1

-- an entry's statistic, of an index that agrees with a stripe's rows
entry_ready : (view : Opened) (group : ℕ) (rows : List Cell) (c : ℕ) (x : Stat) → 0 < view.stride → group < group_count view.stride (length rows)
    → RowsFit view.schema rows → c < width view.schema → HasAgreeingIndex view.stride view.schema rows view.footer view.bytes c
    → (entry : RowIndexEntry) → IsGroupEntry view c group entry → stat_in_entry (shape_at view.schema c) entry ≡ Some x
    → IsReady view.schema (rows_of_group view.stride group rows) c x
entry_ready view group rows c x some less fit lt right entry is e =
    let s = view.schema in
    let k = kind_of (shape_at s c) in
    let one : right.1.message ≡ is.0 = one_index view.footer view.bytes c right.1.message is.0 (right.0, right.1.spelled) is.1 in
    let got : slice_get right.1.message.entries group ≡ Some entry = ap (λ (m : RowIndexMsg). slice_get m.entries group) one ∙ is.3 in
    let tells = right.1.statistics group entry got in
    let own : IsAlike x (stat k (group_of (cells s c rows) (bounds_of s c rows (starts_of_groups view.stride (length rows))) group)) =
    told_alike (stat_in_entry (shape_at s c) entry) x _ e tells in
    ready s (rows_of_group view.stride group rows) c x lt
    (all_take (λ r. fits r s ≡ true) view.stride _ (all_drop (λ r. fits r s ≡ true) (group * view.stride) rows fit))
    (subst (λ (cs : List Cell). IsAlike x (stat k cs)) (group_is s c view.stride rows some group less) own)

pub group_ready : (bytes : List ℕ) (tail : Tail) (rows : List Cell) (told : ℕ → Option Stat) (part : List Cell) → FileIs bytes tail rows → HasIndexes bytes tail rows
    → (h : AreStatsOfGroup bytes tail rows told part)
    → (c : ℕ) → IfSome (told c) (IsReady tail.schema (rows_of_group tail.stride h.group (rows_at (cut_rows tail.stripes rows) h.stripe)) c)
group_ready bytes tail rows told part is indexes h c =
    let s = tail.schema in
    let n = h.stripe in
    let text : List ℕ = stripe_bytes (stripe_at tail.stripes n) bytes in
    let here : List Cell = rows_at (cut_rows tail.stripes rows) n in
    let indexed = indexes h.has_group.indexed n h.there in
    let same : indexed.footer ≡ h.footer = one_footer s (stripe_at tail.stripes n) text indexed.footer h.footer indexed.has_footer h.has_footer in
    let spelled = (stripe_is bytes tail rows is n h.there).spelled in
    let less : h.group < group_count tail.stride (length here) = group_there tail.stride (length here) h.group h.has_group.indexed (omega (arith, h.has_group.there, spelled.counted)) in
    if_so (told c) _ (IsReady s (rows_of_group tail.stride h.group here) c) (h.stored c)
    (λ x k. entry_ready (opened_stripe tail n text h.footer) h.group here c x h.has_group.indexed less spelled.fit k.0
    (subst (λ (f : StripeFooter). HasAgreeingIndex tail.stride s here f text c) same (indexed.right c k.0)) k.1.0 k.1.1 k.1.2)
