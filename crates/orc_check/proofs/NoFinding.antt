-- Nothing is found of a file exactly where its statistics and its row indexes agree with its rows.
use Rattle.std.proofs.Common.{◌≡◌, ◌∙◌, ℕ, zero, suc, ◌<◌, ◌≤◌, ◌⊎◌, inl, inr, List, [], ◌∷◌, ◌++◌, length, get_or, slice_get, Some, None, Option, refl, sym, ap, subst, arith}
use Rattle.std.specs.Option.{option_map}
use Rattle.std.specs.List.{AllByRecursion}
use Rattle.orc_wire.specs.declared.row_index.RowIndexEntry.{RowIndexEntry}
use Rattle.orc_wire.specs.declared.stripe_footer.StripeFooter.{StripeFooter}
use Rattle.orc_wire.specs.declared.stripe_info.StripeInfo.{StripeInfo}
use Rattle.orc_values.specs.Cells.{Cell}
use Rattle.orc_values.specs.Columns.{cells}
use Rattle.orc_values.specs.Shapes.{Shape, width, shape_at}
use Rattle.orc_stats.specs.declared.stat.Stat.{Stat}
use Rattle.orc_stats.specs.Kinds.{kind_of}
use Rattle.orc_stats.specs.Known.{Agrees}
use Rattle.orc_stats.specs.Messages.{stat_read}
use Rattle.orc_stats.specs.Statistics.{stat}
use Rattle.orc_stats.proofs.Agreed.{same_agrees}
use Rattle.orc_column_reader.specs.Stripe.{HasFooter, IsStripe}
use Rattle.orc_row_groups.specs.Bounds.{before_group, group_of}
use Rattle.orc_row_index.specs.Positions.{AreReadPositions}
use Rattle.orc_row_index.specs.RowIndex.{SaysStat, HasRightIndex}
use Rattle.orc_row_groups.specs.Groups.{starts_of_groups, bounds_of}
use Rattle.orc_stats.specs.ColumnStatistics.{column_stat}
use Rattle.orc_stripe_reader.specs.Opened.{Opened}
use Rattle.orc_tail.specs.Stripes.{stripe_at, stripe_bytes}
use Rattle.orc_file_reader.specs.FileRows.{opened_stripe, cut_rows, AreOfStripes, FileIs}
use Rattle.orc_file_reader.specs.Honest.{AgreeStats, AreHonest, Honest, HasWholeStats, known_whole_of}
use Rattle.orc_tail.specs.declared.tail.Tail.{Tail}
use Rattle.orc_file_reader.proofs.RowLemmas.{rows_cut}
use Rattle.orc_check.specs.declared.finding.Finding.{Finding}
use Rattle.orc_check.specs.declared.finding.Finding.TheVariants.{StripeStatistic, IndexStatistic, IndexPosition, FileStatistic}
use Rattle.orc_check.specs.Agreeing.{Tells}
use Rattle.orc_check.specs.Findings.{Unless, Both, OfEach, IndexedColumn, HasRightStatistic, HasRightPositions, OfGroup, OfGroups, column_with, OfIndex, OfColumn, OfStripe, OfStripes, OfFile, Findings, TellsStripe, TellsFile, TellsWhole, TellsGroup, entry_of_group, stripe_told, rows_at}
use Rattle.orc_check.specs.RightIndexes.{HasAgreeingIndex, HasIndexes}
use Rattle.orc_check.proofs.CheckLemmas.{below_or}
use Rattle.orc_check.proofs.GroupBounds.{bounds_long}

-- ---- no finding of each

none_each : (F : ℕ → List Finding → Type 0) (n : ℕ) → ((k : ℕ) → k < n → F k []) → OfEach F n []
none_each F zero h = refl
none_each F (suc n) h = ([], [], none_each F n (λ k lt. h k (omega (arith, lt))), h n (omega arith), refl)

no_more : (a b : List Finding) → [] ≡ a ++ b → (a ≡ []) × (b ≡ [])
no_more [] [] e = (refl, refl)
no_more [] (y ∷ b) e = cc
no_more (x ∷ a) b e = cc

each_at : (F : ℕ → List Finding → Type 0) (n : ℕ) → OfEach F n [] → (k : ℕ) → k < n → F k []
each_at F zero h k lt = absurd (omega (arith, lt))
each_at F (suc n) h k lt =
    let both = no_more h.0 h.1 h.4 in
    elim (below_or k n (omega (arith, lt))) [
      | inl e ↦ subst (λ (j : ℕ). F j []) (sym e) (subst (F n) both.1 h.3)
      | inr b ↦ each_at F n (subst (OfEach F n) both.0 h.2) k b
    ]

first_none : (P Q : List Finding → Type 0) → Both P Q [] → P []
first_none P Q h = subst P (no_more h.0 h.1 h.4).0 h.2

second_none : (P Q : List Finding → Type 0) → Both P Q [] → Q []
second_none P Q h = subst Q (no_more h.0 h.1 h.4).1 h.3

holds_of : (P : Type 0) (f : Finding) → Unless P f [] → P
holds_of P f (inl h) = h.0
holds_of P f (inr h) = let wrong = h.1 in cc

-- ---- what is told

tells_of : (told : Option Stat) (right : Stat) → told ≡ Some right → Tells told right
tells_of told right e = subst (λ (t : Option Stat). Tells t right) (sym e) (same_agrees right)

-- what is told, and agrees
abbrev IsTold : Option Stat → Stat → Type 0
IsTold told right = (x : Stat) × (told ≡ Some x) × Agrees x right

told_tells : (told : Option Stat) (right : Stat) → IsTold told right → Tells told right
told_tells told right h = subst (λ (t : Option Stat). Tells t right) (sym h.1) h.2

told_is : (told : Option Stat) (right : Stat) → Tells told right → IsTold told right
told_is None right h = absurd h
told_is (Some x) right h = (x, refl, h)

-- an entry that says its group's statistic tells it
says_of : (s : Shape) (group : List Cell) (entry : RowIndexEntry) → SaysStat s group entry → TellsGroup s group entry
says_of s group entry h = tells_of (option_map (stat_read (kind_of s)) entry.statistics) (stat (kind_of s) group) (ap (option_map (stat_read (kind_of s))) h.1 ∙ ap Some h.2)

-- an index that is right agrees with the rows
pub right_agrees : (stride : ℕ) (s : Shape) (rows : List Cell) (footer : StripeFooter) (bytes : List ℕ) (c : ℕ) → HasRightIndex stride s rows footer bytes c → HasAgreeingIndex stride s rows footer bytes c
right_agrees stride s rows footer bytes c h =
    let r = h.1 in
    let group : ℕ → List Cell = group_of (cells s c rows) (bounds_of s c rows (starts_of_groups stride (length rows))) in (
      h.0,
      record {
        message = r.message;
        spelled = r.spelled;
        counted = r.counted;
        positions = r.positions;
        statistics = λ g e got. says_of (shape_at s c) (group g) e (r.statistics g e got);
      },
    )

-- so does the statistic of the whole file that is right
pub whole_tells : (tail : Tail) (rows : List Cell) → HasWholeStats tail rows → TellsWhole tail rows
whole_tells tail rows h c lt = tells_of (slice_get tail.file_stats c) (known_whole_of tail.schema tail.stripe_stats (cut_rows tail.stripes rows) c) (h.each c lt)

-- ---- entries

entry_there : (es : List RowIndexEntry) (g : ℕ) → g < length es → slice_get es g ≡ Some (entry_of_group es g)
entry_there [] g lt = absurd (omega (arith, lt))
entry_there (e ∷ es) zero lt = refl
entry_there (e ∷ es) (suc g) lt = entry_there es g (omega (arith, lt))

entry_below : (es : List RowIndexEntry) (g : ℕ) (e : RowIndexEntry) → slice_get es g ≡ Some e → (g < length es) × (entry_of_group es g ≡ e)
entry_below [] g e h = cc
entry_below (x ∷ es) zero e h = let same : x ≡ e = cc in (omega arith, same)
entry_below (x ∷ es) (suc g) e h = let rest = entry_below es g e h in (omega (arith, rest.0), rest.1)

module _ (view : Opened) (n : ℕ) (rows : List Cell) (c : ℕ) (some : 0 < view.stride) where
  abbrev s : Shape
  s = shape_at view.schema c

  index_right : OfIndex view n rows c [] → HasAgreeingIndex view.stride view.schema rows view.footer view.bytes c
  index_right (inl z) = absurd (omega (arith, z.0, some))
  index_right (inr (k, inl h)) = let wrong = h.1 in cc
  index_right (inr (k, inr h)) =
      let is = h.1 in
      let es : List RowIndexEntry = is.message.entries in
      let x : IndexedColumn = column_with view rows c es in
      let groups : OfGroups x n c [] = subst (λ (y : IndexedColumn). OfGroups y n c []) is.column_is h.2 in
      let at : (g : ℕ) → g < length es → OfGroup x n c g [] = λ g lt. each_at (OfGroup x n c) (length es) groups g lt in
      let tells : (g : ℕ) → g < length es → HasRightStatistic x g = λ g lt.
      holds_of (HasRightStatistic x g) (IndexStatistic n c g) (first_none (Unless (HasRightStatistic x g) (IndexStatistic n c g)) (Unless (HasRightPositions x g) (IndexPosition n c g)) (at g lt)) in
      let places : (g : ℕ) → g < length es → HasRightPositions x g = λ g lt.
      holds_of (HasRightPositions x g) (IndexPosition n c g) (second_none (Unless (HasRightStatistic x g) (IndexStatistic n c g)) (Unless (HasRightPositions x g) (IndexPosition n c g)) (at g lt)) in (
        is.has_index.0,
        record {
          message = is.message;
          spelled = is.has_index.1;
          counted = is.whole ∙ sym (bounds_long view.schema c view.stride rows);
          positions = λ g e got. let b = entry_below es g e got in subst (λ (y : RowIndexEntry). AreReadPositions s x.streams (before_group x.cells x.bounds g) y.positions) b.1 (places g b.0);
          statistics = λ g e got. let b = entry_below es g e got in subst (λ (y : RowIndexEntry). TellsGroup s (group_of x.cells x.bounds g) y) b.1 (tells g b.0);
        },
      )

  pub right_index : HasAgreeingIndex view.stride view.schema rows view.footer view.bytes c → OfIndex view n rows c []
  right_index h =
      let r = h.1 in
      let es : List RowIndexEntry = r.message.entries in
      inr (
        some,
        inr (
          column_with view rows c es,
          record { message = r.message; has_index = (h.0, r.spelled); whole = r.counted ∙ bounds_long view.schema c view.stride rows; column_is = refl },
          none_each (OfGroup (column_with view rows c es) n c) (length es)
              (λ g lt. let got = entry_there es g lt in ([], [], inl (r.statistics g (entry_of_group es g) got, refl), inl (r.positions g (entry_of_group es g) got, refl), refl)),
        ),
      )

-- ---- the stripes

honest_at : (s : Shape) (parts : List (List Cell)) (stats : List (List Stat)) → AreHonest s parts stats → (n : ℕ) → n < length parts → AgreeStats s (rows_at parts n) (width s) (get_or stats n [])
honest_at s [] stats h n lt = absurd (omega (arith, lt))
honest_at s (p ∷ parts) [] h n lt = absurd h
honest_at s (p ∷ parts) (y ∷ stats) h zero lt = h.0
honest_at s (p ∷ parts) (y ∷ stats) h (suc n) lt = honest_at s parts stats h.1 n (omega (arith, lt))

pub cut_many : (infos : List StripeInfo) (rows : List Cell) → length (cut_rows infos rows) ≡ length infos
cut_many [] rows = refl
cut_many (i ∷ is) rows = ap suc (cut_many is _)

stripe_there : (s : Shape) (bytes : List ℕ) (infos : List StripeInfo) (parts : List (List Cell)) → AreOfStripes s bytes infos parts → (n : ℕ) → n < length infos
    → IsStripe s (stripe_at infos n) (stripe_bytes (stripe_at infos n) bytes) (rows_at parts n)
stripe_there s bytes [] parts h n lt = absurd (omega (arith, lt))
stripe_there s bytes (i ∷ is) [] h n lt = absurd h
stripe_there s bytes (i ∷ is) (p ∷ parts) h zero lt = h.0
stripe_there s bytes (i ∷ is) (p ∷ parts) h (suc n) lt = stripe_there s bytes is parts h.1 n (omega (arith, lt))

zero_or_more : (n : ℕ) → (n ≡ 0) ⊎ (0 < n)
zero_or_more zero = inl refl
zero_or_more (suc n) = inr (omega arith)

module _ (bytes : List ℕ) (tail : Tail) (rows : List Cell) (is : FileIs bytes tail rows) where
  abbrev parts : List (List Cell)
  parts = cut_rows tail.stripes rows

  abbrev text : ℕ → List ℕ
  text n = stripe_bytes (stripe_at tail.stripes n) bytes

  pub stripe_is : (n : ℕ) → n < length tail.stripes → IsStripe tail.schema (stripe_at tail.stripes n) (text n) (rows_at parts n)
  stripe_is n lt = stripe_there tail.schema bytes tail.stripes parts (rows_cut bytes tail rows is) n lt

  -- ---- from what is right to no finding

  column_none : Honest tail rows → (n : ℕ) → n < length tail.stripes → (footer : StripeFooter) → (c : ℕ) → c < width tail.schema → OfIndex (opened_stripe tail n (text n) footer) n (rows_at parts n) c []
      → OfColumn (opened_stripe tail n (text n) footer) (stripe_told tail n) n (rows_at parts n) c []
  column_none honest n lt footer c there index =
      let own = honest_at tail.schema parts tail.stripe_stats honest n (omega (arith, lt, cut_many tail.stripes rows)) in
      ([], [], inl (told_tells (slice_get (stripe_told tail n) c) (column_stat tail.schema (rows_at parts n) c) (own.each c there), refl), index, refl)

  stripe_none : Honest tail rows → HasIndexes bytes tail rows → (n : ℕ) → n < length tail.stripes → OfStripe tail n (text n) (rows_at parts n) []
  stripe_none honest indexes n lt = elim (zero_or_more tail.stride) [
    | inl z ↦ (let h = stripe_is n lt in
        (h.footer, h.has_footer, none_each (OfColumn (opened_stripe tail n (text n) h.footer) (stripe_told tail n) n (rows_at parts n)) (width tail.schema) (λ c there. column_none honest n lt h.footer c there (inl (z, refl)))))
    | inr some ↦ (let h = indexes some n lt in (
      h.footer,
      h.has_footer,
      none_each (OfColumn (opened_stripe tail n (text n) h.footer) (stripe_told tail n) n (rows_at parts n)) (width tail.schema)
          (λ c there. column_none honest n lt h.footer c there (right_index (opened_stripe tail n (text n) h.footer) n (rows_at parts n) c some (h.right c there))),
    ))
  ]

  pub none_found : Honest tail rows → TellsWhole tail rows → HasIndexes bytes tail rows → Findings bytes tail rows []
  none_found honest whole indexes = (
    [],
    [],
    none_each (λ n. OfStripe tail n (text n) (rows_at parts n)) (length tail.stripes) (stripe_none honest indexes),
    none_each (λ c. Unless (TellsFile tail parts c) (FileStatistic c)) (width tail.schema) (λ c there. inl (whole c there, refl)),
    refl,
  )

  -- ---- and back

  stripes_none : Findings bytes tail rows [] → (n : ℕ) → n < length tail.stripes → OfStripe tail n (text n) (rows_at parts n) []
  stripes_none f n lt = each_at (λ k. OfStripe tail k (text k) (rows_at parts k)) (length tail.stripes) (first_none (OfStripes bytes tail parts) (OfFile tail parts) f) n lt

  column_at : Findings bytes tail rows [] → (n : ℕ) → n < length tail.stripes → (c : ℕ) → c < width tail.schema
      → (footer : StripeFooter) × HasFooter tail.schema (stripe_at tail.stripes n) (text n) footer × OfColumn (opened_stripe tail n (text n) footer) (stripe_told tail n) n (rows_at parts n) c []
  column_at f n lt c there = let h = stripes_none f n lt in (h.0, h.1, each_at (OfColumn (opened_stripe tail n (text n) h.0) (stripe_told tail n) n (rows_at parts n)) (width tail.schema) h.2 c there)

  told_at : Findings bytes tail rows [] → (n : ℕ) → n < length tail.stripes → (c : ℕ) → c < width tail.schema → IsTold (slice_get (stripe_told tail n) c) (column_stat tail.schema (rows_at parts n) c)
  told_at f n lt c there =
      let h = column_at f n lt c there in
      told_is (slice_get (stripe_told tail n) c) (column_stat tail.schema (rows_at parts n) c) (holds_of (TellsStripe tail.schema (stripe_told tail n) (rows_at parts n) c) (StripeStatistic n c)
      (first_none (Unless (TellsStripe tail.schema (stripe_told tail n) (rows_at parts n) c) (StripeStatistic n c)) (OfIndex (opened_stripe tail n (text n) h.0) n (rows_at parts n) c) h.2))

  pub index_found : Findings bytes tail rows [] → HasIndexes bytes tail rows
  index_found f = λ some n lt. let h = stripes_none f n lt in record {
    footer = h.0;
    has_footer = h.1;
    right = λ c there.
        let column = each_at (OfColumn (opened_stripe tail n (text n) h.0) (stripe_told tail n) n (rows_at parts n)) (width tail.schema) h.2 c there in
        index_right (opened_stripe tail n (text n) h.0) n (rows_at parts n) c some
        (second_none (Unless (TellsStripe tail.schema (stripe_told tail n) (rows_at parts n) c) (StripeStatistic n c)) (OfIndex (opened_stripe tail n (text n) h.0) n (rows_at parts n) c) column);
  }

  pub whole_found : Findings bytes tail rows [] → TellsWhole tail rows
  whole_found f c there =
      holds_of (TellsFile tail parts c) (FileStatistic c) (each_at (λ k. Unless (TellsFile tail parts k) (FileStatistic k)) (width tail.schema) (second_none (OfStripes bytes tail parts) (OfFile tail parts) f) c there)

-- ---- as many statistics as columns

some_below : (xs : List Stat) (n : ℕ) → length xs ≤ n → ((c : ℕ) → c < n → (y : Stat) × (slice_get xs c ≡ Some y)) → length xs ≡ n
some_below [] zero le h = refl
some_below [] (suc n) le h = let wrong = (h 0 (omega arith)).1 in cc
some_below (y ∷ xs) zero le h = absurd (omega (arith, le))
some_below (y ∷ xs) (suc n) le h = ap suc (some_below xs n (omega (arith, le)) (λ c lt. h (suc c) (omega (arith, lt))))

honest_all : (s : Shape) (parts : List (List Cell)) (stats : List (List Stat)) → length stats ≤ length parts → AllByRecursion (λ (xs : List Stat). length xs ≤ width s) stats → 0 < width s
    → ((n : ℕ) → n < length parts → (c : ℕ) → c < width s → IsTold (slice_get (get_or stats n []) c) (column_stat s (rows_at parts n) c)) → AreHonest s parts stats
honest_all s [] [] le few some h = tt
honest_all s [] (y ∷ stats) le few some h = absurd (omega (arith, le))
honest_all s (p ∷ parts) [] le few some h = let wrong = (h 0 (omega arith) 0 some).1 in cc
honest_all s (p ∷ parts) (y ∷ stats) le few some h = (
  record { counted = some_below y (width s) few.0 (λ c lt. let own = h 0 (omega arith) c lt in (own.0, own.1)); each = λ c lt. h 0 (omega arith) c lt },
  honest_all s parts stats (omega (arith, le)) few.1 some (λ n lt. h (suc n) (omega (arith, lt))),
)

pub honest_found : (bytes : List ℕ) (tail : Tail) (rows : List Cell) → FileIs bytes tail rows → length tail.stripe_stats ≤ length tail.stripes
    → AllByRecursion (λ (xs : List Stat). length xs ≤ width tail.schema) tail.stripe_stats → 0 < width tail.schema → Findings bytes tail rows [] → Honest tail rows
honest_found bytes tail rows is le few some f =
    let many = cut_many tail.stripes rows in
    honest_all tail.schema (cut_rows tail.stripes rows) tail.stripe_stats (omega (arith, le, many)) few some (λ n lt c there. told_at bytes tail rows is f n (omega (arith, lt, many)) c there)
