-- What callers learn of a file without findings, to keep groups by its statistics.
use Rattle.std.proofs.Common.{◌≡◌, refl, sym, ap, ◌∙◌, arith, ℕ, suc, ◌+◌, ◌<◌, ◌≤◌, ◌⊎◌, inl, inr, nat_le, ◌&&◌, Bool, true, false, if◌then◌else◌, append-nil, Option, Some, None, List, [], ◌∷◌, ◌++◌, length, slice_get, subst, Result, Ok, Err}
use Rattle.std.specs.Prelude.{◌^◌, IfSome, OnOk, IfErr}
use Rattle.std.specs.List.{AllByRecursion}
use Rattle.std.specs.Option.{option_map}
use Rattle.orc_wire.specs.declared.column_stats.ColumnStats.{ColumnStats}
use Rattle.orc_wire.specs.declared.row_index.RowIndexEntry.{RowIndexEntry}
use Rattle.orc_wire.specs.declared.row_index.RowIndexMsg.{RowIndexMsg}
use Rattle.orc_wire.specs.declared.stripe_footer.StripeFooter.{StripeFooter}
use Rattle.orc_values.specs.Cells.{Cell}
use Rattle.orc_values.specs.Columns.{cells}
use Rattle.orc_values.specs.Fits.{RowsFit}
use Rattle.orc_values.specs.Shapes.{Shape, width, shape_at}
use Rattle.orc_values.proofs.Together.{cells_fit}
use Rattle.orc_stats.specs.declared.kind.StatKind.{StatKind}
use Rattle.orc_stats.specs.declared.stat.Stat.{Stat}
use Rattle.orc_stats.specs.declared.stat.Body.{Body}
use Rattle.orc_stats.specs.declared.stat.Body.TheVariants as body
use Rattle.orc_stats.specs.Joining.{trues_of}
use Rattle.orc_stats.specs.Kinds.{kind_of}
use Rattle.orc_stats.specs.Known.{known_in, Agrees}
use Rattle.orc_stats.specs.Messages.{few_trues, in_limits, stat_read}
use Rattle.orc_stats.specs.Statistics.{stat}
use Rattle.orc_stats.proofs.Fitting.{are_of_kind}
use Rattle.orc_stats.proofs.Normal.{stat-normal}
use Rattle.orc_skipping.specs.Groups.{CountsFew, groups_kept}
use Rattle.orc_skipping.specs.Predicates.{Predicate}
use Rattle.orc_skipping.specs.Rules.{bold}
use Rattle.orc_skipping.specs.declared.keeping_groups.GroupPlace.{GroupPlace}
use Rattle.orc_directory.specs.declared.fault.StripeFault.{StripeFault}
use Rattle.orc_directory.specs.declared.fault.StripeFault.TheVariants as cause_of
use Rattle.orc_column_reader.specs.Stripe.{HasFooter}
use Rattle.orc_row_groups.specs.Bounds.{group_of}
use Rattle.orc_row_groups.specs.Groups.{group_count, starts_of_groups, bounds_of}
use Rattle.orc_row_groups.proofs.Groups.{group_fits, group_few}
use Rattle.orc_stripe_reader.specs.Opened.{Opened}
use Rattle.orc_stripe_reader.specs.RowIndexes.{HasIndex}
use Rattle.orc_stripe_reader.proofs.OneStripe.{one_footer}
use Rattle.orc_tail.specs.Stripes.{stripe_at, stripe_bytes}
use Rattle.orc_tail.specs.declared.tail.Tail.{Tail}
use Rattle.orc_tail.specs.declared.fault.FileFault.{FileFault}
use Rattle.orc_tail.specs.declared.fault.FileFault.TheVariants.{SourceFailed, OutOfMemory}
use Rattle.orc_file_reader.specs.FileRows.{opened_stripe, cut_rows, FileIs}
use Rattle.orc_file_reader.specs.Honest.{Honest}
use Rattle.orc_file_reader.proofs.RowLemmas.{one_file}
use Rattle.orc_check.specs.Agreeing.{Tells}
use Rattle.orc_check.specs.Findings.{Findings, TellsGroup, stripe_told, rows_at}
use Rattle.orc_check.specs.RightIndexes.{HasIndexes, HasAgreeingIndex}
use Rattle.orc_check.specs.declared.finding.Finding.{Finding}
use Rattle.orc_check.proofs.NoFinding.{cut_many, stripe_is}
use Rattle.orc_theorems.specs.Inputs.{AreFound}
use Rattle.orc_theorems.specs.KeptGroups.{AreKeptByIndex, stripe_kept, IsKeptByStatistic, AddsKept, AreGroupsKept}
use Rattle.orc_theorems.proofs.ReadyStats.{honest_at}
use Rattle.orc_theorems.proofs.GroupStats.{bounds_long}
use Rattle.orc_theorems.proofs.StoredLemmas.{at_told_column}

-- ---- an entry counts no more than a statistic may

same_trues : (bs : List Body) (b : Body) → trues_of (known_in bs b) ≡ trues_of b
same_trues bs body.Plain = refl
same_trues bs (body.Ints l g s) = refl
same_trues bs (body.Bools t) = refl
same_trues bs (body.Dates l g) = refl
same_trues bs (body.Texts l g s) = refl
same_trues bs (body.Bins s) = refl
same_trues bs (body.Children l g t) = refl

agrees_few : (x y : Stat) → Agrees x y → in_limits y ≡ true → in_limits x ≡ true
agrees_few x y e few = ap in_limits e ∙ ap (λ (t : Option ℕ). nat_le y.count (2 ^ 62) && few_trues t) (same_trues (x.body ∷ []) y.body) ∙ few

entry_few : (s : Shape) (group : List Cell) (e : RowIndexEntry) → RowsFit s group → length group ≤ 2 ^ 62 → TellsGroup s group e → CountsFew (kind_of s) e
entry_few s group e fit most tells = by e.statistics tells
  where
    by : (m : Option ColumnStats) → Tells (option_map (stat_read (kind_of s)) m) (stat (kind_of s) group) → IfSome m (λ x. in_limits (stat_read (kind_of s) x) ≡ true)
    by None h = absurd h
    by (Some m) h = agrees_few (stat_read (kind_of s) m) (stat (kind_of s) group) h (stat-normal (kind_of s) group (are_of_kind s group fit) most).limits

each_entry : (P : RowIndexEntry → Type 0) (es : List RowIndexEntry) → ((g : ℕ) (e : RowIndexEntry) → slice_get es g ≡ Some e → P e) → AllByRecursion P es
each_entry P [] h = tt
each_entry P (e ∷ es) h = (h 0 e refl, each_entry P es (λ g x got. h (suc g) x got))

-- ---- what a file without findings has

-- stripe n has a row index of column c with an entry for each group, none of which counts too much
pub record IndexThere (bytes : List ℕ) (tail : Tail) (n c : ℕ) : Type 0 where
  pub footer : StripeFooter
  pub has_footer : HasFooter tail.schema (stripe_at tail.stripes n) (stripe_bytes (stripe_at tail.stripes n) bytes) footer
  pub message : RowIndexMsg
  pub has_index : HasIndex footer (stripe_bytes (stripe_at tail.stripes n) bytes) c message
  pub few : AllByRecursion (CountsFew (kind_of (shape_at tail.schema c))) message.entries
  pub whole : length message.entries ≡ group_count tail.stride (stripe_at tail.stripes n).number_of_rows

pub index_there : (bytes : List ℕ) (tail : Tail) (rows : List Cell) → FileIs bytes tail rows → HasIndexes bytes tail rows → 0 < tail.stride → (n : ℕ) → n < length tail.stripes
    → (c : ℕ) → c < width tail.schema → IndexThere bytes tail n c
index_there bytes tail rows is indexes some n lt c below =
    let s = tail.schema in
    let text : List ℕ = stripe_bytes (stripe_at tail.stripes n) bytes in
    let here : List Cell = rows_at (cut_rows tail.stripes rows) n in
    let bounds : List ℕ = bounds_of s c here (starts_of_groups tail.stride (length here)) in
    let spelled = (stripe_is bytes tail rows is n lt).spelled in
    let few = (spelled.column c below).few in
    let fit : RowsFit (shape_at s c) (cells s c here) = cells_fit s c here below spelled.fit in
    let indexed = indexes some n lt in
    let right : HasAgreeingIndex tail.stride s here indexed.footer text c = indexed.right c below in
    record {
      footer = indexed.footer;
      has_footer = indexed.has_footer;
      message = right.1.message;
      has_index = (right.0, right.1.spelled);
      few = each_entry (CountsFew (kind_of (shape_at s c))) right.1.message.entries
          (λ g e got. entry_few (shape_at s c) (group_of (cells s c here) bounds g) e (group_fits (shape_at s c) (cells s c here) bounds g fit)
          (omega (arith, group_few (cells s c here) bounds g, few)) (right.1.statistics g e got));
      whole = right.1.counted ∙ bounds_long s c tail.stride here ∙ ap (group_count tail.stride) spelled.counted;
    }

pub statistic_there : (tail : Tail) (rows : List Cell) → Honest tail rows → (n : ℕ) → n < length tail.stripes → (c : ℕ) → c < width tail.schema
    → (x : Stat) × (slice_get (stripe_told tail n) c ≡ Some x)
statistic_there tail rows honest n lt c below =
    let own = honest_at tail.schema (cut_rows tail.stripes rows) tail.stripe_stats honest n (omega (arith, lt, cut_many tail.stripes rows)) in
    let h = own.each c below in
    (h.0, h.1)

-- a file's findings are those for its tail and rows
pub found_of : (bytes : List ℕ) (found : List Finding) (tail : Tail) (rows : List Cell) → found ≡ [] → AreFound bytes found → FileIs bytes tail rows → Findings bytes tail rows []
found_of bytes found tail rows none h is =
    let same = one_file bytes h.0 tail h.1 rows h.2 is in
    subst (λ (fs : List Finding). Findings bytes tail rows fs) none
    (subst (λ (r : List Cell). Findings bytes tail r found) same.1 (subst (λ (t : Tail). Findings bytes t h.1 found) same.0 h.3))

-- ---- a stripe, as it is opened

pub view_is : (bytes own : List ℕ) (tail opened : Tail) (n : ℕ) (view : Opened) (footer : StripeFooter) → opened ≡ tail
    → own ≡ stripe_bytes (stripe_at opened.stripes n) bytes → HasFooter opened.schema (stripe_at opened.stripes n) own view.footer
    → (view.schema ≡ opened.schema) × (view.info ≡ stripe_at opened.stripes n) × (view.stride ≡ opened.stride) × (view.bytes ≡ own)
    → HasFooter tail.schema (stripe_at tail.stripes n) (stripe_bytes (stripe_at tail.stripes n) bytes) footer
    → view ≡ opened_stripe tail n (stripe_bytes (stripe_at tail.stripes n) bytes) footer
view_is bytes own tail opened n view footer e is found same has =
    let schema : view.schema ≡ tail.schema = same.0 ∙ ap (λ (t : Tail). t.schema) e in
    let info : view.info ≡ stripe_at tail.stripes n = same.1 ∙ ap (λ (t : Tail). stripe_at t.stripes n) e in
    let stride : view.stride ≡ tail.stride = same.2 ∙ ap (λ (t : Tail). t.stride) e in
    let text : view.bytes ≡ stripe_bytes (stripe_at tail.stripes n) bytes = same.3 ∙ is ∙ ap (λ (t : Tail). stripe_bytes (stripe_at t.stripes n) bytes) e in
    let opens : HasFooter tail.schema (stripe_at tail.stripes n) (stripe_bytes (stripe_at tail.stripes n) bytes) view.footer =
    subst (λ (t : Tail). HasFooter t.schema (stripe_at t.stripes n) (stripe_bytes (stripe_at t.stripes n) bytes) view.footer) e
    (subst (λ (b : List ℕ). HasFooter opened.schema (stripe_at opened.stripes n) b view.footer) is found) in
    let one : view.footer ≡ footer = one_footer tail.schema (stripe_at tail.stripes n) (stripe_bytes (stripe_at tail.stripes n) bytes) view.footer footer opens has in
    λ i. record { schema = schema i; info = info i; stride = stride i; bytes = text i; footer = one i }

-- it has this footer as it is opened, too
pub footer_is : (bytes own : List ℕ) (tail opened : Tail) (n : ℕ) (footer : StripeFooter) → opened ≡ tail → own ≡ stripe_bytes (stripe_at opened.stripes n) bytes
    → HasFooter tail.schema (stripe_at tail.stripes n) (stripe_bytes (stripe_at tail.stripes n) bytes) footer → HasFooter opened.schema (stripe_at opened.stripes n) own footer
footer_is bytes own tail opened n footer e is has =
    subst (λ (b : List ℕ). HasFooter opened.schema (stripe_at opened.stripes n) b footer) (sym is)
    (subst (λ (t : Tail). HasFooter t.schema (stripe_at t.stripes n) (stripe_bytes (stripe_at t.stripes n) bytes) footer) (sym e) has)

-- what the groups of a view are that the rule keeps, by the row index of column c
abbrev pub ViewKept : Opened → ℕ → Predicate → ℕ → List GroupPlace → List GroupPlace → Type 0
ViewKept view c p n old new =
    (message : RowIndexMsg) → 0 < view.stride → HasIndex view.footer view.bytes c message → AllByRecursion (CountsFew (kind_of (shape_at view.schema c))) message.entries
    → new ≡ old ++ groups_kept (kind_of (shape_at view.schema c)) p n 0 message.entries

-- what only memory refuses
abbrev pub ViewOnly : Opened → ℕ → StripeFault → Type 0
ViewOnly view c cause = (message : RowIndexMsg) → 0 < view.stride → HasIndex view.footer view.bytes c message → cause ≡ cause_of.OutOfMemory

pub kept_for : (kind k : StatKind) (entries es : List RowIndexEntry) (p : Predicate) (n : ℕ) (old new : List GroupPlace) → kind ≡ k → entries ≡ es
    → (AllByRecursion (CountsFew kind) entries → new ≡ old ++ groups_kept kind p n 0 entries) → AllByRecursion (CountsFew k) es → new ≡ old ++ groups_kept k p n 0 es
kept_for kind k entries es p n old new e f h =
    subst (λ (x : StatKind). AllByRecursion (CountsFew x) es → new ≡ old ++ groups_kept x p n 0 es) e
    (subst (λ (ys : List RowIndexEntry). AllByRecursion (CountsFew kind) ys → new ≡ old ++ groups_kept kind p n 0 ys) f h)

-- ---- answers

-- a device or memory failed
abbrev pub IsOutside : FileFault → Type 0
IsOutside e = (e ≡ OutOfMemory) ⊎ (e ≡ SourceFailed)

on_ok_so : {A E : Type 0} (P Q : Type 0) (r : Result A E) → OnOk r P → (P → Q) → OnOk r Q
on_ok_so P Q (Ok x) h f = f h
on_ok_so P Q (Err e) h f = tt

err_so : {A E : Type 0} (P Q : E → Type 0) (r : Result A E) → IfErr r P → ((e : E) → P e → Q e) → IfErr r Q
err_so P Q (Ok x) h f = tt
err_so P Q (Err e) h f = f e h

pub if_some_is : (o : Option Stat) (x : Stat) (Q : Stat → Type 0) → o ≡ Some x → Q x → IfSome o Q
if_some_is o x Q e q = subst (λ (p : Option Stat). IfSome p Q) (sym e) q

pub if_none_is : (o : Option Stat) (Q : Stat → Type 0) → o ≡ None → IfSome o Q
if_none_is o Q e = subst (λ (p : Option Stat). IfSome p Q) (sym e) tt

-- ---- a stripe

-- no stripe is added that the rule skips
pub none_added : (x : Stat) (p : Predicate) (n : ℕ) (places : List GroupPlace) → bold (λ _. Some x) p ≡ false → places ≡ places ++ stripe_kept x p n
none_added x p n places e =
    let place : GroupPlace = record { stripe = n; group = 0 } in
    sym (ap (λ (b : Bool). places ++ (if b then place ∷ [] else [])) e ∙ append-nil places)

-- without row groups, by its statistic
pub adds_unindexed : {A E : Type 0} (bytes : List ℕ) (tail opened : Tail) (rows : List Cell) (c : ℕ) (p : Predicate) (n : ℕ) (old new : List GroupPlace) (r : Result A E)
    → opened ≡ tail → tail.stride ≡ 0 → Honest tail rows → n < length tail.stripes → c < width tail.schema
    → IfSome (slice_get (stripe_told opened n) c) (λ x. OnOk r (new ≡ old ++ stripe_kept x p n)) → OnOk r (AddsKept bytes tail c p n old new)
adds_unindexed bytes tail opened rows c p n old new r e none honest lt below h =
    let x = statistic_there tail rows honest n lt c below in
    let here = subst (λ (t : Tail). IfSome (slice_get (stripe_told t n) c) (λ y. OnOk r (new ≡ old ++ stripe_kept y p n))) e h in
    let own : IsKeptByStatistic tail c p n (stripe_kept x.0 p n) = record { unindexed = none; told = x.0; stored = x.1; places_are = refl } in
    on_ok_so (new ≡ old ++ stripe_kept x.0 p n) (AddsKept bytes tail c p n old new) r
    (at_told_column (slice_get (stripe_told tail n) c) x.0 (λ y. OnOk r (new ≡ old ++ stripe_kept y p n)) x.1 here)
    (λ is. (stripe_kept x.0 p n, (below, inr own), is))

pub only_unindexed : {A : Type 0} (tail opened : Tail) (rows : List Cell) (c n : ℕ) (r : Result A FileFault) → opened ≡ tail → Honest tail rows → n < length tail.stripes → c < width tail.schema
    → IfSome (slice_get (stripe_told opened n) c) (λ _. IfErr r (λ e. e ≡ OutOfMemory)) → IfErr r IsOutside
only_unindexed tail opened rows c n r e honest lt below h =
    let x = statistic_there tail rows honest n lt c below in
    let here = subst (λ (t : Tail). IfSome (slice_get (stripe_told t n) c) (λ _. IfErr r (λ f. f ≡ OutOfMemory))) e h in
    err_so (λ f. f ≡ OutOfMemory) IsOutside r (at_told_column (slice_get (stripe_told tail n) c) x.0 (λ _. IfErr r (λ f. f ≡ OutOfMemory)) x.1 here) (λ f is. inl is)

-- with row groups, by the entries of its row index
abbrev pub StripeLaw : List ℕ → Tail → ℕ → ℕ → (StripeFooter → RowIndexMsg → Type 0) → Type 0
StripeLaw bytes tail c n Holds =
    (footer : StripeFooter) (message : RowIndexMsg) → HasFooter tail.schema (stripe_at tail.stripes n) (stripe_bytes (stripe_at tail.stripes n) bytes) footer
    → HasIndex footer (stripe_bytes (stripe_at tail.stripes n) bytes) c message → Holds footer message

pub adds_indexed : {A E : Type 0} (bytes : List ℕ) (tail : Tail) (rows : List Cell) (c : ℕ) (p : Predicate) (n : ℕ) (old new : List GroupPlace) (r : Result A E)
    → FileIs bytes tail rows → HasIndexes bytes tail rows → 0 < tail.stride → n < length tail.stripes → c < width tail.schema
    → StripeLaw bytes tail c n (λ footer message. AllByRecursion (CountsFew (kind_of (shape_at tail.schema c))) message.entries
    → OnOk r (new ≡ old ++ groups_kept (kind_of (shape_at tail.schema c)) p n 0 message.entries))
    → OnOk r (AddsKept bytes tail c p n old new)
adds_indexed bytes tail rows c p n old new r is indexes some lt below h =
    let there = index_there bytes tail rows is indexes some n lt c below in
    let k = kind_of (shape_at tail.schema c) in
    let places : List GroupPlace = groups_kept k p n 0 there.message.entries in
    let own : AreKeptByIndex bytes tail c p n places = record {
      indexed = some;
      footer = there.footer;
      has_footer = there.has_footer;
      message = there.message;
      has_index = there.has_index;
      places_are = refl;
    } in
    on_ok_so (new ≡ old ++ places) (AddsKept bytes tail c p n old new) r (h there.footer there.message there.has_footer there.has_index there.few)
    (λ e. (places, (below, inl own), e))

pub only_indexed : {A : Type 0} (bytes : List ℕ) (tail : Tail) (rows : List Cell) (c n : ℕ) (r : Result A FileFault)
    → FileIs bytes tail rows → HasIndexes bytes tail rows → 0 < tail.stride → n < length tail.stripes → c < width tail.schema
    → StripeLaw bytes tail c n (λ footer message. IfErr r IsOutside) → IfErr r IsOutside
only_indexed bytes tail rows c n r is indexes some lt below h =
    let there = index_there bytes tail rows is indexes some n lt c below in
    h there.footer there.message there.has_footer there.has_index

-- ---- stripe by stripe

pub more_kept : (bytes : List ℕ) (tail : Tail) (c : ℕ) (p : Predicate) (n : ℕ) (before after : List GroupPlace) → AreGroupsKept bytes tail c p n before
    → AddsKept bytes tail c p n before after → AreGroupsKept bytes tail c p (n + 1) after
more_kept bytes tail c p n before after h added =
    let next : suc n ≡ n + 1 = omega arith in
    subst (λ (m : ℕ). AreGroupsKept bytes tail c p m after) next (before, h, added)
