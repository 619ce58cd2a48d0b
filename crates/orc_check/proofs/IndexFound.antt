-- What is found of the row index of a column.
use Rattle.std.proofs.Common.{◌≡◌, ◌∙◌, ℕ, ◌<◌, Bool, true, false, if◌then◌else◌, Some, None, List, [], ◌∷◌, ◌++◌, length, map, get_or, slice_get, refl, sym, ap, inl, inr, subst, arith}
use Rattle.std.proofs.lemmas.List.{length-map}
use Rattle.orc_wire.specs.Messages.{row_index}
use Rattle.orc_wire.specs.laws.SpellsLaws.{one_spelled}
use Rattle.orc_wire.specs.declared.row_index.RowIndexEntry.{RowIndexEntry}
use Rattle.orc_wire.specs.declared.row_index.RowIndexMsg.{RowIndexMsg}
use Rattle.orc_wire.specs.declared.stripe_footer.StripeFooter.{StripeFooter}
use Rattle.orc_values.specs.Cells.{Cell}
use Rattle.orc_values.specs.Columns.{cells}
use Rattle.orc_values.specs.Fits.{RowsFit}
use Rattle.orc_values.proofs.Together.{cells_fit}
use Rattle.orc_values.specs.Shapes.{Shape, width, shape_at}
use Rattle.orc_directory.specs.Directory.{has_stream, slice}
use Rattle.orc_column_reader.specs.Starting.{AreStreams}
use Rattle.orc_column_reader.specs.Stripe.{Streams, IsColumn, columns_of}
use Rattle.orc_values.specs.Limits.{cell_limit}
use Rattle.orc_column_reader.specs.declared.starting.ColumnStreams.{ColumnStreams}
use Rattle.orc_row_groups.specs.Bounds.{AreBounds, before_group}
use Rattle.orc_row_groups.specs.Counts.{AreCounted}
use Rattle.orc_row_groups.specs.declared.counts.Counts.{Counts}
use Rattle.orc_column_walk.specs.declared.found.GroupFound.{GroupFound}
use Rattle.orc_row_index_check.specs.Decided.{AreDecided}
use Rattle.orc_row_groups.specs.Groups.{starts_of_groups, bounds_of}
use Rattle.orc_stripe_reader.specs.IndexTexts.{kept_index_bytes, listed, IsIndexText, IsMessage}
use Rattle.orc_stripe_reader.specs.declared.view.index_texts.IndexText.{IndexText}
use Rattle.orc_stripe_reader.specs.Opened.{Opened}
use Rattle.orc_stripe_reader.specs.RowIndexes.{HasIndex, HasEachGroup}
use Rattle.orc_check.specs.declared.finding.Finding.{Finding}
use Rattle.orc_check.specs.declared.finding.Finding.TheVariants.{IndexEntries}
use Rattle.orc_check.specs.declared.open_stripe.OpenStripe.{OpenStripe}
use Rattle.orc_check.specs.Findings.{AddsFindings, IndexedColumn, OfGroups, column_with, OfIndex}
use Rattle.orc_check.specs.Needed.{MayBeWhole}
use Rattle.orc_check.specs.Walking.{HasStripeParts, AreGroups, AreColumnGroupsFound}
use Rattle.orc_check.proofs.EntryBytes.{whole_has_room}
use Rattle.orc_check.proofs.GroupBounds.{get_or_any, bounds_long}
use Rattle.orc_column_walk.proofs.GroupLemmas.{mapped_get}

pub groups_found : (view : Opened) (n : ℕ) (rows : List Cell) (c : ℕ) (message : RowIndexMsg) (a b : List Finding) → 0 < view.stride → HasIndex view.footer view.bytes c message → HasEachGroup view (length rows) message
    → AddsFindings (OfGroups (column_with view rows c message.entries) n c) a b → AddsFindings (OfIndex view n rows c) a b
groups_found view n rows c message a b some has whole h =
    (h.0, inr (some, inr (column_with view rows c message.entries, record { message = message; has_index = has; whole = whole; column_is = refl }, h.1)), h.2)

-- the same column by another type and other entries
abbrev typed : Opened → List Cell → ℕ → Shape → List RowIndexEntry → IndexedColumn
typed view rows c t es = record (column_with view rows c es) { shape = t }

pub groups_here : (view : Opened) (n : ℕ) (rows : List Cell) (c : ℕ) (t : Shape) (es fs : List RowIndexEntry) (a b : List Finding) → shape_at view.schema c ≡ t → es ≡ fs
    → AddsFindings (OfGroups (typed view rows c t es) n c) a b → AddsFindings (OfGroups (column_with view rows c fs) n c) a b
groups_here view n rows c t es fs a b type same h =
    subst (λ (u : Shape). AddsFindings (OfGroups (typed view rows c u fs) n c) a b) (sym type) (subst (λ (xs : List RowIndexEntry). AddsFindings (OfGroups (typed view rows c t xs) n c) a b) same h)

-- ---- the message of an index

module _ (footer : StripeFooter) (bytes : List ℕ) (c : ℕ) (message : RowIndexMsg) where
  listed_has : IsIndexText (listed c footer.streams bytes) message → HasIndex footer bytes c message
  listed_has h = by (has_stream c 6 footer.streams) refl h
    where
      by : (b : Bool) → has_stream c 6 footer.streams ≡ b → IsIndexText (if b then Some (slice c 6 footer.streams bytes) else None) message → HasIndex footer bytes c message
      by true e h = (e, h)
      by false e h = absurd h

  has_listed : HasIndex footer bytes c message → IsIndexText (listed c footer.streams bytes) message
  has_listed h = subst (λ (b : Bool). IsIndexText (if b then Some (slice c 6 footer.streams bytes) else None) message) (sym h.0) h.1

-- the bytes of a column's index are those that the directory lists
pub text_is : (stripe : OpenStripe) (c : ℕ) (text : IndexText) → HasStripeParts stripe → c < width stripe.view.now.schema → text ≡ get_or stripe.texts.items c text
    → kept_index_bytes text ≡ listed c stripe.view.now.footer.streams stripe.view.now.bytes
text_is stripe c text out lt is =
    ap kept_index_bytes (is ∙ get_or_any stripe.texts.items c text (record { bytes = None }) (omega (arith, lt, out.indexes.counted))) ∙ out.indexes.are c lt

pub has_index : (stripe : OpenStripe) (c : ℕ) (text : IndexText) (message : RowIndexMsg) → HasStripeParts stripe → c < width stripe.view.now.schema → text ≡ get_or stripe.texts.items c text → IsMessage text message
    → HasIndex stripe.view.now.footer stripe.view.now.bytes c message
has_index stripe c text message out lt is h = let v = stripe.view.now in listed_has v.footer v.bytes c message (subst (λ t. IsIndexText t message) (text_is stripe c text out lt is) h)

pub is_message : (stripe : OpenStripe) (c : ℕ) (text : IndexText) (message : RowIndexMsg) → HasStripeParts stripe → c < width stripe.view.now.schema → text ≡ get_or stripe.texts.items c text
    → HasIndex stripe.view.now.footer stripe.view.now.bytes c message → IsMessage text message
is_message stripe c text message out lt is h = let v = stripe.view.now in subst (λ t. IsIndexText t message) (sym (text_is stripe c text out lt is)) (has_listed v.footer v.bytes c message h)

pub one_index : (footer : StripeFooter) (bytes : List ℕ) (c : ℕ) (a b : RowIndexMsg) → HasIndex footer bytes c a → HasIndex footer bytes c b → a ≡ b
one_index footer bytes c a b p q = one_spelled row_index 0 0 (slice c 6 footer.streams bytes) a b p.1 q.1

-- the column's streams, as the stripe's bytes and footer have them
pub streams_here : (stripe : OpenStripe) (footer : StripeFooter) (c : ℕ) (own : ColumnStreams) → HasStripeParts stripe → footer ≡ stripe.view.now.footer → AreStreams (columns_of footer stripe.located.bytes.now c) own
    → AreStreams (columns_of stripe.view.now.footer stripe.view.now.bytes c) own
streams_here stripe footer c own out same h =
    subst (λ (b : List ℕ). AreStreams (columns_of stripe.view.now.footer b c) own) out.same (subst (λ (f : StripeFooter). AreStreams (columns_of f stripe.located.bytes.now c) own) same h)

-- ---- what is counted before each group

pub counted_before : (s : Shape) (column : List Cell) (bounds : List ℕ) (groups : List GroupFound) (counts : List Counts) → AreGroups s column bounds groups → counts ≡ map (λ (group : GroupFound). group.before) groups
    → (g : ℕ) (k : Counts) → slice_get counts g ≡ Some k → AreCounted k (before_group column bounds g)
counted_before s column bounds groups counts are is g k h =
    let found = mapped_get groups g k (ap (λ ks. slice_get ks g) (sym is) ∙ h) in subst (λ (n : Counts). AreCounted n (before_group column bounds g)) found.2 (are g found.0 found.1).before

-- ---- what is found

-- too few bytes for an entry of each group
pub too_short : (stripe : OpenStripe) (rows : List Cell) (c : ℕ) (a b : List Finding) → (MayBeWhole stripe.view.now c → ⊥) → b ≡ a ++ IndexEntries stripe.number c ∷ [] → 0 < stripe.view.now.stride → length rows ≡ stripe.view.now.info.number_of_rows
    → AddsFindings (OfIndex stripe.view.now stripe.number rows c) a b
too_short stripe rows c a b short e some all = (
  IndexEntries stripe.number c ∷ [],
  inr (some, inl ((λ x is. short (whole_has_room stripe.view.now c (length rows) is.message some all is.has_index is.whole)), refl)),
  e,
)

-- no message
pub none_there : (stripe : OpenStripe) (rows : List Cell) (c : ℕ) (text : IndexText) (a b : List Finding) → HasStripeParts stripe → c < width stripe.view.now.schema → text ≡ get_or stripe.texts.items c text
    → ((message : RowIndexMsg) → IsMessage text message → ⊥) → b ≡ a ++ IndexEntries stripe.number c ∷ [] → 0 < stripe.view.now.stride → AddsFindings (OfIndex stripe.view.now stripe.number rows c) a b
none_there stripe rows c text a b out lt at none e some = (
  IndexEntries stripe.number c ∷ [],
  inr (some, inl ((λ x is. none is.message (is_message stripe c text is.message out lt at is.has_index)), refl)),
  e,
)

-- more entries than groups, or fewer
pub other_number : (stripe : OpenStripe) (rows : List Cell) (c : ℕ) (t : Shape) (groups : List GroupFound) (text : IndexText) (message : RowIndexMsg) (es : List RowIndexEntry) (a b : List Finding) → HasStripeParts stripe → c < width stripe.view.now.schema
    → text ≡ get_or stripe.texts.items c text → IsMessage text message → es ≡ message.entries → (length es ≡ length groups → ⊥) → b ≡ a ++ IndexEntries stripe.number c ∷ [] → 0 < stripe.view.now.stride
    → AreColumnGroupsFound stripe.view.now rows c t groups → AddsFindings (OfIndex stripe.view.now stripe.number rows c) a b
other_number stripe rows c t groups text message es a b out lt at is same other e some h =
    let v = stripe.view.now in
    let own = has_index stripe c text message out lt at is in (
      IndexEntries stripe.number c ∷ [],
      inr (
        some,
        inl (
          (λ x has.
              let one : message ≡ has.message = one_index v.footer v.bytes c message has.message own has.has_index in
              other (ap length same ∙ ap (λ (k : RowIndexMsg). length k.entries) one ∙ has.whole ∙ sym (bounds_long v.schema c v.stride rows) ∙ sym h.counted)),
          refl,
        ),
      ),
      e,
    )

-- an entry for each group
pub index_found : (stripe : OpenStripe) (rows : List Cell) (c : ℕ) (t : Shape) (groups : List GroupFound) (text : IndexText) (message : RowIndexMsg) (es : List RowIndexEntry) (right : List Bool) (counts : List Counts) (streams : ColumnStreams) (a b : List Finding)
    → HasStripeParts stripe → c < width stripe.view.now.schema → text ≡ get_or stripe.texts.items c text → IsMessage text message → es ≡ message.entries → length es ≡ length groups → counts ≡ map (λ (group : GroupFound). group.before) groups
    → AreStreams (columns_of stripe.view.now.footer stripe.view.now.bytes c) streams
    → ((y : Streams) (cs : List Cell) (bs : List ℕ) → AreStreams y streams → IsColumn t y cs → AreBounds (length cs) bs → length counts ≡ length es → ((g : ℕ) (k : Counts) → slice_get counts g ≡ Some k → AreCounted k (before_group cs bs g))
    → AreDecided t y cs bs es right)
    → ((y : Streams) (cs : List Cell) (bs : List ℕ) → RowsFit t cs → length cs < cell_limit → AreGroups t cs bs groups → AreDecided t y cs bs es right
    → AddsFindings (OfGroups (record { shape = t; streams = y; cells = cs; bounds = bs; entries = es }) stripe.number c) a b)
    → 0 < stripe.view.now.stride → AreColumnGroupsFound stripe.view.now rows c t groups → AddsFindings (OfIndex stripe.view.now stripe.number rows c) a b
index_found stripe rows c t groups text message es right counts streams a b out lt at is same many counted streams_are placed each some h =
    let v = stripe.view.now in
    let x = columns_of v.footer v.bytes c in
    let cs = cells v.schema c rows in
    let bs = bounds_of v.schema c rows (starts_of_groups v.stride (length rows)) in
    let column : IsColumn t x cs = subst (λ (u : Shape). IsColumn u x cs) h.type (h.spelled.column c lt) in
    let fit : RowsFit t cs = subst (λ (u : Shape). RowsFit u cs) h.type (cells_fit v.schema c rows lt h.spelled.fit) in
    let long : length counts ≡ length es = ap length counted ∙ length-map groups (λ (group : GroupFound). group.before) ∙ sym many in
    let decided = placed x cs bs streams_are column h.ascending long (counted_before t cs bs groups counts h.are counted) in
    let whole : HasEachGroup v (length rows) message = ap length (sym same) ∙ many ∙ h.counted ∙ bounds_long v.schema c v.stride rows in
    groups_found v stripe.number rows c message a b some (has_index stripe c text message out lt at is) whole (groups_here v stripe.number rows c t es message.entries a b h.type same (each x cs bs fit column.few h.are decided))
