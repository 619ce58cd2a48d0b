-- Nothing is found of the row index of a column as it is written.
use Rattle.std.proofs.Common.{◌≡◌, ◌∙◌, ℕ, ◌<◌, true, false, Bool, if◌then◌else◌, Some, None, List, [], length, get_or, refl, sym, subst}
use Rattle.std.proofs.lemmas.List.{append-nil}
use Rattle.orc_values.specs.Cells.{Cell}
use Rattle.orc_values.specs.Columns.{cells}
use Rattle.orc_values.specs.Fits.{RowsFit}
use Rattle.orc_values.proofs.Together.{cells_fit}
use Rattle.orc_values.specs.Shapes.{Shape, width, shape_at}
use Rattle.orc_directory.specs.Directory.{has_stream, slice}
use Rattle.orc_column_reader.specs.Starting.{AreStreams}
use Rattle.orc_column_reader.specs.Stripe.{Streams, IsColumn, columns_of}
use Rattle.orc_values.specs.Limits.{cell_limit}
use Rattle.orc_column_reader.specs.declared.starting.ColumnStreams.{ColumnStreams}
use Rattle.orc_column_walk.specs.declared.found.GroupFound.{GroupFound}
use Rattle.orc_row_index.specs.RowIndex.{IsWrittenIndex, IsRightIndex, HasRightIndex}
use Rattle.orc_row_index.proofs.WrittenIndex.{index_right}
use Rattle.orc_row_groups.specs.Groups.{starts_of_groups, bounds_of}
use Rattle.orc_stripe_reader.specs.IndexTexts.{kept_index_bytes}
use Rattle.orc_stripe_reader.specs.declared.view.index_texts.IndexText.{IndexText}
use Rattle.orc_check.specs.declared.finding.Finding.{Finding}
use Rattle.orc_check.specs.declared.open_stripe.OpenStripe.{OpenStripe}
use Rattle.orc_check.specs.Findings.{AddsFindings, OfIndex}
use Rattle.orc_check.specs.OwnGroups.{AreGroupsOf}
use Rattle.orc_check.specs.Walking.{HasStripeParts, AreColumnGroupsFound}
use Rattle.orc_check.proofs.IndexFound.{text_is}
use Rattle.orc_check.proofs.NoFinding.{right_agrees, right_index}

-- bytes that the directory lists are a stream that is there
listed_is : (b : Bool) (own bytes : List ℕ) → (if b then Some own else None) ≡ Some bytes → (b ≡ true) × (own ≡ bytes)
listed_is b own bytes e = by b e
  where
    by : (b : Bool) → (if b then Some own else None) ≡ Some bytes → (b ≡ true) × (own ≡ bytes)
    by true e = (refl, cc)
    by false e = cc

pub written_found : (stripe : OpenStripe) (rows : List Cell) (c : ℕ) (t : Shape) (groups : List GroupFound) (text : IndexText) (streams : ColumnStreams) (found : List Finding) → HasStripeParts stripe → c < width stripe.view.now.schema
    → text ≡ get_or stripe.texts.items c text → AreStreams (columns_of stripe.view.now.footer stripe.view.now.bytes c) streams
    → ((x : Streams) (cs : List Cell) (bs : List ℕ) → AreStreams x streams → RowsFit t cs → length cs < cell_limit → AreGroupsOf t x cs bs groups → (bytes : List ℕ) × (kept_index_bytes text ≡ Some bytes) × IsWrittenIndex t x cs bs bytes)
    → 0 < stripe.view.now.stride → AreColumnGroupsFound stripe.view.now rows c t groups → AddsFindings (OfIndex stripe.view.now stripe.number rows c) found found
written_found stripe rows c t groups text streams found out lt at streams_are written some h =
    let v = stripe.view.now in
    let x = columns_of v.footer v.bytes c in
    let cs = cells v.schema c rows in
    let bs = bounds_of v.schema c rows (starts_of_groups v.stride (length rows)) in
    let column : IsColumn t x cs = subst (λ (u : Shape). IsColumn u x cs) h.type (h.spelled.column c lt) in
    let fit : RowsFit t cs = subst (λ (u : Shape). RowsFit u cs) h.type (cells_fit v.schema c rows lt h.spelled.fit) in
    let is = written x cs bs streams_are fit column.few (record { column = column; ascending = h.ascending; counted = h.counted; are = h.are }) in
    let own = listed_is (has_stream c 6 v.footer.streams) (slice c 6 v.footer.streams v.bytes) is.0 (sym (text_is stripe c text out lt at) ∙ is.1) in
    let right : IsRightIndex t x cs bs is.0 = index_right t x cs bs is.0 fit column.few is.2 in
    let right_here : IsRightIndex (shape_at v.schema c) x cs bs (slice c 6 v.footer.streams v.bytes) =
    subst (λ (u : Shape). IsRightIndex u x cs bs (slice c 6 v.footer.streams v.bytes)) (sym h.type) (subst (IsRightIndex t x cs bs) (sym own.1) right) in
    let has : HasRightIndex v.stride v.schema rows v.footer v.bytes c = (own.0, right_here) in
    ([], right_index v stripe.number rows c some (right_agrees v.stride v.schema rows v.footer v.bytes c has), sym (append-nil found))
