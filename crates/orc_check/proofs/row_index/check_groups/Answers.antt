use Rattle.std.specs.Prelude.{MatchBool}
use Rattle.std.proofs.Common.{◌≡◌, ◌∙◌, ℕ, ◌<◌, false, Some, None, slice_get, [], length, refl, sym, ap, subst, arith}
use Rattle.std.proofs.lemmas.Option.{slice_get_read, slice_get-get_or}
use Rattle.orc_wire.specs.declared.row_index.RowIndexEntry.{RowIndexEntry}
use Rattle.orc_values.specs.Views.{shape}
use Rattle.orc_column_walk.specs.declared.found.GroupFound.{GroupFound}
use Rattle.orc_row_groups.specs.Bounds.{before_group, group_of}
use Rattle.orc_row_index.specs.Positions.{AreReadPositions}
use Rattle.orc_check.specs.declared.finding.Finding.TheVariants.{IndexStatistic, IndexPosition}
use Rattle.orc_check.specs.Findings.{AddsFindings, Unless, OfEach, OfGroup, IndexedColumn, HasRightStatistic, HasRightPositions, TellsGroup, entry_of_group}
use Rattle.orc_check.proofs.GroupBounds.{get_or_any}
use Rattle.orc_check.proofs.ReportLemmas.{adds_next, adds_both, adds_report}
use Rattle.orc_check.proofs.row_index.check_groups.Goals as goal

pub loop-group-preserved : goal.loop-group-preserved
loop-group-preserved c = λ streams cells bounds fit few are decided.
    let s = shape c.args.tree.now in
    let es = c.args.entries.now in
    let x : IndexedColumn = record { shape = s; streams = streams; cells = cells; bounds = bounds; entries = es } in
    let g = c.loop-group.group in
    let n = c.args.number in
    let col = c.args.column in
    let none : RowIndexEntry = record { positions = []; statistics = None } in
    let here : g < length es = omega (arith, c.loop-group-test.true) in
    let read = c.index-entries-group.result in
    let entry : read ≡ entry_of_group es g = c.index-entries-group.is ∙ get_or_any es g read none here in
    let group = are g c.index-groups-group.result (slice_get_read c.args.groups.now (length c.args.groups.now) g c.index-groups-group.result refl (omega (arith, here, c.requires)) c.index-groups-group.is) in
    let tells = c.entry_tells-tells.result in
    let told_read : MatchBool tells (TellsGroup s (group_of cells bounds g) read) (TellsGroup s (group_of cells bounds g) read → ⊥) =
    c.entry_tells-tells.ensures (group_of cells bounds g) (ap (λ (x : GroupFound). x.stat) (sym c.index-groups-group.is) ∙ group.stat_is) in
    let told : MatchBool tells (HasRightStatistic x g) (HasRightStatistic x g → ⊥) =
    subst (λ (e : RowIndexEntry). MatchBool tells (TellsGroup s (group_of cells bounds g) e) (TellsGroup s (group_of cells bounds g) e → ⊥)) entry told_read in
    let first = adds_report (HasRightStatistic x g) tells (IndexStatistic n col g) c.loop-group.found.items c.report.new.found.items told c.in_ok-report.ensures in
    let right = c.is_right.result in
    let there : slice_get c.args.right.now g ≡ Some right = slice_get-get_or c.args.right.now g false (omega (arith, here, decided.counted)) ∙ ap Some (sym c.is_right.ensures) in
    let decides = decided.each g read right (slice_get_read es (length es) g read refl here c.index-entries-group.is) there in
    let placed : MatchBool right (HasRightPositions x g) (HasRightPositions x g → ⊥) =
    subst (λ (e : RowIndexEntry). MatchBool right (AreReadPositions s streams (before_group cells bounds g) e.positions) (AreReadPositions s streams (before_group cells bounds g) e.positions → ⊥)) entry decides in
    let second = adds_report (HasRightPositions x g) right (IndexPosition n col g) c.report.new.found.items c.report-in-loop-group.new.found.items placed c.in_ok-report-2.ensures in
    adds_next (OfGroup x n col) g c.args.found.now.items c.loop-group.found.items c.report-in-loop-group.new.found.items (c.loop-group.invariant streams cells bounds fit few are decided)
    (adds_both (Unless (HasRightStatistic x g) (IndexStatistic n col g)) (Unless (HasRightPositions x g) (IndexPosition n col g))
    c.loop-group.found.items c.report.new.found.items c.report-in-loop-group.new.found.items first second)

pub returns : goal.returns
returns c = λ streams cells bounds fit few are decided.
    let x : IndexedColumn = record { shape = shape c.args.tree.now; streams = streams; cells = cells; bounds = bounds; entries = c.args.entries.now } in
    let end : c.loop-group.group ≡ length c.args.entries.now = omega (arith, c.loop-group-test.false, c.loop-group.auto.group-end) in
    subst (λ (k : ℕ). AddsFindings (OfEach (OfGroup x c.args.number c.args.column) k) c.args.found.now.items c.loop-group.found.items) end
    (c.loop-group.invariant streams cells bounds fit few are decided)
