use Rattle.std.specs.Prelude.{MatchBool}
use Rattle.std.proofs.Common.{◌≡◌, ◌<◌, ◌∙◌, List, sym, ap, subst, arith, slice_get}
use Rattle.orc_values.specs.Columns.{cells}
use Rattle.orc_values.specs.Shapes.{Shape}
use Rattle.orc_values.specs.Views.{shape}
use Rattle.orc_stats.specs.Kinds.{kind_of}
use Rattle.orc_stats.specs.Statistics.{stat}
use Rattle.orc_stats.specs.declared.stat.Stat.{Stat}
use Rattle.orc_column_reader.specs.Stripe.{columns_of}
use Rattle.orc_column_walk.specs.declared.found.GroupFound.{GroupFound}
use Rattle.orc_stats.specs.ColumnStatistics.{column_stat}
use Rattle.orc_check.specs.declared.finding.Finding.TheVariants.{StripeStatistic}
use Rattle.orc_check.specs.Agreeing.{Tells}
use Rattle.orc_check.specs.Findings.{Unless, TellsStripe, OfIndex}
use Rattle.orc_check.specs.OwnGroups.{HaveCells}
use Rattle.orc_check.specs.Walking.{AreColumnGroupsFound}
use Rattle.orc_check.proofs.ReportLemmas.{adds_both, adds_report}
use Rattle.orc_check.proofs.columns.check_column.Goals as goal

pub check_index-requires-clause-own : goal.check_index-requires-clause-own
check_index-requires-clause-own c =
    let v = c.args.stripe.now.view.now in
    subst (λ (gs : List GroupFound). HaveCells (shape c.args.tree.now) (columns_of v.footer v.bytes c.args.column) gs) (sym c.deref.ensures.value) c.requires.own

pub returns-in_ok-check_index : goal.returns-in_ok-check_index
returns-in_ok-check_index c = λ rows h.
    let s = c.args.stripe.now in
    let v = s.view.now in
    let column = c.args.column in
    let t = shape c.args.tree.now in
    let told = slice_get s.told.now column in
    let right : c.args.read.now.stat ≡ column_stat v.schema rows column = h.stat_is ∙ ap (λ (u : Shape). stat (kind_of u) (cells v.schema column rows)) (sym h.type) in
    let tells : MatchBool c.tells.result (TellsStripe v.schema s.told.now rows column) (TellsStripe v.schema s.told.now rows column → ⊥) = subst (λ (x : Stat). MatchBool c.tells.result (Tells told x) (Tells told x → ⊥)) right c.tells.ensures in
    let some : 0 < v.stride = omega (arith, c.if-stride-gt0.true, c.stride.ensures) in
    adds_both (Unless (TellsStripe v.schema s.told.now rows column) (StripeStatistic s.number column)) (OfIndex v s.number rows column) c.args.found.now.items c.report.new.found.items c.check_index.new.found.items
    (adds_report (TellsStripe v.schema s.told.now rows column) c.tells.result (StripeStatistic s.number column) c.args.found.now.items c.report.new.found.items tells c.in_ok-report.ensures)
    (c.in_ok-check_index.ensures rows some h.counted (λ may. subst (λ (gs : List GroupFound). AreColumnGroupsFound v rows column t gs) (sym c.deref.ensures.value) (h.groups may)))
