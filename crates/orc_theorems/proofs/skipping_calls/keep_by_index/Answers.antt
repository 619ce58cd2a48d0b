use Rattle.std.proofs.Common.{◌≡◌, ◌∙◌, ap, arith}
use Rattle.orc_wire.specs.declared.row_index.RowIndexMsg.{RowIndexMsg}
use Rattle.orc_values.specs.Shapes.{Shape, shape_at, width}
use Rattle.orc_stats.specs.Kinds.{kind_of}
use Rattle.orc_skipping.specs.Tests.{predicate}
use Rattle.orc_theorems.proofs.KeptLemmas.{kept_for}
use Rattle.orc_theorems.proofs.skipping_calls.keep_by_index.Goals as goal

pub tree_at-requires-clause-few : goal.tree_at-requires-clause-few
tree_at-requires-clause-few c = omega (arith, c.requires.few, ap width c.tree.ensures)

pub tree_at-requires-clause-there : goal.tree_at-requires-clause-there
tree_at-requires-clause-there c = omega (arith, c.requires.there, ap width c.tree.ensures)

pub returns-in-Ok-keep_groups-clause-kept : goal.returns-in-Ok-keep_groups-clause-kept
returns-in-Ok-keep_groups-clause-kept c = λ message some has few.
    let v = c.args.view.now in
    let k = c.args.column in
    let kind : c.of_type-kind.result ≡ kind_of (shape_at v.schema k) = c.of_type-kind.ensures ∙ ap kind_of (c.tree_at.ensures ∙ ap (λ (s : Shape). shape_at s k) c.tree.ensures) in
    let entries : c.as_slice.result.now ≡ message.entries = c.as_slice.ensures ∙ ap (λ (m : RowIndexMsg). m.entries) (c.in-Ok.ensures.only message some has) in
    kept_for c.of_type-kind.result (kind_of (shape_at v.schema k)) c.as_slice.result.now message.entries (predicate c.args.test.now) c.args.stripe c.args.places.now.items c.keep_groups.new.places.items
    kind entries c.in-Ok-keep_groups.ensures.kept few
