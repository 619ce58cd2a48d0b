use Rattle.std.proofs.Common.{◌≡◌, ◌∷◌, [], ◌^◌, ltb, ap, ◌∙◌, rules, tests}
use Rattle.std.proofs.lemmas.Iterator.{YieldsList-from_slice}
use Rattle.std.proofs.lemmas.Iterator.Search.{all_from_yields_List}
use Rattle.orc_values.specs.Views.{view}
use Rattle.orc_file_writer.specs.Counts.{are_few}
use Rattle.orc_file_writer.specs.Counting.{CountsCells}
use Rattle.orc_file_writer.proofs.CountSteps.{when_few, when_many}
use Rattle.orc_file_writer.proofs.writer.counting.count_row.Goals as goal

pub returns-clause-few : goal.returns-clause-few
returns-clause-few c =
    let all : c.all.result ≡ are_few c.count_cell.new.counts.items = all_from_yields_List (λ n. ltb n (2 ^ 31)) _ _ c.all.result c.all.ensures.ran (YieldsList-from_slice c.deref.result.now cc) (λ x b q k. search (rules, tests)) ∙ ap are_few c.deref.ensures.value in
    let counted : CountsCells c.args.schema.now 0 (view c.args.row.now ∷ []) c.args.counts.now c.count_cell.new.counts.items = rw (c.copy_from_slice.ensures.items, c.tree.ensures.same) at c.count_cell.ensures.cells in
    when_few c.args.schema.now (view c.args.row.now) c.args.counts.now c.count_cell.new.counts.items c.requires.wide counted c.all.result all

pub returns-clause-many : goal.returns-clause-many
returns-clause-many c =
    let all : c.all.result ≡ are_few c.count_cell.new.counts.items = all_from_yields_List (λ n. ltb n (2 ^ 31)) _ _ c.all.result c.all.ensures.ran (YieldsList-from_slice c.deref.result.now cc) (λ x b q k. search (rules, tests)) ∙ ap are_few c.deref.ensures.value in
    let counted : CountsCells c.args.schema.now 0 (view c.args.row.now ∷ []) c.args.counts.now c.count_cell.new.counts.items = rw (c.copy_from_slice.ensures.items, c.tree.ensures.same) at c.count_cell.ensures.cells in
    when_many c.args.schema.now (view c.args.row.now) c.args.counts.now c.count_cell.new.counts.items c.requires.wide counted c.all.result all
