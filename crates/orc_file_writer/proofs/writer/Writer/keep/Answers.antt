use Rattle.std.proofs.Common.{◌++◌, ◌∷◌, [], length, arith, length-append}
use Rattle.orc_values.specs.Views.{view}
use Rattle.orc_row_batch.specs.Batch.{Holds, HasEachColumn, kept_rows}
use Rattle.orc_row_batch.proofs.BatchLemmas.{held_rows}
use Rattle.orc_file_writer.proofs.BatchSteps.{held_again}
use Rattle.orc_file_writer.proofs.CountLemmas.{counts_more, counts_none, few_none}
use Rattle.orc_file_writer.proofs.writer.Writer.keep.Goals as goal

-- ---- memory was refused

pub invariant_of-self-clause-held : goal.invariant_of-self-clause-held
invariant_of-self-clause-held g c =
    let w = c.args.self.now in
    let columns : HasEachColumn w.schema c.push.new.self = rw c.tree.ensures.same at c.push.ensures.columns in
    held_again w.schema [] c.clear.new.self (c.clear.ensures.rows w.schema columns)

pub invariant_of-self-clause-total_is : goal.invariant_of-self-clause-total_is
invariant_of-self-clause-total_is g c =
    let w = c.args.self.now in
    let columns : HasEachColumn w.schema c.push.new.self = rw c.tree.ensures.same at c.push.ensures.columns in
    let none = held_rows w.schema [] c.clear.new.self (c.clear.ensures.rows w.schema columns) in
    let kept = c.len-kept.ensures w.schema (kept_rows w.schema w.batch) w.held in
    rw none (omega (arith, kept, w.total_is))

pub invariant_of-self-clause-few_cells : goal.invariant_of-self-clause-few_cells
invariant_of-self-clause-few_cells g c = rw c.reset.ensures (few_none (length c.args.self.now.counts.items))

pub invariant_of-self-clause-counted : goal.invariant_of-self-clause-counted
invariant_of-self-clause-counted g c =
    let w = c.args.self.now in
    let columns : HasEachColumn w.schema c.push.new.self = rw c.tree.ensures.same at c.push.ensures.columns in
    let none = held_rows w.schema [] c.clear.new.self (c.clear.ensures.rows w.schema columns) in
    rw (c.reset.ensures, w.wide, none) (counts_none w.schema)

-- ---- the row is kept

pub invariant_of-self-2-clause-held : goal.invariant_of-self-2-clause-held
invariant_of-self-2-clause-held g c =
    let w = c.args.self.now in
    let all = kept_rows w.schema w.batch ++ view c.args.row.now ∷ [] in
    let more : Holds w.schema all c.push.new.self = (rw c.tree.ensures.same at c.in-Ok.ensures.rows) (kept_rows w.schema w.batch) w.held c.requires.fits in
    held_again w.schema all c.push.new.self more

pub invariant_of-self-2-clause-total_is : goal.invariant_of-self-2-clause-total_is
invariant_of-self-2-clause-total_is g c =
    let w = c.args.self.now in
    let kept = kept_rows w.schema w.batch in
    let all = kept ++ view c.args.row.now ∷ [] in
    let more : Holds w.schema all c.push.new.self = (rw c.tree.ensures.same at c.in-Ok.ensures.rows) kept w.held c.requires.fits in
    rw (held_rows w.schema all c.push.new.self more) (omega (arith, w.total_is, length-append kept (view c.args.row.now ∷ [])))

pub invariant_of-self-2-clause-counted : goal.invariant_of-self-2-clause-counted
invariant_of-self-2-clause-counted g c =
    let w = c.args.self.now in
    let kept = kept_rows w.schema w.batch in
    let all = kept ++ view c.args.row.now ∷ [] in
    let more : Holds w.schema all c.push.new.self = (rw c.tree.ensures.same at c.in-Ok.ensures.rows) kept w.held c.requires.fits in
    rw (held_rows w.schema all c.push.new.self more, c.swap.ensures.x_after, c.requires.counts) (counts_more w.schema w.counts.items kept (view c.args.row.now) w.wide w.counted)

pub returns-clause-kept : goal.returns-clause-kept
returns-clause-kept g c =
    let w = c.args.self.now in
    let kept = kept_rows w.schema w.batch in
    let all = kept ++ view c.args.row.now ∷ [] in
    let more : Holds w.schema all c.push.new.self = (rw c.tree.ensures.same at c.in-Ok.ensures.rows) kept w.held c.requires.fits in
    held_rows w.schema all c.push.new.self more
