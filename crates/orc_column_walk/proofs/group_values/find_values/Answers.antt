use Rattle.std.proofs.Common.{rules, arith}
use Rattle.orc_values.specs.Views.{shape}
use Rattle.orc_column_walk.specs.OwnLeft.{OwnValuesLeft}
use Rattle.orc_column_walk.proofs.GroupLemmas.{counted_found}
use Rattle.orc_column_walk.proofs.ReadLemmas.{all_read}
use Rattle.orc_column_walk.proofs.group_values.find_values.Goals as goal

pub returns-else-not-values_end-clause-found : goal.returns-else-not-values_end-clause-found
returns-else-not-values_end-clause-found c =
    let s = shape c.args.tree.now in
    let f = c.in-Ok.ensures.found in
    let e = c.values_end.ensures in
    let ended = rw c.if-not-values_end.false at e in
    let left = all_read (OwnValuesLeft s c.args.source.now) (OwnValuesLeft s c.count_by_kind.new.source) f.0 f.2 ended in
    (f.0, f.1, left, λ cells h. counted_found s c.args.source.now f.0 cells c.args.groups.bounds.now c.in-Ok.found (search rules) (omega (arith, h.counted, c.requires.few)) h.values_are left (f.3 cells h))
