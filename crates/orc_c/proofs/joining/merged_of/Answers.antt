use Rattle.std.proofs.Common.{◌≡◌, ◌<◌, ℕ, List, map, slice_index, ap, Err, arith}
use Rattle.orc_io.specs.declared.slice_source.SliceSource.{SliceSource}
use Rattle.orc_c.proofs.ToldLemmas.{no_failure, not_merged}
use Rattle.orc_c.proofs.joining.merged_of.Goals as goal

pub returns-in-Err-clause-refused : goal.returns-in-Err-clause-refused
returns-in-Err-clause-refused c = λ files is.
    let e = c.in-Err.ensures in
    let none : SliceSource → ℕ = λ source. 0 in
    let old : List SliceSource = c.args.sources.now in
    let new : List SliceSource = c.merge.new.inputs in
    not_merged files c.in-Err.fault _ c.merge_told_of.ensures
    (λ i failed.
    let rose : slice_index (map none old) i < slice_index (map none new) i = e.source_failed i (ap Err failed) in
    let before : slice_index (map none old) i ≡ 0 = no_failure old i in
    let after : slice_index (map none new) i ≡ 0 = no_failure new i in
    omega (arith, rose, before, after))
    (e.refused files is)
