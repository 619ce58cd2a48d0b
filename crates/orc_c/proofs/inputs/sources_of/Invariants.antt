use Rattle.std.proofs.Common.{◌≡◌, map, Some, sum, length, ◌+◌, ◌++◌, drop}
use Rattle.orc_c.specs.Inputs.{cut}
use Rattle.orc_io.specs.declared.slice_source.SliceSource.{SliceSource}
use Rattle.orc_c.proofs.inputs.sources_of.Given as goal

-- the sources so far and those of the lengths that are left are all of them, and so are the bytes
abbrev pub invariant-loop-length : goal.invariant-loop-length
invariant-loop-length l = record {
  told : map (λ (source : SliceSource). Some source.bytes.now) l.sources.items ++ map Some (cut (drop l.length-index l.lengths) l.rest)
      ≡ map Some (cut l.lengths l.inputs);
  all : length l.rest + sum l.lengths ≡ length l.inputs + sum (drop l.length-index l.lengths);
}
