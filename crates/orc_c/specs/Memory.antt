-- Writing to a vector fails only for want of memory, so `WriteFailed` is returned as `OutOfMemory` (own).
use Rattle.std.specs.Prelude.{◌≡◌, ◌≢◌, ◌⊎◌}
use Rattle.orc_tail.specs.declared.fault.FileFault.TheVariants as file
use Rattle.orc_merger.specs.declared.fault.MergeFault.{MergeFault}
use Rattle.orc_merger.specs.declared.fault.MergeFault.TheVariants.{WriteFailed, OutOfMemory}
use Rattle.orc_cli_output.specs.Output.{write_failed}
use Rattle.orc_cli_output.specs.declared.fault.CliFault.{CliFault}
use Rattle.orc_cli_output.specs.declared.fault.CliFault.TheVariants.{File}

-- `OutOfMemory` in place of `WriteFailed`, and any other fault unchanged
abbrev pub ToldAs : CliFault → CliFault → Type 0
ToldAs was told = ((was ≡ write_failed) × (told ≡ File file.OutOfMemory)) ⊎ ((was ≢ write_failed) × (told ≡ was))

-- `OutOfMemory` in place of `WriteFailed` of a merge, and any other fault unchanged
abbrev pub MergeToldAs : MergeFault → MergeFault → Type 0
MergeToldAs was told = ((was ≡ WriteFailed) × (told ≡ OutOfMemory)) ⊎ ((was ≢ WriteFailed) × (told ≡ was))
