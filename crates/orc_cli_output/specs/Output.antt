-- What an output has got, and errors that come from outside a command's input.
use Rattle.std.specs.Prelude.{◌≡◌, ℕ, ◌<◌, List, length, take, ◌⊎◌, Option}
use Rattle.std.specs.Io.KnownBytes.{Appends}
use Rattle.orc_rle.specs.declared.fault.RunFault.TheVariants as run
use Rattle.orc_trees.specs.declared.fault.TypeFault.TheVariants as types
use Rattle.orc_json_rows.specs.declared.json_fault.JsonFault.TheVariants as json
use Rattle.orc_tail.specs.Tails.{TailOpenFault}
use Rattle.orc_tail.specs.declared.fault.FileFault.{FileFault}
use Rattle.orc_tail.specs.declared.fault.FileFault.TheVariants as file
use Rattle.orc_cli_output.specs.declared.fault.CliFault.{CliFault}
use Rattle.orc_cli_output.specs.declared.fault.CliFault.TheVariants.{Run, Types, Json, File}

-- a proper prefix of the bytes was written after what was there
abbrev pub AppendsPart : Option (List ℕ) → Option (List ℕ) → List ℕ → Type 0
AppendsPart old new bytes = (count : ℕ) × (count < length bytes) × Appends old new (take count bytes)

-- the error of an output that failed, or that took no more bytes
abbrev pub write_failed : CliFault
write_failed = File file.WriteFailed

-- memory ran out, in the program itself or in a layer below
abbrev pub IsWantOfMemory : CliFault → Type 0
IsWantOfMemory fault =
    (fault ≡ File file.OutOfMemory)
    ⊎ ((fault ≡ Run run.OutOfMemory)
    ⊎ ((fault ≡ Json json.OutOfMemory)
    ⊎ (fault ≡ Types types.OutOfMemory)))

-- the output failed, or memory ran out
abbrev pub IsOutputOrMemory : CliFault → Type 0
IsOutputOrMemory fault = (fault ≡ write_failed) ⊎ IsWantOfMemory fault

-- the source failed, or memory ran out
abbrev pub IsOfSource : CliFault → Type 0
IsOfSource fault = (fault ≡ File file.SourceFailed) ⊎ IsWantOfMemory fault

-- why a file isn't opened: a fault of its bytes, a failed source, or want of memory
abbrev pub IsNotOpened : List ℕ → CliFault → Type 0
IsNotOpened bytes fault = ((why : FileFault) × (fault ≡ File why) × TailOpenFault bytes why) ⊎ IsOfSource fault

-- the errors that come from outside the file's bytes
abbrev pub IsOutsideFile : CliFault → Type 0
IsOutsideFile fault = (fault ≡ write_failed) ⊎ IsOfSource fault
