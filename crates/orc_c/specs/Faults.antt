-- The layers of faults and the number of each fault in its layer, as the faults' texts have them (own).
use Rattle.std.specs.Prelude.{ℕ}
use Rattle.orc_rle.specs.declared.fault.RunFault.{RunFault}
use Rattle.orc_rle.specs.declared.fault.RunFault.TheVariants as run
use Rattle.orc_trees.specs.declared.fault.TypeFault.{TypeFault}
use Rattle.orc_trees.specs.declared.fault.TypeFault.TheVariants as type
use Rattle.orc_json_rows.specs.declared.json_fault.JsonFault.{JsonFault}
use Rattle.orc_json_rows.specs.declared.json_fault.JsonFault.TheVariants as json
use Rattle.orc_tail.specs.declared.fault.FileFault.{FileFault}
use Rattle.orc_tail.specs.declared.fault.FileFault.TheVariants as file
use Rattle.orc_merger.specs.declared.fault.MergeFault.{MergeFault}
use Rattle.orc_merger.specs.declared.fault.MergeFault.TheVariants as merge
use Rattle.orc_c.specs.declared.fault.CallFault.{CallFault}
use Rattle.orc_c.specs.declared.fault.CallFault.TheVariants as call
use Rattle.orc_cli_output.specs.declared.fault.CliFault.{CliFault}
use Rattle.orc_cli_output.specs.declared.fault.CliFault.TheVariants as command
use Rattle.orc_c.specs.declared.fault.Fault.{Fault}
use Rattle.orc_c.specs.declared.fault.Fault.TheVariants.{Command, Merge, Call}

-- the numbers of faults of runs
abbrev pub run_number : RunFault → ℕ
run_number (run.Short _) = 1
run_number (run.BadVarint _) = 2
run_number (run.ValueRange _) = 3
run_number (run.BadDelta _) = 4
run_number (run.PatchOrder _) = 5
run_number (run.PatchPlace _) = 6
run_number (run.PatchRange _) = 7
run_number (run.TooFew _) = 8
run_number (run.TooMany _) = 9
run_number (run.BadPosition _) = 10
run_number run.OutOfMemory = 11

-- the numbers of faults of types
abbrev pub type_number : TypeFault → ℕ
type_number (type.UnsupportedKind _) = 1
type_number type.BadTree = 2
type_number type.TooDeep = 3
type_number type.TooMany = 4
type_number type.RootNotStruct = 5
type_number (type.BadText _) = 6
type_number type.OutOfMemory = 7

-- the numbers of faults of JSON
abbrev pub json_number : JsonFault → ℕ
json_number json.Syntax = 1
json_number json.WrongShape = 2
json_number json.Range = 3
json_number json.UnknownField = 4
json_number json.DuplicateField = 5
json_number json.BadDate = 6
json_number json.BadHex = 7
json_number json.OutOfMemory = 8

-- the numbers of faults of files
abbrev pub file_number : FileFault → ℕ
file_number file.NotOrc = 1
file_number file.BadPostscript = 2
file_number (file.Compressed _) = 3
file_number file.Encrypted = 4
file_number file.BadLengths = 5
file_number file.BadFooter = 6
file_number file.BadMetadata = 7
file_number (file.BadTypes _) = 8
file_number (file.BadStripe _) = 9
file_number file.RowCount = 10
file_number file.Limit = 11
file_number (file.Stripe _ _) = 12
file_number file.RowShape = 13
file_number file.SourceFailed = 14
file_number file.WriteFailed = 15
file_number file.OutOfMemory = 16
file_number file.Failed = 17

-- the numbers of faults of merging
abbrev pub merge_number : MergeFault → ℕ
merge_number merge.NoInput = 1
merge_number (merge.File _ _) = 2
merge_number (merge.SchemaDiffers _) = 3
merge_number (merge.VersionDiffers _) = 4
merge_number (merge.StrideDiffers _) = 5
merge_number (merge.OtherFooterFields _) = 6
merge_number (merge.UserMetadataConflict _) = 7
merge_number (merge.NoStripeStatistics _) = 8
merge_number (merge.Limit _) = 9
merge_number (merge.SourceFailed _) = 10
merge_number merge.WriteFailed = 11
merge_number merge.OutOfMemory = 12

-- the numbers of faults of a call's arguments
abbrev pub call_number : CallFault → ℕ
call_number call.BadLengths = 1
call_number call.BadOptions = 2
call_number call.NotUtf8 = 3

-- the number of a command's fault in its layer
abbrev pub command_number : CliFault → ℕ
command_number (command.Run fault) = run_number fault
command_number (command.Types fault) = type_number fault
command_number (command.Json fault) = json_number fault
command_number (command.File fault) = file_number fault

-- the number of a fault in its layer
abbrev pub number_of : Fault → ℕ
number_of (Command fault) = command_number fault
number_of (Merge fault) = merge_number fault
number_of (Call fault) = call_number fault

-- the layer of a fault: of runs, types, JSON, files, merging, or a call's arguments
abbrev pub layer_of : Fault → ℕ
layer_of (Command (command.Run _)) = 1
layer_of (Command (command.Types _)) = 2
layer_of (Command (command.Json _)) = 3
layer_of (Command (command.File _)) = 4
layer_of (Merge _) = 5
layer_of (Call _) = 6
