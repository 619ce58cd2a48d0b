use Rattle.std.proofs.Common.{◌≡◌, ◌++◌, drop}
use Rattle.orc_values.specs.Shapes.{names_of}
use Rattle.orc_values.specs.Views.{fields}
use Rattle.orc_types.proofs.listing.names_of.Given as goal

-- the names so far, before those of the fields that are left, are all
abbrev pub invariant-loop-field : goal.invariant-loop-field
invariant-loop-field l = l.names.items ++ names_of (fields (drop l.field-index l.fields)) ≡ names_of (fields l.fields)
