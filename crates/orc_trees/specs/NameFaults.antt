-- Why bytes are no field's name (ORC specification, "Types").
use Rattle.std.specs.Str.{is_utf8}
use Rattle.std.specs.Prelude.{false, ℕ, ◌≡◌, List}
use Rattle.orc_trees.specs.declared.fault.TypeFault.{TypeFault}
use Rattle.orc_trees.specs.declared.fault.TypeFault.TheVariants as fault

-- why bytes are no name
abbrev pub NameFault : List ℕ → TypeFault → Type 0
NameFault bytes (fault.BadText place) = (place ≡ 0) × (is_utf8 bytes ≡ false)
NameFault bytes fault.OutOfMemory = Unit {0}
NameFault bytes _ = ⊥
