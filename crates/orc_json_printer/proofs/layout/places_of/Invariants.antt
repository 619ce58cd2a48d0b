use Rattle.std.proofs.Common.{◌≡◌, List, length, map, drop, true, ◌≤◌}
use Rattle.serde_json.specs.Data.{no_members}
use Rattle.orc_values.specs.Cells.{Cell, cells_of}
use Rattle.orc_json_rows.specs.JsonPrinting.{members_json}
use Rattle.orc_values.specs.Views.{name_and_type, fields_of}
use Rattle.orc_json_printer.specs.Texts.{json_in, members_at, AreWithin}
use Rattle.orc_json_rows.specs.FieldNames.{all_differ}
use Rattle.orc_values.specs.Shapes.{names_of}
use Rattle.orc_json_printer.proofs.Places.{PlacesSoFar}
use Rattle.orc_json_printer.proofs.layout.places_of.Given as goal

-- the places so far, and those of the fields that are left
abbrev pub invariant-loop-i : goal.invariant-loop-i
invariant-loop-i l = record {
  order : (cs : List Cell) → length cs ≡ length (map name_and_type l.field-items)
      → members_json (fields_of (drop l.i (map name_and_type l.field-items))) (cells_of (drop l.i cs)) (members_at (json_in (map name_and_type l.field-items) cs) l.places.entries)
      ≡ members_json (fields_of (map name_and_type l.field-items)) (cells_of cs) no_members;
  within : AreWithin (length l.field-items) l.places.entries;
  least : l.i ≤ length l.field-items;
  once : all_differ (names_of (fields_of (map name_and_type l.field-items))) ≡ true → PlacesSoFar (names_of (fields_of (drop l.i (map name_and_type l.field-items)))) l.i l.places.entries;
}
