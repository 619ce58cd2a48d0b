use Rattle.std.proofs.Common.{◌+◌, ◌*◌, ◌++◌, length, map}
use Rattle.orc_values.specs.Shapes.{width, widths}
use Rattle.orc_values.specs.Views.{shape, fields, name_and_type}
use Rattle.orc_json_printer.specs.Layouts.{member_parts}
use Rattle.orc_json_printer.specs.LaidOut.{AreFieldPlaces, AreMembersLaidOut, member_places}
use Rattle.orc_json_printer.specs.Texts.{entry_places}
use Rattle.orc_json_printer.proofs.Prints.{Laying}
use Rattle.orc_json_printer.proofs.layout.+laying.Given as goal

abbrev pub decreases-layout_of : goal.decreases-layout_of
decreases-layout_of l = 2 * width (shape l.tree.now)

abbrev pub decreases-members_of : goal.decreases-members_of
decreases-members_of l = 2 * widths (fields l.fields.now.items) + 1

abbrev pub invariant-members_of-loop-name : goal.invariant-members_of-loop-name
invariant-members_of-loop-name l =
    Laying (length l.fields.items) (map name_and_type l.fields.items) (member_parts l.members.items) l.later l.name-iterator
    × AreFieldPlaces (fields l.fields.items) (member_places l.members.items ++ entry_places l.name-iterator)
    × AreMembersLaidOut (map name_and_type l.fields.items) l.members.items
