use Rattle.orc_values.specs.Views.{fields}
use Rattle.orc_json_printer.proofs.Laying.{ColumnsTold}
use Rattle.orc_json_printer.proofs.layout.columns_of.Given as goal

abbrev pub invariant-loop-i : goal.invariant-loop-i
invariant-loop-i l = ColumnsTold (fields l.fields.items) l.members.items l.columns.items l.i
