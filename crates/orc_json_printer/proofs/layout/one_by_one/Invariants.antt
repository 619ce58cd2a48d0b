use Rattle.orc_json_printer.proofs.Laying.{ColumnsGo}
use Rattle.orc_json_printer.proofs.layout.one_by_one.Given as goal

abbrev pub invariant-loop-field : goal.invariant-loop-field
invariant-loop-field l = ColumnsGo l.fields l.field-index l.first l.columns.items
