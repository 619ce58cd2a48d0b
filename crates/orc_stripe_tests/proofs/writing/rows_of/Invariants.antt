use Rattle.orc_values.specs.Fits.{RowsFit}
use Rattle.orc_values.specs.Views.{views}
use Rattle.orc_stripe_tests.proofs.writing.rows_of.Given as goal

abbrev pub invariant-loop-line : goal.invariant-loop-line
invariant-loop-line l = RowsFit l.schema (views l.rows.items)
