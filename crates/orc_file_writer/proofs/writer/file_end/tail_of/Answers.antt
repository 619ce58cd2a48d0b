use Rattle.std.proofs.Common.{sym, subst, List}
use Rattle.orc_stats.specs.declared.stat.Stat.{Stat}
use Rattle.orc_file_writer.specs.Counts.{are_all_stats}
use Rattle.std.specs.Prelude.{true, ◌≡◌}
use Rattle.orc_file_writer.proofs.StatTests.{column_all}
use Rattle.orc_file_writer.proofs.writer.file_end.tail_of.Goals as goal

pub file_statistics-requires : goal.file_statistics-requires
file_statistics-requires c = record {
  kinds = λ n lt. column_all c.args.schema n c.deref.result.now (subst (λ (xs : List (List Stat)). are_all_stats c.args.schema xs ≡ true) (sym c.deref.ensures.value) c.requires.stats);
}
