use Rattle.std.proofs.Common.{ap, rules}
use Rattle.orc_io.proofs.Leaving.{kept_then}
use Rattle.orc_values.specs.Views.{view}
use Rattle.orc_row_batch.specs.Batch.{kept_rows}
use Rattle.orc_file_writer.proofs.Spread.{HasPushed}
use Rattle.orc_file_writer.proofs.LimitLemmas.{same_limits}
use Rattle.orc_file_writer.proofs.PushLemmas.{failed_only}
use Rattle.orc_file_writer.proofs.writer.Writer.push.Goals as goal

pub returns-in_err-admit-clause-takes : goal.returns-in_err-admit-clause-takes
returns-in_err-admit-clause-takes g c = record {
  taken = search rules;
  same = search rules;
  failed = search rules;
  shape = search rules;
  limit = search rules;
  only_limit = search rules;
  counted = λ first rows h.
      let w = c.args.self.now in
      same_limits w.options w.schema first _ w.written w.infos.items w.stats.items (kept_rows w.schema w.batch) rows w.total w.counts.items (view c.args.row.now) h w.total_is w.wide w.counted;
  long = search rules;
  full = search rules;
  refused = search rules;
  shape_stays = search rules;
  unchanged = search rules;
  write_fails = search rules;
  memory_fails = search rules;
  stays_failed = search rules;
  ok = search rules;
  cut = search rules;
  out = record {
    kept = search rules;
    failed = search rules;
    others = search rules;
  };
}

pub returns-clause-takes : goal.returns-clause-takes
returns-clause-takes g c = record {
  taken = search rules;
  same = search rules;
  failed = search rules;
  shape = search rules;
  limit = search rules;
  only_limit = search rules;
  counted = λ first rows h.
      let w = c.args.self.now in
      same_limits w.options w.schema first _ w.written w.infos.items w.stats.items (kept_rows w.schema w.batch) rows w.total w.counts.items (view c.args.row.now) h w.total_is w.wide w.counted;
  long = search rules;
  full = search rules;
  refused = search rules;
  shape_stays = search rules;
  unchanged = search rules;
  write_fails = search rules;
  memory_fails = search rules;
  stays_failed = search rules;
  ok = search rules;
  cut = λ first rows h ready failed.
      let a = c.admit.new.self in
      let e = c.admit.ensures in
      let before : HasPushed a.options a.schema first (g.W.Sink.told a.out) a.written a.infos.items a.stats.items (kept_rows a.schema a.batch) rows = rw (e.same.0, e.same.1, e.stays.0, e.stays.1, e.stays.2, e.stays.3, e.stays.4) h in
      let cut = c.add.ensures.cut first rows before in
      failed_only c.add.result c.add.new.self.failed (rw (e.same.0, e.same.1) at cut) c.add.ensures.ok failed;
  out = kept_then (ap g.W.Sink.failures c.admit.ensures.stays.0) c.add.ensures.out;
}
