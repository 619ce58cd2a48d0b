use Rattle.std.proofs.Common.{Err, ap}
use Rattle.orc_cli_commands.proofs.writing.write_rows.Goals as goal

pub returns : goal.returns
returns g c =
    let e = c.in-Err.ensures in record {
      done = tt;
      written = tt;
      only = e.only;
      refused = e.refused;
      source = λ failed. (c.args.lines.now, c.write_lines.new.lines, e.source failed);
      output = λ failed. (c.args.out, c.in-Err.out, e.out.failed (ap Err failed));
      layer = e.layer;
    }
