use Rattle.std.proofs.Common.{map}
use Rattle.clap.specs.Simple.{app_of}
use Rattle.orc_cli_args.proofs.CommandLemmas.{parse_found, parse_refused}
use Rattle.orc_cli_args.proofs.command_line.matches_of.Goals as goal

pub returns-clause-found : goal.returns-clause-found
returns-clause-found g c =
    let table = c.in_ok-orcm.ensures.table in
    let parse = c.try_get_matches_from in
    parse_found (app_of c.in_ok-orcm.field-0) table.0 table.1 (map g.S.AsStr.text c.args.words.now) parse.result parse.ensures.kinds parse.ensures.matches

pub returns-clause-refused : goal.returns-clause-refused
returns-clause-refused g c =
    let table = c.in_ok-orcm.ensures.table in
    let parse = c.try_get_matches_from in
    parse_refused (app_of c.in_ok-orcm.field-0) table.0 table.1 (map g.S.AsStr.text c.args.words.now) parse.result parse.ensures.kinds
