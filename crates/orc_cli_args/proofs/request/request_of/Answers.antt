use Rattle.std.proofs.Common.{◌≡◌, List, Option, Some, None, IsSome, option_map, sym}
use Rattle.clap.specs.Matches.{found_of}
use Rattle.clap.specs.Walk.{Text, Row, rows_of as found_rows}
use Rattle.clap.specs.Simple.{subcommand_rows_of}
use Rattle.clap.specs.declared.parser.matches.Found.{Found}
use Rattle.orc_cli_args.specs.declared.request.Request.{Request}
use Rattle.orc_cli_args.proofs.RequestLemmas.{asks_some, none_understood, understood_ints, understood_rows, understood_show, understood_check, understood_write, understood_merge, understood_other}
use Rattle.orc_cli_args.proofs.request.request_of.Goals as goal

pub returns-in-ints-clause-found : goal.returns-in-ints-clause-found
returns-in-ints-clause-found c =
    let found_rest = λ (x : Found). option_map (λ (p : Text × List Row). p.1) (subcommand_rows_of c.args.matches.now) ≡ Some (found_rows x) in
    asks_some found_rest (found_of c.in_ok-name.found.now) c.ints_of.result (sym c.in_ok-name.ensures.rows) c.ints_of.ensures.found

pub returns-in-rows-clause-found : goal.returns-in-rows-clause-found
returns-in-rows-clause-found c =
    let found_rest = λ (x : Found). option_map (λ (p : Text × List Row). p.1) (subcommand_rows_of c.args.matches.now) ≡ Some (found_rows x) in
    asks_some found_rest (found_of c.in_ok-name.found.now) c.rows_of.result (sym c.in_ok-name.ensures.rows) c.rows_of.ensures.found

pub returns-in-show-clause-found : goal.returns-in-show-clause-found
returns-in-show-clause-found c =
    let found_rest = λ (x : Found). option_map (λ (p : Text × List Row). p.1) (subcommand_rows_of c.args.matches.now) ≡ Some (found_rows x) in
    asks_some found_rest (found_of c.in_ok-name.found.now) c.show_of.result (sym c.in_ok-name.ensures.rows) c.show_of.ensures.found

pub returns-in-check-clause-found : goal.returns-in-check-clause-found
returns-in-check-clause-found c =
    let found_rest = λ (x : Found). option_map (λ (p : Text × List Row). p.1) (subcommand_rows_of c.args.matches.now) ≡ Some (found_rows x) in
    asks_some found_rest (found_of c.in_ok-name.found.now) c.check_of.result (sym c.in_ok-name.ensures.rows) c.check_of.ensures.found

pub returns-in-write-clause-found : goal.returns-in-write-clause-found
returns-in-write-clause-found c =
    let found_rest = λ (x : Found). option_map (λ (p : Text × List Row). p.1) (subcommand_rows_of c.args.matches.now) ≡ Some (found_rows x) in
    asks_some found_rest (found_of c.in_ok-name.found.now) c.write_of.result (sym c.in_ok-name.ensures.rows) c.write_of.ensures.found

pub returns-in-merge-clause-found : goal.returns-in-merge-clause-found
returns-in-merge-clause-found c =
    let found_rest = λ (x : Found). option_map (λ (p : Text × List Row). p.1) (subcommand_rows_of c.args.matches.now) ≡ Some (found_rows x) in
    asks_some found_rest (found_of c.in_ok-name.found.now) c.merge_of.result (sym c.in_ok-name.ensures.rows) c.merge_of.ensures.found

pub returns-in-ints-clause-none : goal.returns-in-ints-clause-none
returns-in-ints-clause-none c =
    let name = c.in_ok-name.name.now in
    let found = found_of c.in_ok-name.found.now in
    let so = understood_ints name found (IsSome c.ints_of.result) c.in-ints.is c.ints_of.ensures.only in
    none_understood c.args.matches.now name found c.ints_of.result (sym c.in_ok-name.ensures.name) (sym c.in_ok-name.ensures.rows) so

pub returns-in-rows-clause-none : goal.returns-in-rows-clause-none
returns-in-rows-clause-none c =
    let name = c.in_ok-name.name.now in
    let found = found_of c.in_ok-name.found.now in
    let so = understood_rows name found (IsSome c.rows_of.result) c.in-rows.is c.rows_of.ensures.only in
    none_understood c.args.matches.now name found c.rows_of.result (sym c.in_ok-name.ensures.name) (sym c.in_ok-name.ensures.rows) so

pub returns-in-show-clause-none : goal.returns-in-show-clause-none
returns-in-show-clause-none c =
    let name = c.in_ok-name.name.now in
    let found = found_of c.in_ok-name.found.now in
    let so = understood_show name found (IsSome c.show_of.result) c.in-show.is c.show_of.ensures.only in
    none_understood c.args.matches.now name found c.show_of.result (sym c.in_ok-name.ensures.name) (sym c.in_ok-name.ensures.rows) so

pub returns-in-check-clause-none : goal.returns-in-check-clause-none
returns-in-check-clause-none c =
    let name = c.in_ok-name.name.now in
    let found = found_of c.in_ok-name.found.now in
    let so = understood_check name found (IsSome c.check_of.result) c.in-check.is c.check_of.ensures.only in
    none_understood c.args.matches.now name found c.check_of.result (sym c.in_ok-name.ensures.name) (sym c.in_ok-name.ensures.rows) so

pub returns-in-write-clause-none : goal.returns-in-write-clause-none
returns-in-write-clause-none c =
    let name = c.in_ok-name.name.now in
    let found = found_of c.in_ok-name.found.now in
    let so = understood_write name found (IsSome c.write_of.result) c.in-write.is c.write_of.ensures.only in
    none_understood c.args.matches.now name found c.write_of.result (sym c.in_ok-name.ensures.name) (sym c.in_ok-name.ensures.rows) so

pub returns-in-merge-clause-none : goal.returns-in-merge-clause-none
returns-in-merge-clause-none c =
    let name = c.in_ok-name.name.now in
    let found = found_of c.in_ok-name.found.now in
    let so = understood_merge name found (IsSome c.merge_of.result) c.in-merge.is c.merge_of.ensures.only in
    none_understood c.args.matches.now name found c.merge_of.result (sym c.in_ok-name.ensures.name) (sym c.in_ok-name.ensures.rows) so

pub returns-in_default-clause-none : goal.returns-in_default-clause-none
returns-in_default-clause-none c =
    let name = c.in_ok-name.name.now in
    let found = found_of c.in_ok-name.found.now in
    let asked : Option Request = None in
    let so = understood_other name found (IsSome asked) c.in_default.not-ints c.in_default.not-rows c.in_default.not-show c.in_default.not-check c.in_default.not-write c.in_default.not-merge in
    none_understood c.args.matches.now name found asked (sym c.in_ok-name.ensures.name) (sym c.in_ok-name.ensures.rows) so
