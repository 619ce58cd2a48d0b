use Rattle.std.proofs.Common.{◌≡◌, [], Some, Ok, Err, IsSome, inl, sym}
use Rattle.std.proofs.lemmas.Result.{err_from_is_err_and}
use Rattle.orc_cli_commands.specs.Places.{CanFail}
use Rattle.orc_cli_commands.proofs.PlaceLemmas.{write_of}
use Rattle.orc_cli_commands.proofs.writing.write_file.Goals as goal

pub returns-in_err-written-clause-answered : goal.returns-in_err-written-clause-answered
returns-in_err-written-clause-answered g c =
    let p = err_from_is_err_and c.from_residual-in_err-written.result c.from_residual-in_err-written.ensures.1 in
    let output = g.P.Output.Sink.told c.in_ok-out.out in
    let found : g.P.Place.lacks c.args.place.now c.args.input.now → ⊥ = λ lacks. let e = c.in_ok-lines.ensures.lacking lacks in cc in
    let there : IsSome (g.P.Place.told c.args.place.now c.args.output.now) → ⊥ = λ some. let e = c.in_ok-out.ensures.there some in cc in
    let starts : g.P.Place.lacks c.args.place.now c.args.output.now → output ≡ Some [] = λ lacks. (c.in_ok-out.ensures.made lacks).0 in
    let said = write_of c.args.schema.now c.args.options (CanFail g.P.Lines.LineReader.failures) (CanFail g.P.Output.Sink.failures) output _ _ _ _ _ (Err c.in_err-written.field-0.0)
    c.in_ok-lines.ensures.told (sym c.in_ok-close.ensures.made) c.in_err-written.was c.write_rows-written.ensures in
    rw (p.1, p.2) (inl (found, inl (there, (output, starts, inl said))))

pub returns-clause-answered : goal.returns-clause-answered
returns-clause-answered g c =
    let output = g.P.Output.Sink.told c.in_ok-out.out in
    let found : g.P.Place.lacks c.args.place.now c.args.input.now → ⊥ = λ lacks. let e = c.in_ok-lines.ensures.lacking lacks in cc in
    let there : IsSome (g.P.Place.told c.args.place.now c.args.output.now) → ⊥ = λ some. let e = c.in_ok-out.ensures.there some in cc in
    let starts : g.P.Place.lacks c.args.place.now c.args.output.now → output ≡ Some [] = λ lacks. (c.in_ok-out.ensures.made lacks).0 in
    let said = write_of c.args.schema.now c.args.options (CanFail g.P.Lines.LineReader.failures) (CanFail g.P.Output.Sink.failures) output _ _ _ _ _ (Ok c.in_ok-written.field-0)
    c.in_ok-lines.ensures.told (sym c.in_ok-close.ensures.made) c.in_ok-written.was c.write_rows-written.ensures in
    inl (found, inl (there, (output, starts, inl said)))
