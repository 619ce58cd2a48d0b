use Rattle.std.proofs.Common.{true, ap, ◌∙◌, subst}
use Rattle.std.proofs.lemmas.Result.{err_from_is_err_and}
use Rattle.orc_rle.specs.declared.sign.Sign.TheVariants.{Unsigned}
use Rattle.orc_directory.specs.declared.fault.StreamKind.TheVariants.{DictionaryData}
use Rattle.orc_column_reader.specs.Faults.{StringsFail, lengths_of}
use Rattle.orc_column_reader.specs.RunFaults.{Integers}
use Rattle.orc_column_reader.specs.Stripe.{version}
use Rattle.orc_column_reader.proofs.StartFaults.{integers_from}
use Rattle.orc_column_reader.proofs.starting.dictionary_source.Goals as goal

pub returns-in_err-entries-clause-fault : goal.returns-in_err-entries-clause-fault
returns-in_err-entries-clause-fault c =
    let p = err_from_is_err_and c.from_residual.result c.from_residual.ensures.1 in
    rw (p.1, p.2) (λ memory x are.
    let s = c.args.streams.now in
    let i = ap (λ v. integers_from v Unsigned s.lengths.now) are.version_is ∙ ap (λ b. integers_from (version x) Unsigned b) are.lengths_are in
    subst (λ n. StringsFail DictionaryData (lengths_of x) true n (x.stream 3) c.args.column c.in_err-entries.field-0.0) are.size_is
    (subst (λ b. StringsFail DictionaryData (lengths_of x) true s.dictionary_size b c.args.column c.in_err-entries.field-0.0) are.dictionary_data_is
    (subst (λ (k : Integers). StringsFail DictionaryData k true s.dictionary_size s.dictionary_data.now c.args.column c.in_err-entries.field-0.0) i (c.in_err-entries.ensures.fault memory))))
