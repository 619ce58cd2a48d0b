use Rattle.std.proofs.Common.{true, ap, ◌∙◌, sym, subst}
use Rattle.orc_rle.specs.declared.sign.Sign.TheVariants.{Unsigned}
use Rattle.orc_column_reader.specs.Faults.{EntriesFail, StringsFail, lengths_of}
use Rattle.orc_column_reader.specs.RunFaults.{Integers}
use Rattle.orc_column_reader.specs.Stripe.{version}
use Rattle.orc_directory.specs.declared.fault.StreamKind.TheVariants.{DictionaryData}
use Rattle.orc_column_reader.proofs.StartFaults.{integers_from}
use Rattle.orc_group_reader.proofs.entries.dictionary_of.Goals as goal

pub returns-in-Err-clause-fault : goal.returns-in-Err-clause-fault
returns-in-Err-clause-fault c = λ memory x are.
    let s = c.args.streams.now in
    let i = ap (λ v. integers_from v Unsigned s.lengths.now) are.version_is ∙ ap (λ b. integers_from (version x) Unsigned b) are.lengths_are in
    subst (λ d. EntriesFail d x c.args.column c.in-Err.fault) (sym (c.if-not-streams.false))
    (subst (λ n. StringsFail DictionaryData (lengths_of x) true n (x.stream 3) c.args.column c.in-Err.fault) are.size_is
    (subst (λ b. StringsFail DictionaryData (lengths_of x) true s.dictionary_size b c.args.column c.in-Err.fault) are.dictionary_data_is
    (subst (λ (k : Integers). StringsFail DictionaryData k true s.dictionary_size s.dictionary_data.now c.args.column c.in-Err.fault) i (c.in-Err.ensures.fault memory))))
