use Rattle.std.proofs.Common.{◌≡◌, suc, length, map, false, sym, subst, inl, ◌⊎◌, rules, w64, to_z, of_z}
use Rattle.std.proofs.lemmas.Int.{to_z-of_z}
use Rattle.orc_values.specs.Own.{own_cell}
use Rattle.orc_column_reader.specs.Numbers.{NumbersLeft}
use Rattle.orc_column_reader.specs.Columns.{IsEntry, entry_bytes}
use Rattle.orc_column_reader.proofs.Fronts.{standing_lacks}
use Rattle.orc_column_reader.proofs.ReaderLemmas.{one_stands, nothing_stands, one_word}
use Rattle.std.proofs.lemmas.List.{length-map}
use Rattle.std.proofs.lemmas.Result.{err_from_is_err_and, IfOk-weaker, IfErr-weaker, on_err_weaker}
use Rattle.orc_directory.specs.declared.fault.StreamKind.TheVariants as stream
use Rattle.orc_directory.specs.declared.fault.StripeFault.TheVariants as fault
use Rattle.orc_column_reader.specs.ValueFaults.{is_index, names_text}
use Rattle.orc_column_reader.proofs.MetLemmas.{words_before, words_now}
use Rattle.orc_column_reader.proofs.dictionary.next_entry.Goals as goal

pub returns-clause-found : goal.returns-clause-found
returns-clause-found c =
    let z : to_z w64 (of_z w64 c.in_ok-number.number) ≡ c.in_ok-number.number = to_z-of_z w64 c.in_ok-number.number (search rules) in
    let e = c.entry_value.ensures.found in
    IfOk-weaker c.entry_value.result (λ v. IsEntry (map entry_bytes c.args.entries.now) c.in_ok-number.number (own_cell v)) _
    (λ v h. one_stands (IsEntry (map entry_bytes c.args.entries.now)) (one_word (map entry_bytes c.args.entries.now)) (NumbersLeft c.args.numbers.now) (NumbersLeft c.next_number.new.numbers) c.in_ok-number.number _ h c.in_ok-number.ensures.found)
    (rw z at e)

pub returns-clause-none : goal.returns-clause-none
returns-clause-none c =
    let z : to_z w64 (of_z w64 c.in_ok-number.number) ≡ c.in_ok-number.number = to_z-of_z w64 c.in_ok-number.number (search rules) in
    let e = c.entry_value.ensures.none in
    on_err_weaker c.entry_value.result (nothing_stands (IsEntry (map entry_bytes c.args.entries.now)) (NumbersLeft c.args.numbers.now) (NumbersLeft c.next_number.new.numbers) c.in_ok-number.number c.in_ok-number.ensures.found) (rw z at e)

pub returns-in_err-number-clause-none : goal.returns-in_err-number-clause-none
returns-in_err-number-clause-none c =
    let p = err_from_is_err_and c.from_residual.result c.from_residual.ensures.1 in
    rw p.1 (standing_lacks (IsEntry (map entry_bytes c.args.entries.now)) (NumbersLeft c.args.numbers.now) 1 c.in_err-number.ensures.none)

pub returns-clause-before : goal.returns-clause-before
returns-clause-before c =
    IfOk-weaker c.entry_value.result (λ _. Unit {0}) _
    (λ _ _ all m f. words_before (map entry_bytes c.args.entries.now) c.args.numbers.now c.next_number.new.numbers all m c.args.column c.in_ok-number.number f c.in_ok-number.ensures.before c.in_ok-number.ensures.first)
    (search rules)

pub returns-clause-fault : goal.returns-clause-fault
returns-clause-fault c =
    let z : to_z w64 (of_z w64 c.in_ok-number.number) ≡ c.in_ok-number.number = to_z-of_z w64 c.in_ok-number.number (search rules) in
    let e = c.entry_value.ensures.fault in
    let words = map entry_bytes c.args.entries.now in
    IfErr-weaker c.entry_value.result
    (λ cause. ((cause ≡ fault.BadIndex c.args.column) × (is_index (length c.args.entries.now) c.in_ok-number.number ≡ false))
    ⊎ ((cause ≡ fault.NotUtf8 c.args.column stream.DictionaryData) × (names_text words c.in_ok-number.number ≡ false))) _
    (λ cause h memory m. words_now words c.args.numbers.now c.next_number.new.numbers false (suc m) c.args.column c.in_ok-number.number cause c.in_ok-number.ensures.first
    (subst (λ k. ((cause ≡ fault.BadIndex c.args.column) × (is_index k c.in_ok-number.number ≡ false))
    ⊎ ((cause ≡ fault.NotUtf8 c.args.column stream.DictionaryData) × (names_text words c.in_ok-number.number ≡ false)))
    (sym (length-map c.args.entries.now entry_bytes)) h))
    (rw z at e)

pub returns-in_err-number-clause-fault : goal.returns-in_err-number-clause-fault
returns-in_err-number-clause-fault c =
    let p = err_from_is_err_and c.from_residual.result c.from_residual.ensures.1 in
    rw (p.1, p.2) (λ memory m. inl (c.in_err-number.ensures.fault memory m))
