use Rattle.std.proofs.Common.{◌≡◌, ℕ, suc, true, false, refl, ◌+◌, ◌-◌, length, map, ap, ◌∙◌, subst, arith, length-append}
use Rattle.std.proofs.lemmas.List.{length-map}
use Rattle.std.proofs.lemmas.Result.{err_from_is_err_and}
use Rattle.orc_rle.specs.declared.sign.Sign.TheVariants.{Unsigned}
use Rattle.orc_column_reader.specs.Numbers.{AreNumbers, NumbersLeft}
use Rattle.orc_column_reader.specs.Octets.{OctetsLeft}
use Rattle.orc_column_reader.specs.Spellings.{Sized}
use Rattle.orc_column_reader.specs.Stripe.{Is}
use Rattle.orc_column_reader.specs.Columns.{entry_bytes}
use Rattle.orc_column_reader.specs.declared.octets.Octets.{Octets}
use Rattle.orc_directory.specs.declared.fault.StreamKind.TheVariants.{DictionaryData}
use Rattle.orc_column_reader.proofs.StartFaults.{integers_from, groups_start, groups_all}
use Rattle.orc_column_reader.specs.Faults.{StringsFail}
use Rattle.orc_column_reader.proofs.Entries.{begun, entries_more, entries_found, entries_over, entries_lack}
use Rattle.orc_column_reader.proofs.dictionary.entries_of.Goals as goal

pub loop-taken-init : goal.loop-taken-init
loop-taken-init c =
    let e = c.new-entries.ensures.items in
    let rest = ap (λ (o : Octets). o.rest.now) c.of-octets.ensures in
    (rw e (rw c.of-octets.ensures (begun c.args.version c.args.lengths.now c.args.bytes.now c.numbers_of-numbers.result c.numbers_of-numbers.ensures)), ap length e, λ all n f h. let z : n ≡ 0 + n = omega arith in subst (λ k. StringsFail DictionaryData (integers_from c.args.version Unsigned c.args.lengths.now) all k c.args.bytes.now c.args.column f) z (groups_start DictionaryData c.args.version c.args.lengths.now c.args.bytes.now c.numbers_of-numbers.result c.of-octets.result c.args.column c.args.column all n f c.numbers_of-numbers.ensures rest refl h))

pub loop-taken-preserved : goal.loop-taken-preserved
loop-taken-preserved c = (
  entries_more (Sized (AreNumbers c.args.version Unsigned c.args.lengths.now) (Is c.args.bytes.now)) (Sized (NumbersLeft c.loop-taken.numbers) (OctetsLeft c.loop-taken.octets)) (Sized (NumbersLeft c.next_string.new.numbers) (OctetsLeft c.next_string.new.octets)) c.loop-taken.entries.items c.push.new.self.items _ c.in_ok-text.text.now c.of.ensures c.in_ok-push.ensures.items c.loop-taken.invariant.0 c.in_ok-text.ensures.found,
  ap length c.in_ok-push.ensures.items ∙ length-append c.loop-taken.entries.items _ ∙ ap (λ n. n + 1) c.loop-taken.invariant.1,
  λ all n f h.
      let e : c.loop-taken.taken + suc n ≡ c.loop-taken.taken + 1 + n = omega arith in
      subst (λ k. StringsFail DictionaryData (integers_from c.args.version Unsigned c.args.lengths.now) all k c.args.bytes.now c.args.column f) e (c.loop-taken.invariant.2 all (suc n) f (c.in_ok-text.ensures.before all n f h)),
)

pub returns-in_err-text-clause-none : goal.returns-in_err-text-clause-none
returns-in_err-text-clause-none c =
    let p = err_from_is_err_and c.from_residual.result c.from_residual.ensures.1 in
    rw (p.1, p.2) (λ memory entries counted.
    entries_lack (Sized (AreNumbers c.args.version Unsigned c.args.lengths.now) (Is c.args.bytes.now)) (Sized (NumbersLeft c.loop-taken.numbers) (OctetsLeft c.loop-taken.octets)) (map entry_bytes c.loop-taken.entries.items) entries c.loop-taken.invariant.0 c.in_err-text.ensures.none
    (omega (arith, c.loop-taken-test.true, counted, length-map c.loop-taken.entries.items entry_bytes, c.loop-taken.invariant.1)))

pub returns-then-not-strings_end-clause-none : goal.returns-then-not-strings_end-clause-none
returns-then-not-strings_end-clause-none c =
    λ memory entries counted.
    let e = c.strings_end.ensures in
    let over = rw c.if-not-strings_end.true at e in
    entries_over (Sized (AreNumbers c.args.version Unsigned c.args.lengths.now) (Is c.args.bytes.now)) (Sized (NumbersLeft c.loop-taken.numbers) (OctetsLeft c.loop-taken.octets)) (map entry_bytes c.loop-taken.entries.items) entries c.loop-taken.invariant.0 over
    (omega (arith, c.loop-taken-test.false, c.loop-taken.auto.taken-end, counted, length-map c.loop-taken.entries.items entry_bytes, c.loop-taken.invariant.1))

pub returns-clause-found : goal.returns-clause-found
returns-clause-found c =
    let e = c.strings_end.ensures in
    let over = rw c.if-not-strings_end.false at e in
    (omega (arith, c.loop-taken-test.false, c.loop-taken.auto.taken-end, c.loop-taken.invariant.1), entries_found (Sized (AreNumbers c.args.version Unsigned c.args.lengths.now) (Is c.args.bytes.now)) (Sized (NumbersLeft c.loop-taken.numbers) (OctetsLeft c.loop-taken.octets)) (map entry_bytes c.loop-taken.entries.items) c.loop-taken.invariant.0 over)

pub returns-in_err-text-clause-fault : goal.returns-in_err-text-clause-fault
returns-in_err-text-clause-fault c =
    let p = err_from_is_err_and c.from_residual.result c.from_residual.ensures.1 in
    rw (p.1, p.2) (λ memory.
    let more : ℕ = c.args.size - c.loop-taken.taken - 1 in
    let e : c.loop-taken.taken + suc more ≡ c.args.size = omega (arith, c.loop-taken-test.true) in
    let lengths = integers_from c.args.version Unsigned c.args.lengths.now in
    groups_all DictionaryData lengths c.args.size c.args.bytes.now c.args.column c.in_err-text.field-0.0
    (subst (λ k. StringsFail DictionaryData lengths false k c.args.bytes.now c.args.column c.in_err-text.field-0.0) e (c.loop-taken.invariant.2 false (suc more) c.in_err-text.field-0.0 (c.in_err-text.ensures.fault memory more))))

pub returns-then-not-strings_end-clause-fault : goal.returns-then-not-strings_end-clause-fault
returns-then-not-strings_end-clause-fault c =
    λ memory.
    let e : c.loop-taken.taken + 0 ≡ c.args.size = omega (arith, c.loop-taken-test.false, c.loop-taken.auto.taken-end) in
    subst (λ k. StringsFail DictionaryData (integers_from c.args.version Unsigned c.args.lengths.now) true k c.args.bytes.now c.args.column c.strings_left.result) e (c.loop-taken.invariant.2 true 0 c.strings_left.result c.strings_left.ensures)
