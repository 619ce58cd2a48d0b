use Rattle.std.proofs.Common.{◌≡◌, suc, ◌-◌, arith}
use Rattle.std.proofs.lemmas.Result.{err_from_is_err_and}
use Rattle.orc_column_reader.proofs.BitsLemmas.{next_digit, first_digit, no_byte, digit_first, byte_first}
use Rattle.orc_column_reader.proofs.MetLemmas.{bits_byte, bits_digit, bits_now}
use Rattle.orc_column_reader.proofs.bits.Bits.next.Goals as goal

pub returns-in_ok-byte-clause-found : goal.returns-in_ok-byte-clause-found
returns-in_ok-byte-clause-found c =
    first_digit c.args.self.now c.next.new.self c.in_ok-byte.byte c.digit_at.result c.if-self-eq0.true c.in_ok-byte.ensures.found c.digit_at.ensures

pub returns-in_err-byte-clause-none : goal.returns-in_err-byte-clause-none
returns-in_err-byte-clause-none c =
    let p = err_from_is_err_and c.from_residual.result c.from_residual.ensures.1 in
    rw p.1 (no_byte c.args.self.now c.if-self-eq0.true c.in_err-byte.ensures.none)

pub returns-else-self-eq0-clause-found : goal.returns-else-self-eq0-clause-found
returns-else-self-eq0-clause-found c =
    let some : c.args.self.now.left ≡ suc (c.args.self.now.left - 1) = omega (arith, c.if-self-eq0.false) in
    next_digit c.args.self.now (c.args.self.now.left - 1) c.digit_at-else-self-eq0.result some c.digit_at-else-self-eq0.ensures

pub returns-in_ok-byte-clause-first : goal.returns-in_ok-byte-clause-first
returns-in_ok-byte-clause-first c =
    byte_first c.args.self.now c.next.new.self c.in_ok-byte.byte c.digit_at.result c.if-self-eq0.true c.in_ok-byte.ensures.first c.digit_at.ensures

pub returns-else-self-eq0-clause-first : goal.returns-else-self-eq0-clause-first
returns-else-self-eq0-clause-first c =
    let some : c.args.self.now.left ≡ suc (c.args.self.now.left - 1) = omega (arith, c.if-self-eq0.false) in
    digit_first c.args.self.now (c.args.self.now.left - 1) c.digit_at-else-self-eq0.result some c.digit_at-else-self-eq0.ensures

pub returns-in_ok-byte-clause-before : goal.returns-in_ok-byte-clause-before
returns-in_ok-byte-clause-before c =
    λ n f. bits_byte c.args.self.now c.next.new.self c.in_ok-byte.byte n f c.if-self-eq0.true c.in_ok-byte.ensures.before

pub returns-else-self-eq0-clause-before : goal.returns-else-self-eq0-clause-before
returns-else-self-eq0-clause-before c =
    λ n f.
    let some : c.args.self.now.left ≡ suc (c.args.self.now.left - 1) = omega (arith, c.if-self-eq0.false) in
    bits_digit c.args.self.now (c.args.self.now.left - 1) n f some

pub returns-in_err-byte-clause-fault : goal.returns-in_err-byte-clause-fault
returns-in_err-byte-clause-fault c =
    let p = err_from_is_err_and c.from_residual.result c.from_residual.ensures.1 in
    rw (p.1, p.2) (bits_now c.args.self.now c.in_err-byte.field-0.0 c.if-self-eq0.true c.in_err-byte.ensures.fault)
