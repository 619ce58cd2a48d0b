use Rattle.std.proofs.Common.{sym, refl, ◌-◌, inl, inr}
use Rattle.std.proofs.lemmas.Result.{err_from_is_err_and}
use Rattle.orc_tail.proofs.EndLemmas.{ends_found, ends_length, ends_fail}
use Rattle.orc_tail.proofs.tail.reading.read_end.Goals as goal

pub returns-in_err-postscript-clause-fault : goal.returns-in_err-postscript-clause-fault
returns-in_err-postscript-clause-fault g c =
    let p = err_from_is_err_and c.from_residual-in_err-postscript.result c.from_residual-in_err-postscript.ensures.1 in
    let told = g.S.Source.told c.args.source.now in
    let size_is = rw (sym c.len-len.ensures) at (g.met.S.Source.told_size c.args.source.now) in
    let last_is = rw c.read_into.ensures.source.told at c.in_ok-read_into-2.ensures.bytes in
    let text_is = rw (c.read_into-2.ensures.source.told, c.read_into.ensures.source.told) at c.in_ok-text.ensures.bytes in
    rw (p.1, p.2) (elim c.in_err-postscript.ensures.fault [
      | inl memory ↦ inl memory
      | inr fails ↦ inr (inr (ends_fail told c.len-len.result c.from-length.result (c.len-len.result - 1 - c.from-length.result) c.read_into.new.into c.read_into-2.new.into c.in_ok-text.text.items
          c.if-len-lt4.false c.if-length-len.false refl c.if-not-is_orc.ensures.yes c.from-length.ensures
          size_is c.in_ok-read_into.ensures.bytes last_is text_is c.in_err-postscript.field-0.0 (rw c.deref.ensures.value at fails)))
    ])

pub returns-clause-found : goal.returns-clause-found
returns-clause-found g c =
    let told = g.S.Source.told c.args.source.now in
    let size_is = rw (sym c.len-len.ensures) at (g.met.S.Source.told_size c.args.source.now) in
    let last_is = rw c.read_into.ensures.source.told at c.in_ok-read_into-2.ensures.bytes in
    let text_is = rw (c.read_into-2.ensures.source.told, c.read_into.ensures.source.told) at c.in_ok-text.ensures.bytes in
    ends_found told c.len-len.result c.from-length.result (c.len-len.result - 1 - c.from-length.result) c.read_into.new.into c.read_into-2.new.into c.in_ok-text.text.items
    c.if-len-lt4.false c.if-length-len.false refl c.if-not-is_orc.ensures.yes c.from-length.ensures
    size_is c.in_ok-read_into.ensures.bytes last_is text_is c.in_ok-postscript.postscript (rw c.deref.ensures.value at c.in_ok-postscript.ensures.found)

pub returns-clause-length : goal.returns-clause-length
returns-clause-length g c =
    let told = g.S.Source.told c.args.source.now in
    let size_is = rw (sym c.len-len.ensures) at (g.met.S.Source.told_size c.args.source.now) in
    let last_is = rw c.read_into.ensures.source.told at c.in_ok-read_into-2.ensures.bytes in
    let text_is = rw (c.read_into-2.ensures.source.told, c.read_into.ensures.source.told) at c.in_ok-text.ensures.bytes in
    ends_length told c.len-len.result c.from-length.result (c.len-len.result - 1 - c.from-length.result) c.read_into.new.into c.read_into-2.new.into c.in_ok-text.text.items
    c.if-len-lt4.false c.if-length-len.false refl c.if-not-is_orc.ensures.yes c.from-length.ensures
    size_is c.in_ok-read_into.ensures.bytes last_is text_is
