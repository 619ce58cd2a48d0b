use Rattle.std.proofs.Common.{arith, length, length-drop, ◌++◌, ◌∙◌}
use Rattle.orc_rle.proofs.SizeLemmas.{answer_len, spells_all, spells_next, spells_on, spells_done}
use Rattle.orc_rle.proofs.values.varints_len.Goals as goal

pub returns-in-Err-clause-only : goal.returns-in-Err-clause-only
returns-in-Err-clause-only c = λ sign vs front rest spelled len parts.
    let h = c.loop.invariant.more sign vs front rest (spells_all sign vs front rest c.args.bytes.now c.args.count spelled len parts) in
    let n = spells_next sign vs front rest c.args.bytes.now c.args.count c.loop.counter c.loop.at h c.loop-test.true in
    let e = c.in-Err.ensures.only n.first (n.later ++ rest) n.number n.varint (c.split_at.ensures.back ∙ n.parts) in
    absurd cc

pub loop-preserved : goal.loop-preserved
loop-preserved c =
    let within = rw c.split_at.ensures.back at c.in-Ok.ensures.within in
    record {
      within = omega (arith, within, c.loop.invariant.within, length-drop c.loop.at c.args.bytes.now);
      more = λ sign vs front rest start.
          let h = c.loop.invariant.more sign vs front rest start in
          let n = spells_next sign vs front rest c.args.bytes.now c.args.count c.loop.counter c.loop.at h c.loop-test.true in
          let e = c.in-Ok.ensures.only n.first (n.later ++ rest) n.number n.varint (c.split_at.ensures.back ∙ n.parts) in
          let len = answer_len c.in-Ok.field-0-0 c.in-Ok.len n.number (length n.first) e in
          spells_on sign vs front rest c.args.bytes.now c.args.count c.loop.counter c.loop.at c.in-Ok.len h n len;
    }

pub returns-clause-only : goal.returns-clause-only
returns-clause-only c = λ sign vs front rest spelled len parts.
    let h = c.loop.invariant.more sign vs front rest (spells_all sign vs front rest c.args.bytes.now c.args.count spelled len parts) in
    spells_done sign vs front rest c.args.bytes.now c.args.count c.loop.counter c.loop.at h c.loop-test.false
