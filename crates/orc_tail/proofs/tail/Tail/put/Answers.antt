use Rattle.std.proofs.Common.{◌∙◌}
use Rattle.orc_wire.proofs.PutLemmas.{front_same, front_taken}
use Rattle.orc_tail.proofs.tail.Tail.put.Goals as goal

pub returns-in-Err-clause-unchanged : goal.returns-in-Err-clause-unchanged
returns-in-Err-clause-unchanged c =
    let out = c.args.out.now in
    let start = c.put_parts.ensures.front out.items (front_same out.items) in
    c.truncate.ensures.items ∙ front_taken out.items c.put_parts.new.out.items c.len-start.result start (c.len-start.ensures ∙ out.ok.0)
