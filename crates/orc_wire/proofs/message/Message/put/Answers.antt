use Rattle.std.proofs.Common.{◌∙◌}
use Rattle.orc_wire.specs.Canonical.{spells_again}
use Rattle.orc_wire.proofs.PutLemmas.{text_fits, front_same, front_taken}
use Rattle.orc_wire.proofs.message.Message.put.Goals as goal

pub returns-in-Ok-clause-again : goal.returns-in-Ok-clause-again
returns-in-Ok-clause-again g c = λ whole.
    let m = g.Self.Message in
    let out = c.put_members.new.out in
    let fits = text_fits c.args.out.now.items out.items (m.canonical.text c.args.self.now) out.len out.cap c.in-Ok.ensures.text out.ok.0 out.ok.1 out.small in
    spells_again m.members m.canonical m.REQUIRED 0 c.args.self.now c.in-Ok.ensures.bounded whole fits g.met.Self.Message.complete

pub returns-in-Err-clause-unchanged : goal.returns-in-Err-clause-unchanged
returns-in-Err-clause-unchanged g c =
    let out = c.args.out.now in
    let start = c.put_members.ensures.front out.items (front_same out.items) in
    c.truncate.ensures.items ∙ front_taken out.items c.put_members.new.out.items c.len-start.result start (c.len-start.ensures ∙ out.ok.0)
