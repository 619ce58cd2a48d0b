use Rattle.orc_wire.specs.Fields.{sized}
use Rattle.orc_wire.proofs.PutLemmas.{list_next, all_next}
use Rattle.orc_tail.proofs.tail.writing.put_each.Goals as goal

pub loop-message-preserved : goal.loop-message-preserved
loop-message-preserved g c =
    let m = g.M.Message in
    let message = c.message-item.result in
    record {
      front = λ front h. c.put_message.ensures.front front (c.loop-message.invariant.front front h);
      whole = list_next (λ m. sized (g.M.Message.canonical.text m)) c.args.n c.args.messages.now c.loop-message.message-index message c.loop-message.out.items c.put_message.new.out.items _ c.loop-message-test.true c.message-item.is c.in_ok-put_message.ensures.text c.loop-message.invariant.whole;
      bounded = all_next m.canonical.bounded c.args.messages.now c.loop-message.message-index message c.loop-message-test.true c.message-item.is c.in_ok-put_message.ensures.bounded c.loop-message.invariant.bounded;
    }
