use Rattle.std.proofs.Common.{List, length, sym, ◌∙◌, subst, arith}
use Rattle.orc_json_printer.specs.Texts.{AreWithin}
use Rattle.orc_json_printer.proofs.Prints.{Entry, within_more}
use Rattle.orc_json_printer.proofs.Layouts.{places_next, places_last}
use Rattle.orc_json_printer.proofs.Laying.{place_next, place_last}
use Rattle.orc_json_printer.proofs.layout.places_of.Goals as goal

pub loop-i-preserved : goal.loop-i-preserved
loop-i-preserved c =
    let fs = c.deref-field-items.result.now in
    let i = c.loop-i.i in
    let old = c.loop-i.places.entries in
    let new = c.in_ok-insert.ensures.entries in
    let key = c.in_ok-name.ensures.ok ∙ c.as_str.ensures.value in
    record {
      order = λ cs same. places_next fs cs i c.field-item.result old c.insert.new.self.entries c.in_ok-name.name c.loop-i-test.true same c.field-item.is key new ∙ c.loop-i.invariant.order cs same;
      within = subst (λ (t : List Entry). AreWithin (length fs) t) (sym new) (within_more (length fs) old c.in_ok-name.name i c.loop-i-test.true c.loop-i.invariant.within);
      least = omega (arith, c.loop-i-test.true);
      once = λ differ. place_next fs i c.field-item.result old c.insert.new.self.entries c.in_ok-name.name c.loop-i-test.true c.field-item.is key new differ (c.loop-i.invariant.once differ);
    }

pub returns-clause-order : goal.returns-clause-order
returns-clause-order c =
    places_last c.args.fields.now.items c.deref-field-items.result.now c.loop-i.i c.loop-i.places.entries c.deref-field-items.ensures.value c.loop-i-test.false c.loop-i.invariant.order

pub returns-clause-once : goal.returns-clause-once
returns-clause-once c =
    place_last c.args.fields.now.items c.deref-field-items.result.now c.loop-i.i c.loop-i.places.entries c.deref-field-items.ensures.value (omega (arith, c.loop-i-test.false)) c.loop-i.invariant.within c.loop-i.invariant.once c.loop-i.invariant.least
