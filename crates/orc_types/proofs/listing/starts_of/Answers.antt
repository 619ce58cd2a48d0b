use Rattle.std.proofs.Common.{◌+◌, ◌++◌, [], ◌∷◌, drop, suc, sym, ap, ◌∙◌, arith, add-one, append_assoc}
use Rattle.orc_values.specs.Shapes.{starts}
use Rattle.orc_values.specs.Views.{fields}
use Rattle.orc_values.proofs.Listed.{widths_from, starts_from}
use Rattle.orc_types.proofs.listing.starts_of.Goals as goal

pub overflow_cast-next : goal.overflow_cast-next
overflow_cast-next c = omega (arith, c.loop-field.invariant.left, c.requires)

pub width_of-next-requires : goal.width_of-next-requires
width_of-next-requires c =
    let e = widths_from c.args.fields.now c.loop-field.field-index c.field-item.result c.loop-field-test.true c.field-item.is in
    omega (arith, e, c.loop-field.invariant.left, c.requires)

pub overflow_add-next : goal.overflow_add-next
overflow_add-next c =
    let e = widths_from c.args.fields.now c.loop-field.field-index c.field-item.result c.loop-field-test.true c.field-item.is in
    omega (arith, e, c.width_of-next.ensures, c.loop-field.invariant.left, c.requires)

pub loop-field-preserved : goal.loop-field-preserved
loop-field-preserved c =
    let e = widths_from c.args.fields.now c.loop-field.field-index c.field-item.result c.loop-field-test.true c.field-item.is in
    let s = starts_from c.args.fields.now c.loop-field.field-index c.field-item.result c.loop-field.next c.loop-field-test.true c.field-item.is in
    let later = fields (drop (suc c.loop-field.field-index) c.args.fields.now) in
    let next = c.loop-field.next in
    rw add-one record {
      whole = ap (λ x. x ++ starts later (next + c.width_of-next.result)) c.in_ok-push.ensures.items ∙ append_assoc c.loop-field.starts.items (next ∷ []) (starts later (next + c.width_of-next.result))
          ∙ ap (λ w. c.loop-field.starts.items ++ (next ∷ starts later (next + w))) c.width_of-next.ensures ∙ ap (λ x. c.loop-field.starts.items ++ x) (sym s) ∙ c.loop-field.invariant.whole;
      left = omega (arith, e, c.width_of-next.ensures, c.loop-field.invariant.left);
    }
