use Rattle.std.proofs.Common.{◌≡◌, suc, ◌++◌, [], ◌∷◌, drop, string_bytes, sym, ap, ◌∙◌, add-one, append_assoc}
use Rattle.orc_values.specs.Shapes.{names_of}
use Rattle.orc_values.specs.Views.{fields}
use Rattle.orc_values.proofs.Listed.{names_from}
use Rattle.orc_types.proofs.listing.names_of.Goals as goal

pub loop-field-preserved : goal.loop-field-preserved
loop-field-preserved c =
    let f = c.field-item.result in
    let so_far = c.loop-field.names.items in
    let later = names_of (fields (drop (suc c.loop-field.field-index) c.args.fields.now)) in
    let name : c.from_vec.result ≡ string_bytes f.name = c.from_vec.ensures ∙ c.in_ok-copy_bytes.ensures ∙ c.as_bytes.ensures.value in
    rw add-one (ap (λ x. x ++ later) c.in_ok-push.ensures.items ∙ append_assoc so_far (c.from_vec.result ∷ []) later ∙ ap (λ n. so_far ++ (n ∷ later)) name
    ∙ ap (λ x. so_far ++ x) (sym (names_from c.args.fields.now c.loop-field.field-index f c.loop-field-test.true c.field-item.is)) ∙ c.loop-field.invariant)
