use Rattle.std.proofs.Common.{◌≡◌, ◌≢◌, [], length, true, false, sym, ap, ◌∙◌, arith}
use Rattle.std.proofs.lemmas.Bool.{eq-eqb}
use Rattle.orc_values.specs.Views.{shape}
use Rattle.orc_trees.proofs.WholeTexts.{front_fault, more_text}
use Rattle.orc_trees.proofs.schema_text.whole_tree.Goals as goal

pub returns-else-is_empty-clause-fault : goal.returns-else-is_empty-clause-fault
returns-else-is_empty-clause-fault c =
    let some : c.in-Ok.rest.now ≢ [] = λ e. (let wrong : true ≡ false = sym (eq-eqb (length c.in-Ok.rest.now) 0 (ap length e)) ∙ sym c.is_empty.ensures ∙ c.if-is_empty.false in cc) in
    (omega arith, more_text c.args.text.now 32 (shape c.in-Ok.tree) c.in-Ok.rest.now c.in-Ok.ensures.found some)

pub returns-in-Err-clause-fault : goal.returns-in-Err-clause-fault
returns-in-Err-clause-fault c = front_fault c.args.text.now c.fault_from_front.result c.fault_from_front.ensures
