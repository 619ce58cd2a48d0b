use Rattle.std.proofs.Common.{◌≤◌, length, sym, ◌∙◌, arith, append-nil}
use Rattle.std.proofs.lemmas.Result.{err_from_is_err_and}
use Rattle.orc_values.specs.Shapes.{width}
use Rattle.orc_trees.specs.SchemaText.{text}
use Rattle.orc_values.specs.Views.{shape}
use Rattle.orc_trees.specs.declared.fault.TypeFault.TheVariants as fault
use Rattle.orc_trees.proofs.OneText.{one_whole}
use Rattle.orc_types.proofs.TextSchemas.{text_schema, no_text_schema}
use Rattle.orc_trees.proofs.WholeTexts.{front_width}
use Rattle.orc_types.proofs.schema.Schema.parse.Goals as goal

pub returns-in_err-tree-clause-only : goal.returns-in_err-tree-clause-only
returns-in_err-tree-clause-only c =
    let p = err_from_is_err_and c.from_residual.result c.from_residual.ensures.1 in
    rw (p.1, p.2) (λ s h. no_text_schema c.args.text.now s c.in_err-tree.field-0.0 h c.in_err-tree.ensures.fault)

pub width_of-width-requires : goal.width_of-width-requires
width_of-width-requires c =
    let w : width (shape c.in_ok-tree.tree) ≤ length c.args.text.now = front_width c.args.text.now 32 (shape c.in_ok-tree.tree) c.in_ok-tree.ensures.found in
    omega arith

pub returns-then-width-gt-MOST_TYPES-clause-only : goal.returns-then-width-gt-MOST_TYPES-clause-only
returns-then-width-gt-MOST_TYPES-clause-only c =
    λ s h. no_text_schema c.args.text.now s fault.TooMany h record {
      shape = shape c.in_ok-tree.tree;
      plain = c.in_ok-tree.ensures.found.plain;
      spelled = c.in_ok-tree.ensures.found.spelled ∙ append-nil (text (shape c.in_ok-tree.tree));
      wrong = omega (arith, c.width_of-width.ensures, c.if-width-gt-MOST_TYPES.true);
    }

pub from_tree-requires : goal.from_tree-requires
from_tree-requires c =
    (text_schema c.args.text.now (shape c.in_ok-tree.tree) c.in_ok-tree.ensures.found (c.is_struct.ensures.0 c.if-not-is_struct.false) (omega (arith, c.width_of-width.ensures, c.if-width-gt-MOST_TYPES.false))).schema

pub returns-clause-only : goal.returns-clause-only
returns-clause-only c =
    λ s h. c.in_ok-from_tree.ensures
    ∙ one_whole (shape c.in_ok-tree.tree) s c.in_ok-tree.ensures.found.plain h.plain (sym (append-nil (text (shape c.in_ok-tree.tree))) ∙ sym c.in_ok-tree.ensures.found.spelled ∙ h.spelled)
