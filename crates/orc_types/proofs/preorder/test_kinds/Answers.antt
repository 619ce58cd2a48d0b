use Rattle.std.proofs.Common.{refl, sym, ap, ◌∙◌, add-one, inl, inr}
use Rattle.std.specs.Prelude.{is_some}
use Rattle.orc_values.specs.Kinds.{IsKind}
use Rattle.orc_types.proofs.Trees.{known, unknown, node_at, kinds_more}
use Rattle.orc_types.proofs.preorder.test_kinds.Goals as goal
use Rattle.orc_types.proofs.preorder.test_kinds.Goals.{else-t-ne-LIST-via-then-t-ne-LIST+then-t-ne-STRUCT+then-t-ne-MAP+else-is_none, else-t-ne-LIST-via-then-t-ne-LIST+then-t-ne-STRUCT+else-t-ne-MAP, else-t-ne-LIST-via-then-t-ne-LIST+else-t-ne-STRUCT, else-t-ne-LIST-via-else-t-ne-LIST}

pub returns-then-is_none-clause-fault : goal.returns-then-is_none-clause-fault
returns-then-is_none-clause-fault c =
    record {
      place = c.loop-t.t-index;
      type = c.t-item.result;
      stands = node_at c.args.types.now c.loop-t.t-index c.t-item.result c.loop-t-test.true c.t-item.is;
      kind = refl;
      foreign = unknown c.t-item.result.kind (ap is_some (sym c.from_number.ensures) ∙ c.if-is_none.ensures) c.if-t-ne-LIST.true c.if-t-ne-STRUCT.true c.if-t-ne-MAP.true;
    }

pub loop-t-preserved : goal.loop-t-preserved
loop-t-preserved c =
    let k : IsKind c.t-item.result.kind =
    elim c.else-t-ne-LIST.branch [
      | else-t-ne-LIST-via-then-t-ne-LIST+then-t-ne-STRUCT+then-t-ne-MAP+else-is_none w ↦ known c.t-item.result.kind (ap is_some (sym w.from_number.ensures) ∙ w.if-is_none.ensures)
      | else-t-ne-LIST-via-then-t-ne-LIST+else-t-ne-STRUCT w ↦ inr (inr (inl w.if-t-ne-STRUCT.false))
      | else-t-ne-LIST-via-then-t-ne-LIST+then-t-ne-STRUCT+else-t-ne-MAP w ↦ inr (inr (inr w.if-t-ne-MAP.false))
      | else-t-ne-LIST-via-else-t-ne-LIST w ↦ inr (inl w.if-t-ne-LIST.false)
    ] in
    rw add-one (kinds_more c.args.types.now c.loop-t.t-index c.t-item.result c.loop-t-test.true c.t-item.is k c.loop-t.invariant)
