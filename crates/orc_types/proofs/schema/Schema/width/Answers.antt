use Rattle.std.proofs.Common.{◌≡◌, length, ap, ◌∙◌, arith}
use Rattle.orc_values.specs.Shapes.{width}
use Rattle.orc_values.specs.Views.{shape}
use Rattle.orc_types.proofs.Trees.{length-types}
use Rattle.orc_types.proofs.schema.Schema.width.Goals as goal

pub returns : goal.returns
returns c =
    let len : length c.self.inside.types.items ≡ width (shape c.self.inside.tree) = ap length c.self.invariant.types.listed ∙ length-types (shape c.self.inside.tree) 0 in
    let here : width (shape c.self.inside.tree) ≡ width c.args.self.now = ap width c.self.view_is in
    record {
      same = omega (arith, len, here, c.len.ensures, c.self.inside.types.ok.0);
      most = omega (arith, len, c.len.ensures, c.self.inside.types.ok.0, c.self.invariant.types.schema.count);
    }
