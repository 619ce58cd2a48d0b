-- A stripe's bytes, with what is known of them before the rows are read (ORC specification, "Stripes").
use Rattle.std.specs.Prelude.{ℕ, List}
use Rattle.orc_values.specs.Shapes.{Shape}
use Rattle.orc_wire.specs.declared.stripe_info.StripeInfo.{StripeInfo}
use Rattle.orc_wire.specs.declared.stripe_footer.StripeFooter.{StripeFooter}

-- the schema, the stripe's record, the number of rows of a row group, the stripe's bytes, and the footer at their end
pub record Opened : Type 0 where
  pub schema : Shape
  pub info : StripeInfo
  pub stride : ℕ
  pub bytes : List ℕ
  pub footer : StripeFooter
