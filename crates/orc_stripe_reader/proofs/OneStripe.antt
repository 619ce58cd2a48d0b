-- Bytes are one stripe at most.
use Rattle.std.proofs.Common.{◌≡◌, ◌∙◌, ℕ, List, sym, subst}
use Rattle.orc_values.specs.Cells.{Cell}
use Rattle.orc_values.specs.Shapes.{Shape}
use Rattle.orc_wire.specs.declared.stripe_info.StripeInfo.{StripeInfo}
use Rattle.orc_wire.specs.declared.stripe_footer.StripeFooter.{StripeFooter}
use Rattle.orc_wire.specs.Messages.{stripe_footer}
use Rattle.orc_wire.specs.laws.SpellsLaws.{one_spelled}
use Rattle.orc_stripe_reader.specs.Opening.{stripe_footer_bytes}
use Rattle.orc_column_reader.specs.Stripe.{HasFooter, IsStripe, SpellRows, columns_of}
use Rattle.orc_column_reader.proofs.ByNumber.{from_number}
use Rattle.orc_column_reader.proofs.OneRows.{one_cells}

pub one_footer : (s : Shape) (info : StripeInfo) (bytes : List ℕ) (a b : StripeFooter) → HasFooter s info bytes a → HasFooter s info bytes b → a ≡ b
one_footer s info bytes a b p q = one_spelled stripe_footer 0 0 (stripe_footer_bytes info bytes) a b p.read q.read

-- the rows by a footer that is known
pub by_footer : (s : Shape) (info : StripeInfo) (bytes : List ℕ) (footer : StripeFooter) (rows : List Cell) → HasFooter s info bytes footer → IsStripe s info bytes rows
    → SpellRows s (columns_of footer bytes) info.number_of_rows rows
by_footer s info bytes footer rows p q =
    subst (λ (f : StripeFooter). SpellRows s (columns_of f bytes) info.number_of_rows rows) (one_footer s info bytes q.footer footer q.has_footer p) q.spelled

pub one_stripe : (s : Shape) (info : StripeInfo) (bytes : List ℕ) (a b : List Cell) → IsStripe s info bytes a → IsStripe s info bytes b → a ≡ b
one_stripe s info bytes a b p q =
    let x = columns_of p.footer bytes in
    let r = by_footer s info bytes p.footer b p.has_footer q in
    one_cells s x a b (from_number s x info.number_of_rows a p.spelled) (from_number s x info.number_of_rows b r) (p.spelled.counted ∙ sym r.counted)
