-- The rows of a stripe from a group on, as a cursor gives them.
use Rattle.std.proofs.Common.{◌≡◌, ℕ, zero, suc, ◌<◌, List, [], ◌∷◌, length, Option, Some, None, sym, subst, arith}
use Rattle.orc_wire.specs.declared.stripe_info.StripeInfo.{StripeInfo}
use Rattle.orc_wire.specs.declared.stripe_footer.StripeFooter.{StripeFooter}
use Rattle.orc_values.specs.Cells.{Cell}
use Rattle.orc_values.specs.Shapes.{Shape}
use Rattle.orc_values.specs.Views.{view}
use Rattle.orc_values.specs.declared.value.Value.{Value}
use Rattle.orc_column_reader.specs.Stripe.{HasFooter, IsStripe}
use Rattle.orc_stripe_reader.specs.Opened.{Opened}
use Rattle.orc_stripe_reader.specs.Cursors.{StandsFor, GivesRow}
use Rattle.orc_stripe_reader.specs.declared.cursor.RowCursor.{RowCursor}
use Rattle.orc_tail.specs.Stripes.{stripe_at, stripe_bytes}
use Rattle.orc_tail.specs.declared.tail.Tail.{Tail}
use Rattle.orc_file_reader.specs.FileRows.{FileIs, AreOfStripes, cut_rows}
use Rattle.orc_check.specs.Findings.{rows_at}
use Rattle.orc_theorems.specs.RowsRead.{rows_read}

-- the first of the rows, and those that come after it
pub first_and_rest : (all : List Cell) (after : RowCursor) (first : Option (Option Value)) (answered : List Cell) → GivesRow all after first
    → ((rest : List Cell) → StandsFor after rest → answered ≡ rest) → rows_read first answered ≡ all
first_and_rest [] after None answered gives says = says [] gives
first_and_rest [] after (Some row) answered gives says = absurd gives
first_and_rest (r ∷ rest) after None answered gives says = absurd gives
first_and_rest (r ∷ rest) after (Some row) answered gives says = λ i. gives.0 i ∷ says rest gives.1 i

-- what is known of the cursor for the rows that come after the first
pub after_first : (all : List Cell) (after : RowCursor) (first : Option (Option Value)) (Q : Type 0) → GivesRow all after first → ((rest : List Cell) → StandsFor after rest → Q) → Q
after_first [] after None Q gives says = says [] gives
after_first [] after (Some row) Q gives says = absurd gives
after_first (r ∷ rest) after None Q gives says = absurd gives
after_first (r ∷ rest) after (Some row) Q gives says = says rest gives.1

-- an opened stripe by its parts
pub same_opened : (view whole : Opened) → view.schema ≡ whole.schema → view.info ≡ whole.info → view.stride ≡ whole.stride → view.bytes ≡ whole.bytes → view.footer ≡ whole.footer
    → whole ≡ view
same_opened view whole schema info stride bytes footer = sym (λ i. record { schema = schema i; info = info i; stride = stride i; bytes = bytes i; footer = footer i })

-- a footer of the same stripe
pub footer_here : (s schema : Shape) (i info : StripeInfo) (b bytes : List ℕ) (footer : StripeFooter) → s ≡ schema → i ≡ info → b ≡ bytes → HasFooter schema info bytes footer
    → HasFooter s i b footer
footer_here s schema i info b bytes footer of_schema of_info of_bytes has =
    subst (λ (x : Shape). HasFooter x i b footer) (sym of_schema) (subst (λ (x : StripeInfo). HasFooter schema x b footer) (sym of_info)
    (subst (λ (x : List ℕ). HasFooter schema info x footer) (sym of_bytes) has))

-- the stripe with a number, of stripes with these rows
nth_stripe : (s : Shape) (bytes : List ℕ) (infos : List StripeInfo) (parts : List (List Cell)) (n : ℕ) → AreOfStripes s bytes infos parts → n < length infos
    → IsStripe s (stripe_at infos n) (stripe_bytes (stripe_at infos n) bytes) (rows_at parts n)
nth_stripe s bytes [] parts n h lt = absurd (omega (arith, lt))
nth_stripe s bytes (i ∷ is) [] n h lt = absurd h
nth_stripe s bytes (i ∷ is) (p ∷ parts) zero h lt = h.0
nth_stripe s bytes (i ∷ is) (p ∷ parts) (suc n) h lt = nth_stripe s bytes is parts n h.1 (omega (arith, lt))

-- what a law says of the rows of each stripe
abbrev pub CutLaw : Type 0
CutLaw = (bytes : List ℕ) (tail : Tail) (rows : List Cell) → FileIs bytes tail rows → AreOfStripes tail.schema bytes tail.stripes (cut_rows tail.stripes rows)

pub stripe_of : CutLaw → (bytes : List ℕ) (tail : Tail) (rows : List Cell) (n : ℕ) → FileIs bytes tail rows → n < length tail.stripes
    → IsStripe tail.schema (stripe_at tail.stripes n) (stripe_bytes (stripe_at tail.stripes n) bytes) (rows_at (cut_rows tail.stripes rows) n)
stripe_of law bytes tail rows n is lt = nth_stripe tail.schema bytes tail.stripes (cut_rows tail.stripes rows) n (law bytes tail rows is) lt
