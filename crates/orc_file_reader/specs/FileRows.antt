-- The rows of a file: those of its stripes, one stripe after the other (ORC specification, "File Tail",
-- "Stripes").
use Rattle.std.specs.Prelude.{◌≡◌, ◌≢◌, ℕ, ◌+◌, List, [], ◌∷◌, ◌++◌, take, drop, ◌⊎◌}
use Rattle.std.specs.List.{flat_map}
use Rattle.orc_wire.specs.declared.stripe_info.StripeInfo.{StripeInfo}
use Rattle.orc_wire.specs.declared.stripe_footer.StripeFooter.{StripeFooter}
use Rattle.orc_values.specs.Cells.{Cell}
use Rattle.orc_values.specs.Shapes.{Shape}
use Rattle.orc_column_reader.specs.Stripe.{HasFooter, IsStripe, columns_of}
use Rattle.orc_stripe_reader.specs.Opened.{Opened}
use Rattle.orc_stripe_reader.specs.Opening.{StripeOpenFault}
use Rattle.orc_column_reader.specs.Faults.{RowsFault}
use Rattle.orc_directory.specs.declared.fault.StripeFault.{StripeFault}
use Rattle.orc_directory.specs.declared.fault.StripeFault.TheVariants as stripe
use Rattle.orc_tail.specs.Stripes.{stripe_at, stripe_bytes}
use Rattle.orc_tail.specs.Tails.{IsTail}
use Rattle.orc_tail.specs.declared.tail.Tail.{Tail}
use Rattle.orc_tail.specs.declared.fault.FileFault.{FileFault}
use Rattle.orc_tail.specs.declared.fault.FileFault.TheVariants.{Stripe}

-- stripe n of a file, opened with these bytes and this footer
abbrev pub opened_stripe : Tail → ℕ → List ℕ → StripeFooter → Opened
opened_stripe tail n bytes footer =
    record {
      schema = tail.schema;
      info = stripe_at tail.stripes n;
      stride = tail.stride;
      bytes = bytes;
      footer = footer;
    }

-- each list has the rows of one stripe, in the stripes' order
abbrev pub AreOfStripes : Shape → List ℕ → List StripeInfo → List (List Cell) → Type 0
AreOfStripes s bytes [] [] = Unit {0}
AreOfStripes s bytes [] (rows ∷ parts) = ⊥
AreOfStripes s bytes (info ∷ infos) [] = ⊥
AreOfStripes s bytes (info ∷ infos) (rows ∷ parts) = IsStripe s info (stripe_bytes info bytes) rows
    × AreOfStripes s bytes infos parts

-- lists of rows, one after the other
abbrev pub rows_together : List (List Cell) → List Cell
rows_together parts = flat_map (λ p. p) parts

-- these rows are those of the stripes, joined in order
pub record HasRows (s : Shape) (bytes : List ℕ) (infos : List StripeInfo) (rows : List Cell) : Type 0 where
  pub parts : List (List Cell)
  pub stripes : AreOfStripes s bytes infos parts
  pub rows_are : rows ≡ rows_together parts

-- The bytes have this tail, and these are the rows of the stripes that the tail names.
pub record FileIs (bytes : List ℕ) (tail : Tail) (rows : List Cell) : Type 0 where
  pub tail_is : IsTail bytes tail
  pub has_rows : HasRows tail.schema bytes tail.stripes rows

-- Why bytes are no stripe with any rows: they aren't opened as this stripe, or they have a footer and the columns'
-- streams don't spell as many rows as the stripe's record says.
pub record IsNoStripe (s : Shape) (info : StripeInfo) (bytes : List ℕ) (why : StripeFault) : Type 0 where
  pub none : (rows : List Cell) → IsStripe s info bytes rows → ⊥
  pub reason : StripeOpenFault s info bytes why ⊎ ((footer : StripeFooter) × HasFooter s info bytes footer
      × RowsFault s (columns_of footer bytes) info.number_of_rows why)

-- why stripe n has no rows, as a fault of the file; want of memory is no such reason
abbrev pub StripeRefused : Shape → List ℕ → ℕ → StripeInfo → FileFault → Type 0
StripeRefused s bytes n info fault =
    (why : StripeFault) × (fault ≡ Stripe n why) × (why ≢ stripe.OutOfMemory)
    × IsNoStripe s info (stripe_bytes info bytes) why

-- The fault of the first stripe that has no rows: the stripes before it have rows. The first stripe here has number n.
abbrev pub FirstRefused : Shape → List ℕ → ℕ → List StripeInfo → FileFault → Type 0
FirstRefused s bytes n [] fault = ⊥
FirstRefused s bytes n (info ∷ infos) fault =
    StripeRefused s bytes n info fault
    ⊎ ((rows : List Cell) × IsStripe s info (stripe_bytes info bytes) rows × FirstRefused s bytes (n + 1) infos fault)

-- `after` are the rows `before`, followed by the rows of a stripe
abbrev pub HasMore : Shape → StripeInfo → List ℕ → List Cell → List Cell → Type 0
HasMore s info bytes before after = (rows : List Cell) × IsStripe s info (stripe_bytes info bytes) rows
    × (after ≡ before ++ rows)

-- rows, cut into one part for each stripe by the stripes' numbers of rows
abbrev pub cut_rows : List StripeInfo → List Cell → List (List Cell)
cut_rows [] rows = []
cut_rows (info ∷ infos) rows = take info.number_of_rows rows ∷ cut_rows infos (drop info.number_of_rows rows)
