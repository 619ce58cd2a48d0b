-- Why bytes aren't opened as a stripe (ORC specification, "Stripe Footer").
use Rattle.std.specs.Prelude.{◌≡◌, ◌≢◌, ℕ, ◌+◌, false, Some, List, length, drop, ◌⊎◌}
use Rattle.orc_values.specs.Shapes.{Shape, width}
use Rattle.orc_wire.specs.Types.{types}
use Rattle.orc_wire.specs.declared.stripe_info.StripeInfo.{StripeInfo}
use Rattle.orc_wire.specs.declared.stripe_footer.StripeFooter.{StripeFooter}
use Rattle.orc_wire.specs.Messages.{stripe_footer}
use Rattle.orc_wire.specs.Spells.{Spells, Faults}
use Rattle.orc_directory.specs.Directory.{is_directory, first_wrong}
use Rattle.orc_directory.specs.declared.fault.StripeFault.{StripeFault}
use Rattle.orc_directory.specs.declared.fault.StripeFault.TheVariants as fault

-- the bytes of a stripe's footer: those after its index and its data
abbrev pub stripe_footer_bytes : StripeInfo → List ℕ → List ℕ
stripe_footer_bytes info bytes = drop (info.index_length + info.data_length) bytes

-- a stripe's bytes have this footer
abbrev pub ReadsFooter : StripeInfo → List ℕ → StripeFooter → Type 0
ReadsFooter info bytes footer = Spells stripe_footer 0 0 (stripe_footer_bytes info bytes) footer

-- there aren't as many bytes as the three lengths say together, or the footer reads and its streams are no valid
-- directory
abbrev pub HasBadDirectory : Shape → StripeInfo → List ℕ → Type 0
HasBadDirectory schema info bytes =
    (length bytes ≢ info.index_length + info.data_length + info.footer_length)
    ⊎ ((footer : StripeFooter)
    × ReadsFooter info bytes footer
    × (is_directory (width schema) (info.index_length + info.data_length) footer.streams ≡ false))

-- why bytes aren't opened as a stripe
abbrev pub StripeOpenFault : Shape → StripeInfo → List ℕ → StripeFault → Type 0
StripeOpenFault schema info bytes fault.BadDirectory = HasBadDirectory schema info bytes
StripeOpenFault schema info bytes (fault.BadEncoding column) =
    (footer : StripeFooter) × ReadsFooter info bytes footer × (first_wrong 0 (types schema 0) footer.columns ≡ Some column)
StripeOpenFault schema info bytes (fault.Wire wire) = Faults stripe_footer 0 0 (stripe_footer_bytes info bytes) wire
StripeOpenFault schema info bytes fault.OutOfMemory = Unit {0}
StripeOpenFault schema info bytes _ = ⊥
