-- A cap on the length of a stripe: its three parts have at most `cap` bytes together. The ORC specification has no such
-- limit: it is this project's, for programs that read files of strangers.
use Rattle.std.specs.Prelude.{◌≡◌, ℕ, ◌+◌, ◌<◌, ◌≤◌, List, [], ◌∷◌, ◌⊎◌}
use Rattle.std.specs.List.{AllByRecursion}
use Rattle.orc_wire.specs.declared.stripe_info.StripeInfo.{StripeInfo}
use Rattle.orc_values.specs.Cells.{Cell}
use Rattle.orc_values.specs.Shapes.{Shape}
use Rattle.orc_column_reader.specs.Stripe.{IsStripe}
use Rattle.orc_tail.specs.Stripes.{stripe_length, stripe_bytes}
use Rattle.orc_file_reader.specs.FileRows.{StripeRefused}
use Rattle.orc_tail.specs.declared.fault.FileFault.{FileFault}
use Rattle.orc_tail.specs.declared.fault.FileFault.TheVariants.{Limit}

-- no stripe is longer than the cap
abbrev pub AllWithin : ℕ → List StripeInfo → Type 0
AllWithin cap infos = AllByRecursion (λ info. stripe_length info ≤ cap) infos

-- the fault of stripe n: `Limit` if it is longer than the cap, else the reason why it has no rows
abbrev pub CappedRefused : ℕ → Shape → List ℕ → ℕ → StripeInfo → FileFault → Type 0
CappedRefused cap s bytes n info fault =
    ((cap < stripe_length info) × (fault ≡ Limit)) ⊎ ((stripe_length info ≤ cap) × StripeRefused s bytes n info fault)

-- The fault of the first stripe that is longer than the cap or has no rows: the stripes before it are no longer than
-- the cap and have rows. The first stripe here has number n.
abbrev pub FirstCapped : ℕ → Shape → List ℕ → ℕ → List StripeInfo → FileFault → Type 0
FirstCapped cap s bytes n [] fault = ⊥
FirstCapped cap s bytes n (info ∷ infos) fault =
    CappedRefused cap s bytes n info fault
    ⊎ ((rows : List Cell) × ((stripe_length info ≤ cap) × IsStripe s info (stripe_bytes info bytes) rows)
    × FirstCapped cap s bytes (n + 1) infos fault)
