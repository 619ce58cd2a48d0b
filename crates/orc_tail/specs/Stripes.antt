-- The places of stripes in a file, and the limits on them (ORC specification, "Stripes"; the limits are this
-- project's).
use Rattle.std.specs.Prelude.{◌≡◌, ℕ, ◌+◌, ◌^◌, ◌≤◌, List, [], ◌∷◌, get_or}
use Rattle.std.specs.List.{AllByRecursion}
use Rattle.orc_wire.specs.declared.stripe_info.StripeInfo.{StripeInfo}
use Rattle.orc_values.specs.Limits.{most_cells}
use Rattle.orc_tail.specs.Tests.{Test, check, gives}
use Rattle.orc_tail.specs.declared.fault.FileFault.TheVariants.{BadStripe, Limit}
use Rattle.orc_io.specs.Devices.{bytes_at}

-- the number of bytes of a stripe: of its index, its data and its footer together
abbrev pub stripe_length : StripeInfo → ℕ
stripe_length s = s.index_length + s.data_length + s.footer_length

-- the stripe with number n; one of zeros if there is none
abbrev pub stripe_at : List StripeInfo → ℕ → StripeInfo
stripe_at ss n =
    get_or ss n (record { offset = 0; index_length = 0; data_length = 0; footer_length = 0; number_of_rows = 0 })

-- the number of bytes of all stripes together
abbrev pub stripes_length : List StripeInfo → ℕ
stripes_length [] = 0
stripes_length (s ∷ ss) = stripe_length s + stripes_length ss

-- the number of rows of all stripes together
abbrev pub stripes_rows : List StripeInfo → ℕ
stripes_rows [] = 0
stripes_rows (s ∷ ss) = s.number_of_rows + stripes_rows ss

-- where a stripe ends
abbrev pub stripe_end : StripeInfo → ℕ
stripe_end s = s.offset + stripe_length s

-- the greatest number of stripes of a file
abbrev pub most_stripes : ℕ
most_stripes = 65536

-- the greatest number of rows of a stripe
abbrev pub most_stripe_rows : ℕ
most_stripe_rows = most_cells

-- the greatest number of rows of a file
abbrev pub most_rows : ℕ
most_rows = 2 ^ 40

-- the greatest number of bytes of all stripes of a file together
abbrev pub most_bytes : ℕ
most_bytes = 2 ^ 40

-- The first stripe begins at `from` or later, and each next stripe at the end of the one before it or later. Each
-- stripe ends at `before` or earlier, and has no more rows than a stripe may have. The first stripe here has number n.
abbrev pub stripe_tests : ℕ → ℕ → ℕ → List StripeInfo → Test (Unit {0})
stripe_tests n from before [] = gives tt
stripe_tests n from before (s ∷ ss) =
    check ((from ≤ s.offset) × (stripe_end s ≤ before)) (BadStripe n)
    (check (s.number_of_rows ≤ most_stripe_rows) Limit
    (stripe_tests (n + 1) (stripe_end s) before ss))

-- the stripes lie one after the other from a place on, without gaps
abbrev pub IsLaid : ℕ → List StripeInfo → Type 0
IsLaid place [] = Unit {0}
IsLaid place (s ∷ ss) = (s.offset ≡ place) × IsLaid (stripe_end s) ss

-- each stripe ends at the place or before it
abbrev pub AllBefore : ℕ → List StripeInfo → Type 0
AllBefore place ss = AllByRecursion (λ s. stripe_end s ≤ place) ss

-- a stripe's bytes, within those of its file
abbrev pub stripe_bytes : StripeInfo → List ℕ → List ℕ
stripe_bytes info bytes = bytes_at info.offset (stripe_length info) bytes
