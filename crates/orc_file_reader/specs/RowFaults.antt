-- The faults of reading a file's rows if the source hasn't failed, as far as the tail and the cap decide them (this
-- project's).
use Rattle.std.specs.Prelude.{◌≡◌, ◌≢◌, ℕ, ◌<◌, ◌≤◌, List, length}
use Rattle.orc_directory.specs.declared.fault.StripeFault.{StripeFault}
use Rattle.orc_directory.specs.declared.fault.StripeFault.TheVariants as stripe
use Rattle.orc_tail.specs.Stripes.{stripe_length, stripe_at}
use Rattle.orc_file_reader.specs.FileRows.{IsNoStripe}
use Rattle.orc_tail.specs.declared.tail.Tail.{Tail}
use Rattle.orc_tail.specs.declared.fault.FileFault.{FileFault}
use Rattle.orc_tail.specs.declared.fault.FileFault.TheVariants.{Limit, Stripe, OutOfMemory}

-- a stripe that the tail names is longer than the cap
abbrev pub HasLongStripe : ℕ → Tail → Type 0
HasLongStripe cap tail = (n : ℕ) × (n < length tail.stripes) × (cap < stripe_length (stripe_at tail.stripes n))

-- the tail names a stripe with this number, it is no longer than the cap, and some bytes of its length are for this
-- reason not this stripe with any rows
abbrev pub MayBeNoStripe : ℕ → Tail → ℕ → StripeFault → Type 0
MayBeNoStripe cap tail n why =
    (n < length tail.stripes) × (stripe_length (stripe_at tail.stripes n) ≤ cap)
    × ((bytes : List ℕ) × (length bytes ≡ stripe_length (stripe_at tail.stripes n))
    × IsNoStripe tail.schema (stripe_at tail.stripes n) bytes why)

-- a fault with which reading the rows of a file with this tail may end if the source hasn't failed: that of a stripe,
-- or want of memory
abbrev pub IsOfRows : ℕ → Tail → FileFault → Type 0
IsOfRows cap tail Limit = HasLongStripe cap tail
IsOfRows cap tail (Stripe number why) = (why ≢ stripe.OutOfMemory) × MayBeNoStripe cap tail number why
IsOfRows cap tail OutOfMemory = Unit {0}
IsOfRows cap tail _ = ⊥
