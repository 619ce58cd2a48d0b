-- A stripe that is read from a group on, by a view of its bytes.
use Rattle.std.proofs.Common.{ℕ, ◌+◌, ◌<◌, inl, inr, List, ◌++◌, length, drop, Option, Some, None, Result, Ok, Err, refl}
use Rattle.std.specs.Option.{IfSome}
use Rattle.std.specs.Prelude.{IfErr, OnOk}
use Rattle.std.specs.Io.KnownBytes.{Appends}
use Rattle.orc_tail.specs.Stripes.{stripe_at, stripe_bytes}
use Rattle.orc_tail.specs.declared.tail.Tail.{Tail}
use Rattle.orc_cli_output.specs.declared.fault.CliFault.{CliFault}
use Rattle.orc_cli_output.proofs.OutputLemmas.{appends_more}
use Rattle.orc_cli_rows.specs.Rows.{AreLinesOfStripes, EndsIn}
use Rattle.orc_cli_rows.specs.FromGroup.{AreLinesFrom, AreLinesFromGroup, EndsAtGroup, EndsFrom}

-- ---- from the group to the end

pub from_both : {A : Type 0} (told : Option (List ℕ)) (tail : Tail) (n group : ℕ) (old mid new : Option (List ℕ)) (r : Result A CliFault) → n < length tail.stripes
    → IfSome told (λ all. (own : List ℕ) × AreLinesFrom tail n (stripe_bytes (stripe_at tail.stripes n) all) group own × Appends old mid own)
    → OnOk r (IfSome told (λ all. (lines : List ℕ) × AreLinesOfStripes tail.schema all (drop (n + 1) tail.stripes) lines × Appends mid new lines))
    → OnOk r (IfSome told (λ all. (lines : List ℕ) × AreLinesFromGroup all tail n group lines × Appends old new lines))
from_both told tail n group old mid new (Err e) lt first later = tt
from_both None tail n group old mid new (Ok a) lt first later = tt
from_both (Some all) tail n group old mid new (Ok a) lt first later = (
  first.0 ++ later.0,
  record { there = lt; first = first.0; rest = later.0; of_group = first.1; of_later = later.1; lines_are = refl },
  appends_more old mid new first.0 later.0 first.2 later.2,
)

pub ends_at_group : (told : Option (List ℕ)) (tail : Tail) (n group : ℕ) (old new : Option (List ℕ)) (fault : CliFault) → n < length tail.stripes
    → IfSome told (λ all. EndsAtGroup all tail n group old new fault) → IfSome told (λ all. EndsFrom all tail n group old new fault)
ends_at_group None tail n group old new fault lt h = tt
ends_at_group (Some all) tail n group old new fault lt h = inr (lt, inl h)

pub ends_later : {A : Type 0} (told : Option (List ℕ)) (tail : Tail) (n group : ℕ) (old mid new : Option (List ℕ)) (r : Result A CliFault) → n < length tail.stripes
    → IfSome told (λ all. (own : List ℕ) × AreLinesFrom tail n (stripe_bytes (stripe_at tail.stripes n) all) group own × Appends old mid own)
    → IfErr r (λ fault. IfSome told (λ all. EndsIn all tail (n + 1) mid new fault)) → IfErr r (λ fault. IfSome told (λ all. EndsFrom all tail n group old new fault))
ends_later told tail n group old mid new (Ok a) lt first h = tt
ends_later None tail n group old mid new (Err e) lt first h = tt
ends_later (Some all) tail n group old mid new (Err e) lt first h = inr (lt, inr (record { own = first.0; of_group = first.1; middle = mid; out = first.2; ends = h }))
