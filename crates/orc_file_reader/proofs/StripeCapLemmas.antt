-- Stripes under a cap: none is above it, and the first that is refused.
use Rattle.std.specs.Prelude.{◌≡◌, ℕ, ◌+◌, ◌<◌, ◌≤◌, zero, suc, List, [], ◌∷◌, length}
use Rattle.std.proofs.Common.{sym, subst, inl, inr, arith}
use Rattle.orc_wire.specs.declared.stripe_info.StripeInfo.{StripeInfo}
use Rattle.orc_values.specs.Shapes.{Shape}
use Rattle.orc_tail.specs.Stripes.{stripe_length, stripe_at, stripes_length, most_bytes}
use Rattle.orc_file_reader.specs.FileRows.{FirstRefused}
use Rattle.orc_tail.specs.Caps.{no_cap}
use Rattle.orc_file_reader.specs.StripeCaps.{AllWithin, FirstCapped}
use Rattle.orc_tail.specs.declared.fault.FileFault.{FileFault}

pub within_at : (cap : ℕ) (ss : List StripeInfo) (i : ℕ) → i < length ss → AllWithin cap ss → stripe_length (stripe_at ss i) ≤ cap
within_at cap [] i lt all = omega (arith, lt)
within_at cap (s ∷ ss) zero lt all = all.0
within_at cap (s ∷ ss) (suc i) lt all = within_at cap ss i (omega (arith, lt)) all.1

pub all_within : (ss : List StripeInfo) → stripes_length ss ≤ most_bytes → AllWithin no_cap ss
all_within [] few = tt
all_within (s ∷ ss) few = (omega (arith, few), all_within ss (omega (arith, few)))

-- without a cap none is above it
pub none_above : (cap : ℕ) (ss : List StripeInfo) → cap ≡ no_cap → stripes_length ss ≤ most_bytes → AllWithin cap ss
none_above cap ss none few = subst (λ (n : ℕ). AllWithin n ss) (sym none) (all_within ss few)

pub refused_within : (cap : ℕ) (s : Shape) (bytes : List ℕ) (n : ℕ) (infos : List StripeInfo) (fault : FileFault) → AllWithin cap infos
    → FirstCapped cap s bytes n infos fault → FirstRefused s bytes n infos fault
refused_within cap s bytes n [] fault all h = h
refused_within cap s bytes n (info ∷ infos) fault all (inl (inl above)) = absurd (omega (arith, above.0, all.0))
refused_within cap s bytes n (info ∷ infos) fault all (inl (inr here)) = inl here.1
refused_within cap s bytes n (info ∷ infos) fault all (inr later) = inr (later.0, later.1.1, refused_within cap s bytes (n + 1) infos fault all.1 later.2)

pub capped_within : (cap : ℕ) (s : Shape) (bytes : List ℕ) (n : ℕ) (infos : List StripeInfo) (fault : FileFault) → AllWithin cap infos
    → FirstRefused s bytes n infos fault → FirstCapped cap s bytes n infos fault
capped_within cap s bytes n [] fault all h = h
capped_within cap s bytes n (info ∷ infos) fault all (inl here) = inl (inr (all.0, here))
capped_within cap s bytes n (info ∷ infos) fault all (inr later) = inr (later.0, (all.0, later.1), capped_within cap s bytes (n + 1) infos fault all.1 later.2)
