-- A predicate of one column keeps what it keeps, whatever the column's number is.
use Rattle.std.proofs.Common.{◌≡◌, refl, ap, ap₂, eq-eqb, ℕ, ◌==◌, Bool, true, false, not, ◌&&◌, ◌||◌, if◌then◌else◌, Option, Some, None}
use Rattle.std.specs.Option.{option_map, option_map_or}
use Rattle.orc_stats.specs.declared.stat.Stat.{Stat}
use Rattle.orc_skipping.specs.Predicates.{Predicate, compare, is_null, negate, both, either}
use Rattle.orc_skipping.specs.Rules.{may_compare, may_be_null, may_be, taken_boldly, bold}
use Rattle.orc_skipping.specs.Tests.{said_of, at_column}

itself : (told : Option Stat) (c : ℕ) → at_column c told c ≡ told
itself told c = rw (eq-eqb c c refl) refl

of_one : (f : ℕ → Option Stat) (told : Option Stat) (c : ℕ) → f c ≡ told → (p : Predicate) (b : Bool)
    → may_be f (said_of c p) b ≡ may_be (λ d. told) p b
of_one f told c e (compare d takes a) b = ap (λ x. option_map_or (may_compare takes a b) x true) e
of_one f told c e (is_null d) b = ap (λ x. option_map_or (may_be_null b) x true) e
of_one f told c e (negate p) b = of_one f told c e p (not b)
of_one f told c e (both p q) true = ap₂ ◌&&◌ (of_one f told c e p true) (of_one f told c e q true)
of_one f told c e (both p q) false = ap₂ ◌||◌ (of_one f told c e p false) (of_one f told c e q false)
of_one f told c e (either p q) true = ap₂ ◌||◌ (of_one f told c e p true) (of_one f told c e q true)
of_one f told c e (either p q) false = ap₂ ◌&&◌ (of_one f told c e p false) (of_one f told c e q false)

pub of_one_column : (c : ℕ) (told : Option Stat) (p : Predicate) → bold (at_column c told) (said_of c p) ≡ bold (λ d. told) p
of_one_column c told p = of_one (λ d. option_map taken_boldly (at_column c told d)) (option_map taken_boldly told) c (ap (option_map taken_boldly) (itself told c)) p true
