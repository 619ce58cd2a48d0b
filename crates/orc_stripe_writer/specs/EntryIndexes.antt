-- The places of the entries of a dictionary (ORC specification, "String, Char, and VarChar Columns").
use Rattle.std.specs.Prelude.{◌≡◌, ℕ, Bool, nat_eq, Option, Some, List, slice_get, IsSome, IfSome}
use Rattle.std.specs.Cmp.Lexicographic.{pointwise}
use Rattle.std.specs.List.{Contains}
use Rattle.orc_stripe_writer.specs.declared.byte_string.ByteString.{ByteString}

-- whether two texts have the same bytes
abbrev pub same_bytes : ByteString → ByteString → Bool
same_bytes x y = pointwise nat_eq x.0.now y.0.now

-- each entry has a known place, and each place that is known of a text is that of an entry with its bytes
pub record AreEntryPlaces (told : ByteString → Option ℕ) (entries : List (List ℕ)) : Type 0 where
  pub known : (text : ByteString) → Contains entries text.0.now → IsSome (told text)
  pub named : (text : ByteString) → IfSome (told text) (λ place. slice_get entries place ≡ Some text.0.now)
