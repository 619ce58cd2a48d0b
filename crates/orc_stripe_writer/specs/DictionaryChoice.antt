-- Whether texts get a dictionary, which their distinct texts decide (ORC specification, "String, Char, and VarChar
-- Columns", which leaves it to the writer).
use Rattle.std.specs.Prelude.{◌≡◌, ℕ, Bool, true, false, List, length}
use Rattle.std.specs.List.{IsDistinct, list_any}
use Rattle.orc_stripe_writer.specs.Dictionary.{AreDistinct, is_worth}

module _ {K : Type 0} (eq : K → K → Bool) where
  -- `few` has each of the items once
  pub record AreEachOnce (items few : List K) : Type 0 where
    pub apart : IsDistinct eq few
    pub same : (q : K) → list_any (eq q) few ≡ list_any (eq q) items

  -- some of the items, all different, are too many for a dictionary
  pub record HasTooMany (items : List K) : Type 0 where
    pub some : List K
    pub apart : IsDistinct eq some
    pub within : (q : K) → list_any (eq q) some ≡ true → list_any (eq q) items ≡ true
    pub many : is_worth (length some) (length items) ≡ false

-- the entries are the texts' distinct ones, and few enough for a dictionary
pub record AreWorthy (texts entries : List (List ℕ)) : Type 0 where
  pub distinct : AreDistinct texts entries
  pub worth : is_worth (length entries) (length texts) ≡ true

-- the texts' distinct ones are too many for a dictionary
pub record HaveManyEntries (texts : List (List ℕ)) : Type 0 where
  pub entries : List (List ℕ)
  pub distinct : AreDistinct texts entries
  pub not_worth : is_worth (length entries) (length texts) ≡ false
