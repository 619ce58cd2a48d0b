-- Where nothing is left of values that stand for others.
use Rattle.std.proofs.Common.{Bool, true, false, List, [], ◌∷◌}
use Rattle.std.specs.List.{AllZip}
use Rattle.std.specs.Bool.{MatchBool}
use Rattle.orc_column_reader.specs.Spellings.{Standing}

-- ---- the ways of spelling

end_of : {X Y : Type 0} (stands : X → Y → Type 0) (spelled : List X → Type 0) (xs : List X) → AllZip stands xs [] → spelled xs → spelled []
end_of stands spelled [] h r = r
end_of stands spelled (x ∷ xs) h r = absurd h

pub standing_end : {X Y : Type 0} (stands : X → Y → Type 0) (spelled : List X → Type 0) → Standing stands spelled [] → spelled []
standing_end stands spelled h = end_of stands spelled h.0 h.1 h.2

pub standing_ends : {X Y : Type 0} (stands : X → Y → Type 0) (spelled : List X → Type 0) → spelled [] → Standing stands spelled []
standing_ends stands spelled h = ([], tt, h)

-- ---- a test and what it says

pub standing_match : {X Y : Type 0} (b : Bool) (stands : X → Y → Type 0) (spelled : List X → Type 0) → MatchBool b (spelled []) (spelled [] → ⊥) → MatchBool b (Standing stands spelled []) (Standing stands spelled [] → ⊥)
standing_match true stands spelled h = standing_ends stands spelled h
standing_match false stands spelled h = λ k. h (standing_end stands spelled k)
