-- The positions of a column, cut into those of its streams.
use Rattle.std.specs.Prelude.{MatchBool}
use Rattle.std.proofs.Common.{◌≡◌, ℕ, ◌≤◌, Bool, true, false, Option, Some, None, List, [], ◌∷◌, ◌++◌, length, take, drop, get_or, refl, sym, ap, ◌∙◌, subst, arith}
use Rattle.std.proofs.lemmas.List.{take-append-drop}
use Rattle.orc_values.specs.Cells.{Cell, values}
use Rattle.orc_row_index.specs.Positions.{IsPosition, ArePositions, ValuePositions, reader, position_size}
use Rattle.orc_row_groups.specs.Counts.{octets}
use Rattle.orc_row_index.specs.RunStreams.{RunStream}
use Rattle.orc_row_index.specs.Walking.{HasPosition, HasOctets}
use Rattle.orc_row_index_check.specs.Tables.{IsTable, TablePosition}
use Rattle.orc_row_index_check.specs.declared.stream_table.StreamTable.{StreamTable}
use Rattle.orc_row_index_check.proofs.TableLemmas.{match_by, place_named, place_found, place_decided}
use Rattle.orc_row_index.proofs.PositionParts.{places_front, places_back}

-- both parts are the whole
pub places_whole : (present : RunStream) (content : Option (List ℕ)) (own : RunStream) (before : List Cell) (ps : List ℕ) (size : ℕ) → IsPosition reader present (length before) (take size ps)
    → ValuePositions content own before (drop size ps) → ArePositions reader present content own before ps
places_whole present content own before ps size first rest = record {
  first = take size ps;
  last = rest.0;
  parts = sym (take-append-drop size ps) ∙ ap (λ (t : List ℕ). take size ps ++ t) rest.1;
  present_position = first;
  value_position = rest.2;
}

pub places_decided : (present : RunStream) (content : Option (List ℕ)) (own : RunStream) (before : List Cell) (ps : List ℕ) (size : ℕ) (b : Bool) → size ≡ position_size present
    → IsPosition reader present (length before) (take size ps)
    → MatchBool b (ValuePositions content own before (drop size ps)) (ValuePositions content own before (drop size ps) → ⊥)
    → MatchBool b (ArePositions reader present content own before ps) (ArePositions reader present content own before ps → ⊥)
places_decided present content own before ps size true e first h = places_whole present content own before ps size first h
places_decided present content own before ps size false e first h = λ k. h (places_back present content own before ps size e k)

pub front_found : (present : RunStream) (content : Option (List ℕ)) (own : RunStream) (before : List Cell) (ps first : List ℕ) (size n : ℕ) (t : StreamTable) → size ≡ position_size present → IsTable present t → n ≡ length before
    → first ≡ take size ps → ArePositions reader present content own before ps → TablePosition t n first
front_found present content own before ps first size n t e is en ef h =
    subst (λ (k : ℕ). TablePosition t k first) (sym en)
    (subst (λ (f : List ℕ). TablePosition t (length before) f) (sym ef) (place_found present t (length before) (take size ps) is (places_front present content own before ps size e h)))

pub front_named : (present : RunStream) (before : List Cell) (ps first : List ℕ) (size n : ℕ) (t : StreamTable) → IsTable present t → HasPosition present (length before) → n ≡ length before → first ≡ take size ps
    → TablePosition t n first → IsPosition reader present (length before) (take size ps)
front_named present before ps first size n t is has en ef h =
    place_named present t (length before) (take size ps) is has (subst (λ (f : List ℕ). TablePosition t (length before) f) ef (subst (λ (k : ℕ). TablePosition t k first) en h))

-- ---- positions behind those of PRESENT

own_named : (own : RunStream) (t : StreamTable) (before : List Cell) (n : ℕ) (ps : List ℕ) (b : Bool) → IsTable own t → HasPosition own (length (values before)) → n ≡ length (values before) → MatchBool b (TablePosition t n ps) (TablePosition t n ps → ⊥)
    → MatchBool b (IsPosition reader own (length (values before)) ps) (IsPosition reader own (length (values before)) ps → ⊥)
own_named own t before n ps b is has en h =
    place_decided own t (length (values before)) ps b is has (subst (λ (k : ℕ). MatchBool b (TablePosition t k ps) (TablePosition t k ps → ⊥)) en h)

-- without bytes as they are
pub own_alone : (content : Option (List ℕ)) (own : RunStream) (t : StreamTable) (before : List Cell) (n : ℕ) (ps : List ℕ) (b : Bool) → content ≡ None → IsTable own t → HasPosition own (length (values before))
    → n ≡ length (values before) → MatchBool b (TablePosition t n ps) (TablePosition t n ps → ⊥) → MatchBool b (ValuePositions content own before ps) (ValuePositions content own before ps → ⊥)
own_alone content own t before n ps b e is has en h =
    subst (λ (k : Option (List ℕ)). MatchBool b (ValuePositions k own before ps) (ValuePositions k own before ps → ⊥)) (sym e)
    (match_by {P = IsPosition reader own (length (values before)) ps} {Q = ValuePositions None own before ps} b (λ k. (ps, refl, k))
    (λ q. subst (λ (k : List ℕ). IsPosition reader own (length (values before)) k) (sym q.1) q.2) (own_named own t before n ps b is has en h))

pub octets_there : (content : Option (List ℕ)) (bytes : List ℕ) (n : ℕ) → content ≡ Some bytes → HasOctets content n → n ≤ length bytes
octets_there content bytes n e h = subst (λ (k : Option (List ℕ)). HasOctets k n) e h

with_octets : (bytes : List ℕ) (own : RunStream) (t : StreamTable) (before : List Cell) (n : ℕ) (ps : List ℕ) (b : Bool) → IsTable own t → HasPosition own (length (values before)) → n ≡ length (values before) → 1 ≤ length ps
    → get_or ps 0 0 ≡ octets before → MatchBool b (TablePosition t n (drop 1 ps)) (TablePosition t n (drop 1 ps) → ⊥) → MatchBool b (ValuePositions (Some bytes) own before ps) (ValuePositions (Some bytes) own before ps → ⊥)
with_octets bytes own t before n [] b is has en some first h = absurd (omega (arith, some))
with_octets bytes own t before n (p ∷ ps) b is has en some first h =
    match_by {P = IsPosition reader own (length (values before)) ps} {Q = ValuePositions (Some bytes) own before (p ∷ ps)} b (λ k. (ps, ap (λ (i : ℕ). i ∷ ps) first, k))
    (λ q. subst (λ (k : List ℕ). IsPosition reader own (length (values before)) k) (sym (ap (drop 1) q.1)) q.2) (own_named own t before n ps b is has en h)

-- the number in front is how many come before
pub own_first : (content : Option (List ℕ)) (bytes : List ℕ) (own : RunStream) (before : List Cell) (ps : List ℕ) → content ≡ Some bytes → ValuePositions content own before ps → get_or ps 0 0 ≡ octets before
own_first content bytes own before ps e h =
    let k = subst (λ (o : Option (List ℕ)). ValuePositions o own before ps) e h in
    ap (λ (t : List ℕ). get_or t 0 0) k.1

-- with them
pub own_behind : (content : Option (List ℕ)) (bytes : List ℕ) (own : RunStream) (t : StreamTable) (before : List Cell) (n : ℕ) (ps last : List ℕ) (b : Bool) → content ≡ Some bytes → IsTable own t → HasPosition own (length (values before)) → n ≡ length (values before) → 1 ≤ length ps
    → get_or ps 0 0 ≡ octets before → last ≡ drop 1 ps → MatchBool b (TablePosition t n last) (TablePosition t n last → ⊥) → MatchBool b (ValuePositions content own before ps) (ValuePositions content own before ps → ⊥)
own_behind content bytes own t before n ps last b e is has en some first el h =
    subst (λ (k : Option (List ℕ)). MatchBool b (ValuePositions k own before ps) (ValuePositions k own before ps → ⊥)) (sym e)
    (with_octets bytes own t before n ps b is has en some first
    (subst (λ (k : List ℕ). MatchBool b (TablePosition t n k) (TablePosition t n k → ⊥)) el h))
