-- The positions of a column, cut into those of PRESENT and those behind them.
use Rattle.std.proofs.Common.{◌≡◌, ℕ, ◌+◌, Option, Some, None, List, ◌++◌, length, take, drop, refl, sym, ap, ◌∙◌, subst, arith, length-append}
use Rattle.std.proofs.Math.Seq.{take-append_seam, drop-append_seam}
use Rattle.orc_values.specs.Cells.{Cell, values}
use Rattle.orc_row_index.specs.Positions.{IsPosition, ArePositions, ValuePositions, octets_position, octets_size, reader, position_size}
use Rattle.orc_row_groups.specs.Counts.{octets}
use Rattle.orc_row_index.specs.RunStreams.{RunStream, no_stream, bit_runs, byte_runs, number_runs}

-- a position has so many numbers
pub place_long : (r : RunStream) (n : ℕ) (ps : List ℕ) → IsPosition reader r n ps → length ps ≡ position_size r
place_long no_stream n ps h = ap length h
place_long (bit_runs b) n ps h = ap length h.3
place_long (byte_runs b) n ps h = ap length h.2
place_long (number_runs v sign b) n ps h = ap length h.2

octets_long : (content : Option (List ℕ)) (n : ℕ) → length (octets_position content n) ≡ octets_size content
octets_long None n = refl
octets_long (Some bytes) n = refl

cut_front : (a b : List ℕ) (k : ℕ) → length a ≡ k → take k (a ++ b) ≡ a
cut_front a b k e = ap (λ (n : ℕ). take n (a ++ b)) (sym e) ∙ take-append_seam a b

cut_back : (a b : List ℕ) (k : ℕ) → length a ≡ k → drop k (a ++ b) ≡ b
cut_back a b k e = ap (λ (n : ℕ). drop n (a ++ b)) (sym e) ∙ drop-append_seam a b

first_long : (present : RunStream) (content : Option (List ℕ)) (own : RunStream) (before : List Cell) (ps : List ℕ) (size : ℕ) → size ≡ position_size present → (h : ArePositions reader present content own before ps)
    → length h.first ≡ size
first_long present content own before ps size e h = place_long present (length before) h.first h.present_position ∙ sym e

-- in front stand those of PRESENT
pub front_is : (present : RunStream) (content : Option (List ℕ)) (own : RunStream) (before : List Cell) (ps : List ℕ) (size : ℕ) → size ≡ position_size present → (h : ArePositions reader present content own before ps)
    → h.first ≡ take size ps
front_is present content own before ps size e h =
    sym (ap (take size) h.parts ∙ cut_front h.first (octets_position content (octets before) ++ h.last) size (first_long present content own before ps size e h))

pub places_front : (present : RunStream) (content : Option (List ℕ)) (own : RunStream) (before : List Cell) (ps : List ℕ) (size : ℕ) → size ≡ position_size present → ArePositions reader present content own before ps
    → IsPosition reader present (length before) (take size ps)
places_front present content own before ps size e h =
    subst (λ (t : List ℕ). IsPosition reader present (length before) t) (front_is present content own before ps size e h) h.present_position

-- and behind them the others
pub back_is : (present : RunStream) (content : Option (List ℕ)) (own : RunStream) (before : List Cell) (ps : List ℕ) (size : ℕ) → size ≡ position_size present → (h : ArePositions reader present content own before ps)
    → drop size ps ≡ octets_position content (octets before) ++ h.last
back_is present content own before ps size e h =
    ap (drop size) h.parts ∙ cut_back h.first (octets_position content (octets before) ++ h.last) size (first_long present content own before ps size e h)

pub places_back : (present : RunStream) (content : Option (List ℕ)) (own : RunStream) (before : List Cell) (ps : List ℕ) (size : ℕ) → size ≡ position_size present → ArePositions reader present content own before ps
    → ValuePositions content own before (drop size ps)
places_back present content own before ps size e h = (h.last, back_is present content own before ps size e h, h.value_position)

-- they are as many as the streams' positions have together
pub places_count : (present : RunStream) (content : Option (List ℕ)) (own : RunStream) (before : List Cell) (ps : List ℕ) → ArePositions reader present content own before ps
    → length ps ≡ position_size present + (octets_size content + position_size own)
places_count present content own before ps h =
    let first = place_long present (length before) h.first h.present_position in
    let last = place_long own (length (values before)) h.last h.value_position in
    let middle = octets_long content (octets before) in
    omega (arith, first, last, middle, ap length h.parts, length-append h.first (octets_position content (octets before) ++ h.last), length-append (octets_position content (octets before)) h.last)
