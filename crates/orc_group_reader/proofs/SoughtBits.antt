-- A position of booleans that is gone to leaves the booleans from there on.
use Rattle.std.proofs.Common.{◌≡◌, ℕ, zero, suc, ◌-◌, ◌<◌, ◌≤◌, ◌⊎◌, Bool, Some, List, [], ◌∷◌, ◌++◌, length, drop, slice_get, refl, sym, ap, ◌∙◌, subst, arith, inl, inr, length-drop}
use Rattle.orc_bits.specs.Packed.{bits, digits}
use Rattle.orc_rle.specs.BitStream.{IsBitStream}
use Rattle.orc_rle.specs.ByteRun.{IsByteRun}
use Rattle.orc_rle.specs.Stream.{IsStream}
use Rattle.orc_rle.specs.Seeking.{Passes, SeeksBits, bytes_needed}
use Rattle.orc_positions.specs.BitPosition.{BeginsBits}
use Rattle.orc_positions.specs.BitPosition as seek
use Rattle.orc_positions.proofs.BitPositionLemmas.{bits_go_on, bits_sought, bit_seek_alone, bits_alone, held_digits}
use Rattle.orc_positions.proofs.PositionLemmas.{offset_within, rest_alone}
use Rattle.orc_column_reader.specs.Bits.{BitsLeft}
use Rattle.orc_column_reader.specs.declared.bits.Bits.{Bits}
use Rattle.orc_column_reader.specs.declared.bytes.RunLengthBytes.{RunLengthBytes}
use Rattle.orc_column_reader.proofs.BitsLemmas.{no_digit}
use Rattle.orc_group_reader.specs.Entering.{AgreeFrom}
use Rattle.orc_group_reader.specs.ReadersAt.{HoldsFirst}

within : (bytes other : List ℕ) (total offset skip digits n : ℕ) → BeginsBits other total offset skip digits n → AgreeFrom offset bytes other → (offset ≤ length bytes) × (offset ≤ length other)
within bytes other total offset skip digits n b agree = let le = offset_within IsByteRun other offset skip b.whole b.begins in (omega (arith, le, agree.long), le)

-- where a right position was gone to, the booleans from there on are left
pub bits_there : (bytes other : List ℕ) (all : List Bool) (left : List ℕ) (offset skip passed n at : ℕ) → BeginsBits other (length all) offset skip passed n → IsBitStream other all → AgreeFrom offset bytes other
    → SeeksBits bytes offset skip passed at left → seek.BitsPending left (drop at bytes) passed (drop n all)
bits_there bytes other all left offset skip passed n at b stream agree s =
    let le = within bytes other (length all) offset skip passed n b agree in
    let there = bit_seek_alone bytes other offset skip passed at left agree.same le.1 s in
    subst (λ (t : List ℕ). seek.BitsPending left t passed (drop n all)) (sym (rest_alone bytes other offset s.1.len at agree.same s.1.at_is)) (bits_go_on other offset skip passed n at left all b stream there)

-- and it can be gone to
pub bits_not_refused : (bytes other : List ℕ) (all : List Bool) (offset skip passed n : ℕ) → BeginsBits other (length all) offset skip passed n → IsBitStream other all → AgreeFrom offset bytes other
    → ((at : ℕ) (left : List ℕ) → SeeksBits bytes offset skip passed at left → ⊥) → ⊥
bits_not_refused bytes other all offset skip passed n b stream agree never =
    let le = within bytes other (length all) offset skip passed n b agree in
    let g = bits_alone other bytes offset skip passed (drop n all) (sym agree.same) le.0 (bits_sought other offset skip passed n all b stream) in
    never g.at g.left g.seeks

-- ---- a reader that holds the byte in which the position stands

pub held_left : (r : Bits) (left rest : List ℕ) (passed : ℕ) (all : List Bool) → passed ≤ 8 → slice_get left 0 ≡ Some r.held → r.left ≡ 8 - passed → drop r.bytes.used r.bytes.run.values ≡ drop 1 left → drop r.bytes.at r.bytes.bytes.now ≡ rest
    → seek.BitsPending left rest passed all → BitsLeft r all
held_left r [] rest passed all few first many pending here h = absurd cc
held_left r (f ∷ more) rest passed all few first many pending here h =
    let same : f ≡ r.held = cc in
    let behind = h.runs.0 in
    let packed = more ++ behind in
    let whole : h.packed ≡ f ∷ packed = h.runs.1 in
    record {
      packed = packed;
      spelled = (behind, ap (λ (t : List ℕ). t ++ behind) (sym pending), subst (λ (t : List ℕ). IsStream IsByteRun t behind) (sym here) h.runs.2);
      spare = h.spare;
      few = h.few;
      digits_are = (λ i. bits (sym same i) (many i) ++ digits 8 packed) ∙ sym (held_digits f passed packed few) ∙ ap (λ (t : List ℕ). drop passed (digits 8 t)) (sym whole) ∙ h.digits_are;
    }

-- where nothing of a byte is passed, none is held
pub none_left : (r : Bits) (left rest : List ℕ) (all : List Bool) → r.left ≡ 0 → drop r.bytes.used r.bytes.run.values ≡ left → drop r.bytes.at r.bytes.bytes.now ≡ rest → seek.BitsPending left rest 0 all → BitsLeft r all
none_left r left rest all many pending here h = record {
  packed = h.packed;
  spelled = (h.runs.0, h.runs.1 ∙ ap (λ (t : List ℕ). t ++ h.runs.0) (sym pending), subst (λ (t : List ℕ). IsStream IsByteRun t h.runs.0) (sym here) h.runs.2);
  spare = h.spare;
  few = h.few;
  digits_are = no_digit r.held r.left (digits 8 h.packed) many ∙ h.digits_are;
}

-- where some of a byte's digits are passed, the byte is there
pub some_left : (bytes left : List ℕ) (offset skip passed at : ℕ) → left ≡ [] → SeeksBits bytes offset skip passed at left → passed ≡ 0
some_left bytes left offset skip zero at none s = refl
some_left bytes left offset skip (suc passed) at none s = absurd (by_runs s.1.passes)
  where
    by_runs : Passes IsByteRun (drop offset bytes) skip (bytes_needed skip (suc passed)) s.1.len left → ⊥
    by_runs (inl h) = omega (arith, h.0)
    by_runs (inr h) = omega (arith, h.few, h.enough, ap length h.left_is, ap length none, length-drop (skip - length h.before) h.last)

-- ---- what a reader holds of the bytes that are left

pub holds_first : (left : List ℕ) (passed : ℕ) (r : Bits) → 0 < passed → slice_get left 0 ≡ Some r.held → r.left ≡ 8 - passed → drop r.bytes.used r.bytes.run.values ≡ drop 1 left → HoldsFirst left passed r
holds_first left zero r some first many pending = absurd (omega (arith, some))
holds_first [] (suc passed) r some first many pending = absurd cc
holds_first (f ∷ more) (suc passed) r some first many pending = (cc, many, pending)

-- a reader of booleans that was made of a reader of bytes, by what this one was made of
pub made_of : (r : Bits) (after parts : RunLengthBytes) (held left : ℕ) → r ≡ record { bytes = after; held = held; left = left } → after ≡ parts → r ≡ record { bytes = parts; held = held; left = left }
made_of r after parts held left is same = subst (λ (p : RunLengthBytes). r ≡ record { bytes = p; held = held; left = left }) same is

-- where no byte is held, no digit is passed
pub none_passed : (bytes left : List ℕ) (offset skip passed at : ℕ) → (passed ≡ 0) ⊎ (left ≡ []) → SeeksBits bytes offset skip passed at left → passed ≡ 0
none_passed bytes left offset skip passed at (inl h) s = h
none_passed bytes left offset skip passed at (inr h) s = some_left bytes left offset skip passed at h s

pub holds_none : (left : List ℕ) (passed : ℕ) (r : Bits) → passed ≡ 0 → r.left ≡ 0 → drop r.bytes.used r.bytes.run.values ≡ left → HoldsFirst left passed r
holds_none left zero r none many pending = (many, pending)
holds_none left (suc passed) r none many pending = absurd (omega (arith, none))
