-- A position that is gone to leaves the values from there on.
use Rattle.std.proofs.Common.{ℕ, ◌≤◌, List, length, drop, sym, subst, arith}
use Rattle.orc_rle.specs.Seeking.{Seeks}
use Rattle.orc_rle.specs.Stream.{IsStream, RunsLeft}
use Rattle.orc_rle.proofs.RunLemmas.{One, Some}
use Rattle.orc_positions.specs.Position.{Begins}
use Rattle.orc_positions.proofs.PositionLemmas.{sought, goes_on, seek_alone, rest_alone, offset_within}
use Rattle.orc_group_reader.specs.Entering.{AgreeFrom}

-- the position lies within both
within : {A : Type 0} (R : List ℕ → List A → Type 0) (bytes other : List ℕ) (offset skip n : ℕ) → Begins R other offset skip n → AgreeFrom offset bytes other → (offset ≤ length bytes) × (offset ≤ length other)
within R bytes other offset skip n b agree = let le = offset_within R other offset skip n b in (omega (arith, le, agree.long), le)

-- where a right position was gone to, the values from there on are left
pub left_there : {A : Type 0} (R : List ℕ → List A → Type 0) → One R → Some R → (bytes other : List ℕ) (all left : List A) (offset skip n at : ℕ) → Begins R other offset skip n → IsStream R other all → AgreeFrom offset bytes other
    → Seeks R bytes offset skip skip at left → RunsLeft R left (drop at bytes) (drop n all)
left_there R one some bytes other all left offset skip n at b stream agree s =
    let le = within R bytes other offset skip n b agree in
    let there = seek_alone R bytes other offset skip skip at left agree.same le.1 s in
    subst (λ (t : List ℕ). RunsLeft R left t (drop n all)) (sym (rest_alone bytes other offset s.len at agree.same s.at_is)) (goes_on R one some other offset skip skip n at left all (omega arith) (omega arith) b stream there)

-- and it can be gone to
pub not_refused : {A : Type 0} (R : List ℕ → List A → Type 0) → One R → Some R → (bytes other : List ℕ) (all : List A) (offset skip n : ℕ) → Begins R other offset skip n → IsStream R other all → AgreeFrom offset bytes other
    → ((at : ℕ) (left : List A) → Seeks R bytes offset skip skip at left → ⊥) → ⊥
not_refused R one some bytes other all offset skip n b stream agree never =
    let le = within R bytes other offset skip n b agree in
    let g = sought R one some other offset skip skip n all (omega arith) (omega arith) b b.there stream in
    never g.at g.left (seek_alone R other bytes offset skip skip g.at g.left (sym agree.same) le.0 g.seeks)
