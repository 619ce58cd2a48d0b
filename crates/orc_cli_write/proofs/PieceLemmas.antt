-- Pieces of a line, one behind the other, and the line that they make.
use Rattle.std.specs.Prelude.{◌≡◌, ℕ, Bool, true, false, not, List, [], ◌∷◌, ◌++◌, length, Option, Some, None, ◌==◌}
use Rattle.std.proofs.Common.{refl, sym, ap, ◌∙◌, subst, inl, inr, arith, append_assoc, append-nil}
use Rattle.std.specs.Option.{IfSome}
use Rattle.std.proofs.lemmas.Bool.{eqb-true}
use Rattle.orc_cli_write.specs.Lines.{IsLine}
use Rattle.orc_cli_write.specs.Reads.{HasRead}
use Rattle.orc_cli_write.specs.Pieces.{BeginsLine, TakesPiece}
use Rattle.orc_cli_write.specs.declared.std_lines.Piece.{Piece}
use Rattle.orc_cli_write.specs.declared.std_lines.Piece.TheVariants.{Ended, Open, Nothing}

both_plain : (before piece : List ℕ) → IsLine before → IsLine piece → IsLine (before ++ piece)
both_plain [] piece p q = q
both_plain (b ∷ bs) piece p q = (p.0, both_plain bs piece p.1 q)

taken_of : (how : Piece) (mid left : Option (List ℕ)) (piece rest : List ℕ) → mid ≡ Some rest → IfSome mid (λ bytes. TakesPiece how bytes piece left) → TakesPiece how rest piece left
taken_of how mid left piece rest e h = subst (λ (o : Option (List ℕ)). IfSome o (λ bytes. TakesPiece how bytes piece left)) e h

-- a piece more, behind which the line may go on
pub goes_on : (told mid left : Option (List ℕ)) (before piece line : List ℕ) → IfSome told (λ bytes. BeginsLine bytes before mid) → line ≡ before ++ piece
    → IfSome mid (λ bytes. TakesPiece Open bytes piece left) → IfSome told (λ bytes. BeginsLine bytes line left)
goes_on None mid left before piece line p e q = tt
goes_on (Some bytes) mid left before piece line p e q =
    let t = taken_of Open mid left piece p.0 p.1 q in
    let joined : bytes ≡ (before ++ piece) ++ t.0 = p.3 ∙ (ap (λ (l : List ℕ). before ++ l) t.3 ∙ sym (append_assoc before piece t.0)) in
    subst (λ (l : List ℕ). BeginsLine bytes l left) (sym e) (t.0, t.1, both_plain before piece p.2 t.2, joined)

-- the last piece, with the line's end
pub ends : (told mid left : Option (List ℕ)) (before piece line : List ℕ) → IfSome told (λ bytes. BeginsLine bytes before mid) → line ≡ before ++ piece
    → IfSome mid (λ bytes. TakesPiece Ended bytes piece left) → IfSome told (λ bytes. HasRead true bytes line left)
ends None mid left before piece line p e q = tt
ends (Some bytes) mid left before piece line p e q =
    let t = taken_of Ended mid left piece p.0 p.1 q in
    let joined : bytes ≡ (before ++ piece) ++ 10 ∷ t.0 = p.3 ∙ (ap (λ (l : List ℕ). before ++ l) t.3 ∙ sym (append_assoc before piece (10 ∷ t.0))) in
    subst (λ (l : List ℕ). HasRead true bytes l left) (sym e) (t.0, t.1, both_plain before piece p.2 t.2, inl joined)

last_line : (line bytes : List ℕ) (left : Option (List ℕ)) (empty : Bool) → bytes ≡ line → IsLine line → left ≡ Some [] → empty ≡ (length line == 0) → HasRead (not empty) bytes line left
last_line [] bytes left true e is l h = e
last_line [] bytes left false e is l h = absurd (cc)
last_line (b ∷ bs) bytes left true e is l h =
    let none : length (b ∷ bs) ≡ 0 = eqb-true (length (b ∷ bs)) 0 (sym h) in
    absurd (omega (arith, none))
last_line (b ∷ bs) bytes left false e is l h = ([], l, is, inr (e, (λ q. cc), refl))

-- no byte is left: what was taken is the last line, or there is none
pub is_last : (told mid left : Option (List ℕ)) (before piece line : List ℕ) (empty : Bool) → IfSome told (λ bytes. BeginsLine bytes before mid) → line ≡ before ++ piece
    → IfSome mid (λ bytes. TakesPiece Nothing bytes piece left) → empty ≡ (length line == 0) → IfSome told (λ bytes. HasRead (not empty) bytes line left)
is_last None mid left before piece line empty p e q h = tt
is_last (Some bytes) mid left before piece line empty p e q h =
    let t = taken_of Nothing mid left piece p.0 p.1 q in
    let same : line ≡ before = e ∙ (ap (λ (l : List ℕ). before ++ l) t.1 ∙ append-nil before) in
    let whole : bytes ≡ line = p.3 ∙ (ap (λ (l : List ℕ). before ++ l) t.0 ∙ (append-nil before ∙ sym same)) in
    last_line line bytes left empty whole (subst (λ (l : List ℕ). IsLine l) (sym same) p.2) t.2 h
