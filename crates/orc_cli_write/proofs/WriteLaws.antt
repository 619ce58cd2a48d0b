-- Lines that spell rows are refused for what is outside of them.
use Rattle.std.proofs.Common.{◌≡◌, ℕ, List, [], ◌∷◌, ◌++◌, refl, sym, ap, ◌∙◌, subst, append_assoc, inl, inr, Some}
use Rattle.std.specs.List.{flat_map, AllByRecursion}
use Rattle.serde_json.specs.Data.{Data}
use Rattle.serde_json.specs.Read.{read as read_text}
use Rattle.orc_values.specs.Shapes.{Shape}
use Rattle.orc_values.specs.Cells.{Cell}
use Rattle.orc_types.specs.Schemas.{HasText}
use Rattle.orc_json_rows.specs.JsonFaults.{FaultAt, Somewhere}
use Rattle.orc_json_rows.specs.declared.json_fault.JsonFault.{JsonFault}
use Rattle.orc_json_rows.proofs.JsonLaws.{only_memory}
use Rattle.orc_trees.proofs.OneText.{one_whole}
use Rattle.orc_json.specs.RowTexts.{ValueFault}
use Rattle.orc_cli_write.specs.Lines.{IsLine, LineSpells, LinesSpell, AreRowsOfLines}
use Rattle.orc_cli_write.specs.Writes.{LineSpellsNone, IsOfWriter, EndsAtLine, EndsInLines}
use Rattle.orc_cli_output.specs.declared.fault.CliFault.{CliFault}
use Rattle.orc_cli_output.specs.declared.fault.CliFault.TheVariants.{Json}

-- ---- a text has its lines in one way

-- a line holds no end
no_end : (line : List ℕ) (front rest : List ℕ) → IsLine line → line ≡ front ++ 10 ∷ rest → ⊥
no_end [] [] rest is e = cc
no_end [] (x ∷ xs) rest is e = cc
no_end (b ∷ bs) [] rest is e = let h : b ≡ 10 = cc in is.0 h
no_end (b ∷ bs) (x ∷ xs) rest is e = let h : bs ≡ xs ++ 10 ∷ rest = cc in no_end bs xs rest is.1 h

record HaveSame (a b : List ℕ) (x y : List ℕ) : Type 0 where
  front : a ≡ b
  rest : x ≡ y

first_line : (a b x y : List ℕ) → IsLine a → IsLine b → a ++ 10 ∷ x ≡ b ++ 10 ∷ y → HaveSame a b x y
first_line [] [] x y p q e = record { front = refl; rest = cc }
first_line [] (c ∷ cs) x y p q e = let h : c ≡ 10 = cc in absurd (q.0 h)
first_line (c ∷ cs) [] x y p q e = let h : c ≡ 10 = cc in absurd (p.0 h)
first_line (c ∷ cs) (d ∷ ds) x y p q e =
    let h : cs ++ 10 ∷ x ≡ ds ++ 10 ∷ y = cc in
    let k : c ≡ d = cc in
    let t = first_line cs ds x y p.1 q.1 h in
    record { front = ap (λ (l : List ℕ). c ∷ l) t.front ∙ ap (λ (n : ℕ). n ∷ ds) k; rest = t.rest }

-- an ended line first, and what follows
begun : (x : List ℕ) (xs : List (List ℕ)) (last : List ℕ) → flat_map (λ (l : List ℕ). l ++ 10 ∷ []) (x ∷ xs) ++ last ≡ x ++ 10 ∷ (flat_map (λ (l : List ℕ). l ++ 10 ∷ []) xs ++ last)
begun x xs last =
    let others = flat_map (λ (l : List ℕ). l ++ 10 ∷ []) xs in
    append_assoc (x ++ 10 ∷ []) others last ∙ append_assoc x (10 ∷ []) (others ++ last)

same_lines : (a b : List (List ℕ)) (x y : List ℕ) → AllByRecursion IsLine a → AllByRecursion IsLine b → IsLine x → IsLine y
    → flat_map (λ (l : List ℕ). l ++ 10 ∷ []) a ++ x ≡ flat_map (λ (l : List ℕ). l ++ 10 ∷ []) b ++ y → a ++ x ∷ [] ≡ b ++ y ∷ []
same_lines [] [] x y p q u v e = ap (λ (l : List ℕ). l ∷ []) e
same_lines [] (b ∷ bs) x y p q u v e = absurd (no_end x b (flat_map (λ (l : List ℕ). l ++ 10 ∷ []) bs ++ y) u (e ∙ begun b bs y))
same_lines (a ∷ cs) [] x y p q u v e = absurd (no_end y a (flat_map (λ (l : List ℕ). l ++ 10 ∷ []) cs ++ x) v (sym e ∙ begun a cs x))
same_lines (a ∷ cs) (b ∷ bs) x y p q u v e =
    let h = first_line a b (flat_map (λ (l : List ℕ). l ++ 10 ∷ []) cs ++ x) (flat_map (λ (l : List ℕ). l ++ 10 ∷ []) bs ++ y) p.0 q.0 (sym (begun a cs x) ∙ (e ∙ begun b bs y)) in
    let t = same_lines cs bs x y p.1 q.1 u v h.rest in
    ap (λ (l : List ℕ). l ∷ (cs ++ x ∷ [])) h.front ∙ ap (λ (ls : List (List ℕ)). b ∷ ls) t

-- ---- a line among lines that spell rows

record SpellsOne (s : Shape) (line : List ℕ) : Type 0 where
  row : Cell
  spells : LineSpells s line row

spelled_at : (s : Shape) (before : List (List ℕ)) (line : List ℕ) (after : List (List ℕ)) (rows : List Cell) → (line ≡ [] → ⊥) → LinesSpell s (before ++ line ∷ after) rows → SpellsOne s line
spelled_at s [] [] after rows some h = absurd (some refl)
spelled_at s [] (b ∷ bs) after [] some h = absurd h
spelled_at s [] (b ∷ bs) after (row ∷ rows) some h = record { row = row; spells = h.0 }
spelled_at s ([] ∷ ls) line after rows some h = spelled_at s ls line after rows some h
spelled_at s ((b ∷ bs) ∷ ls) line after [] some h = absurd h
spelled_at s ((b ∷ bs) ∷ ls) line after (row ∷ rows) some h = spelled_at s ls line after rows some h.1

value_again : (s : Shape) (line : List ℕ) (why : JsonFault) (row : Cell) (value : Data) → LineSpells s line row → read_text line ≡ Some value → ValueFault s value why → IsOfWriter (Json why)
value_again s line why row value h read (inl twice) = let f = twice.1 in let t = h.distinct in absurd (cc)
value_again s line why row value h read (inr fault) =
    let some = h.read in
    let same : value ≡ h.value = cc in
    let e = only_memory s h.value row why h.spells (λ m. subst (λ (d : Data). Somewhere (FaultAt why) s d) same fault) in
    inr (inr (inr (inr (inl (ap Json e)))))

-- it is refused for want of memory only
read_again : (s : Shape) (line : List ℕ) (why : JsonFault) (row : Cell) → LineSpells s line row → LineSpellsNone s line why → IsOfWriter (Json why)
read_again s line why row h (inl bad) = let none = bad.1 h.utf8 in let some = h.read in absurd (cc)
read_again s line why row h (inr bad) = value_again s line why row bad.0 h bad.2 bad.3

line_outside : (s : Shape) (line : List ℕ) (fault : CliFault) (own : List Cell) (row : Cell) → LineSpells s line row → EndsAtLine s line fault own → IsOfWriter fault
line_outside s line fault own row h (inl bad) = subst (λ (f : CliFault). IsOfWriter f) (sym bad.1.1) (read_again s line bad.1.0 row h bad.1.2)
line_outside s line fault own row h (inr (inl memory)) = inr (inr memory.1)
line_outside s line fault own row h (inr (inr writer)) = writer.1

lines_outside : (s : Shape) (bytes : List ℕ) (fault : CliFault) (own rows : List Cell) → AreRowsOfLines s bytes rows → EndsInLines s bytes fault own → IsOfWriter fault
lines_outside s bytes fault own rows h e =
    let p = e.stops in
    let same = same_lines h.ended p.ended h.last p.last h.lines.plain p.lines.plain h.lines.plain_last p.lines.plain_last (sym h.lines.joined ∙ p.lines.joined) in
    let one = spelled_at s p.before e.line p.after rows p.some (subst (λ (ls : List (List ℕ)). LinesSpell s ls rows) (same ∙ p.lines_are) h.spell) in
    line_outside s e.line fault e.own one.row one.spells e.ends

-- a text tells one schema
pub only_outside : (text bytes : List ℕ) (s t : Shape) (fault : CliFault) (own rows : List Cell) → HasText s text → HasText t text → AreRowsOfLines s bytes rows → EndsInLines t bytes fault own → IsOfWriter fault
only_outside text bytes s t fault own rows h k r e =
    let same : s ≡ t = one_whole s t h.plain k.plain (sym h.spelled ∙ k.spelled) in
    lines_outside t bytes fault own rows (subst (λ (x : Shape). AreRowsOfLines x bytes rows) same r) e
