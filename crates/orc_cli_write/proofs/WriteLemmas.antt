-- Rows of lines, one line at a time.
use Rattle.std.proofs.Common.{◌≡◌, ℕ, Bool, true, false, List, [], ◌∷◌, ◌++◌, length, refl, sym, ap, ◌∙◌, subst, append_assoc, append-nil, arith, ◌⊎◌, inl, inr, Option}
use Rattle.std.specs.Prelude.{◌==◌, ◌≢◌}
use Rattle.std.specs.List.{flat_map}
use Rattle.orc_row_batch.specs.declared.options.Options.{Options}
use Rattle.orc_wire.specs.declared.stripe_info.StripeInfo.{StripeInfo}
use Rattle.orc_values.specs.Shapes.{Shape}
use Rattle.orc_values.specs.Cells.{Cell}
use Rattle.orc_trees.specs.declared.fault.TypeFault.{TypeFault}
use Rattle.orc_trees.specs.declared.fault.TypeFault.TheVariants as types
use Rattle.orc_json_rows.specs.declared.json_fault.JsonFault.{JsonFault}
use Rattle.orc_json_rows.specs.declared.json_fault.JsonFault.TheVariants as json
use Rattle.orc_stats.specs.declared.stat.Stat.{Stat}
use Rattle.orc_file_writer.proofs.Spread.{HasPushed}
use Rattle.orc_file_writer.specs.Writing.{Progress}
use Rattle.orc_tail.specs.declared.fault.FileFault.{FileFault}
use Rattle.orc_tail.specs.declared.fault.FileFault.TheVariants as file
use Rattle.orc_cli_output.specs.declared.fault.CliFault.{CliFault}
use Rattle.orc_cli_output.specs.declared.fault.CliFault.TheVariants.{Types, Json, File}
use Rattle.orc_cli_output.specs.Output.{IsWantOfMemory, IsOutputOrMemory}
use Rattle.orc_cli_write.specs.Writes.{LineSpellsNone, IsOfLine, IsWantOfLines, IsOfWriter, EndsAtLine, StandsOpen, LeavesAtLine}
use Rattle.orc_cli_write.specs.Lines.{IsLine, AreLines, LineSpells, LinesSpell, LineSpellsRows, AreRowsOfLines}

pub spell_more : (s : Shape) (line : List ℕ) (own more : List Cell) (lines : List (List ℕ)) → LinesSpell s (line ∷ []) own → LinesSpell s lines more → LinesSpell s (line ∷ lines) (own ++ more)
spell_more s [] own more lines p q = subst (λ (t : List Cell). LinesSpell s lines (t ++ more)) (sym p) q
spell_more s (b ∷ bs) [] more lines p q = absurd p
spell_more s (b ∷ bs) (row ∷ rest) more lines p q = (p.0, subst (λ (t : List Cell). LinesSpell s lines (t ++ more)) (sym p.1) q)

pub lines_more : (line rest : List ℕ) (ended : List (List ℕ)) (last : List ℕ) → IsLine line → AreLines rest ended last → AreLines (line ++ 10 ∷ rest) (line ∷ ended) last
lines_more line rest ended last is p =
    let others = flat_map (λ (l : List ℕ). l ++ 10 ∷ []) ended in
    record {
      plain = (is, p.plain);
      plain_last = p.plain_last;
      joined = ap (λ (t : List ℕ). line ++ 10 ∷ t) p.joined ∙ sym (append_assoc (line ++ 10 ∷ []) others last ∙ append_assoc line (10 ∷ []) (others ++ last));
    }

-- a line with its end, and the rows of what follows
pub rows_more : (s : Shape) (line rest : List ℕ) (own more : List Cell) → IsLine line → LineSpellsRows s line own → AreRowsOfLines s rest more → AreRowsOfLines s (line ++ 10 ∷ rest) (own ++ more)
rows_more s line rest own more is spells p = record {
  ended = line ∷ p.ended;
  last = p.last;
  lines = lines_more line rest p.ended p.last is p.lines;
  spell = spell_more s line own more (p.ended ++ p.last ∷ []) spells p.spell;
}

no_rows : (s : Shape) (ended : List (List ℕ)) (last : List ℕ) (more : List Cell) → [] ≡ flat_map (λ (l : List ℕ). l ++ 10 ∷ []) ended ++ last → LinesSpell s (ended ++ last ∷ []) more → more ≡ []
no_rows s [] [] more e p = p
no_rows s [] (b ∷ bs) more e p = absurd (cc)
no_rows s ([] ∷ ls) last more e p = absurd (cc)
no_rows s ((x ∷ xs) ∷ ls) last more e p = absurd (cc)

-- a last line without an end
pub rows_last : (s : Shape) (line : List ℕ) (own more : List Cell) → IsLine line → LineSpellsRows s line own → AreRowsOfLines s [] more → AreRowsOfLines s line (own ++ more)
rows_last s line own more is spells p =
    let none = no_rows s p.ended p.last more p.lines.joined p.spell in
    record {
      ended = [];
      last = line;
      lines = record { plain = tt; plain_last = is; joined = refl };
      spell = subst (λ (t : List Cell). LinesSpell s (line ∷ []) t) (sym (ap (λ (t : List Cell). own ++ t) none ∙ append-nil own)) spells;
    }

pub rows_none : (s : Shape) → AreRowsOfLines s [] []
rows_none s = record { ended = []; last = []; lines = record { plain = tt; plain_last = tt; joined = refl }; spell = refl }

-- ---- one line

pub none_spelled : (s : Shape) (line : List ℕ) → length line ≡ 0 → LineSpellsRows s line []
none_spelled s [] e = refl
none_spelled s (b ∷ bs) e = absurd (omega (arith, e))

pub some_spelled : (s : Shape) (line : List ℕ) (row : Cell) → (length line == 0) ≡ false → LineSpells s line row → LineSpellsRows s line (row ∷ [])
some_spelled s [] row e h = absurd (cc)
some_spelled s (b ∷ bs) row e h = (h, refl)

pub some_line : (line : List ℕ) → (length line == 0) ≡ false → line ≡ [] → ⊥
some_line [] e q = cc
some_line (b ∷ bs) e q = cc

pub either : (b : Bool) → (b ≡ true) ⊎ (b ≡ false)
either true = inl refl
either false = inr refl

-- ---- where a line isn't pushed

is_memory : (why : JsonFault) → (why ≡ json.OutOfMemory) ⊎ (why ≢ json.OutOfMemory)
is_memory json.OutOfMemory = inl refl
is_memory json.Syntax = inr (λ q. cc)
is_memory json.WrongShape = inr (λ q. cc)
is_memory json.Range = inr (λ q. cc)
is_memory json.UnknownField = inr (λ q. cc)
is_memory json.DuplicateField = inr (λ q. cc)
is_memory json.BadDate = inr (λ q. cc)
is_memory json.BadHex = inr (λ q. cc)

pub ends_unread : (s : Shape) (line : List ℕ) (why : JsonFault) → (why ≢ json.OutOfMemory → LineSpellsNone s line why) → EndsAtLine s line (Json why) []
ends_unread s line why h = elim (is_memory why) [
  | inl m ↦ inr (inl (refl, inr (inr (inl (ap Json m)))))
  | inr m ↦ inl (refl, (why, refl, h m))
]

pub of_writer : (why : FileFault) → (why ≡ file.Failed → ⊥) → (why ≡ file.RowShape → ⊥)
    → (why ≡ file.Failed) ⊎ ((why ≡ file.RowShape) ⊎ ((why ≡ file.Limit) ⊎ ((why ≡ file.WriteFailed) ⊎ (why ≡ file.OutOfMemory)))) → IsOfWriter (File why)
of_writer why a b (inl e) = absurd (a e)
of_writer why a b (inr (inl e)) = absurd (b e)
of_writer why a b (inr (inr (inl e))) = inl (ap File e)
of_writer why a b (inr (inr (inr (inl e)))) = inr (inl (ap File e))
of_writer why a b (inr (inr (inr (inr e)))) = inr (inr (inl (ap File e)))

pub of_finish : (why : FileFault) → (why ≡ file.Failed → ⊥) → (why ≡ file.Failed) ⊎ ((why ≡ file.Limit) ⊎ ((why ≡ file.WriteFailed) ⊎ (why ≡ file.OutOfMemory))) → IsOfWriter (File why)
of_finish why a (inl e) = absurd (a e)
of_finish why a (inr (inl e)) = inl (ap File e)
of_finish why a (inr (inr (inl e))) = inr (inl (ap File e))
of_finish why a (inr (inr (inr e))) = inr (inr (inl (ap File e)))

pub of_begin : (why : FileFault) → (why ≡ file.WriteFailed) ⊎ (why ≡ file.OutOfMemory) → IsOutputOrMemory (File why)
of_begin why (inl e) = inl (ap File e)
of_begin why (inr e) = inr (inl (ap File e))

pub pushed_no_source : (why : FileFault) → (why ≡ file.Failed) ⊎ ((why ≡ file.RowShape) ⊎ ((why ≡ file.Limit) ⊎ ((why ≡ file.WriteFailed) ⊎ (why ≡ file.OutOfMemory)))) → why ≢ file.SourceFailed
pushed_no_source why (inl e) q = cc
pushed_no_source why (inr (inl e)) q = cc
pushed_no_source why (inr (inr (inl e))) q = cc
pushed_no_source why (inr (inr (inr (inl e)))) q = cc
pushed_no_source why (inr (inr (inr (inr e)))) q = cc

pub finish_no_source : {A : Type 0} (why : FileFault) → (why ≡ file.Failed) ⊎ ((why ≡ file.Limit) ⊎ ((why ≡ file.WriteFailed) ⊎ (why ≡ file.OutOfMemory))) → File why ≡ File file.SourceFailed → A
finish_no_source why (inl e) q = absurd (cc)
finish_no_source why (inr (inl e)) q = absurd (cc)
finish_no_source why (inr (inr (inl e))) q = absurd (cc)
finish_no_source why (inr (inr (inr e))) q = absurd (cc)

pub not_limit : {A : Type 0} (why : FileFault) → (why ≡ file.WriteFailed) ⊎ (why ≡ file.OutOfMemory) → File why ≡ File file.Limit → A
not_limit why (inl e) q = absurd (cc)
not_limit why (inr e) q = absurd (cc)

-- ---- whose want of memory it is

pub types_want : (why : TypeFault) → IsWantOfMemory (Types why) → Types why ≡ Types types.OutOfMemory
types_want why (inl e) = absurd (cc)
types_want why (inr (inl e)) = absurd (cc)
types_want why (inr (inr (inl e))) = absurd (cc)
types_want why (inr (inr (inr e))) = e

pub line_want : (fault : CliFault) → IsOfLine fault → IsWantOfMemory fault → IsWantOfLines fault
line_want fault h (inl e) = inr e
line_want fault h (inr (inl e)) = absurd (subst (λ (f : CliFault). IsOfLine f) e h)
line_want fault h (inr (inr (inl e))) = inl e
line_want fault h (inr (inr (inr e))) = absurd (subst (λ (f : CliFault). IsOfLine f) e h)

-- and no source refuses a line
pub line_no_source : {A : Type 0} (fault : CliFault) → IsOfLine fault → fault ≡ File file.SourceFailed → A
line_no_source fault h q = let other = subst (λ (f : CliFault). IsOfLine f) q h in absurd (other refl)

-- ---- what is out after the refusal of a line

pub stands_open : (options : Options) (s : Shape) (first told : Option (List ℕ)) (written : ℕ) (infos : List StripeInfo) (stats : List (List Stat)) (kept rows : List Cell)
    → HasPushed options s first told written infos stats kept rows → StandsOpen options s first told rows
stands_open options s first told written infos stats kept rows h =
    let p = h.0 in
    record { stripes_written = p.stripes_written; kept = kept; are = p.are; full = p.full; told_is = p.told_is; rows_are = p.rows_are; few = h.1 }

-- what stands behind a writer that has done the same
pub leaves_same : (options other : Options) (s like : Shape) (old mid : Progress) (told : Option (List ℕ)) (fault : CliFault) (own : List Cell) → other ≡ options → like ≡ s → mid ≡ old
    → LeavesAtLine other like mid told fault own → LeavesAtLine options s old told fault own
leaves_same options other s like old mid told fault own e f p h =
    subst (λ (o : Options). LeavesAtLine o s old told fault own) e (subst (λ (t : Shape). LeavesAtLine other t old told fault own) f (subst (λ (q : Progress). LeavesAtLine other like q told fault own) p h))
