-- The bytes of a row index's entries, one behind the other.
use Rattle.std.proofs.Common.{◌≡◌, ℕ, ◌<◌, ◌^◌, List, [], ◌∷◌, ◌++◌, length, refl, sym, ap, ◌∙◌, append_assoc}
use Rattle.std.proofs.lemmas.List.{append-nil}
use Rattle.orc_wire.specs.Canonical.{spells_again}
use Rattle.orc_wire.specs.CanonicalMessages.{row_index_text, row_index_complete}
use Rattle.orc_wire.specs.Messages.{row_index}
use Rattle.orc_wire.specs.Spells.{Spells}
use Rattle.orc_wire.specs.declared.row_index.RowIndexEntry.{RowIndexEntry}

-- the text of an index is its entries' texts
pub texts_join : (es fs : List RowIndexEntry) → row_index_text.text (record { entries = es ++ fs }) ≡ row_index_text.text (record { entries = es }) ++ row_index_text.text (record { entries = fs })
texts_join [] fs = refl
texts_join (e ∷ es) fs =
    let first = row_index_text.text (record { entries = e ∷ [] }) in
    let own : row_index_text.text (record { entries = e ∷ es }) ≡ first ++ row_index_text.text (record { entries = es }) = first_text e es in
    first_text e (es ++ fs) ∙ ap (λ (t : List ℕ). first ++ t) (texts_join es fs)
    ∙ sym (append_assoc first (row_index_text.text (record { entries = es })) (row_index_text.text (record { entries = fs })))
    ∙ ap (λ (t : List ℕ). t ++ row_index_text.text (record { entries = fs })) (sym own)
  where
    first_text : (e : RowIndexEntry) (es : List RowIndexEntry) → row_index_text.text (record { entries = e ∷ es }) ≡ row_index_text.text (record { entries = e ∷ [] }) ++ row_index_text.text (record { entries = es })
    first_text e es = ap (λ (t : List ℕ). t ++ row_index_text.text (record { entries = es })) (sym (append-nil _))

pub bounded_join : (es fs : List RowIndexEntry) → row_index_text.bounded (record { entries = es }) → row_index_text.bounded (record { entries = fs }) → row_index_text.bounded (record { entries = es ++ fs })
bounded_join [] fs h k = k
bounded_join (e ∷ es) fs h k = (h.0, bounded_join es fs h.1 k)

-- bytes behind which those of some entries stand
pub record AreAdded (entries : List RowIndexEntry) (old new : List ℕ) : Type 0 where
  pub bounded : row_index_text.bounded (record { entries = entries })
  pub text_is : new ≡ old ++ row_index_text.text (record { entries = entries })

pub none_added : (old : List ℕ) → AreAdded [] old old
none_added old = record { bounded = tt; text_is = sym (append-nil old) }

pub one_added : (entries : List RowIndexEntry) (entry : RowIndexEntry) (old mid new text : List ℕ) → AreAdded entries old mid → row_index_text.bounded (record { entries = entry ∷ [] }) → text ≡ row_index_text.text (record { entries = entry ∷ [] })
    → new ≡ mid ++ text → AreAdded (entries ++ entry ∷ []) old new
one_added entries entry old mid new text h bounded is e = record {
  bounded = bounded_join entries (entry ∷ []) h.bounded bounded;
  text_is =
      e ∙ ap (λ (t : List ℕ). t ++ text) h.text_is ∙ append_assoc old (row_index_text.text (record { entries = entries })) text
      ∙ ap (λ (t : List ℕ). old ++ (row_index_text.text (record { entries = entries }) ++ t)) is
      ∙ ap (λ (t : List ℕ). old ++ t) (sym (texts_join entries (entry ∷ [])));
}

-- the text of an index reads back
pub index_spelled : (entries : List RowIndexEntry) → row_index_text.bounded (record { entries = entries }) → row_index_text.whole (record { entries = entries }) → length (row_index_text.text (record { entries = entries })) < 2 ^ 64
    → Spells row_index 0 0 (row_index_text.text (record { entries = entries })) (record { entries = entries })
index_spelled entries bounded whole fits = spells_again row_index row_index_text 0 0 (record { entries = entries }) bounded whole fits row_index_complete
