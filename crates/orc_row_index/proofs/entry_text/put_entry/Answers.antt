use Rattle.std.proofs.Common.{◌≡◌, ◌∙◌, ℕ, Some, List, [], ◌∷◌, ◌++◌, Vec, Global, refl, sym, ap, subst}
use Rattle.std.proofs.lemmas.List.{append-nil}
use Rattle.orc_wire.specs.CanonicalMessages.{row_index_text, row_index_entry_text}
use Rattle.orc_wire.specs.CanonicalText.{sized_text}
use Rattle.orc_wire.specs.declared.row_index.RowIndexEntry.{RowIndexEntry}
use Rattle.orc_row_index.specs.Positions.{ArePositions, writer}
use Rattle.orc_row_index.specs.Walking.{runs, lent_bytes}
use Rattle.orc_row_index.proofs.entry_text.put_entry.Goals as goal

pub returns-in-Ok-clause-entry : goal.returns-in-Ok-clause-entry
returns-in-Ok-clause-entry c = λ before counted there.
    let placed = c.args.placed.now in
    let put = c.in_ok-walk.ensures.places before counted there in
    let positions : c.from_vec.result ≡ put.0 = c.from_vec.ensures ∙ ap (λ (v : Vec ℕ Global). v.items) c.replace.ensures.value ∙ put.2 ∙ ap (λ (ps : List ℕ). ps ++ put.0) c.clear.ensures.items in
    let entry : RowIndexEntry = record { positions = c.from_vec.result; statistics = Some c.in_ok-message_of.field-0 } in
    let field = sized_text 1 (row_index_entry_text.text entry) in (
      row_index_text.text (record { entries = entry ∷ [] }),
      record {
        entry = entry;
        positions = subst (λ (ps : List ℕ). ArePositions writer (runs placed.present) (lent_bytes placed.content) (runs placed.own) before ps) (sym positions) put.1;
        statistics = ap Some c.in_ok-message_of.ensures;
        bounded = (c.in-Ok.ensures.bounded, tt);
        text_is = refl;
      },
      c.in-Ok.ensures.text ∙ ap (λ (t : List ℕ). c.args.out.now.items ++ t) (sym (append-nil field)),
    )
