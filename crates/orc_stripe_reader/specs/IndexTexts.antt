-- The bytes of the row indexes of all columns, as the directory lists them (ORC specification, "Row Group Index",
-- "Stripe Footer").
use Rattle.std.specs.Prelude.{◌≡◌, ℕ, ◌<◌, if◌then◌else◌, Option, Some, None, List, length, get_or}
use Rattle.std.specs.Option.{option_map}
use Rattle.orc_wire.specs.Messages.{row_index}
use Rattle.orc_wire.specs.Spells.{Spells}
use Rattle.orc_wire.specs.declared.row_index.RowIndexMsg.{RowIndexMsg}
use Rattle.orc_wire.specs.declared.stripe_footer.StreamMsg.{StreamMsg}
use Rattle.orc_wire.specs.StreamKinds.{ROW_INDEX}
use Rattle.orc_directory.specs.Directory.{has_stream, slice}
use Rattle.orc_stripe_reader.specs.declared.view.index_texts.IndexText.{IndexText}

-- the bytes that are kept, if any
abbrev pub kept_index_bytes : IndexText → Option (List ℕ)
kept_index_bytes text = option_map (λ bytes. bytes.now) text.bytes

-- the bytes that are kept for column c, if any
abbrev pub index_at : List IndexText → ℕ → Option (List ℕ)
index_at texts c = kept_index_bytes (get_or texts c (record { bytes = None }))

-- the first value if there is one, else the second
abbrev pub or_else : {X : Type 0} → Option X → Option X → Option X
or_else (Some x) other = Some x
or_else None other = other

-- the bytes of column c's ROW_INDEX, if the directory lists one
abbrev pub listed : ℕ → List StreamMsg → List ℕ → Option (List ℕ)
listed c streams bytes = if has_stream c ROW_INDEX streams then Some (slice c ROW_INDEX streams bytes) else None

-- the bytes are this message
abbrev pub IsIndexText : Option (List ℕ) → RowIndexMsg → Type 0
IsIndexText None message = ⊥
IsIndexText (Some bytes) message = Spells row_index 0 0 bytes message

-- the text of a row index is this message
abbrev pub IsMessage : IndexText → RowIndexMsg → Type 0
IsMessage text message = IsIndexText (kept_index_bytes text) message

-- for each of `columns` columns the bytes that the directory gives
pub record AreIndexTexts (columns : ℕ) (streams : List StreamMsg) (bytes : List ℕ) (texts : List IndexText) : Type 0 where
  pub counted : length texts ≡ columns
  pub are : (c : ℕ) → c < columns → index_at texts c ≡ listed c streams bytes
