-- A cursor whose rows come as texts (this project's).
use Rattle.std.specs.Prelude.{◌≡◌, ◌+◌, Bool, true, false}
use Rattle.orc_stripe_reader.specs.declared.cursor.RowCursor.{RowCursor}

-- a row was given, and one row fewer is left; or none was given, and as many rows are left as before
abbrev pub CountsDownWhere : RowCursor → RowCursor → Bool → Type 0
CountsDownWhere before after false = after.left ≡ before.left
CountsDownWhere before after true = before.left ≡ after.left + 1
