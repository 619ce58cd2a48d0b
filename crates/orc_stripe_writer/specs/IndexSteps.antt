-- A column's row index, which is added if the stride is above 0 (ORC specification, "Row Group Index").
use Rattle.std.specs.Prelude.{◌≡◌, ℕ, zero, suc, List}
use Rattle.orc_stripe_writer.specs.declared.body.Body.{Body}
use Rattle.orc_stripe_writer.specs.Indexes.{AddsIndex}

-- one more row index is added if the stride is above 0, and nothing else is changed
abbrev pub AddsIndexIf : ℕ → (List ℕ → Type 0) → Body → Body → Type 0
AddsIndexIf zero is_text old new = new ≡ old
AddsIndexIf (suc k) is_text old new = AddsIndex is_text old new
