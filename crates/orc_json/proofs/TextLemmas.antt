-- A text spells one row at most, and none where it is refused.
use Rattle.std.proofs.Common.{◌≡◌, ℕ, List, true, inl, inr, subst}
use Rattle.std.specs.Prelude.{◌≢◌}
use Rattle.serde_json.specs.Data.{Data}
use Rattle.orc_values.specs.Cells.{Cell}
use Rattle.orc_values.specs.Fits.{fits}
use Rattle.orc_json_rows.specs.JsonFaults.{FaultAt, Somewhere}
use Rattle.orc_json_rows.specs.JsonRows.{JsonSpells}
use Rattle.orc_values.specs.Shapes.{Shape}
use Rattle.orc_json_rows.specs.declared.json_fault.JsonFault.{JsonFault}
use Rattle.orc_json_rows.specs.declared.json_fault.JsonFault.TheVariants as fault
use Rattle.orc_json_rows.proofs.JsonLaws.{one_row, row_fits, only_memory}
use Rattle.orc_json.specs.RowTexts.{TextSpells, RowTextFault}

pub one_text_row : (s : Shape) (text : List ℕ) (a b : Cell) → TextSpells s text a → TextSpells s text b → a ≡ b
one_text_row s text a b h g =
    let p = h.read in
    let q = g.read in
    let same : g.value ≡ h.value = cc in
    one_row s h.value a b h.spells (subst (λ (d : Data). JsonSpells s d b) same g.spells)

pub text_fits : (s : Shape) (text : List ℕ) (row : Cell) → TextSpells s text row → fits row s ≡ true
text_fits s text row h = row_fits s h.value row h.spells

stands_there : (s : Shape) (text : List ℕ) (row : Cell) (why : JsonFault) → (h : TextSpells s text row) → RowTextFault s text why → Somewhere (FaultAt why) s h.value
stands_there s text row why h (inl none) = let p = h.read in let q = none.1 h.utf8 in absurd (cc)
stands_there s text row why h (inr (v, utf8, read, inl twice)) = let p = h.distinct in let q = twice.1 in absurd (cc)
stands_there s text row why h (inr (v, utf8, read, inr there)) =
    let p = h.read in
    let same : v ≡ h.value = cc in
    subst (λ (d : Data). Somewhere (FaultAt why) s d) same there

-- a text that spells a row is refused for want of memory alone
pub only_want : (s : Shape) (text : List ℕ) (row : Cell) (why : JsonFault) → TextSpells s text row → (why ≢ fault.OutOfMemory → RowTextFault s text why) → why ≡ fault.OutOfMemory
only_want s text row why h stands = only_memory s h.value row why h.spells (λ m. stands_there s text row why h (stands m))
