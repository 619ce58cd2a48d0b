-- Elements that were read, before those that are left.
use Rattle.std.proofs.Common.{◌≡◌, ℕ, ◌-◌, ◌<◌, ◌≤◌, List, [], ◌∷◌, ◌++◌, length, Some, None, refl, sym, ap, ◌∙◌, subst, arith}
use Rattle.json.specs.Token.{Token}
use Rattle.json.specs.Json as json
use Rattle.json.specs.Json.{parse_map, after_end_array}
use Rattle.json.proofs.Grammar.{items_more, items_end}
use Rattle.serde_json.specs.Data.{Data, Items, no_items, item}
use Rattle.serde_json.specs.Read.{of_items}
use Rattle.orc_values.specs.Cells.{Cell, Cells, end, more, Pairs, no_pair, pair, cells_of, pairs_of}
use Rattle.orc_json_rows.specs.JsonRows.{EachSpells, PairSpells, PairsSpell}
use Rattle.orc_json_rows.proofs.JsonFronts.{before, before_pairs, before-push, before-end, before_pairs-push, before_pairs-end}
use Rattle.orc_json_reader.specs.Fronts.{ValueFront, ItemsFront}
use Rattle.orc_json_reader.proofs.FrontLemmas.{item_means}

-- Whatever the elements that are left spell, all of them spell it behind what was read. The number bounds the turns of the grammar.
pub record ItemsGo (X : Type 0) (R : Items → X → Type 0) (depth : ℕ) (start now : List Token) (grown : X → X) : Type 0 where
  pub turns : ℕ
  pub enough : length now ≤ turns
  pub fewer : length now ≤ length start
  pub goes : (js : json.Items) (ds : Items) (x : X) (new : List Token) → json.items (json.value depth) turns now ≡ Some (js, new) → of_items js ≡ Some ds → R ds x
      → ItemsFront (λ all. R all (grown x)) depth start new

items_first : (X : Type 0) (R : Items → X → Type 0) (depth : ℕ) (start : List Token) (g : X → X) → ((x : X) → g x ≡ x) → ItemsGo X R depth start start g
items_first X R depth start g same =
    record {
      turns = length start;
      enough = omega arith;
      fewer = omega arith;
      goes = λ js ds x new read means are. record { text = js; values = ds; read = read; means = means; are = subst (λ (y : X). R ds y) (sym (same x)) are };
    }

items_next : (X : Type 0) (R : Items → X → Type 0) (Is : Data → Type 0) (depth : ℕ) (start now r : List Token) (add g h : X → X) → ((d : Data) (ds : Items) (x : X) → Is d → R ds x → R (item d ds) (add x))
    → ((x : X) → h x ≡ g (add x)) → after_end_array now ≡ None → ValueFront Is depth now r → length r < length now → ItemsGo X R depth start now g → ItemsGo X R depth start r h
items_next X R Is depth start now r add g h one same going f less w =
    let some : 0 < w.turns = omega (arith, w.enough) in
    record {
      turns = w.turns - 1;
      enough = omega (arith, w.enough);
      fewer = omega (arith, w.fewer);
      goes = λ js ds x new read means are.
          subst (λ (y : X). ItemsFront (λ all. R all y) depth start new) (sym (same x))
          (w.goes (json.item f.text js) (item f.value ds) (add x) new (items_more (json.value depth) w.turns now r f.text some going f.read ∙ ap (parse_map (json.item f.text)) read)
          (item_means f.text js f.value ds f.means means) (one f.value ds x f.is are));
    }

items_last : (X : Type 0) (R : Items → X → Type 0) (depth : ℕ) (start now r : List Token) (g : X → X) (x : X) → R no_items x → after_end_array now ≡ Some r → ItemsGo X R depth start now g
    → ItemsFront (λ all. R all (g x)) depth start r
items_last X R depth start now r g x none e w = w.goes json.no_items no_items x r (items_end (json.value depth) w.turns now r w.enough e) refl none

-- ---- elements

abbrev pub ElementsGo : (Data → Cell → Type 0) → ℕ → List Token → List Token → List Cell → Type 0
ElementsGo Is depth start now xs = ItemsGo Cells (EachSpells Is) depth start now (before xs)

pub elements_first : (Is : Data → Cell → Type 0) (depth : ℕ) (start : List Token) (xs : List Cell) → xs ≡ [] → ElementsGo Is depth start start xs
elements_first Is depth start xs e = items_first Cells (EachSpells Is) depth start (before xs) (λ x. ap (λ (ys : List Cell). before ys x) e)

pub elements_next : (Is : Data → Cell → Type 0) (depth : ℕ) (start now r : List Token) (xs : List Cell) (c : Cell) → after_end_array now ≡ None → ValueFront (λ d. Is d c) depth now r → length r < length now
    → ElementsGo Is depth start now xs → ElementsGo Is depth start r (xs ++ c ∷ [])
elements_next Is depth start now r xs c going f less w =
    items_next Cells (EachSpells Is) (λ d. Is d c) depth start now r (λ x. more c x) (before xs) (before (xs ++ c ∷ [])) (λ d ds x is are. (is, are)) (λ x. before-push xs c x) going f less w

pub elements_last : (Is : Data → Cell → Type 0) (depth : ℕ) (start now r : List Token) (xs : List Cell) → after_end_array now ≡ Some r → ElementsGo Is depth start now xs
    → ItemsFront (λ ds. EachSpells Is ds (cells_of xs)) depth start r
elements_last Is depth start now r xs e w =
    subst (λ (y : Cells). ItemsFront (λ ds. EachSpells Is ds y) depth start r) (before-end xs) (items_last Cells (EachSpells Is) depth start now r (before xs) end tt e w)

-- ---- pairs

abbrev pub PairsGo : (Data → Cell → Type 0) → (Data → Cell → Type 0) → ℕ → List Token → List Token → List (Cell × Cell) → Type 0
PairsGo K V depth start now ps = ItemsGo Pairs (PairsSpell K V) depth start now (before_pairs ps)

pub pairs_first : (K V : Data → Cell → Type 0) (depth : ℕ) (start : List Token) (ps : List (Cell × Cell)) → ps ≡ [] → PairsGo K V depth start start ps
pairs_first K V depth start ps e = items_first Pairs (PairsSpell K V) depth start (before_pairs ps) (λ x. ap (λ (qs : List (Cell × Cell)). before_pairs qs x) e)

pub pairs_next : (K V : Data → Cell → Type 0) (depth : ℕ) (start now r : List Token) (ps : List (Cell × Cell)) (p : Cell × Cell) → after_end_array now ≡ None
    → ValueFront (λ d. PairSpells K V d p.0 p.1) depth now r → length r < length now → PairsGo K V depth start now ps → PairsGo K V depth start r (ps ++ p ∷ [])
pairs_next K V depth start now r ps p going f less w =
    items_next Pairs (PairsSpell K V) (λ d. PairSpells K V d p.0 p.1) depth start now r (λ x. pair p.0 p.1 x) (before_pairs ps) (before_pairs (ps ++ p ∷ [])) (λ d ds x is are. (is, are))
    (λ x. before_pairs-push ps p x) going f less w

pub pairs_last : (K V : Data → Cell → Type 0) (depth : ℕ) (start now r : List Token) (ps : List (Cell × Cell)) → after_end_array now ≡ Some r → PairsGo K V depth start now ps
    → ItemsFront (λ ds. PairsSpell K V ds (pairs_of ps)) depth start r
pairs_last K V depth start now r ps e w =
    subst (λ (y : Pairs). ItemsFront (λ ds. PairsSpell K V ds y) depth start r) (before_pairs-end ps) (items_last Pairs (PairsSpell K V) depth start now r (before_pairs ps) no_pair tt e w)
