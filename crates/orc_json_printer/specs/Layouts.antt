-- The text that a layout prints of a cell.
use Rattle.std.specs.Prelude.{ℕ, List, [], ◌∷◌, ◌++◌, Bool, true, false, map, get_or}
use Rattle.serde_json.specs.Written.{compact_text, comma_if}
use Rattle.orc_values.specs.Cells.{Cell, null, list, struct, pairs, list_of_cells, list_of_pairs}
use Rattle.orc_json_rows.specs.JsonPrinting.{scalar_json}
use Rattle.orc_json_printer.specs.declared.layout.Layout.{Layout, fold-Layout}
use Rattle.orc_json_printer.specs.declared.layout.Member.{Member, fold-Member}
use Rattle.orc_json_printer.specs.declared.layout.PairLayout.{PairLayout, fold-PairLayout}
use Rattle.orc_json_printer.specs.declared.layout.Layout.TheOpen.{Layout-F, Member-F, PairLayout-F}

-- a member: the text before it, its field's place, and the text of each cell
pub record LaidMember : Type 0 where
  pub key : List ℕ
  pub place : ℕ
  pub text : Cell → List ℕ

-- the text of each key of a map, and of each value
pub record PairTexts : Type 0 where
  pub key : Cell → List ℕ
  pub value : Cell → List ℕ

-- the letters of null
abbrev pub null_text : List ℕ
null_text = 110 ∷ 117 ∷ 108 ∷ 108 ∷ []

-- with the closing bracket
abbrev pub elements_text : (Cell → List ℕ) → Bool → List Cell → List ℕ
elements_text f later [] = 93 ∷ []
elements_text f later (c ∷ cs) = comma_if later ++ (f c ++ elements_text f true cs)

-- a key and its value, in brackets
abbrev pub pair_text : PairTexts → Cell × Cell → List ℕ
pair_text t p = 91 ∷ (t.key p.0 ++ 44 ∷ (t.value p.1 ++ 93 ∷ []))

-- with the closing bracket
abbrev pub pairs_text : PairTexts → Bool → List (Cell × Cell) → List ℕ
pairs_text t later [] = 93 ∷ []
pairs_text t later (p ∷ ps) = comma_if later ++ (pair_text t p ++ pairs_text t true ps)

-- each member with the cell at its place, and the closing brace
abbrev pub parts_text : List LaidMember → List Cell → List ℕ
parts_text [] cs = 125 ∷ []
parts_text (p ∷ ps) cs = p.key ++ (p.text (get_or cs p.place null) ++ parts_text ps cs)

-- a list as an array of its elements' texts
abbrev pub list_json_text : (Cell → List ℕ) → Cell → List ℕ
list_json_text f (list cs) = 91 ∷ elements_text f false (list_of_cells cs)
list_json_text f _ = null_text

-- a map as an array of its pairs' texts
abbrev pub map_text : PairTexts → Cell → List ℕ
map_text t (pairs ps) = 91 ∷ pairs_text t false (list_of_pairs ps)
map_text t _ = null_text

-- a struct as an object of its members' texts
abbrev pub struct_text : List LaidMember → Cell → List ℕ
struct_text ps (struct cs) = 123 ∷ parts_text ps (list_of_cells cs)
struct_text ps _ = null_text

-- a single value's text
abbrev pub leaf_text : Cell → List ℕ
leaf_text c = compact_text (scalar_json c)

-- a layout's node as what it prints, once those below it are
abbrev pub layout_step : Layout-F (Cell → List ℕ) LaidMember PairTexts → Cell → List ℕ
layout_step Layout-F.Leaf = leaf_text
layout_step (Layout-F.List f) = list_json_text f.value
layout_step (Layout-F.Map t) = map_text t.value
layout_step (Layout-F.Struct ps xs) = struct_text ps.items

-- a member of a struct as its key's text, its place and what it prints
abbrev pub member_step : Member-F (Cell → List ℕ) LaidMember PairTexts → LaidMember
member_step m = record { key = m.key.items; place = m.place; text = m.layout }

-- what a map's layout prints of a key and of a value
abbrev pub pair_layout_step : PairLayout-F (Cell → List ℕ) LaidMember PairTexts → PairTexts
pair_layout_step p = record { key = p.key; value = p.value }

-- what is printed of a cell
abbrev pub text_by : Layout → Cell → List ℕ
text_by = fold-Layout (Cell → List ℕ) LaidMember PairTexts layout_step member_step pair_layout_step

-- a member of a struct as what it prints
abbrev pub part : Member → LaidMember
part = fold-Member (Cell → List ℕ) LaidMember PairTexts layout_step member_step pair_layout_step

-- the members of a struct as what they print
abbrev pub member_parts : List Member → List LaidMember
member_parts ms = map part ms

-- what is printed of the keys and the values of a map
abbrev pub pair_texts : PairLayout → PairTexts
pair_texts = fold-PairLayout (Cell → List ℕ) LaidMember PairTexts layout_step member_step pair_layout_step
