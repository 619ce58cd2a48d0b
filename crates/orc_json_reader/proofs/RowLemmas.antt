-- The row of a value at the front of tokens, by its type.
use Rattle.std.proofs.Common.{◌≡◌, ℕ, ℤ, ◌-◌, ◌<◌, List, ◌∷◌, map, Option, Some, None, Vec, Box, Global, inr, refl, sym, ap, subst}
use Rattle.json.specs.Token.{Token}
use Rattle.serde_json.specs.Data.{Data, Num, null as nothing, array, no_items, item}
use Rattle.serde_json.specs.Find.{as_integer}
use Rattle.std.specs.Prelude.{option_and_then}
use Rattle.orc_values.specs.Cells.{Cell, cells_of, pairs_of}
use Rattle.orc_json_rows.specs.JsonLeaves.{ScalarSpells}
use Rattle.orc_json_rows.specs.JsonRows.{OrNull, JsonSpells, EachSpells, ArraySpells, PairSpells, PairsSpell, MapSpells, FieldsSpell, ObjectSpells}
use Rattle.orc_values.specs.Shapes.{Fields, names_of}
use Rattle.orc_values.specs.Views.{view, views, paired, shape, fields}
use Rattle.orc_values.specs.declared.kind.Scalar.{Scalar as Kind}
use Rattle.orc_values.specs.declared.tree.Tree.{Tree, Scalar, List as TreeList, Map as TreeMap, Struct as TreeStruct}
use Rattle.orc_values.specs.declared.tree.Field.{Field}
use Rattle.orc_values.specs.declared.value.Value.{Value, List as ListOf, Map as MapOf, Struct as StructOf}
use Rattle.orc_values.specs.declared.value.MapPair.{MapPair}
use Rattle.orc_values.proofs.Views.{shape-Scalar, shape-List, shape-Map, shape-Struct, view-List, view-Map, view-Struct}
use Rattle.orc_json_reader.specs.Fronts.{token_data, ValueFront, ItemsFront, MembersFront, MembersSpell}
use Rattle.orc_json_reader.proofs.FrontLemmas.{token_front, array_front, object_front}

-- the number that a text is, where it is an integer
pub integer_is : (o : Option Num) (z : ℤ) → option_and_then as_integer o ≡ Some z → (n : Num) × (o ≡ Some n) × (as_integer n ≡ Some z)
integer_is None z e = absurd (cc)
integer_is (Some n) z e = (n, refl, e)

pub null_front : (Is : Data → Type 0) (depth : ℕ) (old new : List Token) → Is nothing → old ≡ Token.null ∷ new → ValueFront Is depth old new
null_front Is depth old new is e = subst (λ (ts : List Token). ValueFront Is depth ts new) (sym e) (token_front Is Token.null nothing depth new refl is)

pub leaf_front : (Is : Data → Type 0) (token : Token) (old new : List Token) → old ≡ token ∷ new → ((d : Data) × (token_data token ≡ Some d) × Is d) → (depth : ℕ) → ValueFront Is depth old new
leaf_front Is token old new e h depth = subst (λ (ts : List Token). ValueFront Is depth ts new) (sym e) (token_front Is token h.0 depth new h.1 h.2)

-- what holds of a value at the front, under another name
pub same_front : (P Q : Data → Type 0) (depth : ℕ) (old new : List Token) → ((d : Data) → P d → Q d) → ValueFront P depth old new → ValueFront Q depth old new
same_front P Q depth old new turn f = record { text = f.text; value = f.value; read = f.read; means = f.means; is = turn f.value f.is }

pub list_front : (Is : Data → Cell → Type 0) (rows : Vec (Option Value) Global) (depth : ℕ) (old s new : List Token) → old ≡ Token.begin_array ∷ s → 0 < depth → ItemsFront (λ ds. EachSpells Is ds (cells_of (views rows.items))) (depth - 1) s new
    → ValueFront (λ d. OrNull d (view (Some (ListOf rows))) (ArraySpells Is d (view (Some (ListOf rows))))) depth old new
list_front Is rows depth old s new e some f =
    let Whole : Data → Type 0 = λ d. OrNull d (view (Some (ListOf rows))) (ArraySpells Is d (view (Some (ListOf rows)))) in
    subst (λ (ts : List Token). ValueFront Whole depth ts new) (sym e)
    (array_front (λ ds. EachSpells Is ds (cells_of (views rows.items))) Whole depth s new (λ ds are. inr (ds, cells_of (views rows.items), refl, view-List rows, are)) some f)

pub map_front : (K V : Data → Cell → Type 0) (ps : Vec MapPair Global) (depth : ℕ) (old s new : List Token) → old ≡ Token.begin_array ∷ s → 0 < depth → ItemsFront (λ ds. PairsSpell K V ds (pairs_of (map paired ps.items))) (depth - 1) s new
    → ValueFront (λ d. OrNull d (view (Some (MapOf ps))) (MapSpells K V d (view (Some (MapOf ps))))) depth old new
map_front K V ps depth old s new e some f =
    let Whole : Data → Type 0 = λ d. OrNull d (view (Some (MapOf ps))) (MapSpells K V d (view (Some (MapOf ps)))) in
    subst (λ (ts : List Token). ValueFront Whole depth ts new) (sym e)
    (array_front (λ ds. PairsSpell K V ds (pairs_of (map paired ps.items))) Whole depth s new (λ ds are. inr (ds, pairs_of (map paired ps.items), refl, view-Map ps, are)) some f)

pub struct_front : (fs : Fields) (rows : Vec (Option Value) Global) (depth : ℕ) (old s new : List Token) → old ≡ Token.begin_object ∷ s → 0 < depth
    → MembersFront (λ ms. MembersSpell fs ms (cells_of (views rows.items))) (depth - 1) s new
    → ValueFront (λ d. OrNull d (view (Some (StructOf rows))) (ObjectSpells (names_of fs) (λ cs. FieldsSpell fs d cs) d (view (Some (StructOf rows))))) depth old new
struct_front fs rows depth old s new e some f =
    let Whole : Data → Type 0 = λ d. OrNull d (view (Some (StructOf rows))) (ObjectSpells (names_of fs) (λ cs. FieldsSpell fs d cs) d (view (Some (StructOf rows)))) in
    subst (λ (ts : List Token). ValueFront Whole depth ts new) (sym e)
    (object_front (λ ms. MembersSpell fs ms (cells_of (views rows.items))) Whole depth s new (λ ms are. inr (ms, cells_of (views rows.items), refl, view-Struct rows, are.0, are.1)) some f)

-- of a type, by its shape
pub of_scalar : (t : Tree) (k : Kind) (o : Vec ℕ Global) (c : Cell) (d : Data) → t ≡ Scalar k o → ScalarSpells k d c → JsonSpells (shape t) d c
of_scalar t k o c d it h = rw (it, shape-Scalar k o) h

pub of_list : (t : Tree) (b : Box Tree Global) (o : Vec ℕ Global) (c : Cell) (d : Data) → t ≡ TreeList b o → OrNull d c (ArraySpells (JsonSpells (shape b.value)) d c) → JsonSpells (shape t) d c
of_list t b o c d it h = rw (it, shape-List b o) h

pub of_map : (t : Tree) (k v : Box Tree Global) (o : Vec ℕ Global) (c : Cell) (d : Data) → t ≡ TreeMap k v o → OrNull d c (MapSpells (JsonSpells (shape k.value)) (JsonSpells (shape v.value)) d c) → JsonSpells (shape t) d c
of_map t k v o c d it h = rw (it, shape-Map k v o) h

pub of_struct : (t : Tree) (fs : Vec Field Global) (o : Vec ℕ Global) (c : Cell) (d : Data) → t ≡ TreeStruct fs o
    → OrNull d c (ObjectSpells (names_of (fields fs.items)) (λ cs. FieldsSpell (fields fs.items) d cs) d c) → JsonSpells (shape t) d c
of_struct t fs o c d it h = rw (it, shape-Struct fs o) h

-- an array of two, of a key and its value
pub pair_front : (K V : Data → Cell → Type 0) (k v : Cell) (depth : ℕ) (old ts new : List Token) → old ≡ Token.begin_array ∷ ts → 0 < depth
    → ItemsFront (λ ds. (x : Data) × (y : Data) × (ds ≡ item x (item y no_items)) × K x k × V y v) (depth - 1) ts new → ValueFront (λ d. PairSpells K V d k v) depth old new
pair_front K V k v depth old ts new e some f =
    subst (λ (xs : List Token). ValueFront (λ d. PairSpells K V d k v) depth xs new) (sym e)
    (array_front (λ ds. (x : Data) × (y : Data) × (ds ≡ item x (item y no_items)) × K x k × V y v) (λ d. PairSpells K V d k v) depth ts new (λ ds h. (h.0, h.1, ap array h.2, h.3, h.4)) some f)
