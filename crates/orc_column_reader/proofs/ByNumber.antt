-- Rows are spelled column by column, by the columns' numbers, where they are spelled going down the schema.
use Rattle.std.proofs.Common.{◌≡◌, ℕ, zero, suc, ◌+◌, ◌-◌, ◌<◌, ◌^◌, ℤ, pos, negsuc, Bool, true, false, ltb, List, [], ◌∷◌, ◌++◌, map, length, take, drop, refl, sym, ap, ◌∙◌, subst, arith, inl, inr}
use Rattle.std.proofs.lemmas.Bool.{lt-ltb, le-ltb, and_parts, cases_lt}
use Rattle.std.specs.List.{AllByRecursion, flat_map, AllZip}
use Rattle.orc_values.specs.Cells.{Cell, null, leaf, list, struct, pairs, Cells, end, more, cells_of, list_of_cells, pairs_of, parts, pairs_in, keys_in, values_in, values}
use Rattle.orc_values.specs.Shapes.{Shape, scalar, list_of, map_of, struct_of, Fields, no_field, field, width, widths, shape_at, shape_within}
use Rattle.orc_values.specs.Fits.{fits, int_fits, all_fit, pairs_fit, each_fits, RowsFit}
use Rattle.orc_values.specs.Columns.{cells, cells_within}
use Rattle.orc_values.specs.declared.kind.Scalar.{Scalar}
use Rattle.orc_values.specs.declared.kind.Scalar.TheVariants as kind
use Rattle.orc_values.proofs.Views.{list_of_cells-cells_of, cells_of-list_of_cells, list_of_pairs-pairs_of, pairs_of-list_of_pairs}
use Rattle.orc_values.proofs.Together.{keys_fit, values_fit as seconds_fit}
use Rattle.std.proofs.lemmas.List.{length-map, map-append}
use Rattle.orc_column_reader.specs.Spellings.{size, concatenated, zip_cons}
use Rattle.orc_column_reader.specs.Columns.{IsBool, IsByte, signed_byte, IsInt, IsDate, IsText, IsBinary, IsEntry, IsList, IsMap, IsRecord}
use Rattle.orc_column_reader.specs.Stripe.{Streams, SpellsScalar, IsColumn, SpellRows, SpellsFields, SpellsCells, has_dictionary, SpellsTexts}
use Rattle.orc_column_reader.proofs.Fronts.{length-zip, stand_length}
use Rattle.orc_values.proofs.Lists.{all_append, values_few}
use Rattle.orc_values.proofs.Deeper.{width_pos, cells-zero}

-- ---- what fits

pub all-front : {X : Type 0} (P : X → Type 0) (a b : List X) → AllByRecursion P (a ++ b) → AllByRecursion P a × AllByRecursion P b
all-front P [] b h = (tt, h)
all-front P (x ∷ a) b h = let k = all-front P a b h.1 in ((h.0, k.0), k.1)

null_fits : (s : Shape) → fits null s ≡ true
null_fits s = refl

pub fits_of_values : (s : Shape) (cs : List Cell) → RowsFit s (values cs) → RowsFit s cs
fits_of_values s [] h = tt
fits_of_values s (null ∷ cs) h = (null_fits s, fits_of_values s cs h)
fits_of_values s (leaf x ∷ cs) h = (h.0, fits_of_values s cs h.1)
fits_of_values s (list x ∷ cs) h = (h.0, fits_of_values s cs h.1)
fits_of_values s (struct x ∷ cs) h = (h.0, fits_of_values s cs h.1)
fits_of_values s (pairs x ∷ cs) h = (h.0, fits_of_values s cs h.1)

values_fit : (s : Shape) (cs : List Cell) → RowsFit s cs → RowsFit s (values cs)
values_fit s [] h = tt
values_fit s (null ∷ cs) h = values_fit s cs h.1
values_fit s (leaf x ∷ cs) h = (h.0, values_fit s cs h.1)
values_fit s (list x ∷ cs) h = (h.0, values_fit s cs h.1)
values_fit s (struct x ∷ cs) h = (h.0, values_fit s cs h.1)
values_fit s (pairs x ∷ cs) h = (h.0, values_fit s cs h.1)

pub standing_fits : {X : Type 0} (stands : X → Cell → Type 0) (s : Shape) → ((x : X) (v : Cell) → stands x v → fits v s ≡ true) → (xs : List X) (vs : List Cell) → AllZip stands xs vs → RowsFit s vs
standing_fits stands s one [] [] h = tt
standing_fits stands s one [] (v ∷ vs) h = absurd h
standing_fits stands s one (x ∷ xs) [] h = absurd h
standing_fits stands s one (x ∷ xs) (v ∷ vs) h = (one x v h.0, standing_fits stands s one xs vs h.1)

pub int_value : (k : Scalar) (o : List ℕ) (n : ℤ) (v : Cell) → IsInt k n v → fits v (scalar k o) ≡ true
int_value k o n v h = ap (λ c. fits c (scalar k o)) h.1 ∙ h.0

pub byte_fits : (b : ℕ) → b < 256 → int_fits kind.Byte (signed_byte b) ≡ true
byte_fits b h =
    elim (cases_lt b 128) [
      | inl less ↦ rw (lt-ltb b 128 less) (lt-ltb b (2 ^ 7) (omega (arith, less)))
      | inr ge ↦ rw (le-ltb b 128 ge) (lt-ltb (255 - b) (2 ^ 7) (omega (arith, h, ge)))
    ]

pub byte_value : (o : List ℕ) (b : ℕ) (v : Cell) → IsByte b v → fits v (scalar kind.Byte o) ≡ true
byte_value o b v h = ap (λ c. fits c (scalar kind.Byte o)) h.1 ∙ byte_fits b h.0

pub date_value : (o : List ℕ) (n : ℤ) (v : Cell) → IsDate n v → fits v (scalar kind.Date o) ≡ true
date_value o n v h = ap (λ c. fits c (scalar kind.Date o)) h.1 ∙ h.0

pub text_value : (o : List ℕ) (bs : List ℕ) (v : Cell) → IsText bs v → fits v (scalar kind.String o) ≡ true
text_value o bs v h = ap (λ c. fits c (scalar kind.String o)) h.1 ∙ h.0

pub word_value : (entries : List (List ℕ)) (o : List ℕ) (n : ℤ) (v : Cell) → IsEntry entries n v → fits v (scalar kind.String o) ≡ true
word_value entries o (pos i) v h = text_value o h.0 v h.2
word_value entries o (negsuc i) v h = absurd h

pub binary_value : (o : List ℕ) (bs : List ℕ) (v : Cell) → IsBinary bs v → fits v (scalar kind.Binary o) ≡ true
binary_value o bs v h = ap (λ c. fits c (scalar kind.Binary o)) h.1 ∙ h.0

pub bool_value : (o : List ℕ) (b : Bool) (v : Cell) → IsBool b v → fits v (scalar kind.Boolean o) ≡ true
bool_value o b v h = ap (λ c. fits c (scalar kind.Boolean o)) h

texts_fit : (o : List ℕ) (x : Streams) (dictionary : Bool) (vs : List Cell) → SpellsTexts x dictionary vs → RowsFit (scalar kind.String o) vs
texts_fit o x true vs h = standing_fits (IsEntry h.0) (scalar kind.String o) (word_value h.0 o) h.2.0 vs h.2.1
texts_fit o x false vs h = standing_fits IsText (scalar kind.String o) (text_value o) h.0 vs h.1

scalar_fit : (k : Scalar) (o : List ℕ) (x : Streams) (vs : List Cell) → SpellsScalar k x vs → RowsFit (scalar k o) vs
scalar_fit kind.Boolean o x vs h = standing_fits IsBool (scalar kind.Boolean o) (bool_value o) h.0 vs h.1
scalar_fit kind.Byte o x vs h = standing_fits IsByte (scalar kind.Byte o) (byte_value o) h.0 vs h.1
scalar_fit kind.Short o x vs h = standing_fits (IsInt kind.Short) (scalar kind.Short o) (int_value kind.Short o) h.0 vs h.1
scalar_fit kind.Int o x vs h = standing_fits (IsInt kind.Int) (scalar kind.Int o) (int_value kind.Int o) h.0 vs h.1
scalar_fit kind.Long o x vs h = standing_fits (IsInt kind.Long) (scalar kind.Long o) (int_value kind.Long o) h.0 vs h.1
scalar_fit kind.Date o x vs h = standing_fits IsDate (scalar kind.Date o) (date_value o) h.0 vs h.1
scalar_fit kind.Binary o x vs h = standing_fits IsBinary (scalar kind.Binary o) (binary_value o) h.0 vs h.1
scalar_fit kind.String o x vs h = texts_fit o x (has_dictionary x) vs h

-- ---- lists

all_fit_of : (s : Shape) (cs : List Cell) → RowsFit s cs → all_fit (cells_of cs) s ≡ true
all_fit_of s [] h = refl
all_fit_of s (c ∷ cs) h = rw (h.0, all_fit_of s cs h.1) refl

fit_of_all : (s : Shape) (cs : Cells) → all_fit cs s ≡ true → RowsFit s (list_of_cells cs)
fit_of_all s end h = tt
fit_of_all s (more c cs) h = let p = and_parts (fits c s) (all_fit cs s) h in (p.0, fit_of_all s cs p.1)

-- lists, their elements joined, and their sizes
pub record Lists (s : Shape) (o : List ℕ) (byte_strings : List (List Cell)) (vs : List Cell) : Type 0 where
  pub fit : RowsFit (list_of s o) vs
  pub elements : flat_map parts vs ≡ concatenated byte_strings
  pub sizes : map (λ v. size (parts v)) vs ≡ map size byte_strings

pub lists_of : (s : Shape) (o : List ℕ) (byte_strings : List (List Cell)) (vs : List Cell) → AllZip IsList byte_strings vs → RowsFit s (concatenated byte_strings) → Lists s o byte_strings vs
lists_of s o [] [] h f = record { fit = tt; elements = refl; sizes = refl }
lists_of s o [] (v ∷ vs) h f = absurd h
lists_of s o (g ∷ byte_strings) [] h f = absurd h
lists_of s o (g ∷ byte_strings) (v ∷ vs) h f =
    let a = all-front (λ c. fits c s ≡ true) g (concatenated byte_strings) f in
    let l = lists_of s o byte_strings vs h.1 a.1 in
    let p : parts v ≡ g = ap parts h.0 ∙ list_of_cells-cells_of g in
    record {
      fit = (ap (λ c. fits c (list_of s o)) h.0 ∙ all_fit_of s g a.0, l.fit);
      elements = ap (λ t. t ++ flat_map parts vs) p ∙ ap (λ t. g ++ t) l.elements;
      sizes = ap (λ t. size t ∷ map (λ v. size (parts v)) vs) p ∙ ap (λ t. size g ∷ t) l.sizes;
    }

-- values that fit a list's type are lists
pub record AreLists (s : Shape) (vs : List Cell) : Type 0 where
  pub stand : AllZip IsList (map parts vs) vs
  pub fit : RowsFit s (concatenated (map parts vs))

pub are_lists : (s : Shape) (o : List ℕ) (cs : List Cell) → RowsFit (list_of s o) cs → AreLists s (values cs)
are_lists s o [] h = record { stand = tt; fit = tt }
are_lists s o (null ∷ cs) h = are_lists s o cs h.1
are_lists s o (leaf x ∷ cs) h = let k = h.0 in cc
are_lists s o (struct x ∷ cs) h = let k = h.0 in cc
are_lists s o (pairs x ∷ cs) h = let k = h.0 in cc
are_lists s o (list x ∷ cs) h =
    let r = are_lists s o cs h.1 in
    record { stand = (ap list (sym (cells_of-list_of_cells x)), r.stand); fit = all_append (λ c. fits c s ≡ true) (list_of_cells x) (concatenated (map parts (values cs))) (fit_of_all s x h.0) r.fit }

pub joined_parts : (vs : List Cell) → concatenated (map parts vs) ≡ flat_map parts vs
joined_parts [] = refl
joined_parts (v ∷ vs) = ap (λ t. parts v ++ t) (joined_parts vs)

pub map_sizes : (vs : List Cell) → map size (map parts vs) ≡ map (λ v. size (parts v)) vs
map_sizes [] = refl
map_sizes (v ∷ vs) = ap (λ t. size (parts v) ∷ t) (map_sizes vs)

-- ---- maps

abbrev pub first_of : Cell × Cell → Cell
first_of p = p.0

abbrev pub second_of : Cell × Cell → Cell
second_of p = p.1

pairs_fit_of : (k v : Shape) (ps : List (Cell × Cell)) → RowsFit k (map first_of ps) → RowsFit v (map second_of ps) → pairs_fit (pairs_of ps) k v ≡ true
pairs_fit_of k v [] h f = refl
pairs_fit_of k v (p ∷ ps) h f = rw (h.0, f.0, pairs_fit_of k v ps h.1 f.1) refl

-- maps, their keys and values joined, and how many pairs they have
pub record Maps (k v : Shape) (o : List ℕ) (byte_strings : List (List (Cell × Cell))) (vs : List Cell) : Type 0 where
  pub fit : RowsFit (map_of k v o) vs
  pub keys : flat_map keys_in vs ≡ map first_of (concatenated byte_strings)
  pub seconds : flat_map values_in vs ≡ map second_of (concatenated byte_strings)
  pub sizes : map (λ m. size (pairs_in m)) vs ≡ map size byte_strings

pub maps_of : (k v : Shape) (o : List ℕ) (byte_strings : List (List (Cell × Cell))) (vs : List Cell) → AllZip IsMap byte_strings vs → RowsFit k (map first_of (concatenated byte_strings)) → RowsFit v (map second_of (concatenated byte_strings)) → Maps k v o byte_strings vs
maps_of k v o [] [] h f e = record { fit = tt; keys = refl; seconds = refl; sizes = refl }
maps_of k v o [] (c ∷ vs) h f e = absurd h
maps_of k v o (g ∷ byte_strings) [] h f e = absurd h
maps_of k v o (g ∷ byte_strings) (c ∷ vs) h f e =
    let i = map-append first_of g (concatenated byte_strings) in
    let j = map-append second_of g (concatenated byte_strings) in
    let a = all-front (λ x. fits x k ≡ true) (map first_of g) (map first_of (concatenated byte_strings)) (subst (RowsFit k) i f) in
    let b = all-front (λ x. fits x v ≡ true) (map second_of g) (map second_of (concatenated byte_strings)) (subst (RowsFit v) j e) in
    let l = maps_of k v o byte_strings vs h.1 a.1 b.1 in
    let p : pairs_in c ≡ g = ap pairs_in h.0 ∙ list_of_pairs-pairs_of g in
    record {
      fit = (ap (λ x. fits x (map_of k v o)) h.0 ∙ pairs_fit_of k v g a.0 b.0, l.fit);
      keys = ap (λ t. map first_of t ++ flat_map keys_in vs) p ∙ ap (λ t. map first_of g ++ t) l.keys ∙ sym i;
      seconds = ap (λ t. map second_of t ++ flat_map values_in vs) p ∙ ap (λ t. map second_of g ++ t) l.seconds ∙ sym j;
      sizes = ap (λ t. size t ∷ map (λ m. size (pairs_in m)) vs) p ∙ ap (λ t. size g ∷ t) l.sizes;
    }

-- values that fit a map's type are maps
pub are_maps : (k v : Shape) (o : List ℕ) (cs : List Cell) → RowsFit (map_of k v o) cs → AllZip IsMap (map pairs_in (values cs)) (values cs)
are_maps k v o [] h = tt
are_maps k v o (null ∷ cs) h = are_maps k v o cs h.1
are_maps k v o (leaf x ∷ cs) h = let q = h.0 in cc
are_maps k v o (list x ∷ cs) h = let q = h.0 in cc
are_maps k v o (struct x ∷ cs) h = let q = h.0 in cc
are_maps k v o (pairs x ∷ cs) h = (ap pairs (sym (pairs_of-list_of_pairs x)), are_maps k v o cs h.1)

pub joined_keys : (vs : List Cell) → map first_of (concatenated (map pairs_in vs)) ≡ flat_map keys_in vs
joined_keys [] = refl
joined_keys (c ∷ vs) = map-append first_of (pairs_in c) (concatenated (map pairs_in vs)) ∙ ap (λ t. keys_in c ++ t) (joined_keys vs)

pub joined_seconds : (vs : List Cell) → map second_of (concatenated (map pairs_in vs)) ≡ flat_map values_in vs
joined_seconds [] = refl
joined_seconds (c ∷ vs) = map-append second_of (pairs_in c) (concatenated (map pairs_in vs)) ∙ ap (λ t. values_in c ++ t) (joined_seconds vs)

pub pair_sizes : (vs : List Cell) → map size (map pairs_in vs) ≡ map (λ m. size (pairs_in m)) vs
pair_sizes [] = refl
pair_sizes (c ∷ vs) = ap (λ t. size (pairs_in c) ∷ t) (pair_sizes vs)

-- ---- structs

abbrev pub FieldsFit : Fields → List (List Cell) → Type 0
FieldsFit fs structs = AllByRecursion (λ f. each_fits (cells_of f) fs ≡ true) structs

-- the fields' columns spell those fields of the structs
pub record FieldRows (fs : Fields) (x : ℕ → Streams) (structs : List (List Cell)) : Type 0 where
  pub fit : FieldsFit fs structs
  pub column : (c : ℕ) → c < widths fs → IsColumn (shape_within fs c) (x c) (cells_within fs c structs)

heads_zip : (h : List Cell) (t : List (List Cell)) → length h ≡ length t → flat_map (take 1) (zip_cons h t) ≡ h
heads_zip [] t l = refl
heads_zip (c ∷ h) [] l = absurd (omega (arith, l))
heads_zip (c ∷ h) (f ∷ t) l = ap (λ z. c ∷ z) (heads_zip h t (omega (arith, l)))

tails_zip : (h : List Cell) (t : List (List Cell)) → length h ≡ length t → map (drop 1) (zip_cons h t) ≡ t
tails_zip [] [] l = refl
tails_zip [] (f ∷ t) l = absurd (omega (arith, l))
tails_zip (c ∷ h) [] l = absurd (omega (arith, l))
tails_zip (c ∷ h) (f ∷ t) l = ap (λ z. f ∷ z) (tails_zip h t (omega (arith, l)))

pub zip_fit : (name : List ℕ) (s : Shape) (fs : Fields) (h : List Cell) (t : List (List Cell)) → length h ≡ length t → RowsFit s h → FieldsFit fs t → FieldsFit (field name s fs) (zip_cons h t)
zip_fit name s fs [] t l p q = tt
zip_fit name s fs (c ∷ h) [] l p q = absurd (omega (arith, l))
zip_fit name s fs (c ∷ h) (f ∷ t) l p q = (rw (p.0, q.0) refl, zip_fit name s fs h t (omega (arith, l)) p.1 q.1)

pub record Records (fs : Fields) (o : List ℕ) (structs : List (List Cell)) (vs : List Cell) : Type 0 where
  pub fit : RowsFit (struct_of fs o) vs
  pub are : map parts vs ≡ structs

pub records_of : (fs : Fields) (o : List ℕ) (structs : List (List Cell)) (vs : List Cell) → AllZip IsRecord structs vs → FieldsFit fs structs → Records fs o structs vs
records_of fs o [] [] h f = record { fit = tt; are = refl }
records_of fs o [] (v ∷ vs) h f = absurd h
records_of fs o (g ∷ structs) [] h f = absurd h
records_of fs o (g ∷ structs) (v ∷ vs) h f =
    let r = records_of fs o structs vs h.1 f.1 in
    let p : parts v ≡ g = ap parts h.0 ∙ list_of_cells-cells_of g in
    record { fit = (ap (λ c. fits c (struct_of fs o)) h.0 ∙ f.0, r.fit); are = ap (λ t. t ∷ map parts vs) p ∙ ap (λ t. g ∷ t) r.are }

pub record AreRecords (fs : Fields) (vs : List Cell) : Type 0 where
  pub stand : AllZip IsRecord (map parts vs) vs
  pub fit : FieldsFit fs (map parts vs)

pub are_records : (fs : Fields) (o : List ℕ) (cs : List Cell) → RowsFit (struct_of fs o) cs → AreRecords fs (values cs)
are_records fs o [] h = record { stand = tt; fit = tt }
are_records fs o (null ∷ cs) h = are_records fs o cs h.1
are_records fs o (leaf x ∷ cs) h = let k = h.0 in cc
are_records fs o (list x ∷ cs) h = let k = h.0 in cc
are_records fs o (pairs x ∷ cs) h = let k = h.0 in cc
are_records fs o (struct x ∷ cs) h =
    let r = are_records fs o cs h.1 in
    record { stand = (ap struct (sym (cells_of-list_of_cells x)), r.stand); fit = (ap (λ t. each_fits t fs) (cells_of-list_of_cells x) ∙ h.0, r.fit) }

pub empties_fit : (structs : List (List Cell)) → AllByRecursion (λ cs. cs ≡ []) structs → FieldsFit no_field structs
empties_fit [] h = tt
empties_fit (f ∷ structs) h = (ap (λ t. each_fits (cells_of t) no_field) h.0, empties_fit structs h.1)

-- ---- column by column

scalar_column : (k : Scalar) (o : List ℕ) (x : ℕ → Streams) (cs : List Cell) → length cs < 2 ^ 31 → SpellsCells (scalar k o) x cs
    → (c : ℕ) → c < 1 → IsColumn (shape_at (scalar k o) c) (x c) (cells (scalar k o) c cs)
scalar_column k o x cs few h zero lt = record { few = few; marks = h.0; spelled = h.1 }
scalar_column k o x cs few h (suc c) lt = absurd (omega (arith, lt))

list_column : (s : Shape) (o : List ℕ) (x : ℕ → Streams) (cs : List Cell) (n : ℕ) → IsColumn (list_of s o) (x 0) cs → SpellRows s (λ c. x (suc c)) n (flat_map parts (values cs))
    → (c : ℕ) → c < 1 + width s → IsColumn (shape_at (list_of s o) c) (x c) (cells (list_of s o) c cs)
list_column s o x cs n own below zero lt = own
list_column s o x cs n own below (suc c) lt = below.column c (omega (arith, lt))

map_column : (k v : Shape) (o : List ℕ) (x : ℕ → Streams) (cs : List Cell) (n m : ℕ) → IsColumn (map_of k v o) (x 0) cs → SpellRows k (λ c. x (suc c)) n (flat_map keys_in (values cs)) → SpellRows v (λ c. x (suc (width k + c))) m (flat_map values_in (values cs))
    → (c : ℕ) → c < 1 + (width k + width v) → IsColumn (shape_at (map_of k v o) c) (x c) (cells (map_of k v o) c cs)
map_column k v o x cs n m own first second zero lt = own
map_column k v o x cs n m own first second (suc c) lt = elim (cases_lt c (width k)) [
  | inl below ↦ rw (lt-ltb c (width k) below) (first.column c below)
  | inr past ↦
      let e : width k + (c - width k) ≡ c = omega (arith, past) in
      let r = second.column (c - width k) (omega (arith, past, lt)) in
      rw (le-ltb c (width k) past) (subst (λ (d : ℕ). IsColumn (shape_at v (c - width k)) (x (suc d)) (cells v (c - width k) (flat_map values_in (values cs)))) e r)
]

struct_column : (fs : Fields) (o : List ℕ) (x : ℕ → Streams) (cs : List Cell) → IsColumn (struct_of fs o) (x 0) cs → FieldRows fs (λ c. x (suc c)) (map parts (values cs))
    → (c : ℕ) → c < 1 + widths fs → IsColumn (shape_at (struct_of fs o) c) (x c) (cells (struct_of fs o) c cs)
struct_column fs o x cs own below zero lt = own
struct_column fs o x cs own below (suc c) lt = below.column c (omega (arith, lt))

field_column : (name : List ℕ) (s : Shape) (fs : Fields) (x : ℕ → Streams) (structs : List (List Cell)) (n : ℕ) → SpellRows s x n (flat_map (take 1) structs) → FieldRows fs (λ c. x (width s + c)) (map (drop 1) structs)
    → (c : ℕ) → c < width s + widths fs → IsColumn (shape_within (field name s fs) c) (x c) (cells_within (field name s fs) c structs)
field_column name s fs x structs n first others c lt = elim (cases_lt c (width s)) [
  | inl below ↦ rw (lt-ltb c (width s) below) (first.column c below)
  | inr past ↦
      let e : width s + (c - width s) ≡ c = omega (arith, past) in
      let k = others.column (c - width s) (omega (arith, past, lt)) in
      rw (le-ltb c (width s) past) (subst (λ (d : ℕ). IsColumn (shape_within fs (c - width s)) (x d) (cells_within fs (c - width s) (map (drop 1) structs))) e k)
]

mutual
  pub to_number : (s : Shape) (x : ℕ → Streams) (cs : List Cell) → length cs < 2 ^ 31 → SpellsCells s x cs → SpellRows s x (length cs) cs
  to_number (scalar k o) x cs few h =
      record { counted = refl; fit = fits_of_values (scalar k o) cs (scalar_fit k o (x 0) (values cs) h.1); column = scalar_column k o x cs few h }
  to_number (list_of s o) x cs few h =
      let r = h.1 in
      let inner = to_number s (λ c. x (suc c)) (concatenated r.0) (omega (arith, r.2.1.0)) r.2.1.1 in
      let l = lists_of s o r.0 (values cs) r.1 inner.fit in
      let below = subst (λ (t : List Cell). SpellRows s (λ c. x (suc c)) (length (concatenated r.0)) t) (sym l.elements) inner in
      record {
        counted = refl;
        fit = fits_of_values (list_of s o) cs l.fit;
        column = list_column s o x cs (length (concatenated r.0)) (record { few = few; marks = h.0; spelled = rw l.sizes r.2.0 }) below;
      }
  to_number (map_of k v o) x cs few h =
      let r = h.1 in
      let ps = concatenated r.0 in
      let first = to_number k (λ c. x (suc c)) (map first_of ps) (omega (arith, r.2.1.0, length-map ps first_of)) r.2.1.1.0 in
      let second = to_number v (λ c. x (suc (width k + c))) (map second_of ps) (omega (arith, r.2.1.0, length-map ps second_of)) r.2.1.1.1 in
      let l = maps_of k v o r.0 (values cs) r.1 first.fit second.fit in
      let keys = subst (λ (t : List Cell). SpellRows k (λ c. x (suc c)) (length (map first_of ps)) t) (sym l.keys) first in
      let seconds = subst (λ (t : List Cell). SpellRows v (λ c. x (suc (width k + c))) (length (map second_of ps)) t) (sym l.seconds) second in
      record {
        counted = refl;
        fit = fits_of_values (map_of k v o) cs l.fit;
        column = map_column k v o x cs (length (map first_of ps)) (length (map second_of ps)) (record { few = few; marks = h.0; spelled = rw l.sizes r.2.0 }) keys seconds;
      }
  to_number (struct_of fs o) x cs few h =
      let r = h.1 in
      let count = stand_length IsRecord r.0 (values cs) r.1 in
      let inner = fields_to_number fs (λ c. x (suc c)) r.0 (omega (arith, count, few, values_few cs)) r.2 in
      let l = records_of fs o r.0 (values cs) r.1 inner.fit in
      record {
        counted = refl;
        fit = fits_of_values (struct_of fs o) cs l.fit;
        column = struct_column fs o x cs (record { few = few; marks = h.0; spelled = tt }) (subst (FieldRows fs (λ c. x (suc c))) (sym l.are) inner);
      }

  pub fields_to_number : (fs : Fields) (x : ℕ → Streams) (structs : List (List Cell)) → length structs < 2 ^ 31 → SpellsFields fs x structs → FieldRows fs x structs
  fields_to_number no_field x structs few h = record { fit = empties_fit structs h; column = λ c lt. absurd (omega (arith, lt)) }
  fields_to_number (field name s fs) x structs few h =
      let n = ap length h.parts ∙ length-zip h.heads h.tails h.alike in
      let first = to_number s x h.heads (omega (arith, n, few)) h.first_spelled in
      let others = fields_to_number fs (λ c. x (width s + c)) h.tails (omega (arith, n, few, h.alike)) h.others_spelled in
      let heads : flat_map (take 1) structs ≡ h.heads = ap (flat_map (take 1)) h.parts ∙ heads_zip h.heads h.tails h.alike in
      let tails : map (drop 1) structs ≡ h.tails = ap (map (drop 1)) h.parts ∙ tails_zip h.heads h.tails h.alike in
      record {
        fit = subst (FieldsFit (field name s fs)) (sym h.parts) (zip_fit name s fs h.heads h.tails h.alike first.fit others.fit);
        column = field_column name s fs x structs (length h.heads) (subst (λ (t : List Cell). SpellRows s x (length h.heads) t) (sym heads) first) (subst (FieldRows fs (λ c. x (width s + c))) (sym tails) others);
      }

-- ---- and back

few_cells : (s : Shape) (x : ℕ → Streams) (n : ℕ) (rows : List Cell) → SpellRows s x n rows → length rows < 2 ^ 31
few_cells s x n rows r = omega (arith, ap length (cells-zero s rows), (r.column 0 (width_pos s)).few)

pub record Split (s : Shape) (fs : Fields) (structs : List (List Cell)) : Type 0 where
  pub heads : RowsFit s (flat_map (take 1) structs)
  pub tails : FieldsFit fs (map (drop 1) structs)
  pub alike : length (flat_map (take 1) structs) ≡ length (map (drop 1) structs)
  pub parts : structs ≡ zip_cons (flat_map (take 1) structs) (map (drop 1) structs)

pub split : (name : List ℕ) (s : Shape) (fs : Fields) (structs : List (List Cell)) → FieldsFit (field name s fs) structs → Split s fs structs
split name s fs [] h = record { heads = tt; tails = tt; alike = refl; parts = refl }
split name s fs ([] ∷ structs) h = let k = h.0 in cc
split name s fs ((c ∷ f) ∷ structs) h =
    let r = split name s fs structs h.1 in
    let p = and_parts (fits c s) (each_fits (cells_of f) fs) h.0 in
    record { heads = (p.0, r.heads); tails = (p.1, r.tails); alike = omega (arith, r.alike); parts = ap (λ t. (c ∷ f) ∷ t) r.parts }

first_column : (name : List ℕ) (s : Shape) (fs : Fields) (x : ℕ → Streams) (structs : List (List Cell))
    → ((c : ℕ) → c < width s + widths fs → IsColumn (shape_within (field name s fs) c) (x c) (cells_within (field name s fs) c structs))
    → (c : ℕ) → c < width s → IsColumn (shape_at s c) (x c) (cells s c (flat_map (take 1) structs))
first_column name s fs x structs all c lt = let k = all c (omega (arith, lt)) in let t : ltb c (width s) ≡ true = lt-ltb c (width s) lt in rw t at k

other_column : (name : List ℕ) (s : Shape) (fs : Fields) (x : ℕ → Streams) (structs : List (List Cell))
    → ((c : ℕ) → c < width s + widths fs → IsColumn (shape_within (field name s fs) c) (x c) (cells_within (field name s fs) c structs))
    → (c : ℕ) → c < widths fs → IsColumn (shape_within fs c) (x (width s + c)) (cells_within fs c (map (drop 1) structs))
other_column name s fs x structs all c lt =
    let k = all (width s + c) (omega (arith, lt)) in
    let t : ltb (width s + c) (width s) ≡ false = le-ltb (width s + c) (width s) (omega arith) in
    let e : width s + c - width s ≡ c = omega arith in
    rw (t, e) at k

key_column : (k v : Shape) (o : List ℕ) (x : ℕ → Streams) (cs : List Cell) → ((c : ℕ) → c < 1 + (width k + width v) → IsColumn (shape_at (map_of k v o) c) (x c) (cells (map_of k v o) c cs))
    → (c : ℕ) → c < width k → IsColumn (shape_at k c) (x (suc c)) (cells k c (flat_map keys_in (values cs)))
key_column k v o x cs all c lt = let r = all (suc c) (omega (arith, lt)) in let t : ltb c (width k) ≡ true = lt-ltb c (width k) lt in rw t at r

second_column : (k v : Shape) (o : List ℕ) (x : ℕ → Streams) (cs : List Cell) → ((c : ℕ) → c < 1 + (width k + width v) → IsColumn (shape_at (map_of k v o) c) (x c) (cells (map_of k v o) c cs))
    → (c : ℕ) → c < width v → IsColumn (shape_at v c) (x (suc (width k + c))) (cells v c (flat_map values_in (values cs)))
second_column k v o x cs all c lt =
    let r = all (suc (width k + c)) (omega (arith, lt)) in
    let t : ltb (width k + c) (width k) ≡ false = le-ltb (width k + c) (width k) (omega arith) in
    let e : width k + c - width k ≡ c = omega arith in
    rw (t, e) at r

pub fit_empty : (structs : List (List Cell)) → FieldsFit no_field structs → AllByRecursion (λ cs. cs ≡ []) structs
fit_empty [] h = tt
fit_empty ([] ∷ structs) h = (refl, fit_empty structs h.1)
fit_empty ((c ∷ f) ∷ structs) h = let k = h.0 in cc

mutual
  pub from_number : (s : Shape) (x : ℕ → Streams) (n : ℕ) (cs : List Cell) → SpellRows s x n cs → SpellsCells s x cs
  from_number (scalar k o) x n cs r = let own = r.column 0 (omega arith) in (own.marks, own.spelled)
  from_number (list_of s o) x n cs r =
      let own = r.column 0 (omega arith) in
      let l = are_lists s o cs r.fit in
      let e = joined_parts (values cs) in
      let below : SpellRows s (λ c. x (suc c)) (length (flat_map parts (values cs))) (flat_map parts (values cs)) =
      record { counted = refl; fit = subst (RowsFit s) e l.fit; column = λ c lt. r.column (suc c) (omega (arith, lt)) } in
      let inner = from_number s (λ c. x (suc c)) (length (flat_map parts (values cs))) (flat_map parts (values cs)) below in
      let few = few_cells s (λ c. x (suc c)) (length (flat_map parts (values cs))) (flat_map parts (values cs)) below in
      (own.marks, (map parts (values cs), l.stand, (rw (map_sizes (values cs)) own.spelled, (omega (arith, few, ap length e), subst (SpellsCells s (λ c. x (suc c))) (sym e) inner))))
  from_number (map_of k v o) x n cs r =
      let own = r.column 0 (omega arith) in
      let vs = values cs in
      let ps = concatenated (map pairs_in vs) in
      let keys : SpellRows k (λ c. x (suc c)) (length (flat_map keys_in vs)) (flat_map keys_in vs) =
      record { counted = refl; fit = keys_fit k v o cs r.fit; column = key_column k v o x cs r.column } in
      let seconds : SpellRows v (λ c. x (suc (width k + c))) (length (flat_map values_in vs)) (flat_map values_in vs) =
      record { counted = refl; fit = seconds_fit k v o cs r.fit; column = second_column k v o x cs r.column } in
      let first = from_number k (λ c. x (suc c)) (length (flat_map keys_in vs)) (flat_map keys_in vs) keys in
      let second = from_number v (λ c. x (suc (width k + c))) (length (flat_map values_in vs)) (flat_map values_in vs) seconds in
      let few = few_cells k (λ c. x (suc c)) (length (flat_map keys_in vs)) (flat_map keys_in vs) keys in (
        own.marks,
        (
          map pairs_in vs,
          are_maps k v o cs r.fit,
          (
            rw (pair_sizes vs) own.spelled,
            (
              omega (arith, few, ap length (joined_keys vs), length-map ps first_of),
              (subst (SpellsCells k (λ c. x (suc c))) (sym (joined_keys vs)) first, subst (SpellsCells v (λ c. x (suc (width k + c)))) (sym (joined_seconds vs)) second),
            ),
          ),
        ),
      )
  from_number (struct_of fs o) x n cs r =
      let own = r.column 0 (omega arith) in
      let l = are_records fs o cs r.fit in
      let below : FieldRows fs (λ c. x (suc c)) (map parts (values cs)) = record { fit = l.fit; column = λ c lt. r.column (suc c) (omega (arith, lt)) } in
      (own.marks, (map parts (values cs), l.stand, fields_from_number fs (λ c. x (suc c)) (map parts (values cs)) below))

  pub fields_from_number : (fs : Fields) (x : ℕ → Streams) (structs : List (List Cell)) → FieldRows fs x structs → SpellsFields fs x structs
  fields_from_number no_field x structs r = fit_empty structs r.fit
  fields_from_number (field name s fs) x structs r =
      let p = split name s fs structs r.fit in
      let first : SpellRows s x (length (flat_map (take 1) structs)) (flat_map (take 1) structs) = record { counted = refl; fit = p.heads; column = first_column name s fs x structs r.column } in
      let others : FieldRows fs (λ c. x (width s + c)) (map (drop 1) structs) = record { fit = p.tails; column = other_column name s fs x structs r.column } in
      record {
        heads = flat_map (take 1) structs;
        tails = map (drop 1) structs;
        alike = p.alike;
        parts = p.parts;
        first_spelled = from_number s x (length (flat_map (take 1) structs)) (flat_map (take 1) structs) first;
        others_spelled = fields_from_number fs (λ c. x (width s + c)) (map (drop 1) structs) others;
      }
