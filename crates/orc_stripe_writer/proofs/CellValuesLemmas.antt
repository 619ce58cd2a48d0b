-- The values among cells of a kind stand for those cells, where these fit the kind.
use Rattle.std.proofs.Common.{◌≡◌, ℕ, suc, ◌-◌, ◌<◌, ◌^◌, ◌&&◌, nat_lt, ℤ, pos, negsuc, Bool, true, false, Option, List, [], ◌∷◌, ◌++◌, length, refl, sym, ap, ◌∙◌, arith, ltb-true, lt-ltb}
use Rattle.std.specs.List.{flat_map, AllZip}
use Rattle.std.proofs.lemmas.List.{length-map}
use Rattle.orc_values.specs.declared.kind.Scalar.{Scalar}
use Rattle.orc_values.specs.declared.kind.Scalar.TheVariants as kind
use Rattle.orc_values.specs.Kinds.{is_kind}
use Rattle.orc_values.specs.Shapes.{scalar}
use Rattle.orc_values.specs.Cells.{bool, int, date, text, bytes, Cell, null, leaf, list, struct, pairs, values}
use Rattle.orc_values.specs.Fits.{signed_fits, RowsFit}
use Rattle.orc_values.specs.Lent.{lent_cells}
use Rattle.orc_values.specs.Views.{view, views}
use Rattle.orc_values.specs.declared.lent.Lent.{Lent}
use Rattle.orc_values.specs.declared.value.Value.{Value}
use Rattle.orc_stripe_writer.specs.declared.byte_string.ByteString.{ByteString}
use Rattle.orc_column_reader.specs.Spellings.{concatenated}
use Rattle.orc_column_reader.specs.Columns.{IsBool, IsByte, IsInt, IsDate, IsText, IsBinary}
use Rattle.orc_stripe_writer.specs.CellValues.{bools_in, ints_in, number_bytes_in, all_bytes_in, byte_of}
use Rattle.orc_stripe_writer.specs.Dictionary.{byte_strings}

-- a kind of whole numbers
pub record IsIntKind (k : Scalar) : Type 0 where
  pub no_bool : is_kind kind.Boolean k ≡ false
  pub no_date : is_kind kind.Date k ≡ false
  pub no_text : is_kind kind.String k ≡ false
  pub no_bytes : is_kind kind.Binary k ≡ false

abbrev pub short_is : IsIntKind kind.Short
short_is = record { no_bool = refl; no_date = refl; no_text = refl; no_bytes = refl }

abbrev pub int_is : IsIntKind kind.Int
int_is = record { no_bool = refl; no_date = refl; no_text = refl; no_bytes = refl }

abbrev pub long_is : IsIntKind kind.Long
long_is = record { no_bool = refl; no_date = refl; no_text = refl; no_bytes = refl }

never : (a : Bool) → a ≡ false → a ≡ true → ⊥
never a e f = let g : false ≡ true = sym e ∙ f in cc

never_both : (a b : Bool) → a ≡ false → (a && b) ≡ true → ⊥
never_both false b e f = cc
never_both true b e f = cc

pub ints_stand : (k : Scalar) (o : List ℕ) (cs : List Cell) → IsIntKind k → RowsFit (scalar k o) cs → AllZip (IsInt k) (ints_in cs) (values cs)
ints_stand k o [] i h = tt
ints_stand k o (null ∷ cs) i h = ints_stand k o cs i h.1
ints_stand k o (leaf (bool b) ∷ cs) i h = absurd (never (is_kind kind.Boolean k) i.no_bool h.0)
ints_stand k o (leaf (int n) ∷ cs) i h = ((h.0, refl), ints_stand k o cs i h.1)
ints_stand k o (leaf (date n) ∷ cs) i h = absurd (never_both (is_kind kind.Date k) _ i.no_date h.0)
ints_stand k o (leaf (text t) ∷ cs) i h = absurd (never_both (is_kind kind.String k) _ i.no_text h.0)
ints_stand k o (leaf (bytes t) ∷ cs) i h = absurd (never_both (is_kind kind.Binary k) _ i.no_bytes h.0)
ints_stand k o (list xs ∷ cs) i h = let wrong = h.0 in cc
ints_stand k o (struct xs ∷ cs) i h = let wrong = h.0 in cc
ints_stand k o (pairs ps ∷ cs) i h = let wrong = h.0 in cc

pub byte_stands : (n : ℤ) → signed_fits 7 n ≡ true → IsByte (byte_of n) (leaf (int n))
byte_stands (pos n) h =
    let low : n < 128 = ltb-true n 128 h in
    let wide : nat_lt n 256 ≡ true = lt-ltb n 256 (omega arith) in
    rw wide (let bound : n < 256 = omega arith in (bound, (let t : nat_lt n 128 ≡ true = h in rw t refl)))
byte_stands (negsuc n) h =
    let low : n < 128 = ltb-true n 128 h in
    let wide : nat_lt n 256 ≡ true = lt-ltb n 256 (omega arith) in
    let bound : 255 - n < 256 = omega arith in
    let high : nat_lt (255 - n) 128 ≡ false = grind arith in
    let back : 255 - (255 - n) ≡ n = omega arith in
    rw wide (bound, (rw high (ap (λ m. leaf (int (negsuc m))) (sym back))))

pub bools_stand : (o : List ℕ) (cs : List Cell) → RowsFit (scalar kind.Boolean o) cs → AllZip IsBool (bools_in cs) (values cs)
bools_stand o [] h = tt
bools_stand o (null ∷ cs) h = bools_stand o cs h.1
bools_stand o (leaf (bool b) ∷ cs) h = (refl, bools_stand o cs h.1)
bools_stand o (leaf (int n) ∷ cs) h = let wrong = h.0 in cc
bools_stand o (leaf (date n) ∷ cs) h = let wrong = h.0 in cc
bools_stand o (leaf (text t) ∷ cs) h = let wrong = h.0 in cc
bools_stand o (leaf (bytes t) ∷ cs) h = let wrong = h.0 in cc
bools_stand o (list xs ∷ cs) h = let wrong = h.0 in cc
bools_stand o (struct xs ∷ cs) h = let wrong = h.0 in cc
bools_stand o (pairs ps ∷ cs) h = let wrong = h.0 in cc

pub number_bytes_stand : (o : List ℕ) (cs : List Cell) → RowsFit (scalar kind.Byte o) cs → AllZip IsByte (number_bytes_in cs) (values cs)
number_bytes_stand o [] h = tt
number_bytes_stand o (null ∷ cs) h = number_bytes_stand o cs h.1
number_bytes_stand o (leaf (bool b) ∷ cs) h = let wrong = h.0 in cc
number_bytes_stand o (leaf (int n) ∷ cs) h = (byte_stands n h.0, number_bytes_stand o cs h.1)
number_bytes_stand o (leaf (date n) ∷ cs) h = let wrong = h.0 in cc
number_bytes_stand o (leaf (text t) ∷ cs) h = let wrong = h.0 in cc
number_bytes_stand o (leaf (bytes t) ∷ cs) h = let wrong = h.0 in cc
number_bytes_stand o (list xs ∷ cs) h = let wrong = h.0 in cc
number_bytes_stand o (struct xs ∷ cs) h = let wrong = h.0 in cc
number_bytes_stand o (pairs ps ∷ cs) h = let wrong = h.0 in cc

pub dates_stand : (o : List ℕ) (cs : List Cell) → RowsFit (scalar kind.Date o) cs → AllZip IsDate (ints_in cs) (values cs)
dates_stand o [] h = tt
dates_stand o (null ∷ cs) h = dates_stand o cs h.1
dates_stand o (leaf (bool b) ∷ cs) h = let wrong = h.0 in cc
dates_stand o (leaf (int n) ∷ cs) h = let wrong = h.0 in cc
dates_stand o (leaf (date n) ∷ cs) h = ((h.0, refl), dates_stand o cs h.1)
dates_stand o (leaf (text t) ∷ cs) h = let wrong = h.0 in cc
dates_stand o (leaf (bytes t) ∷ cs) h = let wrong = h.0 in cc
dates_stand o (list xs ∷ cs) h = let wrong = h.0 in cc
dates_stand o (struct xs ∷ cs) h = let wrong = h.0 in cc
dates_stand o (pairs ps ∷ cs) h = let wrong = h.0 in cc

pub texts_stand : (o : List ℕ) (cs : List Cell) → RowsFit (scalar kind.String o) cs → AllZip IsText (all_bytes_in cs) (values cs)
texts_stand o [] h = tt
texts_stand o (null ∷ cs) h = texts_stand o cs h.1
texts_stand o (leaf (bool b) ∷ cs) h = let wrong = h.0 in cc
texts_stand o (leaf (int n) ∷ cs) h = let wrong = h.0 in cc
texts_stand o (leaf (date n) ∷ cs) h = let wrong = h.0 in cc
texts_stand o (leaf (text t) ∷ cs) h = ((h.0, refl), texts_stand o cs h.1)
texts_stand o (leaf (bytes t) ∷ cs) h = let wrong = h.0 in cc
texts_stand o (list xs ∷ cs) h = let wrong = h.0 in cc
texts_stand o (struct xs ∷ cs) h = let wrong = h.0 in cc
texts_stand o (pairs ps ∷ cs) h = let wrong = h.0 in cc

pub binaries_stand : (o : List ℕ) (cs : List Cell) → RowsFit (scalar kind.Binary o) cs → AllZip IsBinary (all_bytes_in cs) (values cs)
binaries_stand o [] h = tt
binaries_stand o (null ∷ cs) h = binaries_stand o cs h.1
binaries_stand o (leaf (bool b) ∷ cs) h = let wrong = h.0 in cc
binaries_stand o (leaf (int n) ∷ cs) h = let wrong = h.0 in cc
binaries_stand o (leaf (date n) ∷ cs) h = let wrong = h.0 in cc
binaries_stand o (leaf (text t) ∷ cs) h = let wrong = h.0 in cc
binaries_stand o (leaf (bytes t) ∷ cs) h = ((h.0, refl), binaries_stand o cs h.1)
binaries_stand o (list xs ∷ cs) h = let wrong = h.0 in cc
binaries_stand o (struct xs ∷ cs) h = let wrong = h.0 in cc
binaries_stand o (pairs ps ∷ cs) h = let wrong = h.0 in cc

pub joined_is : (ps : List ByteString) → concatenated (byte_strings ps) ≡ flat_map (λ (p : ByteString). p.0.now) ps
joined_is [] = refl
joined_is (p ∷ ps) = ap (λ bs. p.0.now ++ bs) (joined_is ps)

pub views_long : (rs : List (Option Value)) → length (views rs) ≡ length rs
views_long [] = refl
views_long (r ∷ rs) = ap suc (views_long rs)

-- as many cells as are lent
pub cells_long : (rs : List Lent) → length rs < 2 ^ 31 → length (lent_cells rs) < 2 ^ 31
cells_long rs h = let e = length-map rs (λ (r : Lent). view r.0.now) in omega (arith, e, h)
