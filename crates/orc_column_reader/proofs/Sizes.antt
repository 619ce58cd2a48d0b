-- Numbers of 64 bits as sizes, and as values.
use Rattle.std.proofs.Common.{Bool, true, false, Some, List, [], ◌∷◌, map, length, get_or, slice_get, suc, zero, ◌≡◌, ℕ, ◌^◌, ◌<◌, ℤ, pos, negsuc, nat_abs, FitsSigned, w32, w64, lt-ltb, ltb-true, refl, sym, ap, ◌∙◌, arith, rules}
use Rattle.std.specs.Int.{FitsUnsignedBits}
use Rattle.orc_values.specs.Cells.{Cell, leaf, bool, int, date, text}
use Rattle.std.specs.Str.{is_utf8}
use Rattle.orc_values.specs.Fits.{signed_fits}
use Rattle.orc_column_reader.specs.declared.entry.Entry.{Entry}
use Rattle.orc_column_reader.specs.Columns.{IsText, IsEntry, entry_bytes}
use Rattle.orc_column_reader.specs.ValueFaults.{is_text, names_text}
use Rattle.orc_values.specs.Views.{cell_of_value}
use Rattle.orc_values.specs.declared.value.Value.{Bool as boolean, Int, Date, Text, the_lemmas}
use Rattle.std.specs.Borrow.{Bor}
use Rattle.std.specs.declared.borrow.CowStr.{CowStr}

pub sized : (m n : ℤ) (k : ℕ) → m ≡ n → FitsUnsignedBits 64 m → k ≡ nat_abs m → n ≡ pos k
sized (pos j) n k e f s = sym e ∙ ap pos (sym s)
sized (negsuc j) n k e f s = absurd f

pub negative : (n : ℤ) → FitsSigned w64 n → (FitsUnsignedBits 64 n → ⊥) → (k : ℕ) × (n ≡ negsuc k)
negative (pos j) f none = absurd (none (omega (arith, f)))
negative (negsuc j) f none = (j, refl)

pub value_bool : (b : Bool) → cell_of_value (boolean b) ≡ leaf (bool b)
value_bool b = search (rules, the_lemmas)

pub value_int : (n : ℤ) → cell_of_value (Int n) ≡ leaf (int n)
value_int n = search (rules, the_lemmas)

pub true_false : true ≡ false → ⊥
true_false e = cc

pub value_text : (s : Bor (List ℕ)) → cell_of_value (Text (CowStr.Borrowed s)) ≡ leaf (text s.now)
value_text s = search (rules, the_lemmas)

pub value_date : (n : ℤ) → cell_of_value (Date n) ≡ leaf (date n)
value_date n = search (rules, the_lemmas)

pub fits_day : (n : ℤ) → FitsSigned w32 n → signed_fits 31 n ≡ true
fits_day (pos n) f = lt-ltb n (2 ^ 31) (omega (arith, f))
fits_day (negsuc n) f = lt-ltb n (2 ^ 31) (omega (arith, f))

pub fits_long : (n : ℤ) → FitsSigned w64 n → signed_fits 63 n ≡ true
fits_long (pos n) f = lt-ltb n (2 ^ 63) (omega (arith, f))
fits_long (negsuc n) f = lt-ltb n (2 ^ 63) (omega (arith, f))

pub day_fits : (n : ℤ) → signed_fits 31 n ≡ true → FitsSigned w32 n
day_fits (pos n) h = let l : n < 2 ^ 31 = ltb-true n (2 ^ 31) h in search (rules, l)
day_fits (negsuc n) h = let l : n < 2 ^ 31 = ltb-true n (2 ^ 31) h in search (rules, l)

entry_at : (entries : List Entry) (i : ℕ) (e : Entry) → i < length entries → e ≡ get_or entries i e → slice_get (map entry_bytes entries) i ≡ Some (entry_bytes e)
entry_at [] i e h is = absurd (omega (arith, h))
entry_at (x ∷ xs) zero e h is = ap (λ y. Some (entry_bytes y)) (sym is)
entry_at (x ∷ xs) (suc i) e h is = entry_at xs i e (omega (arith, h)) is

entry_below : (entries : List Entry) (i : ℕ) (b : List ℕ) → slice_get (map entry_bytes entries) i ≡ Some b → i < length entries
entry_below [] i b h = cc
entry_below (x ∷ xs) zero b h = omega arith
entry_below (x ∷ xs) (suc i) b h = omega (arith, entry_below xs i b h)

pub is_word : (entries : List Entry) (n : ℤ) (i : ℕ) (e : Entry) (c : Cell) → n ≡ pos i → i < length entries → e ≡ get_or entries i e → IsText (entry_bytes e) c → IsEntry (map entry_bytes entries) n c
is_word entries n i e c is lt at t = rw is (entry_bytes e, entry_at entries i e lt at, t)

pub no_text : (entries : List Entry) (n : ℤ) (i : ℕ) (e : Entry) → n ≡ pos i → i < length entries → e ≡ get_or entries i e → (is_utf8 (entry_bytes e) ≡ true → ⊥) → (c : Cell) → IsEntry (map entry_bytes entries) n c → ⊥
no_text entries n i e is lt at none c w =
    let v = rw is at w in
    let s = entry_at entries i e lt at in
    let b = v.1 in
    let same : v.0 ≡ entry_bytes e = cc in
    none (ap is_utf8 (sym same) ∙ v.2.0)

not_true : (b : Bool) → (b ≡ true → ⊥) → b ≡ false
not_true true h = absurd (h refl)
not_true false h = refl

pub names_none : (entries : List Entry) (n : ℤ) (i : ℕ) (e : Entry) → n ≡ pos i → i < length entries → e ≡ get_or entries i e → (is_utf8 (entry_bytes e) ≡ true → ⊥) → names_text (map entry_bytes entries) n ≡ false
names_none entries n i e is lt at none = rw is (ap is_text (entry_at entries i e lt at) ∙ not_true (is_utf8 (entry_bytes e)) none)

pub no_word : (entries : List Entry) (n : ℤ) (i : ℕ) → n ≡ pos i → (i < length entries → ⊥) → (c : Cell) → IsEntry (map entry_bytes entries) n c → ⊥
no_word entries n i is none c w = let v = rw is at w in none (entry_below entries i v.0 v.1)

pub no_index : (entries : List (List ℕ)) (n : ℤ) (k : ℕ) → n ≡ negsuc k → (c : Cell) → IsEntry entries n c → ⊥
no_index entries n k is c w = rw is at w
