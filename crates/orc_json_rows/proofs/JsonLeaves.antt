-- Values of JSON spell one value of a kind at most, what is printed is read back, and what is refused spells none.
use Rattle.std.proofs.Common.{◌≡◌, ℕ, ℤ, pos, negsuc, List, Bool, true, false, ◌⊎◌, inl, inr, refl, sym, ap, ◌∙◌, subst}
use Rattle.std.proofs.lemmas.Bool.{and_parts}
use Rattle.std.specs.Str.{is_utf8}
use Rattle.hex.specs.Hex.{encode_lower}
use Rattle.hex.proofs.HexLemmas.{decode_of-encode_lower}
use Rattle.serde_json.specs.Data.{Data, null, boolean, number, string, array, object}
use Rattle.serde_json.specs.Find.{of_integer}
use Rattle.orc_values.specs.declared.kind.Scalar.{Scalar}
use Rattle.orc_values.specs.declared.kind.Scalar.TheVariants as kind
use Rattle.orc_json_rows.specs.declared.json_fault.JsonFault.{JsonFault}
use Rattle.orc_json_rows.specs.declared.json_fault.JsonFault.TheVariants as fault
use Rattle.orc_values.specs.Cells.{Atom, bool, int, date, text, bytes}
use Rattle.orc_values.specs.Fits.{atom_fits, are_bytes}
use Rattle.orc_values.specs.Kinds.{is_kind}
use Rattle.orc_json_rows.specs.Days.{has_text, day_text, IsDayText}
use Rattle.orc_json_rows.specs.JsonLeaves.{IsInteger, IsHex, SpellsAtom, LeafSpells, IsMisfit, IsOutOfRange, IsBadDate, IsBadHex, LeafFault, takes_numbers, takes_strings, date_json, atom_json}
use Rattle.orc_json_rows.proofs.Days.{one_day}
use Rattle.orc_values.proofs.Bytes.{bytes_below}

-- ---- one value at most

-- the sorts of values: each kind has those of one
data Sort : Type 0 where
  truths : Sort
  integers : Sort
  dates : Sort
  texts : Sort
  blobs : Sort

abbrev sort_of : Atom → Sort
sort_of (bool b) = truths
sort_of (int z) = integers
sort_of (date n) = dates
sort_of (text s) = texts
sort_of (bytes bs) = blobs

abbrev kind_sort : Scalar → Sort
kind_sort kind.Boolean = truths
kind_sort kind.Byte = integers
kind_sort kind.Short = integers
kind_sort kind.Int = integers
kind_sort kind.Long = integers
kind_sort kind.String = texts
kind_sort kind.Binary = blobs
kind_sort kind.Date = dates

sorted : (k : Scalar) (a : Atom) → atom_fits k a ≡ true → sort_of a ≡ kind_sort k
sorted kind.Boolean (bool b) h = refl
sorted kind.Byte (int z) h = refl
sorted kind.Short (int z) h = refl
sorted kind.Int (int z) h = refl
sorted kind.Long (int z) h = refl
sorted kind.String (text s) h = refl
sorted kind.Binary (bytes bs) h = refl
sorted kind.Date (date n) h = refl
sorted _ _ h = cc

-- a string is no integer
no_integer : (d : Data) (s : List ℕ) (z : ℤ) → d ≡ string s → IsInteger d z → ⊥
no_integer d s z e h = let none = rw e at h in cc

one_date : (d : Data) (m n : ℤ) → SpellsAtom d (date m) → SpellsAtom d (date n) → m ≡ n
one_date d m n (inl x) (inl y) = cc
one_date d m n (inl x) (inr y) = absurd (no_integer d y.0 m y.1 x)
one_date d m n (inr x) (inl y) = absurd (no_integer d x.0 n x.1 y)
one_date d m n (inr x) (inr y) =
    let same : x.0 ≡ y.0 = cc in
    one_day y.0 m n (subst (λ s. IsDayText s m) same x.2) y.2

pub one_leaf : (k : Scalar) (d : Data) (a b : Atom) → LeafSpells k d a → LeafSpells k d b → a ≡ b
one_leaf k d (bool x) (bool y) p q = cc
one_leaf k d (int x) (int y) p q = cc
one_leaf k d (date x) (date y) p q = ap date (one_date d x y p.0 q.0)
one_leaf k d (text x) (text y) p q = cc
one_leaf k d (bytes x) (bytes y) p q = cc
one_leaf k d a b p q = let same = sorted k a p.1 ∙ sym (sorted k b q.1) in cc

pub leaf_fits : (k : Scalar) (d : Data) (a : Atom) → LeafSpells k d a → atom_fits k a ≡ true
leaf_fits k d a h = h.1

-- ---- what is printed is read back

integer_back : (z : ℤ) → IsInteger (number (of_integer z)) z
integer_back (pos n) = refl
integer_back (negsuc n) = refl

date_back : (n : ℤ) (b : Bool) → has_text n ≡ b → SpellsAtom (date_json n) (date n)
date_back n true h = rw h (inr (day_text n, refl, (refl, refl)))
date_back n false h = rw h (inl (integer_back n))

spells_back : (k : Scalar) (a : Atom) → atom_fits k a ≡ true → SpellsAtom (atom_json a) a
spells_back k (bool b) h = refl
spells_back k (int z) h = integer_back z
spells_back k (date n) h = date_back n (has_text n) refl
spells_back k (text s) h = refl
spells_back k (bytes bs) h = (encode_lower bs, refl, decode_of-encode_lower bs (bytes_below bs (and_parts (is_kind kind.Binary k) (are_bytes bs) h).1))

-- a string under STRING spells its text
pub text_spells : (k : Scalar) (s b : List ℕ) → k ≡ kind.String → b ≡ s → is_utf8 s ≡ true → LeafSpells k (string s) (text b)
text_spells k s b is same utf8 = (ap string (sym same), rw (is, same, utf8) refl)

pub leaf_back : (k : Scalar) (a : Atom) → atom_fits k a ≡ true → LeafSpells k (atom_json a) a
leaf_back k a h = (spells_back k a h, h)

-- ---- what is refused spells nothing

no_numbers : (k : Scalar) (z : ℤ) → takes_numbers k ≡ false → (atom_fits k (int z) ≡ false) × (atom_fits k (date z) ≡ false)
no_numbers kind.Boolean z h = (refl, refl)
no_numbers kind.String z h = (refl, refl)
no_numbers kind.Binary z h = (refl, refl)
no_numbers _ z h = cc

no_strings : (k : Scalar) → takes_strings k ≡ false → (is_kind kind.String k ≡ false) × (is_kind kind.Binary k ≡ false) × (is_kind kind.Date k ≡ false)
no_strings kind.String h = cc
no_strings kind.Binary h = cc
no_strings kind.Date h = cc
no_strings _ h = (refl, refl, refl)

no_date : (k : Scalar) (z : ℤ) → is_kind kind.Date k ≡ false → atom_fits k (date z) ≡ false
no_date k z h = rw h refl

pub misfit_none : (k : Scalar) (d : Data) (a : Atom) → IsMisfit k d → LeafSpells k d a → ⊥
misfit_none k null a m h = absurd m
misfit_none k (boolean b) (bool c) m h = cc (h.1)
misfit_none k (boolean b) (int z) m h = cc (h.0)
misfit_none k (boolean b) (date z) m h = elim h.0 [ inl x ↦ cc | inr x ↦ cc (x.1) ]
misfit_none k (boolean b) (text s) m h = cc (h.0)
misfit_none k (boolean b) (bytes bs) m h = cc (h.0.1)
misfit_none k (number n) (bool c) m h = cc (h.0)
misfit_none k (number n) (int z) (inl m) h = cc (h.1, (no_numbers k z m).0)
misfit_none k (number n) (int z) (inr m) h = cc (h.0)
misfit_none k (number n) (date z) (inl m) h = cc (h.1, (no_numbers k z m).1)
misfit_none k (number n) (date z) (inr m) h = elim h.0 [ inl x ↦ cc | inr x ↦ cc (x.1) ]
misfit_none k (number n) (text s) m h = cc (h.0)
misfit_none k (number n) (bytes bs) m h = cc (h.0.1)
misfit_none k (string s) (bool c) m h = cc (h.0)
misfit_none k (string s) (int z) m h = cc (h.0)
misfit_none k (string s) (date z) m h = cc (h.1, no_date k z (no_strings k m).2)
misfit_none k (string s) (text t) m h = cc (h.1, (no_strings k m).0)
misfit_none k (string s) (bytes bs) m h = cc (h.1, (no_strings k m).1)
misfit_none k (array ds) (bool c) m h = cc (h.0)
misfit_none k (array ds) (int z) m h = cc (h.0)
misfit_none k (array ds) (date z) m h = elim h.0 [ inl x ↦ cc | inr x ↦ cc (x.1) ]
misfit_none k (array ds) (text s) m h = cc (h.0)
misfit_none k (array ds) (bytes bs) m h = cc (h.0.1)
misfit_none k (object ms) (bool c) m h = cc (h.0)
misfit_none k (object ms) (int z) m h = cc (h.0)
misfit_none k (object ms) (date z) m h = elim h.0 [ inl x ↦ cc | inr x ↦ cc (x.1) ]
misfit_none k (object ms) (text s) m h = cc (h.0)
misfit_none k (object ms) (bytes bs) m h = cc (h.0.1)

not_string : (d : Data) (z : ℤ) → IsInteger d z → (s : List ℕ) → d ≡ string s → ⊥
not_string d z h s e = no_integer d s z e h

takers : (k : Scalar) → takes_numbers k ≡ true → (is_kind kind.Boolean k ≡ false) × (is_kind kind.String k ≡ false) × (is_kind kind.Binary k ≡ false)
takers kind.Boolean h = cc
takers kind.String h = cc
takers kind.Binary h = cc
takers _ h = (refl, refl, refl)

pub range_none : (k : Scalar) (d : Data) (a : Atom) → IsOutOfRange k d → LeafSpells k d a → ⊥
range_none k d (bool b) r h = cc (h.1, (takers k r.0).0)
range_none k d (text s) r h = cc (h.1, (takers k r.0).1)
range_none k d (bytes bs) r h = cc (h.1, (takers k r.0).2)
range_none k d (int z) r h =
    let same : r.1.0 ≡ z = cc (h.0, r.1.1) in
    cc (h.1, subst (λ y. atom_fits k (int y) ≡ false) same r.1.2)
range_none k d (date z) r h = elim h.0 [
  | inl x ↦ let same : r.1.0 ≡ z = cc (r.1.1) in cc (h.1, subst (λ y. atom_fits k (date y) ≡ false) same r.1.3)
  | inr x ↦ not_string d r.1.0 r.1.1 x.0 x.1
]

one_string : (s t : List ℕ) (d : Data) → d ≡ string s → d ≡ string t → s ≡ t
one_string s t d x y = cc

bad_date_at : (k : Scalar) (d : Data) (a : Atom) (b : IsBadDate k d) → sort_of a ≡ dates → SpellsAtom d a → ⊥
bad_date_at k d (bool b) x e h = cc
bad_date_at k d (int z) x e h = cc
bad_date_at k d (date n) x e (inl h) = not_string d n h x.1.0 x.1.1
bad_date_at k d (date n) x e (inr h) =
    let same : h.0 ≡ x.1.0 = one_string h.0 x.1.0 d h.1 x.1.1 in
    x.1.2 n (subst (λ s. IsDayText s n) same h.2)
bad_date_at k d (text s) x e h = cc
bad_date_at k d (bytes bs) x e h = cc

date_kind : (k : Scalar) → is_kind kind.Date k ≡ true → kind_sort k ≡ dates
date_kind kind.Date h = refl
date_kind _ h = cc

binary_kind : (k : Scalar) → is_kind kind.Binary k ≡ true → kind_sort k ≡ blobs
binary_kind kind.Binary h = refl
binary_kind _ h = cc

pub bad_date_none : (k : Scalar) (d : Data) (a : Atom) → IsBadDate k d → LeafSpells k d a → ⊥
bad_date_none k d a b h = bad_date_at k d a b (sorted k a h.1 ∙ date_kind k b.0) h.0

bad_hex_at : (k : Scalar) (d : Data) (a : Atom) → IsBadHex k d → sort_of a ≡ blobs → SpellsAtom d a → ⊥
bad_hex_at k d (bool b) x e h = cc
bad_hex_at k d (int z) x e h = cc
bad_hex_at k d (date n) x e h = cc
bad_hex_at k d (text s) x e h = cc
bad_hex_at k d (bytes bs) x e h =
    let same : h.0 ≡ x.1.0 = one_string h.0 x.1.0 d h.1 x.1.1 in
    x.1.2 bs (subst (λ s. IsHex s bs) same h.2)

pub bad_hex_none : (k : Scalar) (d : Data) (a : Atom) → IsBadHex k d → LeafSpells k d a → ⊥
bad_hex_none k d a b h = bad_hex_at k d a b (sorted k a h.1 ∙ binary_kind k b.0) h.0

-- of the faults that stand, none but want of memory goes with a value
pub leaf_none : (k : Scalar) (d : Data) (a : Atom) (f : JsonFault) → LeafSpells k d a → LeafFault k d f → f ≡ fault.OutOfMemory
leaf_none k d a fault.Syntax h x = absurd x
leaf_none k d a fault.WrongShape h x = absurd (misfit_none k d a x h)
leaf_none k d a fault.Range h x = absurd (range_none k d a x h)
leaf_none k d a fault.UnknownField h x = absurd x
leaf_none k d a fault.DuplicateField h x = absurd x
leaf_none k d a fault.BadDate h x = absurd (bad_date_none k d a x h)
leaf_none k d a fault.BadHex h x = absurd (bad_hex_none k d a x h)
leaf_none k d a fault.OutOfMemory h x = refl

-- ---- null

pub null_no_leaf : (k : Scalar) (a : Atom) → LeafSpells k null a → ⊥
null_no_leaf k (bool b) h = cc (h.0)
null_no_leaf k (int z) h = cc (h.0)
null_no_leaf k (date n) h = elim h.0 [ inl x ↦ cc x | inr x ↦ cc (x.1) ]
null_no_leaf k (text s) h = cc (h.0)
null_no_leaf k (bytes bs) h = cc (h.0.1)

pub null_no_fault : (k : Scalar) (f : JsonFault) → LeafFault k null f → f ≡ fault.OutOfMemory
null_no_fault k fault.Range h = cc (h.1.1)
null_no_fault k fault.BadDate h = cc (h.1.1)
null_no_fault k fault.BadHex h = cc (h.1.1)
null_no_fault k fault.OutOfMemory h = refl
null_no_fault k _ h = absurd h

-- ---- one fault at most, but for memory

misfit_range : (k : Scalar) (d : Data) → IsMisfit k d → IsOutOfRange k d → ⊥
misfit_range k null m r = absurd m
misfit_range k (boolean b) m r = cc (r.1.1)
misfit_range k (number n) (inl m) r = cc (r.0)
misfit_range k (number n) (inr m) r = cc (r.1.1)
misfit_range k (string s) m r = cc (r.1.1)
misfit_range k (array ds) m r = cc (r.1.1)
misfit_range k (object ms) m r = cc (r.1.1)

misfit_string : (k : Scalar) (d : Data) (s : List ℕ) → IsMisfit k d → d ≡ string s → takes_strings k ≡ false
misfit_string k null s m e = absurd m
misfit_string k (boolean b) s m e = cc
misfit_string k (number n) s m e = cc
misfit_string k (string t) s m e = m
misfit_string k (array ds) s m e = cc
misfit_string k (object ms) s m e = cc

misfit_date : (k : Scalar) (d : Data) → IsMisfit k d → IsBadDate k d → ⊥
misfit_date k d m b = cc (b.0, (no_strings k (misfit_string k d b.1.0 m b.1.1)).2)

misfit_hex : (k : Scalar) (d : Data) → IsMisfit k d → IsBadHex k d → ⊥
misfit_hex k d m b = cc (b.0, (no_strings k (misfit_string k d b.1.0 m b.1.1)).1)

range_date : (k : Scalar) (d : Data) → IsOutOfRange k d → IsBadDate k d → ⊥
range_date k d r b = no_integer d b.1.0 r.1.0 b.1.1 r.1.1

range_hex : (k : Scalar) (d : Data) → IsOutOfRange k d → IsBadHex k d → ⊥
range_hex k d r b = no_integer d b.1.0 r.1.0 b.1.1 r.1.1

date_hex : (k : Scalar) (d : Data) → IsBadDate k d → IsBadHex k d → ⊥
date_hex k d a b = let same = sym (date_kind k a.0) ∙ binary_kind k b.0 in cc

pub one_fault : (k : Scalar) (d : Data) (f g : JsonFault) → LeafFault k d f → LeafFault k d g → (f ≡ g) ⊎ ((f ≡ fault.OutOfMemory) ⊎ (g ≡ fault.OutOfMemory))
one_fault k d fault.OutOfMemory g x y = inr (inl refl)
one_fault k d f fault.OutOfMemory x y = inr (inr refl)
one_fault k d fault.WrongShape fault.WrongShape x y = inl refl
one_fault k d fault.Range fault.Range x y = inl refl
one_fault k d fault.BadDate fault.BadDate x y = inl refl
one_fault k d fault.BadHex fault.BadHex x y = inl refl
one_fault k d fault.WrongShape fault.Range x y = absurd (misfit_range k d x y)
one_fault k d fault.WrongShape fault.BadDate x y = absurd (misfit_date k d x y)
one_fault k d fault.WrongShape fault.BadHex x y = absurd (misfit_hex k d x y)
one_fault k d fault.Range fault.WrongShape x y = absurd (misfit_range k d y x)
one_fault k d fault.Range fault.BadDate x y = absurd (range_date k d x y)
one_fault k d fault.Range fault.BadHex x y = absurd (range_hex k d x y)
one_fault k d fault.BadDate fault.WrongShape x y = absurd (misfit_date k d y x)
one_fault k d fault.BadDate fault.Range x y = absurd (range_date k d y x)
one_fault k d fault.BadDate fault.BadHex x y = absurd (date_hex k d x y)
one_fault k d fault.BadHex fault.WrongShape x y = absurd (misfit_hex k d y x)
one_fault k d fault.BadHex fault.Range x y = absurd (range_hex k d y x)
one_fault k d fault.BadHex fault.BadDate x y = absurd (date_hex k d y x)
one_fault k d fault.Syntax g x y = absurd x
one_fault k d fault.UnknownField g x y = absurd x
one_fault k d fault.DuplicateField g x y = absurd x
one_fault k d f fault.Syntax x y = absurd y
one_fault k d f fault.UnknownField x y = absurd y
one_fault k d f fault.DuplicateField x y = absurd y
