-- A column and those below it, one after the other.
use Rattle.std.proofs.Common.{◌≡◌, ℕ, suc, ◌+◌, ◌<◌, ◌-◌, ◌^◌, Bool, List, length, drop, get_or, refl, sym, ap, subst, inl, inr, arith}
use Rattle.orc_values.specs.Cells.{Cell, values}
use Rattle.orc_values.specs.Shapes.{Shape, scalar, list_of, map_of, struct_of, Fields, width, widths}
use Rattle.orc_values.specs.Views.{shape, fields as fields_view}
use Rattle.orc_values.specs.declared.tree.Field.{Field}
use Rattle.orc_values.specs.declared.kind.Scalar.{Scalar}
use Rattle.orc_values.proofs.Listed.{fields_from}
use Rattle.orc_column_reader.specs.Faults.{RowsFault}
use Rattle.orc_column_reader.specs.Stripe.{Streams}
use Rattle.orc_directory.specs.declared.fault.StripeFault.{StripeFault}
use Rattle.orc_directory.specs.declared.fault.StripeFault.TheVariants.{TooMany}
use Rattle.orc_column_walk.specs.OwnColumns.{IsOwnColumn, OwnDown, OwnWithin}
use Rattle.orc_column_walk.specs.OwnFaults.{SpellsNoCells, RefusedDown, RefusedWithin}
use Rattle.orc_column_walk.specs.OwnLeft.{children}
use Rattle.orc_values.proofs.Deeper.{width_pos, cells-zero}

-- a column's own cells, and how many children they have
abbrev pub OwnRead : Shape → (ℕ → Streams) → ℕ → ℕ → ℕ → Type 0
OwnRead s columns c n below = (own : List Cell) × IsOwnColumn s (columns c) n own × (below ≡ children s (values own))

next_column : (c d : ℕ) → d ≡ c + 1 → d ≡ suc c
next_column c d e = omega (arith, e)

-- ---- columns that spell cells

pub scalar_down : (s : Shape) (k : Scalar) (o : List ℕ) (columns : ℕ → Streams) (c n below : ℕ) → s ≡ scalar k o → OwnRead s columns c n below → OwnDown s columns c n
scalar_down s k o columns c n below is h =
    let r = subst (λ z. OwnRead z columns c n below) is h in subst (λ z. OwnDown z columns c n) (sym is) (r.0, r.1, tt)

pub list_down : (s t : Shape) (o : List ℕ) (columns : ℕ → Streams) (c d n below : ℕ) → s ≡ list_of t o → d ≡ c + 1 → OwnRead s columns c n below → OwnDown t columns d below → OwnDown s columns c n
list_down s t o columns c d n below is there h down =
    let r = subst (λ z. OwnRead z columns c n below) is h in
    let next = subst (λ (j : ℕ). OwnDown t columns j below) (next_column c d there) down in
    subst (λ z. OwnDown z columns c n) (sym is) (r.0, r.1, subst (λ (m : ℕ). OwnDown t columns (suc c) m) r.2 next)

pub map_down : (s k v : Shape) (o : List ℕ) (columns : ℕ → Streams) (c d second n below : ℕ) → s ≡ map_of k v o → d ≡ c + 1 → second ≡ d + width k → OwnRead s columns c n below
    → OwnDown k columns d below → OwnDown v columns second below → OwnDown s columns c n
map_down s k v o columns c d second n below is there behind h keys vals =
    let r = subst (λ z. OwnRead z columns c n below) is h in
    let e = next_column c d there in
    let f : second ≡ suc c + width k = omega (arith, behind, e) in
    let first = subst (λ (j : ℕ). OwnDown k columns j below) e keys in
    let other = subst (λ (j : ℕ). OwnDown v columns j below) f vals in
    subst (λ z. OwnDown z columns c n) (sym is) (
      r.0,
      r.1,
      (subst (λ (m : ℕ). OwnDown k columns (suc c) m) r.2 first, subst (λ (m : ℕ). OwnDown v columns (suc c + width k) m) r.2 other),
    )

pub struct_down : (s : Shape) (fs : Fields) (o : List ℕ) (columns : ℕ → Streams) (c d n below : ℕ) → s ≡ struct_of fs o → d ≡ c + 1 → OwnRead s columns c n below → OwnWithin fs columns d below → OwnDown s columns c n
struct_down s fs o columns c d n below is there h down =
    let r = subst (λ z. OwnRead z columns c n below) is h in
    let next = subst (λ (j : ℕ). OwnWithin fs columns j below) (next_column c d there) down in
    subst (λ z. OwnDown z columns c n) (sym is) (r.0, r.1, subst (λ (m : ℕ). OwnWithin fs columns (suc c) m) r.2 next)

-- ---- a column that is refused, or one below it

abbrev pub Refused : Shape → (ℕ → Streams) → ℕ → ℕ → StripeFault → Type 0
Refused s columns c n f = (all : Bool) × RefusedDown s columns c all n f

abbrev pub RefusedFields : Fields → (ℕ → Streams) → ℕ → ℕ → StripeFault → Type 0
RefusedFields fs columns c n f = (all : Bool) × RefusedWithin fs columns c all n f

pub refused_here : (s : Shape) (columns : ℕ → Streams) (c n : ℕ) (f : StripeFault) → (all : Bool) × SpellsNoCells s (columns c) c all n f → Refused s columns c n f
refused_here s columns c n f h = (h.0, inl h.1)

pub list_refused : (s t : Shape) (o : List ℕ) (columns : ℕ → Streams) (c d n below : ℕ) (f : StripeFault) → s ≡ list_of t o → d ≡ c + 1 → OwnRead s columns c n below → Refused t columns d below f → Refused s columns c n f
list_refused s t o columns c d n below f is there h down =
    let r = subst (λ z. OwnRead z columns c n below) is h in
    let next = subst (λ (j : ℕ). RefusedDown t columns j down.0 below f) (next_column c d there) down.1 in
    (down.0, subst (λ z. RefusedDown z columns c down.0 n f) (sym is) (inr (r.0, r.1, subst (λ (m : ℕ). RefusedDown t columns (suc c) down.0 m f) r.2 next)))

pub keys_refused : (s k v : Shape) (o : List ℕ) (columns : ℕ → Streams) (c d n below : ℕ) (f : StripeFault) → s ≡ map_of k v o → d ≡ c + 1 → OwnRead s columns c n below → Refused k columns d below f → Refused s columns c n f
keys_refused s k v o columns c d n below f is there h down =
    let r = subst (λ z. OwnRead z columns c n below) is h in
    let next = subst (λ (j : ℕ). RefusedDown k columns j down.0 below f) (next_column c d there) down.1 in
    (down.0, subst (λ z. RefusedDown z columns c down.0 n f) (sym is) (inr (r.0, r.1, inl (subst (λ (m : ℕ). RefusedDown k columns (suc c) down.0 m f) r.2 next))))

pub seconds_refused : (s k v : Shape) (o : List ℕ) (columns : ℕ → Streams) (c d second n below : ℕ) (f : StripeFault) → s ≡ map_of k v o → d ≡ c + 1 → second ≡ d + width k → OwnRead s columns c n below
    → Refused v columns second below f → Refused s columns c n f
seconds_refused s k v o columns c d second n below f is there behind h down =
    let r = subst (λ z. OwnRead z columns c n below) is h in
    let e : second ≡ suc c + width k = omega (arith, behind, there) in
    let next = subst (λ (j : ℕ). RefusedDown v columns j down.0 below f) e down.1 in
    (down.0, subst (λ z. RefusedDown z columns c down.0 n f) (sym is) (inr (r.0, r.1, inr (subst (λ (m : ℕ). RefusedDown v columns (suc c + width k) down.0 m f) r.2 next))))

pub struct_refused : (s : Shape) (fs : Fields) (o : List ℕ) (columns : ℕ → Streams) (c d n below : ℕ) (f : StripeFault) → s ≡ struct_of fs o → d ≡ c + 1 → OwnRead s columns c n below → RefusedFields fs columns d below f → Refused s columns c n f
struct_refused s fs o columns c d n below f is there h down =
    let r = subst (λ z. OwnRead z columns c n below) is h in
    let next = subst (λ (j : ℕ). RefusedWithin fs columns j down.0 below f) (next_column c d there) down.1 in
    (down.0, subst (λ z. RefusedDown z columns c down.0 n f) (sym is) (inr (r.0, r.1, subst (λ (m : ℕ). RefusedWithin fs columns (suc c) down.0 m f) r.2 next)))

-- ---- fields, one after the other

-- so many fields were read: what is said of the others is said of all
pub record FieldsRead (fields : List Field) (columns : ℕ → Streams) (first next count place : ℕ) : Type 0 where
  pub left : next + widths (fields_view (drop place fields)) ≡ first + widths (fields_view fields)
  pub found : OwnWithin (fields_view (drop place fields)) columns next count → OwnWithin (fields_view fields) columns first count
  pub refused : (f : StripeFault) → RefusedFields (fields_view (drop place fields)) columns next count f → RefusedFields (fields_view fields) columns first count f

pub none_read : (fields : List Field) (columns : ℕ → Streams) (first count : ℕ) → FieldsRead fields columns first first count 0
none_read fields columns first count = record { left = refl; found = λ h. h; refused = λ f h. h }

pub field_read : (fields : List Field) (columns : ℕ → Streams) (first next after count place : ℕ) (here : Field) → FieldsRead fields columns first next count place → place < length fields → here ≡ get_or fields place here
    → OwnDown (shape here.tree) columns next count → after ≡ next + width (shape here.tree) → FieldsRead fields columns first after count (suc place)
field_read fields columns first next after count place here r lt is down there =
    let e = fields_from fields place here lt is in
    record {
      left = omega (arith, r.left, there, ap widths e);
      found = λ h. r.found (subst (λ fs. OwnWithin fs columns next count) (sym e) (down, subst (λ (j : ℕ). OwnWithin (fields_view (drop (suc place) fields)) columns j count) there h));
      refused = λ f h. r.refused f (h.0, subst (λ fs. RefusedWithin fs columns next h.0 count f) (sym e) (inr (subst (λ (j : ℕ). RefusedWithin (fields_view (drop (suc place) fields)) columns j h.0 count f) there h.1)));
    }

pub field_refused : (fields : List Field) (columns : ℕ → Streams) (first next count place : ℕ) (here : Field) (f : StripeFault) → FieldsRead fields columns first next count place → place < length fields → here ≡ get_or fields place here
    → Refused (shape here.tree) columns next count f → RefusedFields (fields_view fields) columns first count f
field_refused fields columns first next count place here f r lt is h =
    let e = fields_from fields place here lt is in
    r.refused f (h.0, subst (λ fs. RefusedWithin fs columns next h.0 count f) (sym e) (inl h.1))

-- ---- more rows than a column may have cells

pub too_many_rows : (s : Shape) (columns : ℕ → Streams) (n : ℕ) → 2 ^ 31 - 1 < n → RowsFault s columns n (TooMany 0)
too_many_rows s columns n lt = record {
  none = λ rows r. let few = (r.column 0 (width_pos s)).few in omega (arith, few, ap length (cells-zero s rows), r.counted, lt);
  reason = inl (refl, omega (arith, lt));
}
