-- The cells of a struct's fields, beside the members of an object as they come.
use Rattle.std.proofs.Common.{◌≡◌, ℕ, zero, suc, ◌<◌, List, [], ◌∷◌, length, get_or, replicate, Bool, true, false, not, ◌||◌, Option, Some, None, string_bytes, bytes_eq, refl, sym, ap, ◌∙◌, subst, arith}
use Rattle.std.proofs.Math.ListN.{set, length-set}
use Rattle.std.proofs.lemmas.Bool.{and_parts, not-true, or_parts}
use Rattle.std.proofs.lemmas.Slice.Eq.{bytes_eq-Decides}
use Rattle.json.specs.Token.{Token}
use Rattle.json.specs.Json.{read_key}
use Rattle.serde_json.specs.Data.{Data, object, Members, no_members, put}
use Rattle.serde_json.specs.Find.{get_member}
use Rattle.serde_json.proofs.Views.{get_member-put, get_member-put_other}
use Rattle.orc_values.specs.Cells.{Cells, end, more, cells_of}
use Rattle.orc_json_rows.specs.FieldNames.{is_among, all_differ}
use Rattle.orc_json_rows.specs.JsonRows.{JsonSpells, MemberSpells, FieldsSpell}
use Rattle.orc_values.specs.Shapes.{Shape, Fields, no_field, field, names_of}
use Rattle.orc_values.specs.Views.{view, views, shape, fields}
use Rattle.orc_values.specs.declared.tree.Field.{Field}
use Rattle.orc_values.specs.declared.value.Value.{Value}
use Rattle.orc_values.proofs.Views.{name_and_type-is}
use Rattle.orc_json_reader.specs.Fronts.{ValueFront, MembersFront, MembersSpell}
use Rattle.orc_json_reader.specs.Frontier.{read_up_to}
use Rattle.orc_json_reader.proofs.FrontierLemmas.{read_up_to-length, read_up_to-none}
use Rattle.orc_json_reader.proofs.MemberLemmas.{MembersGo, members_first, members_next, members_last}
use Rattle.orc_json_rows.proofs.JsonBack.{put_known}

-- ---- names

apart : (n k : List ℕ) → bytes_eq n k ≡ false → n ≡ k → ⊥
apart n k e same = let t : bytes_eq n k ≡ true = (bytes_eq-Decides n k).1 same in cc

-- the field at a place has the name and the type
abbrev pub IsField : Fields → ℕ → List ℕ → Shape → Type 0
IsField no_field i k t = ⊥
IsField (field n s fs) zero k t = (n ≡ k) × (s ≡ t)
IsField (field n s fs) (suc i) k t = IsField fs i k t

pub field_at : (fs : List Field) (i : ℕ) (f : Field) → i < length fs → f ≡ get_or fs i f → IsField (fields fs) i (string_bytes f.name) (shape f.tree)
field_at [] i f h is = absurd (omega (arith, h))
field_at (g ∷ fs) zero f h is = let e = name_and_type-is g in (ap (λ x. x.0) e ∙ ap (λ (x : Field). string_bytes x.name) (sym is), ap (λ x. x.1) e ∙ ap (λ (x : Field). shape x.tree) (sym is))
field_at (g ∷ fs) (suc i) f h is = field_at fs i f (omega (arith, h)) is

among_at : (fs : Fields) (i : ℕ) (k : List ℕ) (t : Shape) → IsField fs i k t → is_among (names_of fs) k ≡ true
among_at no_field i k t h = absurd h
among_at (field n s fs) zero k t h = let e : bytes_eq n k ≡ true = (bytes_eq-Decides n k).1 h.0 in rw e refl
among_at (field n s fs) (suc i) k t h = or_later (bytes_eq n k) (is_among (names_of fs) k) (among_at fs i k t h) where
  or_later : (a b : Bool) → b ≡ true → (a || b) ≡ true
  or_later true b e = refl
  or_later false b e = e

-- ---- a member more

-- a key that is none of the names changes nothing of their fields
fields_other : (fs : Fields) (k : List ℕ) (d : Data) (ms : Members) (cs : Cells) → is_among (names_of fs) k ≡ false → FieldsSpell fs (object ms) cs → FieldsSpell fs (object (put k d ms)) cs
fields_other no_field k d ms end h s = tt
fields_other no_field k d ms (more c cs) h s = absurd s
fields_other (field n t fs) k d ms end h s = absurd s
fields_other (field n t fs) k d ms (more c cs) h s =
    let p = or_parts (bytes_eq n k) (is_among (names_of fs) k) h in (
      subst (λ (o : Option Data). MemberSpells (λ e x. JsonSpells t e x) o c) (sym (get_member-put_other n k d ms (apart n k p.0))) s.0,
      fields_other fs k d ms cs p.1 s.1,
    )

-- what a name's member spells takes the place of its field's cell
fields_put : (fs : Fields) (i : ℕ) (k : List ℕ) (t : Shape) (d : Data) (ms : Members) (rows : List (Option Value)) (r : Option Value) → IsField fs i k t → all_differ (names_of fs) ≡ true → JsonSpells t d (view r)
    → FieldsSpell fs (object ms) (cells_of (views rows)) → FieldsSpell fs (object (put k d ms)) (cells_of (views (set rows i r)))
fields_put no_field i k t d ms rows r at differ one spell = absurd at
fields_put (field n s fs) i k t d ms [] r at differ one spell = absurd spell
fields_put (field n s fs) zero k t d ms (q ∷ rows) r at differ one spell =
    let p = and_parts (not (is_among (names_of fs) n)) (all_differ (names_of fs)) differ in
    let found : get_member n (put k d ms) ≡ Some d = ap (λ (x : List ℕ). get_member x (put k d ms)) at.0 ∙ get_member-put k d ms in
    let new : is_among (names_of fs) k ≡ false = ap (is_among (names_of fs)) (sym at.0) ∙ not-true (is_among (names_of fs) n) p.0 in (
      subst (λ (o : Option Data). MemberSpells (λ e x. JsonSpells s e x) o (view r)) (sym found) (subst (λ (u : Shape). JsonSpells u d (view r)) (sym at.1) one),
      fields_other fs k d ms (cells_of (views rows)) new spell.1,
    )
fields_put (field n s fs) (suc i) k t d ms (q ∷ rows) r at differ one spell =
    let p = and_parts (not (is_among (names_of fs) n)) (all_differ (names_of fs)) differ in
    let new : is_among (names_of fs) n ≡ false = not-true (is_among (names_of fs) n) p.0 in
    let other : n ≡ k → ⊥ = λ same. let t : is_among (names_of fs) n ≡ true = ap (is_among (names_of fs)) same ∙ among_at fs i k t at in cc in (
      subst (λ (o : Option Data). MemberSpells (λ e x. JsonSpells s e x) o (view q)) (sym (get_member-put_other n k d ms other)) spell.0,
      fields_put fs i k t d ms rows r at p.1 one spell.1,
    )

-- ---- the rows of the fields so far

pub record FieldsGo (fs : List Field) (depth : ℕ) (start now : List Token) (rows : List (Option Value)) : Type 0 where
  pub found : Members
  pub go : MembersGo depth start now found
  pub as_many : length rows ≡ length fs
  pub are : MembersSpell (fields fs) found (cells_of (views rows))

nulls_spell : (fs : List Field) → FieldsSpell (fields fs) (object no_members) (cells_of (views (replicate (length fs) None)))
nulls_spell [] = tt
nulls_spell (f ∷ fs) = (refl, nulls_spell fs)

pub fields_first : (fs : List Field) (depth : ℕ) (start : List Token) (rows : List (Option Value)) → length rows ≡ length fs → FieldsGo fs depth start start (read_up_to 0 rows)
fields_first fs depth start rows e =
    let none : read_up_to 0 rows ≡ replicate (length fs) None = read_up_to-none rows ∙ ap (λ (n : ℕ). replicate n None) e in
    record {
      found = no_members;
      go = members_first depth start;
      as_many = read_up_to-length 0 rows ∙ e;
      are = (refl, subst (λ (xs : List (Option Value)). FieldsSpell (fields fs) (object no_members) (cells_of (views xs))) (sym none) (nulls_spell fs));
    }

pub fields_next : (fs : List Field) (depth : ℕ) (start now s r : List Token) (rows : List (Option Value)) (k : List ℕ) (i : ℕ) (f : Field) (row : Option Value) → i < length fs → f ≡ get_or fs i f → string_bytes f.name ≡ k
    → all_differ (names_of (fields fs)) ≡ true → read_key now ≡ Some (Some k, s) → ValueFront (λ d. JsonSpells (shape f.tree) d (view row)) depth s r → length s < length now → length r < length s
    → FieldsGo fs depth start now rows → FieldsGo fs depth start r (set rows i row)
fields_next fs depth start now s r rows k i f row lt is named differ key v less lesser w =
    let at : IsField (fields fs) i k (shape f.tree) = subst (λ (x : List ℕ). IsField (fields fs) i x (shape f.tree)) named (field_at fs i f lt is) in
    record {
      found = put k v.value w.found;
      go = members_next (λ d. JsonSpells (shape f.tree) d (view row)) depth start now s r k w.found key v less lesser w.go;
      as_many = length-set rows i row ∙ w.as_many;
      are = (put_known (names_of (fields fs)) k v.value w.found (among_at (fields fs) i k (shape f.tree) at) w.are.0, fields_put (fields fs) i k (shape f.tree) v.value w.found rows row at differ v.is w.are.1);
    }

pub fields_last : (fs : List Field) (depth : ℕ) (start now r : List Token) (rows : List (Option Value)) → read_key now ≡ Some (None, r) → FieldsGo fs depth start now rows
    → MembersFront (λ ms. MembersSpell (fields fs) ms (cells_of (views rows))) depth start r
fields_last fs depth start now r rows e w =
    let m = members_last depth start now r w.found e w.go in
    record { text = m.text; members = m.members; read = m.read; means = m.means; are = subst (λ (ms : Members). MembersSpell (fields fs) ms (cells_of (views rows))) (sym m.are) w.are }
