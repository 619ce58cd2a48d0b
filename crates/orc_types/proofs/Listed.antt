-- The types of fields, one after the other.
use Rattle.std.proofs.Common.{◌≡◌, ℕ, suc, ◌+◌, ◌<◌, List, [], ◌∷◌, ◌++◌, arith, length, get_or, drop, ap, ◌∙◌, append_assoc, length-append}
use Rattle.orc_values.specs.Shapes.{Shape, map_of, width}
use Rattle.orc_wire.specs.Types.{types, fields_types}
use Rattle.orc_values.specs.Views.{shape, fields}
use Rattle.orc_values.specs.declared.tree.Field.{Field}
use Rattle.orc_wire.specs.declared.type_msg.TypeMsg.{TypeMsg}
use Rattle.orc_values.proofs.Listed.{fields_from}
use Rattle.orc_types.proofs.Trees.{length-types}

pub types_more : (fs : List Field) (i : ℕ) (f : Field) (a b : List TypeMsg) → i < length fs → f ≡ get_or fs i f → b ≡ a ++ types (shape f.tree) (length a)
    → b ++ fields_types (fields (drop (suc i) fs)) (length b) ≡ a ++ fields_types (fields (drop i fs)) (length a)
types_more fs i f a b h is e =
    let len : length b ≡ length a + width (shape f.tree) = ap length e ∙ length-append a (types (shape f.tree) (length a)) ∙ ap (λ n. length a + n) (length-types (shape f.tree) (length a)) in
    rw (fields_from fs i f h is, len, e) (append_assoc a (types (shape f.tree) (length a)) (fields_types (fields (drop (suc i) fs)) (length a + width (shape f.tree))))

abbrev pub map_type : ℕ → ℕ → List ℕ → TypeMsg
map_type n w o = record { kind = 11; subtypes = n ∷ (n + w) ∷ []; field_names = []; kept = o }

pub map_listed : (a b d all : List TypeMsg) (m : TypeMsg) (s t : Shape) (o : List ℕ) → m ≡ map_type (length a + 1) (width s) o → b ≡ a ++ m ∷ []
    → d ≡ b ++ types s (length b) → all ≡ d ++ types t (length d) → all ≡ a ++ types (map_of s t o) (length a)
map_listed a b d all m s t o mm bb dd aa =
    let n = length a + 1 in
    let first : length b ≡ n = ap length bb ∙ length-append a (m ∷ []) in
    let second : length d ≡ n + width s = ap length dd ∙ length-append b (types s (length b)) ∙ omega (arith, first, length-types s (length b)) in
    let both : d ≡ a ++ (m ∷ types s n) = dd ∙ ap (λ k. b ++ types s k) first ∙ ap (λ x. x ++ types s n) bb ∙ append_assoc a (m ∷ []) (types s n) in
    aa ∙ ap (λ k. d ++ types t k) second ∙ ap (λ x. x ++ types t (n + width s)) both ∙ append_assoc a (m ∷ types s n) (types t (n + width s)) ∙ ap (λ y. a ++ (y ∷ (types s n ++ types t (n + width s)))) mm
