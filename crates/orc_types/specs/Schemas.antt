-- Schemas (ORC specification, "Types"), within the limits that this project sets.
use Rattle.std.specs.Prelude.{◌≡◌, ◌≤◌, List, Bool, ◌==◌, ℕ}
use Rattle.std.specs.List.{AllByRecursion}
use Rattle.std.specs.Ordering.{eq_of_both, on}
use Rattle.std.specs.Cmp.{IsEquivalence}
use Rattle.std.specs.Cmp.Lexicographic.{pointwise}
use Rattle.std.proofs.lemmas.Cmp.{on_equiv, and_equiv, lists_equiv, nat_eq_equiv, nat_list_eq_equiv}
use Rattle.orc_wire.specs.declared.type_msg.TypeMsg.{TypeMsg}
use Rattle.orc_values.specs.Shapes.{Shape, width, depth, IsStruct, HasTextNames}
use Rattle.orc_wire.specs.Types.{types}
use Rattle.orc_json_rows.specs.FieldNames.{is_distinct}
use Rattle.orc_wire.specs.CanonicalKinds.{AreKept}
use Rattle.orc_trees.specs.SchemaText.{IsPlain, text}

-- what each type keeps is fields above 3
abbrev pub AllKept : List TypeMsg → Type 0
AllKept ts = AllByRecursion (λ t. AreKept 4 t.kept) ts

-- a schema's tree
pub record IsSchema (s : Shape) : Type 0 where
  pub root : IsStruct s
  pub names : HasTextNames s
  pub levels : depth s ≤ 32
  pub count : width s ≤ 4096
  pub kept : AllKept (types s 0)

-- a schema's tree, and its types
pub record HasTypes (s : Shape) (ts : List TypeMsg) : Type 0 where
  pub schema : IsSchema s
  pub listed : ts ≡ types s 0

-- what is kept of a schema: its types, and whether no struct names a field twice
pub record Keeps (s : Shape) (ts : List TypeMsg) (distinct : Bool) : Type 0 where
  pub types : HasTypes s ts
  pub names : distinct ≡ is_distinct s

-- two types are equal in each part, the bytes that they keep too
abbrev pub same_node : TypeMsg → TypeMsg → Bool
same_node = eq_of_both (on (λ t. t.kind) ◌==◌) (eq_of_both (on (λ t. t.subtypes) (pointwise ◌==◌))
    (eq_of_both (on (λ t. t.field_names) (pointwise (pointwise ◌==◌))) (on (λ t. t.kept) (pointwise ◌==◌))))

-- two schemas are equal where their types are
abbrev pub same_types : Shape → Shape → Bool
same_types = on (λ s. types s 0) (pointwise same_node)

-- so the comparison is an equivalence
pub same_types_equiv : IsEquivalence same_types
same_types_equiv =
    on_equiv (λ s. types s 0) (lists_equiv (and_equiv (on_equiv (λ (t : TypeMsg). t.kind) nat_eq_equiv)
    (and_equiv (on_equiv (λ (t : TypeMsg). t.subtypes) nat_list_eq_equiv)
    (and_equiv (on_equiv (λ (t : TypeMsg). t.field_names) (lists_equiv nat_list_eq_equiv)) (on_equiv (λ (t : TypeMsg). t.kept) nat_list_eq_equiv)))))

-- a schema whose types keep no other fields, and its text
pub record HasText (s : Shape) (bytes : List ℕ) : Type 0 where
  pub schema : IsSchema s
  pub plain : IsPlain s
  pub spelled : bytes ≡ text s
