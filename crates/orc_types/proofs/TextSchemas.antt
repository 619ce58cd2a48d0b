-- The schema that a text tells.
use Rattle.std.proofs.Common.{◌≡◌, ℕ, ◌+◌, ◌≤◌, List, [], sym, ap, ◌∙◌, arith, append-nil, ◌<◌, refl, subst}
use Rattle.orc_wire.specs.declared.type_msg.TypeMsg.{TypeMsg}
use Rattle.orc_wire.specs.CanonicalKinds.{AreKept}
use Rattle.orc_trees.specs.declared.fault.TypeFault.{TypeFault}
use Rattle.orc_trees.specs.declared.fault.TypeFault.TheVariants as fault
use Rattle.orc_values.specs.Shapes.{Shape, scalar, list_of, map_of, struct_of, Fields, no_field, field, width, IsStruct, HasTextNames, HaveTextNames, depth}
use Rattle.orc_wire.specs.Types.{types, fields_types}
use Rattle.orc_types.specs.Schemas.{AllKept, HasText}
use Rattle.orc_trees.specs.SchemaText.{text, IsPlain, ArePlain}
use Rattle.orc_trees.specs.TextFaults.{TextFault}
use Rattle.orc_trees.specs.TextFronts.{IsTypeFront}
use Rattle.orc_types.proofs.KeptFields.{none_kept}
use Rattle.orc_trees.proofs.OneText.{one_whole}
use Rattle.orc_trees.proofs.TextExclusion.{opens_tree}
use Rattle.orc_values.proofs.Lists.{all_append}

mutual
  plain_names : (s : Shape) → IsPlain s → HasTextNames s
  plain_names (scalar k o) plain = tt
  plain_names (list_of s o) plain = plain_names s plain.1
  plain_names (map_of s t o) plain = (plain_names s plain.1, plain_names t plain.2)
  plain_names (struct_of fs o) plain = all_plain_names fs plain.1

  all_plain_names : (fs : Fields) → ArePlain fs → HaveTextNames fs
  all_plain_names no_field plain = tt
  all_plain_names (field name s fs) plain = (plain.0, plain_names s plain.1, all_plain_names fs plain.2)

mutual
  plain_kept : (s : Shape) (n : ℕ) → IsPlain s → AllKept (types s n)
  plain_kept (scalar k o) n plain = (none_kept o plain, tt)
  plain_kept (list_of s o) n plain = (none_kept o plain.0, plain_kept s (n + 1) plain.1)
  plain_kept (map_of s t o) n plain =
      (none_kept o plain.0, all_append (λ (t : TypeMsg). AreKept 4 t.kept) (types s (n + 1)) (types t (n + 1 + width s)) (plain_kept s (n + 1) plain.1) (plain_kept t (n + 1 + width s) plain.2))
  plain_kept (struct_of fs o) n plain = (none_kept o plain.0, all_plain_kept fs (n + 1) plain.1)

  all_plain_kept : (fs : Fields) (n : ℕ) → ArePlain fs → AllKept (fields_types fs n)
  all_plain_kept no_field n plain = tt
  all_plain_kept (field name s fs) n plain =
      all_append (λ (t : TypeMsg). AreKept 4 t.kept) (types s n) (fields_types fs (n + width s)) (plain_kept s n plain.1) (all_plain_kept fs (n + width s) plain.2)

pub text_schema : (bytes : List ℕ) (s : Shape) → IsTypeFront bytes 32 s [] → IsStruct s → width s ≤ 4096 → HasText s bytes
text_schema bytes s found root count =
    record {
      schema = record { root = root; names = plain_names s found.plain; levels = found.depth; count = count; kept = plain_kept s 0 found.plain };
      plain = found.plain;
      spelled = found.spelled ∙ append-nil (text s);
    }

-- a fault that stands leaves no schema
pub no_text_schema : (bytes : List ℕ) (s : Shape) (f : TypeFault) → HasText s bytes → TextFault bytes f → f ≡ fault.OutOfMemory
no_text_schema bytes s (fault.UnsupportedKind k) h bad = absurd bad
no_text_schema bytes s fault.BadTree h bad = absurd bad
no_text_schema bytes s fault.TooDeep h bad =
    let deep : 32 < depth s = opens_tree s bytes [] 32 h.plain (h.spelled ∙ sym (append-nil (text s))) bad in
    absurd (omega (arith, h.schema.levels))
no_text_schema bytes s fault.TooMany h bad =
    let same : width bad.shape ≡ width s = ap width (one_whole bad.shape s bad.plain h.plain (sym bad.spelled ∙ h.spelled)) in
    absurd (omega (arith, h.schema.count, bad.wrong))
no_text_schema bytes s fault.RootNotStruct h bad =
    absurd (bad.wrong (subst IsStruct (one_whole s bad.shape h.plain bad.plain (sym h.spelled ∙ bad.spelled)) h.schema.root))
no_text_schema bytes s (fault.BadText place) h bad = absurd (bad.1 s h.plain h.spelled)
no_text_schema bytes s fault.OutOfMemory h bad = refl
