-- Types that keep other fields, and such that keep none.
use Rattle.std.proofs.Common.{◌≡◌, ℕ, List, [], ◌∷◌, ◌++◌}
use Rattle.orc_wire.specs.declared.type_msg.TypeMsg.{TypeMsg}
use Rattle.orc_wire.specs.CanonicalKinds.{AreKept}
use Rattle.orc_types.specs.Schemas.{AllKept}
use Rattle.orc_values.proofs.Lists.{all_append}

pub none_kept : (bytes : List ℕ) → bytes ≡ [] → AreKept 4 bytes
none_kept bytes e = record { fields = []; are = e; from = tt }

-- one more type
pub one_more_kept : (ts : List TypeMsg) (t : TypeMsg) → AllKept ts → AreKept 4 t.kept → AllKept (ts ++ t ∷ [])
one_more_kept ts t all kept = all_append (λ (x : TypeMsg). AreKept 4 x.kept) ts (t ∷ []) all (kept, tt)
