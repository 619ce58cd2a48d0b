use Rattle.std.proofs.Common.{◌≡◌, ◌++◌, ◌^◌, drop}
use Rattle.orc_wire.specs.CanonicalText.{KeepsFront, varints_text}
use Rattle.orc_wire.specs.CanonicalKinds.{AreBelow}
use Rattle.orc_wire.proofs.canonical.put_packed_u32.Given as goal

abbrev pub invariant-loop-number : goal.invariant-loop-number
invariant-loop-number l = record {
  front : KeepsFront l.initial.out.items l.out.items;
  whole : l.out.items ++ varints_text (drop l.number-index l.numbers) ≡ l.initial.out.items ++ varints_text l.numbers;
  bounded : AreBelow (2 ^ 32) (drop l.number-index l.numbers) → AreBelow (2 ^ 32) l.numbers;
}
