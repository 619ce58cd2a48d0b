use Rattle.std.proofs.Common.{◌≡◌, ◌++◌, drop}
use Rattle.orc_wire.specs.Fields.{sized}
use Rattle.orc_wire.specs.CanonicalText.{KeepsFront, list_text}
use Rattle.orc_wire.proofs.canonical.put_texts.Given as goal

abbrev pub invariant-loop-text : goal.invariant-loop-text
invariant-loop-text l = record {
  front : KeepsFront l.initial.out.items l.out.items;
  whole : l.out.items ++ list_text (λ t. sized t) l.n (drop l.text-index l.texts) ≡ l.initial.out.items ++ list_text (λ t. sized t) l.n l.texts;
}
