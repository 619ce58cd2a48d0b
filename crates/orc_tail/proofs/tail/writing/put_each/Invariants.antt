use Rattle.std.proofs.Common.{◌≡◌, ◌++◌, drop}
use Rattle.std.specs.List.{AllByRecursion}
use Rattle.orc_wire.specs.Fields.{sized}
use Rattle.orc_wire.specs.CanonicalText.{KeepsFront, list_text}
use Rattle.orc_tail.proofs.tail.writing.put_each.Given as goal

-- what is written and what is left to write are the whole
abbrev pub invariant-loop-message : goal.invariant-loop-message
invariant-loop-message g l = record {
  front : KeepsFront l.initial.out.items l.out.items;
  whole : l.out.items ++ list_text (λ m. sized (g.M.Message.canonical.text m)) l.n (drop l.message-index l.messages) ≡ l.initial.out.items ++ list_text (λ m. sized (g.M.Message.canonical.text m)) l.n l.messages;
  bounded : AllByRecursion (g.M.Message.canonical.bounded) (drop l.message-index l.messages) → AllByRecursion (g.M.Message.canonical.bounded) l.messages;
}
