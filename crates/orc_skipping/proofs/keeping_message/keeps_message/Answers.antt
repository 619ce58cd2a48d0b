use Rattle.std.proofs.Common.{◌≡◌, ◌∙◌, Some, true, sym, ap}
use Rattle.orc_stats.specs.declared.stat.Stat.{Stat}
use Rattle.orc_skipping.specs.Rules.{bold}
use Rattle.orc_skipping.specs.Tests.{predicate}
use Rattle.orc_skipping.proofs.Untold.{keeps_untold}
use Rattle.orc_skipping.proofs.keeping_message.keeps_message.Goals as goal

pub returns-in-None : goal.returns-in-None
returns-in-None c = record { kept = λ few. rw c.in-None.is (sym (keeps_untold (predicate c.args.test.now))) }

pub returns-in-Ok : goal.returns-in-Ok
returns-in-Ok c = record {
  kept = λ few. rw c.in-Some.is (c.keeps.ensures ∙ ap (λ (s : Stat). bold (λ _. Some s) (predicate c.args.test.now)) c.in-Ok.ensures.found);
}
