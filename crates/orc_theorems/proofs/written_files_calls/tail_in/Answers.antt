use Rattle.std.proofs.Common.{ℕ, List, sym, subst}
use Rattle.orc_io.proofs.Told.{at_told}
use Rattle.orc_tail.specs.Tails.{IsTail}
use Rattle.orc_tail.specs.declared.tail.Tail.{Tail}
use Rattle.orc_theorems.specs.Refusals.{IsSourceFault}
use Rattle.orc_theorems.proofs.written_files_calls.tail_in.Goals as goal

pub returns-in-Ok-clause-found : goal.returns-in-Ok-clause-found
returns-in-Ok-clause-found c =
    let opened = at_told _ c.args.bytes.now (λ (b : List ℕ). IsTail b c.in-Ok.file.tail) c.new.ensures.told c.in-Ok.ensures.found in
    subst (λ (t : Tail). IsTail c.args.bytes.now t) (sym c.into_parts-tail.ensures.0) opened

pub returns-in-Err-clause-only : goal.returns-in-Err-clause-only
returns-in-Err-clause-only c = λ tail is.
    at_told _ c.args.bytes.now (λ (b : List ℕ). (t : Tail) → IsTail b t → IsSourceFault c.in-Err.fault) c.new.ensures.told c.in-Err.ensures.only tail is
