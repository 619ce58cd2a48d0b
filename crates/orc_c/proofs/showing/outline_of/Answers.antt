use Rattle.std.proofs.Common.{◌≡◌, ◌≢◌, ◌++◌, ℕ, List, ap, Err, arith}
use Rattle.orc_tail.specs.Tails.{IsTail}
use Rattle.orc_tail.specs.declared.tail.Tail.{Tail}
use Rattle.orc_cli_output.specs.Output.{write_failed, IsNotOpened, IsOutsideFile}
use Rattle.orc_cli_show.specs.Show.{show_lines}
use Rattle.orc_c.proofs.ToldLemmas.{at_file, not_shown}
use Rattle.orc_c.proofs.showing.outline_of.Goals as goal

pub returns-in-Ok-clause-shown : goal.returns-in-Ok-clause-shown
returns-in-Ok-clause-shown c =
    let lines = c.show_to.new.out.items in
    let P : List ℕ → List ℕ → Type 0 = λ b o. (tail : Tail) × IsTail b tail × (lines ≡ o ++ show_lines tail) in
    at_file _ _ _ P c.new.ensures.told c.new-lines.ensures.items c.in-Ok.ensures.written

pub returns-in-Err-clause-refused : goal.returns-in-Err-clause-refused
returns-in-Err-clause-refused c =
    let e = c.in-Err.ensures in
    let was = c.in-Err.fault in
    let Why : List ℕ → List ℕ → Type 0 = λ b o. was ≢ write_failed → IsNotOpened b was in
    let Only : List ℕ → List ℕ → Type 0 = λ b o. (tail : Tail) → IsTail b tail → IsOutsideFile was in
    not_shown _ was _ c.told_of.ensures (λ failed. let rose : 0 ≡ 1 = e.source.failed (ap Err failed) in omega (arith, rose))
    (at_file _ _ _ Why c.new.ensures.told c.new-lines.ensures.items e.refused)
    (at_file _ _ _ Only c.new.ensures.told c.new-lines.ensures.items e.only)
