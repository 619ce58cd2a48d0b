use Rattle.std.proofs.Common.{◌≡◌, ◌<◌, ℕ, List, refl, sym, subst}
use Rattle.orc_values.specs.Shapes.{width}
use Rattle.orc_tail.specs.Tails.{IsTail}
use Rattle.orc_tail.specs.declared.tail.Tail.{Tail}
use Rattle.orc_file_reader.specs.FileRows.{FileIs, rows_together}
use Rattle.orc_check.specs.RightIndexes.{StartsAtGroups}
use Rattle.orc_merge_laws.specs.Grouping.{input, one, and}
use Rattle.orc_theorems.specs.Groupings.{pair}
use Rattle.orc_theorems.specs.OneRunPositions.{ReadsOneRun}
use Rattle.orc_theorems.specs.Places.{IsPlace}
use Rattle.orc_theorems.specs.SoughtGroups.{IsSoughtInFile}
use Rattle.orc_theorems.proofs.written_positions_calls.join_in_steps_and_seek.Goals as goal

pub returns-in-Ok-seek_in_file-clause-sought : goal.returns-in-Ok-seek_in_file-clause-sought
returns-in-Ok-seek_in_file-clause-sought c = λ parts such.
    let groups = and (pair c.args.first.now c.args.second.now) (one (input c.args.third.now)) in
    let out = c.in-Ok.steps.bytes.items in
    let all = rows_together parts in
    let is = c.writers_positions.ensures.grouped groups out parts c.in-Ok.ensures.wrote such in
    let reads = c.writers_positions.ensures.one_run out is.0 all is.1 is.2 in
    let there = c.in-Ok-seek_in_file.ensures.sought is.0 all (subst (λ (x : List ℕ). FileIs x is.0 all) (sym c.deref.ensures.value) is.1)
    (subst (λ (x : List ℕ). ReadsOneRun x is.0 all) (sym c.deref.ensures.value) reads) in (
      out,
      is.0,
      c.in-Ok.ensures.wrote,
      is.1,
      subst (λ (x : List ℕ). IsSoughtInFile x is.0 all c.args.stripe c.args.column c.args.group c.in-Ok-seek_in_file.sought) c.deref.ensures.value there,
    )

pub returns-in-Ok-clause-only : goal.returns-in-Ok-clause-only
returns-in-Ok-clause-only c = λ parts such without tail out wrote opens place below.
    let groups = and (pair c.args.first.now c.args.second.now) (one (input c.args.third.now)) in
    let mine = c.in-Ok.steps.bytes.items in
    let all = rows_together parts in
    let same : out ≡ mine = c.merge_theorem.ensures.alike groups groups mine out c.in-Ok.ensures.wrote wrote refl in
    let is = c.writers_positions.ensures.grouped groups mine parts c.in-Ok.ensures.wrote such in
    let reads = c.writers_positions.ensures.one_run mine is.0 all is.1 is.2 in
    let middle = c.reading_from_the_middle.ensures.merged groups mine parts c.in-Ok.ensures.wrote without in
    let starts : StartsAtGroups mine is.0 all = subst (λ (t : Tail). StartsAtGroups mine t all) (c.row_laws.ensures.one mine middle.0 is.0 all all middle.1 is.1).0 middle.3 in
    let its : tail ≡ is.0 = c.tail_laws.ensures.one mine tail is.0 (subst (λ (x : List ℕ). IsTail x tail) same opens) is.1.tail_is in
    c.in-Err-seek_in_file.ensures.only is.0 all (subst (λ (x : List ℕ). FileIs x is.0 all) (sym c.deref.ensures.value) is.1)
    (subst (λ (x : List ℕ). ReadsOneRun x is.0 all) (sym c.deref.ensures.value) reads) (subst (λ (x : List ℕ). StartsAtGroups x is.0 all) (sym c.deref.ensures.value) starts)
    (subst (λ (t : Tail). IsPlace t c.args.stripe c.args.group) its place) (subst (λ (t : Tail). c.args.column < width t.schema) its below)

pub returns-clause-only : goal.returns-clause-only
returns-clause-only c = λ parts such without tail out wrote opens place below. c.in-Err.ensures.step
