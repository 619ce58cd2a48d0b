use Rattle.std.proofs.Common.{◌≡◌, ◌<◌, ℕ, List, [], ◌∷◌, sym, subst}
use Rattle.orc_values.specs.Shapes.{width}
use Rattle.orc_tail.specs.Tails.{IsTail}
use Rattle.orc_tail.specs.declared.tail.Tail.{Tail}
use Rattle.orc_check.specs.RightIndexes.{StartsAtGroups}
use Rattle.orc_file_reader.specs.FileRows.{FileIs, rows_together}
use Rattle.orc_merge_laws.specs.Grouping.{input, one, and}
use Rattle.orc_theorems.specs.OneRunPositions.{ReadsOneRun}
use Rattle.orc_theorems.specs.SoughtGroups.{IsSoughtInFile}
use Rattle.orc_theorems.specs.Places.{IsPlace}
use Rattle.orc_theorems.proofs.StepLemmas.{wrote_pair, merge_of}
use Rattle.orc_theorems.proofs.RefusalLemmas.{WrittenLaw, device_fault, written_without}
use Rattle.orc_theorems.proofs.IndexesAsWritten.{files_indexed}
use Rattle.orc_theorems.proofs.written_positions_calls.join_and_seek.Goals as goal

pub returns-in-Ok-seek_in_file-clause-one_run : goal.returns-in-Ok-seek_in_file-clause-one_run
returns-in-Ok-seek_in_file-clause-one_run c = λ rows others first second.
    let a = c.args.first.now in
    let b = c.args.second.now in
    let file = c.in-Ok.joined in
    let wrote = wrote_pair a b file.tail file.bytes.items c.in-Ok.ensures.wrote in
    let is = c.writers_positions.ensures.in_merges (and (input a) (one (input b))) file.bytes.items (rows ∷ others ∷ []) wrote (first, (second, tt)) in
    let all = rows_together (rows ∷ others ∷ []) in
    let there = c.in-Ok-seek_in_file.ensures.sought is.0 all (subst (λ (x : List ℕ). FileIs x is.0 all) (sym c.deref.ensures.value) is.1)
    (subst (λ (x : List ℕ). ReadsOneRun x is.0 all) (sym c.deref.ensures.value) is.2) in
    (there.group.sought.present.one_run, there.group.sought.own.one_run)

pub returns-in-Ok-seek_in_file-clause-sought : goal.returns-in-Ok-seek_in_file-clause-sought
returns-in-Ok-seek_in_file-clause-sought c = λ rows others such.
    let files = c.args.first.now ∷ c.args.second.now ∷ [] in
    let file = c.in-Ok.joined in
    let out = file.bytes.items in
    let m = merge_of files file.tail out c.in-Ok.ensures.wrote in
    let is = c.writers_positions.ensures.merged files file.tail out (rows ∷ others ∷ []) m.0 m.1 such in
    let all = rows_together (rows ∷ others ∷ []) in
    let reads = c.writers_positions.ensures.one_run out file.tail all is.0 is.1 in
    let there = c.in-Ok-seek_in_file.ensures.sought file.tail all (subst (λ (x : List ℕ). FileIs x file.tail all) (sym c.deref.ensures.value) is.0)
    (subst (λ (x : List ℕ). ReadsOneRun x file.tail all) (sym c.deref.ensures.value) reads) in (
      out,
      file.tail,
      (file.tail, m.0),
      is.0,
      subst (λ (x : List ℕ). IsSoughtInFile x file.tail all c.args.stripe c.args.column c.args.group c.in-Ok-seek_in_file.sought) c.deref.ensures.value there,
    )

pub returns-in-Ok-clause-refused : goal.returns-in-Ok-clause-refused
returns-in-Ok-clause-refused c =
    let files = c.args.first.now ∷ c.args.second.now ∷ [] in
    let file = c.in-Ok.joined in
    let m = merge_of files file.tail file.bytes.items c.in-Ok.ensures.wrote in
    let opens = c.merge_theorem.ensures.opens files file.tail file.bytes.items m.0 m.1 in
    (file.tail, file.bytes.items, m.0, c.in-Err-seek_in_file.ensures.refused file.tail (subst (λ (x : List ℕ). IsTail x file.tail) (sym c.deref.ensures.value) opens))

pub returns-clause-refused : goal.returns-clause-refused
returns-clause-refused c = c.in-Err.ensures.refused

pub returns-clause-only : goal.returns-clause-only
returns-clause-only c = λ rows others first second tail out m place below.
    device_fault c.outcomes.ensures.none (c.args.first.now ∷ c.args.second.now ∷ []) tail out c.in-Err.fault m c.in-Err.ensures.refused

pub returns-in-Ok-clause-only : goal.returns-in-Ok-clause-only
returns-in-Ok-clause-only c = λ rows others first second tail out m place below.
    let a = c.args.first.now in
    let b = c.args.second.now in
    let files = a ∷ b ∷ [] in
    let file = c.in-Ok.joined in
    let there = c.deref.result.now in
    let all = rows_together (rows ∷ others ∷ []) in
    let mine = merge_of files file.tail file.bytes.items c.in-Ok.ensures.wrote in
    let one : tail ≡ file.tail = (c.outcomes.ensures.one files file.tail tail file.bytes.items out mine.0 m).0 in
    let wrote : WrittenLaw = λ options schema t first told rs w. (w.told_is, (c.writers_positions.ensures.written options schema t first told rs w).0) in
    let x = written_without wrote c.written_finding_laws.ensures a rows first in
    let y = written_without wrote c.written_finding_laws.ensures b others second in
    let is = c.findings_of_merges.ensures.merged files file.tail file.bytes.items (rows ∷ others ∷ []) mine.0 mine.1 (x, (y, tt)) in
    let indexes = (c.writers_positions.ensures.merged files file.tail file.bytes.items (rows ∷ others ∷ []) mine.0 mine.1
    (files_indexed files (rows ∷ others ∷ []) (first, (second, tt)))).1 in
    c.in-Err-seek_in_file.ensures.only file.tail all (subst (λ (z : List ℕ). FileIs z file.tail all) (sym c.deref.ensures.value) is.0)
    (subst (λ (z : List ℕ). ReadsOneRun z file.tail all) (sym c.deref.ensures.value) (c.writers_positions.ensures.one_run file.bytes.items file.tail all is.0 indexes))
    (subst (λ (z : List ℕ). StartsAtGroups z file.tail all) (sym c.deref.ensures.value) (c.reading_from_the_middle.ensures.starts file.bytes.items file.tail all is.0 is.1))
    (subst (λ (t : Tail). IsPlace t c.args.stripe c.args.group) one place) (subst (λ (t : Tail). c.args.column < width t.schema) one below)
