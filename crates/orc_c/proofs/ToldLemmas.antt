-- What is told of a command's fault over bytes in memory, whose source never fails.
use Rattle.std.proofs.Common.{◌≡◌, ◌≢◌, ◌⊎◌, ◌∙◌, ℕ, List, [], Option, Some, None, inl, inr, ◌∷◌, refl, sym, subst, map, slice_index}
use Rattle.std.proofs.Math.ListN.{get_or-map}
use Rattle.std.specs.Borrow.{Bor}
use Rattle.orc_values.specs.Shapes.{Shape}
use Rattle.orc_values.specs.Cells.{Cell}
use Rattle.orc_types.specs.Schemas.{HasText}
use Rattle.orc_row_batch.specs.declared.options.Options.{Options}
use Rattle.orc_tail.specs.Tails.{IsTail}
use Rattle.orc_tail.specs.declared.tail.Tail.{Tail}
use Rattle.orc_tail.specs.declared.fault.FileFault.TheVariants as file
use Rattle.orc_file_reader.specs.FileRows.{FileIs}
use Rattle.orc_merger.specs.Faults.{IsDeviceFault}
use Rattle.orc_merger.specs.Outcomes.{IsAnswer}
use Rattle.orc_merger.specs.declared.fault.MergeFault.{MergeFault}
use Rattle.orc_merger.specs.declared.fault.MergeFault.TheVariants as merge
use Rattle.orc_cli_output.specs.Output.{IsNotOpened, IsOutsideFile, IsWantOfMemory, write_failed}
use Rattle.orc_cli_output.specs.declared.fault.CliFault.{CliFault}
use Rattle.orc_cli_output.specs.declared.fault.CliFault.TheVariants.{File}
use Rattle.orc_cli_check.specs.Lines.{IsNotChecked, IsSourceOrMemory}
use Rattle.orc_cli_rows.specs.Rows.{HaveJson}
use Rattle.orc_cli_rows.specs.Printed.{RefusesPlace}
use Rattle.orc_cli_write.specs.Lines.{AreRowsOfLines}
use Rattle.orc_cli_write.specs.Writes.{IsOfWriter, RefusesWrite}
use Rattle.orc_c.specs.Memory.{ToldAs, MergeToldAs}
use Rattle.orc_c.specs.Refusals.{NotChecked, NotShown, NotPrinted, NotWritten, NotMerged}

-- a refusal that is neither the output's nor the source's
memory_of_check : (was : CliFault) → was ≢ write_failed → was ≢ File file.SourceFailed
    → (was ≡ write_failed) ⊎ IsSourceOrMemory was → was ≡ File file.OutOfMemory
memory_of_check was p s (inl e) = absurd (p e)
memory_of_check was p s (inr (inl e)) = absurd (s e)
memory_of_check was p s (inr (inr e)) = e

memory_alone : (was : CliFault) → was ≢ write_failed → was ≢ File file.SourceFailed → IsOutsideFile was → IsWantOfMemory was
memory_alone was p s (inl e) = absurd (p e)
memory_alone was p s (inr (inl e)) = absurd (s e)
memory_alone was p s (inr (inr m)) = m

limit_or_memory : (was : CliFault) → was ≢ write_failed → IsOfWriter was → (was ≡ File file.Limit) ⊎ IsWantOfMemory was
limit_or_memory was p (inl e) = inl e
limit_or_memory was p (inr (inl e)) = absurd (p e)
limit_or_memory was p (inr (inr m)) = inr m

pub not_checked : (bytes : List ℕ) (was told : CliFault) → ToldAs was told → was ≢ File file.SourceFailed
    → (was ≢ write_failed → IsNotChecked bytes was)
    → ((tail : Tail) (rows : List Cell) → FileIs bytes tail rows → (was ≡ write_failed) ⊎ IsSourceOrMemory was)
    → NotChecked bytes told
not_checked bytes was told (inl (p, q)) source why only = record {
  why = inr (inr q);
  source = λ e. cc;
  output = λ e. cc;
  only = λ tail rows is. q;
}
not_checked bytes was told (inr (p, q)) source why only = record {
  why = subst (IsNotChecked bytes) (sym q) (why p);
  source = λ e. source (sym q ∙ e);
  output = λ e. p (sym q ∙ e);
  only = λ tail rows is. q ∙ memory_of_check was p source (only tail rows is);
}

pub not_shown : (bytes : List ℕ) (was told : CliFault) → ToldAs was told → was ≢ File file.SourceFailed
    → (was ≢ write_failed → IsNotOpened bytes was) → ((tail : Tail) → IsTail bytes tail → IsOutsideFile was)
    → NotShown bytes told
not_shown bytes was told (inl (p, q)) source why only = record {
  why = inr (inr (inl q));
  source = λ e. cc;
  output = λ e. cc;
  only = λ tail is. inl q;
}
not_shown bytes was told (inr (p, q)) source why only = record {
  why = subst (IsNotOpened bytes) (sym q) (why p);
  source = λ e. source (sym q ∙ e);
  output = λ e. p (sym q ∙ e);
  only = λ tail is. subst IsWantOfMemory (sym q) (memory_alone was p source (only tail is));
}

pub not_printed : (bytes printed : List ℕ) (from : Option (Bor (List ℕ))) (was told : CliFault) → ToldAs was told
    → was ≢ File file.SourceFailed → RefusesPlace bytes from (Some []) (Some printed) was
    → (from ≡ None → (tail : Tail) (rows : List Cell) → FileIs bytes tail rows → HaveJson tail.schema rows → IsOutsideFile was)
    → NotPrinted bytes from told
not_printed bytes printed from was told (inl (p, q)) source why only = record {
  was = was;
  printed = printed;
  why = why;
  told = inl (p, q);
  source = λ e. cc;
  only = λ none tail rows is json. inl q;
}
not_printed bytes printed from was told (inr (p, q)) source why only = record {
  was = was;
  printed = printed;
  why = why;
  told = inr (p, q);
  source = λ e. source (sym q ∙ e);
  only = λ none tail rows is json. subst IsWantOfMemory (sym q) (memory_alone was p source (only none tail rows is json));
}

pub not_written : (schema : List ℕ) (options : Options) (lines written : List ℕ) (was told : CliFault) → ToldAs was told
    → RefusesWrite options schema lines (Some []) (Some written) was
    → ((s : Shape) (rows : List Cell) → HasText s schema → AreRowsOfLines s lines rows → IsOfWriter was)
    → NotWritten schema options lines told
not_written schema options lines written was told (inl (p, q)) why only = record {
  was = was;
  written = written;
  why = why;
  told = inl (p, q);
  only = λ s rows text are. inr (inl q);
}
not_written schema options lines written was told (inr (p, q)) why only = record {
  was = was;
  written = written;
  why = why;
  told = inr (p, q);
  only = λ s rows text are. subst (λ (fault : CliFault). (fault ≡ File file.Limit) ⊎ IsWantOfMemory fault) (sym q)
      (limit_or_memory was p (only s rows text are));
}

pub not_merged : (files : List (List ℕ)) (was told : MergeFault) → MergeToldAs was told
    → ((i : ℕ) → was ≢ merge.SourceFailed i) → IsAnswer files was → NotMerged files told
not_merged files was told (inl (p, q)) source why = record {
  why = inl (subst IsDeviceFault (sym q) tt);
  source = λ i e. cc;
  output = λ e. cc;
}
not_merged files was told (inr (p, q)) source why = record {
  why = subst (IsAnswer files) (sym q) why;
  source = λ i e. source i (sym q ∙ e);
  output = λ e. p (sym q ∙ e);
}

-- what is said of the bytes of a source, and of an output that had none, is said of the file
pub at_file : (bytes file old : List ℕ) (P : List ℕ → List ℕ → Type 0) → Some bytes ≡ Some file → old ≡ [] → P bytes old → P file []
at_file bytes file old P told empty said =
    let same : bytes ≡ file = cc in
    subst (λ (b : List ℕ). P b []) same (subst (λ (o : List ℕ). P bytes o) empty said)

-- sources that count no failure have none at any place
pub no_failure : {X : Type 0} (xs : List X) (i : ℕ) → slice_index (map (λ (x : X). 0) xs) i ≡ 0
no_failure [] i = refl
no_failure (x ∷ xs) i = get_or-map (λ y. 0) (x ∷ xs) i x
