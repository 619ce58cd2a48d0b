-- Why calls fail that write, read and join files, and what is read of files that were joined.
use Rattle.std.proofs.Common.{◌≡◌, ◌∙◌, ◌⊎◌, ℕ, ◌<◌, ◌+◌, arith, Bool, true, false, List, [], ◌∷◌, ◌++◌, length, Option, Some, Result, Ok, Err, inl, inr, refl, sym, ap, subst, append_assoc, append-nil}
use Rattle.std.specs.Prelude.{IfOk, IfErr}
use Rattle.std.proofs.lemmas.Bool.{false≢true}
use Rattle.orc_values.specs.Cells.{Cell}
use Rattle.orc_values.specs.Fits as fitting
use Rattle.orc_values.specs.Shapes.{Shape}
use Rattle.orc_wire.specs.declared.stripe_info.StripeInfo.{StripeInfo}
use Rattle.orc_row_batch.specs.declared.options.Options.{Options}
use Rattle.orc_io.specs.Devices.{appended}
use Rattle.orc_io.specs.Leaves.{HandsBackSink}
use Rattle.orc_tail.specs.Tails.{IsTail, TailOpenFault, ReadFault}
use Rattle.orc_tail.specs.declared.tail.Tail.{Tail}
use Rattle.orc_tail.specs.declared.fault.FileFault.{FileFault}
use Rattle.orc_tail.specs.declared.fault.FileFault.TheVariants.{Limit, RowShape, SourceFailed, WriteFailed, OutOfMemory, Failed}
use Rattle.orc_file_reader.specs.FileRows.{FileIs, FirstRefused, rows_together}
use Rattle.orc_file_writer.specs.Writing.{Progress, HasKept, IsWrittenFile, WroteWholeFile, rows_of, PassesBytes}
use Rattle.orc_file_writer.specs.RowLimits.{PassesByRows}
use Rattle.orc_check.specs.Checking.{CheckFault}
use Rattle.orc_check.specs.Findings.{Findings}
use Rattle.orc_merger.specs.declared.fault.MergeFault.{MergeFault}
use Rattle.orc_merger.specs.Merging.{IsMerge}
use Rattle.orc_merger.specs.Faults.{IsMergeRefused, IsDeviceFault}
use Rattle.orc_merger.specs.Outcomes.{WroteMerge, IsAnswer}
use Rattle.orc_merge_laws.specs.Grouping.{HaveRows}
use Rattle.orc_theorems.specs.WrittenIndexes.{WasWritten}
use Rattle.orc_theorems.specs.Refusals.{PassesAtRow, PassesAtStripe, IsWriteFault, IsReadFault, IsSourceFault, IsJoinFault, IsAppendFault, IsOutsideFiles}
use Rattle.orc_theorems.specs.declared.fault.CallFault.{CallFault}
use Rattle.orc_theorems.specs.declared.fault.CallFault.TheVariants.{File, Merge}
use Rattle.orc_theorems.proofs.Told.{bytes_are}
use Rattle.orc_theorems.proofs.StepLemmas.{merge_of}

-- ---- rows that aren't written

-- after the rows pushed come those of a stripe for which there are too many bytes
pub passes_at : (p : Progress) (first : Option (List ℕ)) (front : List Cell) (row : Cell) (more : List Cell) → HasKept p first front
    → PassesBytes p.options p.schema p.infos (p.kept ++ row ∷ []) → PassesAtStripe p.options p.schema (front ++ row ∷ more)
passes_at p first front row more h passes = record {
  stripes_written = h.stripes_written;
  are = h.are;
  full = h.full;
  last = p.kept ++ row ∷ [];
  rest = more;
  rows_are = ap (λ (l : List Cell). l ++ row ∷ more) h.rows_are ∙ append_assoc (rows_of h.stripes_written) p.kept (row ∷ more)
      ∙ ap (λ (l : List Cell). rows_of h.stripes_written ++ l) (sym (append_assoc p.kept (row ∷ []) more));
  passes = subst (λ (i : List StripeInfo). PassesBytes p.options p.schema i (p.kept ++ row ∷ [])) h.infos_are passes;
}

passes_at_end : (p : Progress) (first : Option (List ℕ)) (rows : List Cell) → HasKept p first rows
    → PassesBytes p.options p.schema p.infos p.kept → PassesAtStripe p.options p.schema rows
passes_at_end p first rows h passes = record {
  stripes_written = h.stripes_written;
  are = h.are;
  full = h.full;
  last = p.kept;
  rest = [];
  rows_are = h.rows_are ∙ ap (λ (l : List Cell). rows_of h.stripes_written ++ l) (sym (append-nil p.kept));
  passes = subst (λ (i : List StripeInfo). PassesBytes p.options p.schema i p.kept) h.infos_are passes;
}

limit_at : (options : Options) (s : Shape) (front : List Cell) (row : Cell) (more : List Cell) (failed : Bool)
    → (failed ≡ false → PassesByRows options s front row) → (failed ≡ true → PassesAtStripe options s (front ++ row ∷ more))
    → PassesAtRow options s (front ++ row ∷ more) ⊎ PassesAtStripe options s (front ++ row ∷ more)
limit_at options s front row more false few long = inl (record { front = front; row = row; rest = more; rows_are = refl; passes = few refl })
limit_at options s front row more true few long = inr (long refl)

-- why a push of a row between others fails
pub push_fault : (options : Options) (s : Shape) (front : List Cell) (row : Cell) (more : List Cell) (fault : FileFault) (failed : Bool)
    → (fault ≡ Failed) ⊎ ((fault ≡ RowShape) ⊎ ((fault ≡ Limit) ⊎ ((fault ≡ WriteFailed) ⊎ (fault ≡ OutOfMemory))))
    → (fault ≡ Failed → ⊥) → (fault ≡ RowShape → fitting.fits row s ≡ false)
    → (fault ≡ Limit → failed ≡ false → PassesByRows options s front row)
    → (fault ≡ Limit → failed ≡ true → PassesAtStripe options s (front ++ row ∷ more))
    → IsWriteFault options s (front ++ row ∷ more) fault
push_fault options s front row more fault failed (inl e) never shape few long = absurd (never e)
push_fault options s front row more fault failed (inr (inl e)) never shape few long =
    inr (inr (inl (e, record { front = front; row = row; rest = more; rows_are = refl; misfit = shape e })))
push_fault options s front row more fault failed (inr (inr (inl e))) never shape few long =
    inr (inr (inr (e, limit_at options s front row more failed (few e) (long e))))
push_fault options s front row more fault failed (inr (inr (inr (inl e)))) never shape few long = inl e
push_fault options s front row more fault failed (inr (inr (inr (inr e)))) never shape few long = inr (inl e)

end_fault : (options : Options) (s : Shape) (rows : List Cell) (fault : FileFault)
    → (fault ≡ Failed) ⊎ ((fault ≡ Limit) ⊎ ((fault ≡ WriteFailed) ⊎ (fault ≡ OutOfMemory)))
    → (fault ≡ Failed → ⊥) → (fault ≡ Limit → PassesAtStripe options s rows) → IsWriteFault options s rows fault
end_fault options s rows fault (inl e) never long = absurd (never e)
end_fault options s rows fault (inr (inl e)) never long = inr (inr (inr (e, inr (long e))))
end_fault options s rows fault (inr (inr (inl e))) never long = inl e
end_fault options s rows fault (inr (inr (inr e))) never long = inr (inl e)

-- why the last call of a writer fails that hasn't failed
pub finish_fault : {T W : Type 0} (r : Result T (FileFault × W)) (p : Progress) (first : Option (List ℕ)) (rows : List Cell) (failed : Bool)
    → HasKept p first rows → failed ≡ false
    → IfErr r (λ e. (e.0 ≡ Failed) ⊎ ((e.0 ≡ Limit) ⊎ ((e.0 ≡ WriteFailed) ⊎ (e.0 ≡ OutOfMemory))))
    → IfErr r (λ e. e.0 ≡ Failed → failed ≡ true)
    → IfErr r (λ e. e.0 ≡ Limit → PassesBytes p.options p.schema p.infos p.kept)
    → IfErr r (λ e. IsWriteFault p.options p.schema rows e.0)
finish_fault (Ok x) p first rows failed kept going refused says long = tt
finish_fault (Err e) p first rows failed kept going refused says long =
    end_fault p.options p.schema rows e.0 refused (λ q. absurd (false≢true (sym going ∙ says q))) (λ q. passes_at_end p first rows kept (long q))

pub same_write_fault : (options o : Options) (schema s : Shape) (rows : List Cell) (fault : FileFault) → o ≡ options → s ≡ schema → IsWriteFault o s rows fault → IsWriteFault options schema rows fault
same_write_fault options o schema s rows fault of_options of_schema h =
    subst (λ (x : Options). IsWriteFault x schema rows fault) of_options (subst (λ (x : Shape). IsWriteFault o x rows fault) of_schema h)

-- ---- files that aren't read

read_cases : (bytes : List ℕ) (why : FileFault) (Q : Type 0) → (Q → CheckFault bytes why) → (why ≡ OutOfMemory) ⊎ ((why ≡ SourceFailed) ⊎ Q) → IsReadFault bytes why
read_cases bytes why Q into (inl memory) = inl memory
read_cases bytes why Q into (inr (inl source)) = inr (inl source)
read_cases bytes why Q into (inr (inr q)) = inr (inr (into q))

-- a source that tells its bytes is refused for these
pub read_fault : (told : Option (List ℕ)) (bytes : List ℕ) (why : FileFault) (P : List ℕ → Type 0) → told ≡ Some bytes → (P bytes → CheckFault bytes why) → ReadFault told why P → IsReadFault bytes why
read_fault told bytes why P e into h = read_cases bytes why (P bytes) into (subst (λ (t : Option (List ℕ)). ReadFault t why P) e h)

-- what laws say of files that have no tail, or no rows
abbrev pub NoTail : Type 0
NoTail = (bytes : List ℕ) (tail : Tail) (fault : FileFault) → TailOpenFault bytes fault → IsTail bytes tail → ⊥

abbrev pub NoRows : Type 0
NoRows = (bytes : List ℕ) (tail : Tail) (rows : List Cell) (fault : FileFault) → FirstRefused tail.schema bytes 0 tail.stripes fault → FileIs bytes tail rows → ⊥

abbrev pub OneTail : Type 0
OneTail = (bytes : List ℕ) (a b : Tail) → IsTail bytes a → IsTail bytes b → a ≡ b

-- a file with rows is refused for nothing of its bytes
pub source_fault : NoTail → NoRows → OneTail → (bytes : List ℕ) (tail : Tail) (rows : List Cell) (why : FileFault) → FileIs bytes tail rows → IsReadFault bytes why → IsSourceFault why
source_fault no_tail no_rows one bytes tail rows why is (inl memory) = inl memory
source_fault no_tail no_rows one bytes tail rows why is (inr (inl source)) = inr source
source_fault no_tail no_rows one bytes tail rows why is (inr (inr (inl opens))) = absurd (no_tail bytes tail why opens is.tail_is)
source_fault no_tail no_rows one bytes tail rows why is (inr (inr (inr (t, its, first)))) =
    absurd (no_rows bytes t rows why first (subst (λ (u : Tail). FileIs bytes u rows) (one bytes tail t is.tail_is its) is))

-- a fault of a source is one of each file's
pub of_source : (bytes : List ℕ) (why : FileFault) → IsSourceFault why → IsReadFault bytes why
of_source bytes why (inl memory) = inl memory
of_source bytes why (inr source) = inr (inl source)

pub source_or_write : (options : Options) (s : Shape) (rows : List Cell) (why : FileFault) → IsSourceFault why → (why ≡ SourceFailed) ⊎ IsWriteFault options s rows why
source_or_write options s rows why (inl memory) = inr (inr (inl memory))
source_or_write options s rows why (inr source) = inl source

-- ---- files that were joined

-- what the theorem says of the rows of one merge
abbrev pub RowsLaw : Type 0
RowsLaw = (files : List (List ℕ)) (tail : Tail) (out : List ℕ) (parts : List (List Cell)) → IsMerge files tail out → length out < 18446744073709551616
    → HaveRows files parts → FileIs out tail (rows_together parts)

pub two_rows : (x y : List Cell) → rows_together (x ∷ y ∷ []) ≡ x ++ y
two_rows x y = ap (λ (l : List Cell). x ++ l) (append-nil y)

-- the joined file has the rows of the first and then those of the second
pub joined_is : RowsLaw → (a b out there : List ℕ) (t u tail : Tail) (x y : List Cell) → FileIs a t x → FileIs b u y → WroteMerge (a ∷ b ∷ []) tail (Some []) (Some out) → there ≡ out
    → FileIs there tail (x ++ y)
joined_is law a b out there t u tail x y in_a in_b w same =
    let m = merge_of (a ∷ b ∷ []) tail out w in
    let is : FileIs out tail (rows_together (x ∷ y ∷ [])) = law (a ∷ b ∷ []) tail out (x ∷ y ∷ []) m.0 m.1 ((t, in_a), ((u, in_b), tt)) in
    subst (λ (bytes : List ℕ). FileIs bytes tail (x ++ y)) (sym same) (subst (λ (rows : List Cell). FileIs out tail rows) (two_rows x y) is)

-- what the theorem says of inputs that have a merged file
abbrev pub NoFault : Type 0
NoFault = (inputs : List (List ℕ)) (tail : Tail) (out : List ℕ) (fault : MergeFault) → IsMerge inputs tail out → IsMergeRefused inputs fault → ⊥

pub device_fault : NoFault → (files : List (List ℕ)) (tail : Tail) (out : List ℕ) (e : MergeFault) → IsMerge files tail out → IsAnswer files e → IsDeviceFault e
device_fault none files tail out e m (inl device) = device
device_fault none files tail out e m (inr refused) = absurd (none files tail out e m refused)

-- files with rows that have a merged file are refused for nothing of theirs
pub join_outside : NoTail → NoRows → OneTail → NoFault → (a b : List ℕ) (e : CallFault) (t u : Tail) (x y : List Cell) (tail : Tail) (out : List ℕ)
    → FileIs a t x → FileIs b u y → IsMerge (a ∷ b ∷ []) tail out → IsJoinFault a b e → IsOutsideFiles e
join_outside no_tail no_rows one none a b (File why) t u x y tail out in_a in_b m (inl first) = source_fault no_tail no_rows one a t x why in_a first
join_outside no_tail no_rows one none a b (File why) t u x y tail out in_a in_b m (inr second) = source_fault no_tail no_rows one b u y why in_b second
join_outside no_tail no_rows one none a b (Merge why) t u x y tail out in_a in_b m answer = device_fault none (a ∷ b ∷ []) tail out why m answer

-- ---- what was written

-- what the theorem says of what was written
abbrev pub WrittenLaw : Type 0
WrittenLaw = (options : Options) (schema : Shape) (tail : Tail) (first told : Option (List ℕ)) (rows : List Cell) → (wrote : WroteWholeFile options schema tail first told rows)
    → (told ≡ appended first wrote.bytes) × FileIs wrote.bytes tail rows

-- the bytes that a vector has got are its file
pub file_there : WrittenLaw → (options : Options) (schema : Shape) (tail : Tail) (bytes there : List ℕ) (rows : List Cell)
    → WroteWholeFile options schema tail (Some []) (Some bytes) rows → there ≡ bytes → FileIs there tail rows
file_there law options schema tail bytes there rows wrote same =
    let mine : wrote.bytes ≡ bytes = bytes_are (Some []) (Some bytes) bytes wrote.bytes refl refl wrote.told_is in
    subst (λ (b : List ℕ). FileIs b tail rows) (mine ∙ sym same) (law options schema tail (Some []) (Some bytes) rows wrote).1

-- and were written
pub was_written : (options : Options) (schema : Shape) (tail : Tail) (bytes there : List ℕ) (rows : List Cell)
    → WroteWholeFile options schema tail (Some []) (Some bytes) rows → there ≡ bytes → WasWritten there rows
was_written options schema tail bytes there rows wrote same = record {
  options = options;
  schema = schema;
  tail = tail;
  first = Some [];
  told = Some bytes;
  finish_wrote = wrote;
  bytes_are = same ∙ sym (bytes_are (Some []) (Some bytes) bytes wrote.bytes refl refl wrote.told_is);
}

-- files of which the second was written for rows fail as rows that are appended
pub append_fault : NoTail → NoRows → OneTail → (file there : List ℕ) (options : Options) (schema : Shape) (tail : Tail) (rows : List Cell) (e : CallFault)
    → FileIs there tail rows → WasWritten there rows → IsJoinFault file there e → IsAppendFault file options schema rows e
append_fault no_tail no_rows one file there options schema tail rows (File why) is was (inl first) = inl first
append_fault no_tail no_rows one file there options schema tail rows (File why) is was (inr second) = inl (of_source file why (source_fault no_tail no_rows one there tail rows why is second))
append_fault no_tail no_rows one file there options schema tail rows (Merge why) is was answer = (there, was, answer)

-- two facts of an answer
pub both_ok : {T E : Type 0} (r : Result T E) (P Q R : T → Type 0) → ((x : T) → P x → Q x → R x) → IfOk r P → IfOk r Q → IfOk r R
both_ok (Ok x) P Q R f p q = f x p q
both_ok (Err e) P Q R f p q = tt

-- a refusal under a premise
pub err_if : {T E : Type 0} (r : Result T E) (H : Type 0) (Q : E → Type 0) → (H → IfErr r Q) → IfErr r (λ e. H → Q e)
err_if (Ok x) H Q f = tt
err_if (Err e) H Q f = f

-- ---- files that were written

-- what a law says of findings of written files
abbrev pub WithoutFindingLaw : Type 0
WithoutFindingLaw = (options : Options) (s : Shape) (tail : Tail) (bytes : List ℕ) (rows : List Cell) → IsWrittenFile options s tail bytes rows → FileIs bytes tail rows
    → Findings bytes tail rows []

-- a file that was written has no findings
pub written_without : WrittenLaw → WithoutFindingLaw → (bytes : List ℕ) (rows : List Cell) → WasWritten bytes rows → (tail : Tail) × FileIs bytes tail rows × Findings bytes tail rows []
written_without law without bytes rows was =
    let is = (law was.options was.schema was.tail was.first was.told rows was.finish_wrote).1 in
    let none = without was.options was.schema was.tail was.finish_wrote.bytes rows was.finish_wrote.file is in
    (was.tail, subst (λ (b : List ℕ). FileIs b was.tail rows) (sym was.bytes_are) is, subst (λ (b : List ℕ). Findings b was.tail rows []) (sym was.bytes_are) none)

-- A call that hands a sink back with the fault that says that the sink failed has raised its count of failures.
pub failures_rose : {W T E : Type 0} (failures_of : W → ℕ) (sink_failed : E) (back_of : T → W) (sink : W)
    (result : Result T (E × W)) → HandsBackSink failures_of sink_failed back_of sink result
    → IfErr result (λ e. e.0 ≡ sink_failed → failures_of sink < failures_of e.1)
failures_rose f s back_of sink (Ok done) p = tt
failures_rose f s back_of sink (Err e) p = λ is.
    let rose : f e.1 ≡ f sink + 1 = p.failed (ap Err is) in
    omega (arith, rose)
