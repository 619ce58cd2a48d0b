use Rattle.std.proofs.Common.{◌≡◌, ◌<◌, ◌++◌, ℕ, List, inl, length, map, ap, subst, ◌∙◌, arith}
use Rattle.std.specs.Prelude.{slice_index}
use Rattle.std.proofs.lemmas.List.{length-map}
use Rattle.orc_io.specs.Devices.{appended}
use Rattle.orc_tail.specs.Layout.{magic}
use Rattle.orc_tail.specs.Images.{tail_text}
use Rattle.orc_merger.specs.declared.fault.MergeFault.TheVariants as fault
use Rattle.orc_merger.specs.Copies.{pieces_bytes, IsOfCopy}
use Rattle.orc_merger.specs.Outcomes.{counts_after}
use Rattle.orc_merger.proofs.InputsRead.{as_long}
use Rattle.orc_merger.proofs.FailureCounts.{copy_device, copy_named, source_rose}
use Rattle.orc_merger.proofs.MergedLength.{short_of_text}
use Rattle.orc_merger.proofs.merging.merge.Goals as goal

pub returns-in-Ok-write_merged-clause-merged : goal.returns-in-Ok-write_merged-clause-merged
returns-in-Ok-write_merged-clause-merged g c = λ files same.
    let text = c.in-Ok-put.ensures.text ∙ ap (λ i. i ++ tail_text c.in-Ok.found.0) c.new-text.ensures.items in
    let short : length (tail_text c.in-Ok.found.0) < 9223372036854775808 = omega (arith, c.put.new.out.ok, c.put.new.out.small, ap length text) in
    let whole = c.in-Ok.ensures.found files same in
    record {
      bytes = magic ++ (pieces_bytes files c.in-Ok.found.1.items ++ tail_text c.in-Ok.found.0);
      merge = whole;
      few = short_of_text files c.in-Ok.found.0 (magic ++ (pieces_bytes files c.in-Ok.found.1.items ++ tail_text c.in-Ok.found.0)) whole short;
      told_is = c.in-Ok-write_merged.ensures.all files (c.gather.ensures.told ∙ same)
          ∙ ap (λ p. appended (g.W.Sink.told c.args.out.now) (magic ++ (pieces_bytes files p ++ c.deref-2.result.now))) c.deref.ensures.value
          ∙ ap (λ t. appended (g.W.Sink.told c.args.out.now) (magic ++ (pieces_bytes files c.in-Ok.found.1.items ++ t))) (c.deref-2.ensures.value ∙ text);
    }

-- ---- a device failed

pub returns-in-Err-write_merged-clause-refused : goal.returns-in-Err-write_merged-clause-refused
returns-in-Err-write_merged-clause-refused g c = λ files same. inl (copy_device _ _ c.in-Err-write_merged.ensures.named)

pub returns-in-Err-write_merged-clause-nothing : goal.returns-in-Err-write_merged-clause-nothing
returns-in-Err-write_merged-clause-nothing g c = λ other. absurd (other (copy_device _ _ c.in-Err-write_merged.ensures.named))

pub returns-in-Err-write_merged-clause-memory : goal.returns-in-Err-write_merged-clause-memory
returns-in-Err-write_merged-clause-memory g c = λ is.
    let why : c.in-Err-write_merged.fault ≡ fault.OutOfMemory = cc in
    absurd (subst (IsOfCopy (length c.gather.new.inputs)) why c.in-Err-write_merged.ensures.named)

pub returns-in-Err-write_merged-clause-file : goal.returns-in-Err-write_merged-clause-file
returns-in-Err-write_merged-clause-file g c = λ i of_file is.
    let why : c.in-Err-write_merged.fault ≡ fault.File i of_file = cc in
    absurd (subst (IsOfCopy (length c.gather.new.inputs)) why c.in-Err-write_merged.ensures.named)

pub returns-in-Err-write_merged-clause-sources : goal.returns-in-Err-write_merged-clause-sources
returns-in-Err-write_merged-clause-sources g c = c.in-Err-write_merged.ensures.sources ∙ ap (counts_after c.in-Err-write_merged.fault) c.in-Ok.ensures.kept

pub returns-in-Err-write_merged-clause-source_failed : goal.returns-in-Err-write_merged-clause-source_failed
returns-in-Err-write_merged-clause-source_failed g c = λ i is.
    let why : c.in-Err-write_merged.fault ≡ fault.SourceFailed i = cc in
    let mid : List ℕ = map g.S.Source.failures c.gather.new.inputs in
    let new : List ℕ = map g.S.Source.failures c.write_merged.new.inputs in
    let there : i < length c.gather.new.inputs = subst (IsOfCopy (length c.gather.new.inputs)) why c.in-Err-write_merged.ensures.named in
    let lt : i < length mid = omega (arith, there, length-map c.gather.new.inputs g.S.Source.failures) in
    subst (λ (old : List ℕ). slice_index old i < slice_index new i) c.in-Ok.ensures.kept
    (source_rose mid new c.in-Err-write_merged.fault i lt why c.in-Err-write_merged.ensures.sources)

pub returns-in-Err-write_merged-clause-named : goal.returns-in-Err-write_merged-clause-named
returns-in-Err-write_merged-clause-named g c =
    let long = as_long g.S.Source.told c.args.inputs.now c.gather.new.inputs c.gather.ensures.told in
    copy_named (length c.args.inputs.now) c.in-Err-write_merged.fault c.in-Ok.ensures.some
    (subst (λ (n : ℕ). IsOfCopy n c.in-Err-write_merged.fault) long c.in-Err-write_merged.ensures.named)
