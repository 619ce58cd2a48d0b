use Rattle.std.proofs.Common.{◌≡◌, ◌⊎◌, [], ◌∷◌, ◌++◌, length, sym, ◌∙◌, append-nil, ap, subst, Err, arith, inl, inr, refl, rules}
use Rattle.std.proofs.lemmas.Result.{err_from_is_err_and}
use Rattle.orc_file_writer.proofs.WriterLemmas.{cut_kept, cut_row, within_of}
use Rattle.std.proofs.lemmas.Bool.{eqb-true}
use Rattle.orc_types.specs.Schemas.{IsSchema}
use Rattle.orc_values.specs.Views.{view}
use Rattle.orc_row_batch.specs.Batch.{kept_rows}
use Rattle.orc_file_writer.specs.Counts.{PassesLimit}
use Rattle.orc_file_writer.specs.Progress.{progress}
use Rattle.orc_file_writer.specs.Writing.{PassesBytes, Progress}
use Rattle.orc_tail.specs.declared.fault.FileFault.TheVariants as file
use Rattle.orc_cli_output.proofs.OutputLemmas.{same_file}
use Rattle.orc_cli_output.specs.declared.fault.CliFault.TheVariants.{File}
use Rattle.orc_io.proofs.Leaving.{kept_then, sink_as}
use Rattle.orc_cli_write.proofs.LimitLemmas.{row_passes}
use Rattle.orc_cli_write.proofs.WriteLemmas.{none_spelled, some_spelled, some_line, either, ends_unread, of_writer, pushed_no_source, stands_open, leaves_same}
use Rattle.orc_cli_write.specs.Writes.{PushesAlso}
use Rattle.orc_cli_write.proofs.write.push_line.Goals as goal

pub returns-then-is_empty-clause-pushed : goal.returns-then-is_empty-clause-pushed
returns-then-is_empty-clause-pushed g c =
    let h : length c.args.line.now ≡ 0 = eqb-true (length c.args.line.now) 0 (sym c.is_empty.ensures ∙ c.if-is_empty.true) in
    ([], none_spelled c.args.writer.now.schema c.args.line.now h, λ first rows p. rw (append-nil rows) p)

pub returns-clause-pushed : goal.returns-clause-pushed
returns-clause-pushed g c =
    let spare = c.spare_row-spare.ensures in
    let own = view c.in_ok-row.row ∷ [] in
    let spells = rw (c.schema-schema.ensures, spare.same.0) at c.in_ok-row.ensures.found in (
      own,
      some_spelled c.args.writer.now.schema c.args.line.now (view c.in_ok-row.row) (sym c.is_empty.ensures ∙ c.if-is_empty.false) spells,
      subst (λ (p : Progress). PushesAlso p (progress g.W.Sink.told c.push_owned.new.self) own) spare.progress c.in_ok-push_owned.ensures.pushed,
    )

pub returns-in_err-row-clause-refused : goal.returns-in_err-row-clause-refused
returns-in_err-row-clause-refused g c = λ ready.
    let p = err_from_is_err_and c.from_residual.result c.from_residual.ensures.1 in
    let spare = c.spare_row-spare.ensures in
    let w = c.spare_row-spare.new.self in
    let fault = rw (c.schema-schema.ensures, spare.same.0) at c.in_err-row.ensures.fault in
    let schema : IsSchema w.schema = rw c.schema-schema.ensures at c.limit_laws.ensures in
    rw (p.1, p.2) (
      [],
      some_line c.args.line.now (sym c.is_empty.ensures ∙ c.if-is_empty.false),
      ends_unread c.args.writer.now.schema c.args.line.now c.in_err-row.field-0.0 fault,
      leaves_same c.args.writer.now.options w.options c.args.writer.now.schema w.schema (progress g.W.Sink.told c.args.writer.now) (progress g.W.Sink.told w) _ _ [] spare.same.1 spare.same.0 spare.progress (λ first rows h.
          let few = h.1 in (
            (λ q. cc),
            rw (append-nil rows) (cut_kept w.options w.schema first _ w.written w.infos.items w.stats.items (kept_rows w.schema w.batch) rows (omega (arith, few)) (within_of w.infos.items w.total _ w.stripes w.total_is w.few_rows w.bytes) schema h.0),
            λ why q. rw (append-nil rows) (stands_open w.options w.schema first _ w.written w.infos.items w.stats.items (kept_rows w.schema w.batch) rows h),
          )),
    )

pub returns-in_err-push_owned-clause-refused : goal.returns-in_err-push_owned-clause-refused
returns-in_err-push_owned-clause-refused g c = λ ready.
    let p = err_from_is_err_and c.from_residual-in_err-push_owned.result c.from_residual-in_err-push_owned.ensures.1 in
    let spare = c.spare_row-spare.ensures in
    let w = c.spare_row-spare.new.self in
    let n = c.push_owned.new.self in
    let e = c.in_err-push_owned.ensures.takes in
    let row = view c.in_ok-row.row in
    let begun = spare.stays.7 ∙ ready in
    let spells = rw (c.schema-schema.ensures, spare.same.0) at c.in_ok-row.ensures.found in
    let fits = rw c.schema-schema.ensures at c.in_ok-row.ensures.fits in
    let some = sym c.is_empty.ensures ∙ c.if-is_empty.false in
    let schema : IsSchema w.schema = rw c.schema-schema.ensures at c.limit_laws.ensures in
    let limit : c.in_err-push_owned.field-0.0 ≡ file.Limit → PassesLimit w.schema w.infos.items w.total w.counts.items row ⊎ PassesBytes w.options w.schema w.infos.items
    (kept_rows w.schema w.batch ++ row ∷ [])
    = λ q. elim (either n.failed) [ inl has ↦ inr (e.long (ap Err q) has) | inr none ↦ inl (e.only_limit (ap Err q) none) ] in
    rw (p.1, p.2) (
      row ∷ [],
      some_line c.args.line.now some,
      inr (inr (some_spelled c.args.writer.now.schema c.args.line.now row some spells, of_writer c.in_err-push_owned.field-0.0 (λ q. let t = e.failed.0 (ap Err q) in cc) (λ q. let t = (e.shape begun).0 (ap Err q) in cc) e.refused)),
      leaves_same c.args.writer.now.options w.options c.args.writer.now.schema w.schema (progress g.W.Sink.told c.args.writer.now) (progress g.W.Sink.told w) _ _ (row ∷ []) spare.same.1 spare.same.0 spare.progress (λ first rows h.
          let few = h.1 in (
            (λ q. row_passes w.options w.schema first _ w.written w.infos.items w.stats.items (kept_rows w.schema w.batch) rows h
                row w.total _ w.counts.items w.total_is refl w.wide w.counted (limit (let same : c.in_err-push_owned.field-0.0 ≡ file.Limit = cc in same))),
            elim (either n.failed) [
              | inl has ↦ e.cut first rows h begun has
              | inr none ↦ rw ((e.unchanged (none ∙ sym begun)).0) (cut_row w.options w.schema first _ w.written w.infos.items w.stats.items (kept_rows w.schema w.batch) rows row (omega (arith, few)) (within_of w.infos.items w.total _ w.stripes w.total_is w.few_rows w.bytes) schema h.0)
            ],
            λ why q. cc,
          )),
    )

pub returns-in_err-push_owned-clause-writer : goal.returns-in_err-push_owned-clause-writer
returns-in_err-push_owned-clause-writer g c =
    let p = err_from_is_err_and c.from_residual-in_err-push_owned.result c.from_residual-in_err-push_owned.ensures.1 in
    record {
      same = search rules;
      ready = search rules;
      out = rw (p.1, p.2) (sink_as (λ e. same_file _ _ e) (λ e. ap File e) (kept_then (ap g.W.Sink.failures c.spare_row-spare.ensures.stays.0) c.in_err-push_owned.ensures.takes.out));
    }

pub returns-in_err-row-clause-layer : goal.returns-in_err-row-clause-layer
returns-in_err-row-clause-layer g c =
    let p = err_from_is_err_and c.from_residual.result c.from_residual.ensures.1 in
    rw (p.1, p.2) tt

pub returns-in_err-push_owned-clause-layer : goal.returns-in_err-push_owned-clause-layer
returns-in_err-push_owned-clause-layer g c =
    let p = err_from_is_err_and c.from_residual-in_err-push_owned.result c.from_residual-in_err-push_owned.ensures.1 in
    rw (p.1, p.2) (λ q. pushed_no_source c.in_err-push_owned.field-0.0 c.in_err-push_owned.ensures.takes.refused q)
