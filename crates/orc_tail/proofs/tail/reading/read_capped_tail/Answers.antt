use Rattle.std.proofs.Common.{arith, inl, inr, [], ◌-◌}
use Rattle.std.proofs.lemmas.Result.{err_from_is_err_and}
use Rattle.orc_tail.proofs.StripeLemmas.{all_before}
use Rattle.orc_tail.proofs.Opened.{read_within}
use Rattle.orc_tail.proofs.TailLemmas.{footer_fails, metadata_fails, limits_fail, tail_found, footer_few, metadata_few}
use Rattle.orc_tail.proofs.CapLemmas.{ends_with, ends_capped, above_cap, fails_within, found_within}
use Rattle.orc_tail.proofs.tail.reading.read_capped_tail.Goals as goal

pub returns-in_err-postscript-clause-fault : goal.returns-in_err-postscript-clause-fault
returns-in_err-postscript-clause-fault g c =
    let p = err_from_is_err_and c.from_residual.result c.from_residual.ensures.1 in
    rw (p.1, p.2) (ends_capped (g.S.Source.told c.args.source.now) c.args.cap c.in_err-postscript.field-0.0 c.in_err-postscript.ensures.fault)

pub returns-then-is_above-clause-fault : goal.returns-then-is_above-clause-fault
returns-then-is_above-clause-fault g c =
    let end = c.in_ok-postscript.field-0 in
    let ends = ends_with (g.S.Source.told c.args.source.now) end.postscript end.place end.length c.in_ok-postscript.ensures.found c.in_ok-postscript.ensures.length in
    inr (inr (above_cap (g.S.Source.told c.args.source.now) c.args.cap end.postscript end.place end.length ends c.if-is_above.ensures.yes))

pub returns-in_err-footer-clause-fault : goal.returns-in_err-footer-clause-fault
returns-in_err-footer-clause-fault g c =
    let p = err_from_is_err_and c.from_residual-in_err-footer.result c.from_residual-in_err-footer.ensures.1 in
    let end = c.in_ok-postscript.field-0 in
    let told = g.S.Source.told c.args.source.now in
    let ends = ends_with told end.postscript end.place end.length c.in_ok-postscript.ensures.found c.in_ok-postscript.ensures.length in
    let footer_at = rw c.read_end.ensures.source.told at c.in_ok-text.ensures.bytes in
    rw (p.1, p.2) (elim c.in_err-footer.ensures.fault [
      | inl memory ↦ inl memory
      | inr fails ↦ inr (inr (fails_within told c.args.cap end.postscript end.place end.length c.in_err-footer.field-0.0 ends c.if-is_above.ensures.no (footer_fails c.in_ok-postscript.field-0.postscript c.in_ok-postscript.field-0.place c.in_ok-text.text.items [] (g.S.Source.told c.args.source.now) c.in_err-footer.field-0.0 c.in_ok-postscript.ensures.found footer_at (rw c.deref.ensures.value at fails))))
    ])

pub returns-in_err-metadata-clause-fault : goal.returns-in_err-metadata-clause-fault
returns-in_err-metadata-clause-fault g c =
    let p = err_from_is_err_and c.from_residual-in_err-metadata.result c.from_residual-in_err-metadata.ensures.1 in
    let end = c.in_ok-postscript.field-0 in
    let told = g.S.Source.told c.args.source.now in
    let ends = ends_with told end.postscript end.place end.length c.in_ok-postscript.ensures.found c.in_ok-postscript.ensures.length in
    let footer_at = rw c.read_end.ensures.source.told at c.in_ok-text.ensures.bytes in
    let metadata_at = rw (c.range_of.ensures.source.told, c.read_end.ensures.source.told) at c.in_ok-text-2.ensures.bytes in
    rw (p.1, p.2) (elim c.in_err-metadata.ensures.fault [
      | inl memory ↦ inl memory
      | inr fails ↦ inr (inr (fails_within told c.args.cap end.postscript end.place end.length c.in_err-metadata.field-0.0 ends c.if-is_above.ensures.no (metadata_fails c.in_ok-postscript.field-0.postscript c.in_ok-postscript.field-0.place c.in_ok-text.text.items c.in_ok-text-2.text.items c.in_ok-footer.footer c.in_ok-footer.schema (rw c.deref.ensures.value at c.in_ok-footer.ensures.found)
          (g.S.Source.told c.args.source.now) c.in_err-metadata.field-0.0 c.in_ok-postscript.ensures.found footer_at metadata_at (rw c.deref-2.ensures.value at fails))))
    ])

pub returns-in_err-file_stats-clause-fault : goal.returns-in_err-file_stats-clause-fault
returns-in_err-file_stats-clause-fault g c =
    let p = err_from_is_err_and c.from_residual-in_err-file_stats.result c.from_residual-in_err-file_stats.ensures.1 in
    let end = c.in_ok-postscript.field-0 in
    let told = g.S.Source.told c.args.source.now in
    let ends = ends_with told end.postscript end.place end.length c.in_ok-postscript.ensures.found c.in_ok-postscript.ensures.length in
    let footer_at = rw c.read_end.ensures.source.told at c.in_ok-text.ensures.bytes in
    let metadata_at = rw (c.range_of.ensures.source.told, c.read_end.ensures.source.told) at c.in_ok-text-2.ensures.bytes in
    rw (p.1, p.2) (elim c.in_err-file_stats.ensures.fault [
      | inl memory ↦ inl memory
      | inr fails ↦ inr (inr (fails_within told c.args.cap end.postscript end.place end.length c.in_err-file_stats.field-0.0 ends c.if-is_above.ensures.no (limits_fail c.in_ok-postscript.field-0.postscript c.in_ok-postscript.field-0.place c.in_ok-text.text.items c.in_ok-text-2.text.items c.in_ok-footer.footer c.in_ok-footer.schema (rw c.deref.ensures.value at c.in_ok-footer.ensures.found)
          c.in_ok-metadata.metadata (rw c.deref-2.ensures.value at c.in_ok-metadata.ensures.found) (g.S.Source.told c.args.source.now) c.in_err-file_stats.field-0.0 c.in_ok-postscript.ensures.found footer_at metadata_at fails)))
    ])

pub limits_of-requires-clause-file_stats : goal.limits_of-requires-clause-file_stats
limits_of-requires-clause-file_stats g c = footer_few _ c.in_ok-footer.footer c.in_ok-footer.schema c.in_ok-footer.ensures.found

pub limits_of-requires-clause-stripe_stats : goal.limits_of-requires-clause-stripe_stats
limits_of-requires-clause-stripe_stats g c = metadata_few _ c.in_ok-footer.footer c.in_ok-footer.schema c.in_ok-metadata.metadata c.in_ok-metadata.ensures.found

pub returns-clause-found : goal.returns-clause-found
returns-clause-found g c =
    let end = c.in_ok-postscript.field-0 in
    let told = g.S.Source.told c.args.source.now in
    let ends = ends_with told end.postscript end.place end.length c.in_ok-postscript.ensures.found c.in_ok-postscript.ensures.length in
    let footer_at = rw c.read_end.ensures.source.told at c.in_ok-text.ensures.bytes in
    let metadata_at = rw (c.range_of.ensures.source.told, c.read_end.ensures.source.told) at c.in_ok-text-2.ensures.bytes in
    found_within told c.args.cap end.postscript end.place end.length _ ends c.if-is_above.ensures.no
    (tail_found c.in_ok-postscript.field-0.postscript c.in_ok-postscript.field-0.place c.in_ok-text.text.items c.in_ok-text-2.text.items c.in_ok-footer.footer c.in_ok-footer.schema (rw c.deref.ensures.value at c.in_ok-footer.ensures.found)
    c.in_ok-metadata.metadata (rw c.deref-2.ensures.value at c.in_ok-metadata.ensures.found) (c.in_ok-file_stats.file_stats, c.in_ok-file_stats.stripe_stats) (g.S.Source.told c.args.source.now) c.in_ok-postscript.ensures.found footer_at metadata_at c.in_ok-file_stats.ensures.found)

pub returns-clause-within : goal.returns-clause-within
returns-clause-within g c =
    let room = c.in_ok-postscript.ensures.room in
    all_before 0 3 (c.in_ok-postscript.field-0.place - c.in_ok-postscript.field-0.postscript.footer_length - c.in_ok-postscript.field-0.postscript.metadata_length) (g.S.Source.size c.args.source.now) c.in_ok-footer.footer.stripes (omega (arith, room.0, room.1)) c.in_ok-file_stats.ensures.found.1.1.1.1

pub returns-clause-limits : goal.returns-clause-limits
returns-clause-limits g c =
    read_within _ _ _ c.in_ok-postscript.field-0.postscript c.in_ok-postscript.ensures.few c.in_ok-footer.footer c.in_ok-footer.schema c.in_ok-metadata.metadata
    (c.in_ok-file_stats.file_stats, c.in_ok-file_stats.stripe_stats) c.in_ok-footer.ensures.found c.in_ok-metadata.ensures.found c.in_ok-file_stats.ensures.found

pub returns-in_err-file_stats-clause-named : goal.returns-in_err-file_stats-clause-named
returns-in_err-file_stats-clause-named g c =
    let p = err_from_is_err_and c.from_residual-in_err-file_stats.result c.from_residual-in_err-file_stats.ensures.1 in
    rw (p.1, p.2) (inr c.in_err-file_stats.ensures.named)

pub returns-in_err-metadata-clause-named : goal.returns-in_err-metadata-clause-named
returns-in_err-metadata-clause-named g c =
    let p = err_from_is_err_and c.from_residual-in_err-metadata.result c.from_residual-in_err-metadata.ensures.1 in
    rw (p.1, p.2) (inr c.in_err-metadata.ensures.named)
