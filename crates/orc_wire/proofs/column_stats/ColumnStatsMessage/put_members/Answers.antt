-- The texts of the members, one after the other.
use Rattle.orc_wire.specs.CanonicalText.{number_text, known_text, shown_text, flag_number}
use Rattle.orc_wire.specs.Fields.{varint}
use Rattle.orc_wire.specs.CanonicalMessages.{integer_stats_text, string_stats_text, bucket_stats_text, date_stats_text, binary_stats_text}
use Rattle.orc_wire.proofs.PutLemmas.{and_then, on_ok_then}
use Rattle.orc_wire.proofs.column_stats.ColumnStatsMessage.put_members.Goals as goal

pub returns-clause-text : goal.returns-clause-text
returns-clause-text c =
    let m = c.args.self.now in
    on_ok_then c.put_shown-6.result c.put_shown-6.ensures.text (λ last.
    and_then c.args.out.now.items c.put_number.new.out.items (number_text 1 m.number_of_values) _ _ c.in_ok-put_number.ensures.text
    (and_then c.put_number.new.out.items c.put_shown.new.out.items (shown_text integer_stats_text.text 2 m.int_statistics) _ _ c.in_ok-put_shown.ensures.text
    (and_then c.put_shown.new.out.items c.put_shown-2.new.out.items (shown_text string_stats_text.text 4 m.string_statistics) _ _ c.in_ok-put_shown-2.ensures.text
    (and_then c.put_shown-2.new.out.items c.put_shown-3.new.out.items (shown_text bucket_stats_text.text 5 m.bucket_statistics) _ _ c.in_ok-put_shown-3.ensures.text
    (and_then c.put_shown-3.new.out.items c.put_shown-4.new.out.items (shown_text date_stats_text.text 7 m.date_statistics) _ _ c.in_ok-put_shown-4.ensures.text
    (and_then c.put_shown-4.new.out.items c.put_shown-5.new.out.items (shown_text binary_stats_text.text 8 m.binary_statistics) _ _ c.in_ok-put_shown-5.ensures.text
    (and_then c.put_shown-5.new.out.items c.put_known_flag.new.out.items (known_text (λ v. varint (flag_number v)) 10 m.has_null) _ _ c.in_ok-put_known_flag.ensures.text last)))))))
