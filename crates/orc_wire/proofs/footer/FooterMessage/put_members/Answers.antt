use Rattle.orc_wire.specs.Fields.{varint, sized}
use Rattle.orc_wire.specs.CanonicalText.{number_text, known_text, list_text}
use Rattle.orc_wire.specs.CanonicalMessages.{stripe_info_text, type_text, user_metadata_text, column_stats_text}
use Rattle.orc_wire.proofs.PutLemmas.{and_then, on_ok_then}
use Rattle.orc_wire.proofs.footer.FooterMessage.put_members.Goals as goal

pub returns-clause-text : goal.returns-clause-text
returns-clause-text c =
    let m = c.args.self.now in
    on_ok_then c.put_kept.result c.put_kept.ensures.text (λ last.
    and_then c.args.out.now.items c.put_number.new.out.items (number_text 1 m.header_length) _ _ c.in_ok-put_number.ensures.text
    (and_then c.put_number.new.out.items c.put_number-2.new.out.items (number_text 2 m.content_length) _ _ c.in_ok-put_number-2.ensures.text
    (and_then c.put_number-2.new.out.items c.put_each.new.out.items (list_text (λ s. sized (stripe_info_text.text s)) 3 m.stripes) _ _ (rw c.as_slice.ensures at c.in_ok-put_each.ensures.text)
    (and_then c.put_each.new.out.items c.put_each-2.new.out.items (list_text (λ s. sized (type_text.text s)) 4 m.types) _ _ (rw c.as_slice-2.ensures at c.in_ok-put_each-2.ensures.text)
    (and_then c.put_each-2.new.out.items c.put_each-3.new.out.items (list_text (λ s. sized (user_metadata_text.text s)) 5 m.metadata) _ _ (rw c.as_slice-3.ensures at c.in_ok-put_each-3.ensures.text)
    (and_then c.put_each-3.new.out.items c.put_number-3.new.out.items (number_text 6 m.number_of_rows) _ _ c.in_ok-put_number-3.ensures.text
    (and_then c.put_number-3.new.out.items c.put_each-4.new.out.items (list_text (λ s. sized (column_stats_text.text s)) 7 m.statistics) _ _ (rw c.as_slice-4.ensures at c.in_ok-put_each-4.ensures.text)
    (and_then c.put_each-4.new.out.items c.put_number-4.new.out.items (number_text 8 m.row_index_stride) _ _ (rw c.from.ensures at c.in_ok-put_number-4.ensures.text)
    (and_then c.put_number-4.new.out.items c.put_known_u32.new.out.items (known_text (λ v. varint v) 9 m.writer) _ _ c.in_ok-put_known_u32.ensures.text last)))))))))
