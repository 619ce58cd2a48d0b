use Rattle.std.proofs.Common.{arith, ◌+◌, ap, ◌∙◌, List, map}
use Rattle.orc_wire.specs.Fields.{varint, sized}
use Rattle.orc_wire.specs.CanonicalText.{number_text, known_text, list_text}
use Rattle.orc_wire.specs.CanonicalMessages.{stripe_info_text, type_text, user_metadata_text, column_stats_text}
use Rattle.orc_wire.specs.declared.stripe_info.StripeInfo.{StripeInfo}
use Rattle.orc_wire.proofs.PutLemmas.{and_then, on_ok_then, on_ok_any}
use Rattle.orc_stats.specs.declared.stat.Stat.{Stat}
use Rattle.orc_stats.specs.Messages.{message_of}
use Rattle.orc_tail.specs.Stripes.{stripes_length}
use Rattle.orc_tail.specs.Images.{footer_of}
use Rattle.orc_tail.proofs.tail.writing.put_footer.Goals as goal

pub returns-clause-text : goal.returns-clause-text
returns-clause-text c =
    let m = footer_of c.args.tail.now in
    let content = c.content_end.ensures ∙ ap (λ (t : List StripeInfo). 3 + stripes_length t) c.as_slice-2.ensures in
    let stats = c.as_slice-5.ensures ∙ (c.in_ok-stats.ensures.found ∙ ap (λ (t : List Stat). map message_of t) c.as_slice.ensures) in
    on_ok_then c.put_raw.result (rw c.as_slice-6.ensures at c.put_raw.ensures.text) (λ last.
    and_then c.args.out.now.items c.put_number.new.out.items (number_text 1 3) _ _ c.in_ok-put_number.ensures.text
    (and_then c.put_number.new.out.items c.put_number-2.new.out.items (number_text 2 m.content_length) _ _ (rw content at c.in_ok-put_number-2.ensures.text)
    (and_then c.put_number-2.new.out.items c.put_each.new.out.items (list_text (λ s. sized (stripe_info_text.text s)) 3 m.stripes) _ _ (rw c.as_slice-3.ensures at c.in_ok-put_each.ensures.text)
    (and_then c.put_each.new.out.items c.put_each-2.new.out.items (list_text (λ s. sized (type_text.text s)) 4 m.types) _ _ (rw c.types.ensures.same at c.in_ok-put_each-2.ensures.text)
    (and_then c.put_each-2.new.out.items c.put_each-3.new.out.items (list_text (λ s. sized (user_metadata_text.text s)) 5 m.metadata) _ _ (rw c.as_slice-4.ensures at c.in_ok-put_each-3.ensures.text)
    (and_then c.put_each-3.new.out.items c.put_number-3.new.out.items (number_text 6 m.number_of_rows) _ _ c.in_ok-put_number-3.ensures.text
    (and_then c.put_number-3.new.out.items c.put_each-4.new.out.items (list_text (λ s. sized (column_stats_text.text s)) 7 m.statistics) _ _ (rw stats at c.in_ok-put_each-4.ensures.text)
    (and_then c.put_each-4.new.out.items c.put_small.new.out.items (number_text 8 m.row_index_stride) _ _ c.in_ok-put_small.ensures.text
    (and_then c.put_small.new.out.items c.put_known.new.out.items (known_text (λ v. varint v) 9 m.writer) _ _ c.in_ok-put_known.ensures.text last)))))))))

pub returns-clause-bounded : goal.returns-clause-bounded
returns-clause-bounded c =
    let stats = c.as_slice-5.ensures ∙ (c.in_ok-stats.ensures.found ∙ ap (λ (t : List Stat). map message_of t) c.as_slice.ensures) in
    on_ok_any c.put_raw.result _ (
      omega arith,
      (
        omega (arith, c.requires),
        (
          rw c.as_slice-3.ensures at c.in_ok-put_each.ensures.bounded,
          (
            rw c.types.ensures.same at c.in_ok-put_each-2.ensures.bounded,
            (
              rw c.as_slice-4.ensures at c.in_ok-put_each-3.ensures.bounded,
              (c.put_number-3.ensures.fits, (rw stats at c.in_ok-put_each-4.ensures.bounded, (c.put_small.ensures.fits, (c.put_known.ensures.bounded, tt)))),
            ),
          ),
        ),
      ),
    )
