use Rattle.std.proofs.Common.{◌≡◌, List, ℕ, sym, ap, ◌∙◌, subst}
use Rattle.std.proofs.lemmas.Result.{IfOk-weaker}
use Rattle.orc_rle.specs.declared.sign.Rle.{Rle}
use Rattle.orc_wire.specs.declared.encoding.Encoding.{Encoding}
use Rattle.orc_values.specs.declared.kind.Scalar.{Scalar}
use Rattle.orc_values.specs.declared.kind.Scalar.TheVariants as kind
use Rattle.orc_values.specs.Shapes.{scalar}
use Rattle.orc_values.specs.Cells.{Cell, values}
use Rattle.orc_values.specs.Fits.{RowsFit}
use Rattle.orc_row_groups.specs.OwnCells.{own_cells}
use Rattle.orc_stripe_writer.specs.declared.body.Body.{Body}
use Rattle.orc_stripe_writer.specs.CellValues.{bools_in, number_bytes_in, ints_in, all_bytes_in}
use Rattle.orc_stripe_writer.specs.Dictionary.{byte_strings}
use Rattle.orc_stripe_writer.specs.WrittenColumn.{Written, WritesBooleans, HasBytes, HasNumbers, HasStrings, HasTexts, WritesValues}
use Rattle.orc_stripe_writer.specs.Adding.{AddsValues}
use Rattle.orc_stripe_writer.proofs.AddingLemmas.{adds_weaker}
use Rattle.orc_stripe_writer.proofs.CellValuesLemmas.{short_is, int_is, long_is, bools_stand, number_bytes_stand, ints_stand, dates_stand, texts_stand, binaries_stand}
use Rattle.orc_stripe_writer.proofs.OwnValues.{own_bools, own_number_bytes, own_ints, own_byte_strings}
use Rattle.orc_stripe_writer.proofs.put_column.put_scalars.Goals as goal

-- what is written of the values found is what is written of the column
of_kind : (rle : Rle) (j k : Scalar) (o : List ℕ) (cs : List Cell) (P : Written → Type 0) (c : ℕ) (b d : Body) (e : Encoding) → k ≡ j → RowsFit (scalar k o) cs
    → (RowsFit (scalar j o) cs → (w : Written) → P w → WritesValues rle w (scalar j o) (values cs)) → AddsValues P c b d e → AddsValues (λ w. WritesValues rle w (scalar k o) (values cs)) c b d e
of_kind rle j k o cs P c b d e is fit f h =
    let g : RowsFit (scalar j o) cs = subst (λ (i : Scalar). RowsFit (scalar i o) cs) is fit in
    subst (λ (i : Scalar). AddsValues (λ w. WritesValues rle w (scalar i o) (values cs)) c b d e) (sym is) (adds_weaker P (λ w. WritesValues rle w (scalar j o) (values cs)) c e b d (f g) h)

pub returns-in-Boolean : goal.returns-in-Boolean
returns-in-Boolean c = λ o cs own fit. let os = own_cells c.args.owns.now in
    IfOk-weaker c.put_bools.result _ _ (λ e h. of_kind c.args.rle kind.Boolean c.args.kind o cs (λ w. WritesBooleans w (bools_in os)) c.args.column c.args.body.now c.put_bools.new.body e c.in-Boolean.is fit
    (λ g w p. (bools_in cs, bools_stand o cs g, subst (λ bs. WritesBooleans w bs) (own_bools c.args.owns.now cs own) p)) h) c.put_bools.ensures

pub returns-in-Byte : goal.returns-in-Byte
returns-in-Byte c = λ o cs own fit. let os = own_cells c.args.owns.now in
    IfOk-weaker c.put_bytes.result _ _ (λ e h. of_kind c.args.rle kind.Byte c.args.kind o cs (λ w. HasBytes w (number_bytes_in os)) c.args.column c.args.body.now c.put_bytes.new.body e c.in-Byte.is fit
    (λ g w p. (number_bytes_in cs, number_bytes_stand o cs g, subst (λ bs. HasBytes w bs) (own_number_bytes c.args.owns.now cs own) p)) h) c.put_bytes.ensures

pub returns-in-Short : goal.returns-in-Short
returns-in-Short c = λ o cs own fit. let os = own_cells c.args.owns.now in
    IfOk-weaker c.put_numbers.result _ _ (λ e h. of_kind c.args.rle kind.Short c.args.kind o cs (λ w. HasNumbers c.args.rle w (ints_in os)) c.args.column c.args.body.now c.put_numbers.new.body e c.in-Short.is fit
    (λ g w p. (ints_in cs, ints_stand kind.Short o cs short_is g, subst (λ ns. HasNumbers c.args.rle w ns) (own_ints c.args.owns.now cs own) p)) h) c.put_numbers.ensures

pub returns-in-Int : goal.returns-in-Int
returns-in-Int c = λ o cs own fit. let os = own_cells c.args.owns.now in
    IfOk-weaker c.put_numbers-in-Int.result _ _ (λ e h. of_kind c.args.rle kind.Int c.args.kind o cs (λ w. HasNumbers c.args.rle w (ints_in os)) c.args.column c.args.body.now c.put_numbers-in-Int.new.body e c.in-Int.is fit
    (λ g w p. (ints_in cs, ints_stand kind.Int o cs int_is g, subst (λ ns. HasNumbers c.args.rle w ns) (own_ints c.args.owns.now cs own) p)) h) c.put_numbers-in-Int.ensures

pub returns-in-Long : goal.returns-in-Long
returns-in-Long c = λ o cs own fit. let os = own_cells c.args.owns.now in
    IfOk-weaker c.put_numbers-in-Long.result _ _ (λ e h. of_kind c.args.rle kind.Long c.args.kind o cs (λ w. HasNumbers c.args.rle w (ints_in os)) c.args.column c.args.body.now c.put_numbers-in-Long.new.body e c.in-Long.is fit
    (λ g w p. (ints_in cs, ints_stand kind.Long o cs long_is g, subst (λ ns. HasNumbers c.args.rle w ns) (own_ints c.args.owns.now cs own) p)) h) c.put_numbers-in-Long.ensures

pub returns-in-Date : goal.returns-in-Date
returns-in-Date c = λ o cs own fit. let os = own_cells c.args.owns.now in
    IfOk-weaker c.put_numbers-in-Date.result _ _ (λ e h. of_kind c.args.rle kind.Date c.args.kind o cs (λ w. HasNumbers c.args.rle w (ints_in os)) c.args.column c.args.body.now c.put_numbers-in-Date.new.body e c.in-Date.is fit
    (λ g w p. (ints_in cs, dates_stand o cs g, subst (λ ns. HasNumbers c.args.rle w ns) (own_ints c.args.owns.now cs own) p)) h) c.put_numbers-in-Date.ensures

pub returns-in_ok-strings-in-String : goal.returns-in_ok-strings-in-String
returns-in_ok-strings-in-String c = λ o cs own fit.
    let are : byte_strings c.deref.result.now ≡ all_bytes_in cs = ap byte_strings c.deref.ensures.value ∙ c.in_ok-strings-in-String.ensures ∙ own_byte_strings c.args.owns.now cs own in
    IfOk-weaker c.put_texts.result _ _ (λ e h. of_kind c.args.rle kind.String c.args.kind o cs (λ w. HasTexts c.args.rle w (byte_strings c.deref.result.now)) c.args.column c.args.body.now c.put_texts.new.body e c.in-String.is fit
    (λ g w p. (all_bytes_in cs, texts_stand o cs g, subst (λ ps. HasTexts c.args.rle w ps) are p)) h) c.put_texts.ensures

pub returns-in_ok-strings-in-Binary : goal.returns-in_ok-strings-in-Binary
returns-in_ok-strings-in-Binary c = λ o cs own fit.
    let are : byte_strings c.deref-in-Binary.result.now ≡ all_bytes_in cs = ap byte_strings c.deref-in-Binary.ensures.value ∙ c.in_ok-strings-in-Binary.ensures ∙ own_byte_strings c.args.owns.now cs own in
    IfOk-weaker c.put_strings.result _ _ (λ e h. of_kind c.args.rle kind.Binary c.args.kind o cs (λ w. HasStrings c.args.rle w (byte_strings c.deref-in-Binary.result.now)) c.args.column c.args.body.now c.put_strings.new.body e c.in-Binary.is fit
    (λ g w p. (all_bytes_in cs, binaries_stand o cs g, subst (λ ps. HasStrings c.args.rle w ps) are p)) h) c.put_strings.ensures
