use Rattle.std.proofs.Common.{◌≡◌, ℕ, ◌-◌, List, [], ◌∷◌, ◌++◌, length, sym, ap, ◌∙◌, arith, rules, length-append, append_assoc}
use Rattle.std.specs.List.{AllByRecursion}
use Rattle.orc_rle.specs.declared.sign.Rle.{Rle}
use Rattle.orc_wire.specs.declared.encoding.Encoding.{Encoding}
use Rattle.orc_wire.specs.declared.stripe_footer.StreamMsg.{StreamMsg}
use Rattle.orc_wire.specs.declared.stripe_footer.StripeFooter.{StripeFooter}
use Rattle.orc_wire.specs.Messages.{stripe_footer}
use Rattle.orc_wire.specs.CanonicalMessages.{stripe_footer_text, encoding_text}
use Rattle.orc_wire.specs.Spells.{Spells}
use Rattle.orc_values.specs.Shapes.{Shape, width}
use Rattle.orc_values.specs.Cells.{Cell}
use Rattle.orc_row_groups.specs.Groups.{starts_of_groups}
use Rattle.orc_stripe_writer.specs.Indexes.{index_bytes, HaveIndexes}
use Rattle.orc_stripe_writer.specs.WrittenStripe.{HasColumns, indexed_columns, IsWrittenStripe}
use Rattle.orc_stripe_writer.specs.declared.body.Body.{Body}
use Rattle.orc_stripe_writer.proofs.WrittenColumns.{IsSized, encodings_sized}
use Rattle.orc_stripe_writer.proofs.writer.assemble.Goals as goal

all_so : (P Q : Encoding → Type 0) (es : List Encoding) → ((e : Encoding) → P e → Q e) → AllByRecursion P es → AllByRecursion Q es
all_so P Q [] f h = tt
all_so P Q (e ∷ es) f h = (f e h.0, all_so P Q es f h.1)

joined_is : (rle : Rle) (stride : ℕ) (s : Shape) (rows : List Cell) (streams front all : List ℕ) (lines : List StreamMsg) (body : Body) (f : StripeFooter) (n i m e : ℕ) → length rows ≡ n
    → (h : HasColumns rle s rows (width s) streams lines f.columns) → HaveIndexes s rows (starts_of_groups stride (length rows)) h.columns (indexed_columns stride (width s)) body → f.streams ≡ body.directory.items ++ lines
    → front ≡ body.bytes.items ++ streams → all ≡ front ++ stripe_footer_text.text f → Spells stripe_footer 0 0 (stripe_footer_text.text f) f → i ≡ length body.bytes.items → m ≡ length front → e ≡ length all
    → IsWrittenStripe rle stride s rows (record { offset = 0; index_length = i; data_length = m - i; footer_length = e - m; number_of_rows = n }) all
joined_is rle stride s rows streams front all lines body f n i m e rows_are h x listed fe ae spelled ie me ee =
    let text = stripe_footer_text.text f in
    let a = ap length fe in
    let la = length-append body.bytes.items streams in
    let b = ap length ae in
    let lb = length-append front text in
    let index : i ≡ length (index_bytes x.indexes) = ie ∙ ap length x.bytes_are in
    let content : m - i ≡ length streams = omega (arith, ie, me, a, la) in
    let foot : e - m ≡ length text = omega (arith, me, ee, b, lb) in
    record {
      streams = streams;
      lines = lines;
      footer = f;
      indexes = x.indexes;
      columns = h;
      are = x.are;
      listed = listed ∙ ap (λ (ls : List StreamMsg). ls ++ lines) x.lines_are;
      parts = ae ∙ ap (λ (bs : List ℕ). bs ++ text) (fe ∙ ap (λ (bs : List ℕ). bs ++ streams) x.bytes_are) ∙ append_assoc (index_bytes x.indexes) streams text;
      spelled = spelled;
      info_is = λ k. record { offset = 0; index_length = index k; data_length = content k; footer_length = foot k; number_of_rows = sym rows_are k };
    }

pub returns-clause-written : goal.returns-clause-written
returns-clause-written c = λ rle stride s rows n h x.
    let f : StripeFooter = record { streams = c.from_vec.result; columns = c.args.footer.columns } in
    let whole : AllByRecursion encoding_text.whole c.args.footer.columns =
    all_so IsSized encoding_text.whole c.args.footer.columns c.whole_laws.ensures.encoding (encodings_sized rle s rows (width s) c.args.streams.items c.args.footer.streams c.args.footer.columns h) in
    let front : c.extend_from_slice.new.self.items ≡ c.args.indexes.bytes.items ++ c.args.streams.items = c.in_ok-extend_from_slice.ensures.items ∙ ap (λ (bs : List ℕ). c.args.indexes.bytes.items ++ bs) c.deref.ensures.value in
    let lines : c.from_vec.result ≡ c.args.indexes.directory.items ++ c.args.footer.streams = c.from_vec.ensures ∙ c.in_ok-extend_from_slice-2.ensures.items ∙ ap (λ (ls : List StreamMsg). c.args.indexes.directory.items ++ ls) c.as_slice.ensures in
    let a : c.len-index_length.result ≡ length c.args.indexes.bytes.items = search rules in
    let b : c.len-front.result ≡ length c.extend_from_slice.new.self.items = search rules in
    let d : c.len.result ≡ length c.put.new.out.items = search rules in
    joined_is rle stride s rows c.args.streams.items c.extend_from_slice.new.self.items c.put.new.out.items c.args.footer.streams c.args.indexes f c.args.number_of_rows
    c.len-index_length.result c.len-front.result c.len.result n h x lines front c.in-Ok.ensures.text (c.in-Ok.ensures.again (c.whole_laws.ensures.directory f whole)) a b d
