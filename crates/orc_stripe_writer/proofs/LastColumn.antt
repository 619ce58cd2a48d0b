-- The column that was written last: its streams are found in its bytes and spell its cells, and it joins those before.
use Rattle.std.proofs.Common.{◌≡◌, ℕ, zero, suc, ◌+◌, ◌-◌, ◌<◌, ◌^◌, Bool, true, false, nat_le, if◌then◌else◌, List, [], ◌∷◌, ◌++◌, length, take, drop, refl, sym, ap, ◌∙◌, subst, arith, append-nil, length-drop}
use Rattle.orc_rle.specs.declared.sign.Rle.{Rle}
use Rattle.orc_wire.specs.declared.encoding.Encoding.{Encoding}
use Rattle.orc_wire.specs.declared.stripe_footer.StreamMsg.{StreamMsg}
use Rattle.orc_values.specs.Shapes.{Shape, shape_at}
use Rattle.orc_values.specs.Cells.{Cell}
use Rattle.orc_values.specs.Columns.{cells}
use Rattle.orc_stats.specs.declared.stat.Stat.{Stat}
use Rattle.orc_stats.specs.Kinds.{kind_of}
use Rattle.orc_stats.specs.Statistics.{stat}
use Rattle.orc_row_index.specs.RowIndex.{IsWrittenIndex}
use Rattle.orc_directory.specs.Directory.{is_stream_of, have_room, slice}
use Rattle.orc_column_reader.specs.Stripe.{IsColumn}
use Rattle.orc_stripe_writer.specs.Adding.{AddsColumn}
use Rattle.orc_stripe_writer.specs.Firsts.{firsts_of}
use Rattle.orc_row_groups.specs.Groups.{bounds_of}
use Rattle.orc_stripe_writer.specs.IndexSteps.{AddsIndexIf}
use Rattle.orc_stripe_writer.specs.Indexes.{streams_written, HaveIndexes}
use Rattle.orc_stripe_writer.specs.Subtrees.{HasWritten}
use Rattle.orc_stripe_writer.specs.WrittenColumn.{Written}
use Rattle.orc_stripe_writer.specs.WrittenStripe.{column_bytes, column_lines, indexed_columns, HaveStats}
use Rattle.orc_stats.specs.ColumnStatistics.{column_stat}
use Rattle.orc_stripe_writer.specs.declared.body.Body.{Body}
use Rattle.orc_stripe_writer.specs.declared.columns.Columns.{Columns}
use Rattle.orc_stripe_writer.proofs.IndexLemmas.{IsIndexOf, no_indexes, indexes_grow}
use Rattle.orc_stripe_writer.proofs.WrittenColumns.{more_columns, more_stats}
use Rattle.orc_stripe_writer.proofs.WrittenDirectory.{drop_front, AreFound, column_found, column_room}
use Rattle.orc_stripe_writer.proofs.WrittenReads.{column_read}
use Rattle.std.proofs.lemmas.Bool.{and_parts}

-- ---- one stream among the lines of a directory

-- what is sought stands among the lines that are left
pub record Looking (column kind : ℕ) (lines left : List StreamMsg) (bytes rest : List ℕ) : Type 0 where
  pub room : have_room (length rest) left ≡ true
  pub same : slice column kind left rest ≡ slice column kind lines bytes

pub looking_starts : (column kind : ℕ) (lines : List StreamMsg) (bytes : List ℕ) → have_room (length bytes) lines ≡ true → Looking column kind lines lines bytes bytes
looking_starts column kind lines bytes room = record { room = room; same = refl }

pub looking_room : (column kind : ℕ) (lines : List StreamMsg) (m : StreamMsg) (left : List StreamMsg) (bytes rest : List ℕ) → Looking column kind lines (m ∷ left) bytes rest → nat_le m.length (length rest) ≡ true
looking_room column kind lines m left bytes rest h = (and_parts (nat_le m.length (length rest)) (have_room (length rest - m.length) left) h.room).0

pub looking_goes : (column kind : ℕ) (lines : List StreamMsg) (m : StreamMsg) (left : List StreamMsg) (bytes rest more : List ℕ) → is_stream_of column kind m ≡ false → more ≡ drop m.length rest
    → Looking column kind lines (m ∷ left) bytes rest → Looking column kind lines left bytes more
looking_goes column kind lines m left bytes rest more e is h =
    let k = and_parts (nat_le m.length (length rest)) (have_room (length rest - m.length) left) h.room in
    subst (λ (t : List ℕ). Looking column kind lines left bytes t) (sym is) (record {
      room = ap (λ n. have_room n left) (length-drop m.length rest) ∙ k.1;
      same = sym (ap (λ (b : Bool). if b then take m.length rest else slice column kind left (drop m.length rest)) e) ∙ h.same;
    })

pub looking_found : (column kind : ℕ) (lines : List StreamMsg) (m : StreamMsg) (left : List StreamMsg) (bytes rest own : List ℕ) → is_stream_of column kind m ≡ true → own ≡ take m.length rest
    → Looking column kind lines (m ∷ left) bytes rest → own ≡ slice column kind lines bytes
looking_found column kind lines m left bytes rest own e is h = is ∙ sym (ap (λ (b : Bool). if b then take m.length rest else slice column kind left (drop m.length rest)) e) ∙ h.same

-- ---- a column by itself

pub column_alone : (c : ℕ) (w : Written) (lines : List StreamMsg) (bytes : List ℕ) → lines ≡ column_lines c w → bytes ≡ column_bytes w → AreFound (λ j. slice c j lines bytes) w
column_alone c w lines bytes listed joined =
    subst (λ (ls : List StreamMsg). AreFound (λ j. slice c j ls bytes) w) (append-nil (column_lines c w) ∙ sym listed)
    (subst (λ (bs : List ℕ). AreFound (λ j. slice c j (column_lines c w ++ []) bs) w) (append-nil (column_bytes w) ∙ sym joined) (column_found c w [] [] (λ j. refl)))

pub room_alone : (c : ℕ) (w : Written) (lines : List StreamMsg) (bytes : List ℕ) → lines ≡ column_lines c w → bytes ≡ column_bytes w → have_room (length bytes) lines ≡ true
room_alone c w lines bytes listed joined =
    let none : length (column_bytes w) + 0 ≡ length bytes = omega (arith, ap length joined) in
    sym (ap (λ n. have_room n lines) none) ∙ ap (have_room (length (column_bytes w) + 0)) (listed ∙ sym (append-nil (column_lines c w))) ∙ column_room c w [] 0 refl

-- what is behind the old bytes and lines is the column's
pub bytes_behind : (rle : Rle) (s : Shape) (column : List Cell) (c : ℕ) (old new : Body) (e : Encoding) (a : AddsColumn rle s column c old new e) → drop (length old.bytes.items) new.bytes.items ≡ column_bytes a.written
bytes_behind rle s column c old new e a = ap (drop (length old.bytes.items)) a.bytes ∙ drop_front old.bytes.items (column_bytes a.written)

lines_behind_old : (xs ys : List StreamMsg) → drop (length xs) (xs ++ ys) ≡ ys
lines_behind_old [] ys = refl
lines_behind_old (x ∷ xs) ys = lines_behind_old xs ys

pub lines_behind : (rle : Rle) (s : Shape) (column : List Cell) (c : ℕ) (old new : Body) (e : Encoding) (a : AddsColumn rle s column c old new e)
    → drop (length old.directory.items) new.directory.items ≡ column_lines c a.written
lines_behind rle s column c old new e a = ap (drop (length old.directory.items)) a.directory ∙ lines_behind_old old.directory.items (column_lines c a.written)

-- the streams that were written spell the cells
pub column_spelled : (rle : Rle) (s : Shape) (column : List Cell) (c : ℕ) (old new : Body) (e : Encoding) (a : AddsColumn rle s column c old new e) → length column < 2 ^ 31 → IsColumn s (streams_written a.written) column
column_spelled rle s column c old new e a few =
    column_read rle s column (streams_written a.written) a.written (record { encoded = refl; found = record { marks = refl; content = refl; lengths = refl; dictionary_data = refl } }) few a.is

-- ---- one column more

-- its streams, its statistic, and where there is a stride its index
pub one_more_written : (rle : Rle) (stride : ℕ) (s : Shape) (rows : List Cell) (n : ℕ) (old new : Columns) (e : Encoding) (x : Stat) → HasWritten rle stride s rows n old
    → (a : AddsColumn rle (shape_at s n) (cells s n rows) n old.body new.body e) → AddsIndexIf stride (IsIndexOf s rows (firsts_of stride (length rows)) n a.written) old.indexes new.indexes
    → new.encodings.items ≡ old.encodings.items ++ e ∷ [] → new.stats.items ≡ old.stats.items ++ x ∷ [] → x ≡ column_stat s rows n → HasWritten rle stride s rows (n + 1) new
one_more_written rle stride s rows n old new e x h a index encoded told says =
    let firsts = firsts_of stride (length rows) in
    let more = more_columns rle s rows n old.body new.body old.encodings.items e h.columns a in
    let grown = indexes_grow stride s rows firsts h.columns.columns a.written n old.indexes new.indexes h.columns.counted h.indexes index in
    record {
      columns = record { columns = more.columns; counted = more.counted; are = more.are; joined = more.joined; listed = more.listed; encoded = encoded ∙ more.encoded };
      stats = subst (λ (xs : List Stat). HaveStats s rows (n + 1) xs) (sym told) (more_stats s rows n old.stats.items x h.stats says);
      indexes = grown;
    }

-- the same of a column with its own words for what stands at its number
pub one_more_column : (rle r : Rle) (stride : ℕ) (s : Shape) (rows : List Cell) (n k : ℕ) (t : Shape) (cs : List Cell) (bs : List ℕ) (old new : Columns) (e : Encoding) (x : Stat) → HasWritten rle stride s rows n old
    → r ≡ rle → k ≡ n → shape_at s n ≡ t → cells s n rows ≡ cs → bounds_of s n rows (firsts_of stride (length rows)) ≡ bs → (a : AddsColumn r t cs k old.body new.body e)
    → AddsIndexIf stride (IsWrittenIndex t (streams_written a.written) cs bs) old.indexes new.indexes → new.encodings.items ≡ old.encodings.items ++ e ∷ [] → new.stats.items ≡ old.stats.items ++ x ∷ []
    → x ≡ stat (kind_of t) cs → HasWritten rle stride s rows (n + 1) new
one_more_column rle r stride s rows n k t cs bs old new e x h version number type column bounded a index encoded told says =
    subst (λ (j : Rle). (b : AddsColumn j t cs k old.body new.body e) → AddsIndexIf stride (IsWrittenIndex t (streams_written b.written) cs bs) old.indexes new.indexes → HasWritten rle stride s rows (n + 1) new) (sym version)
    (subst (λ (j : ℕ). (b : AddsColumn rle t cs j old.body new.body e) → AddsIndexIf stride (IsWrittenIndex t (streams_written b.written) cs bs) old.indexes new.indexes → HasWritten rle stride s rows (n + 1) new) (sym number)
    (subst (λ (u : Shape). (b : AddsColumn rle u cs n old.body new.body e) → AddsIndexIf stride (IsWrittenIndex u (streams_written b.written) cs bs) old.indexes new.indexes → HasWritten rle stride s rows (n + 1) new) type
    (subst (λ (ys : List Cell). (b : AddsColumn rle (shape_at s n) ys n old.body new.body e) → AddsIndexIf stride (IsWrittenIndex (shape_at s n) (streams_written b.written) ys bs) old.indexes new.indexes → HasWritten rle stride s rows (n + 1) new) column
    (subst (λ (ys : List ℕ). (b : AddsColumn rle (shape_at s n) (cells s n rows) n old.body new.body e) → AddsIndexIf stride (IsWrittenIndex (shape_at s n) (streams_written b.written) (cells s n rows) ys) old.indexes new.indexes
    → HasWritten rle stride s rows (n + 1) new) bounded
    (λ b i. one_more_written rle stride s rows n old new e x h b i encoded told (says ∙ (λ j. stat (kind_of (sym type j)) (sym column j)))))))) a index

pub nothing_written : (rle : Rle) (stride : ℕ) (s : Shape) (rows : List Cell) (out : Columns) → out.body.bytes.items ≡ [] → out.body.directory.items ≡ [] → out.indexes.bytes.items ≡ [] → out.indexes.directory.items ≡ []
    → out.encodings.items ≡ [] → out.stats.items ≡ [] → HasWritten rle stride s rows 0 out
nothing_written rle stride s rows out bytes directory texts lines encodings stats = record {
  columns = record { columns = []; counted = refl; are = tt; joined = bytes; listed = directory; encoded = encodings };
  stats = record { counted = ap length stats; each = λ c less. absurd (omega (arith, less)) };
  indexes = subst (λ (k : ℕ). HaveIndexes s rows (firsts_of stride (length rows)) [] k out.indexes) (sym (none_indexed stride)) (no_indexes s rows (firsts_of stride (length rows)) [] out.indexes texts lines);
}
  where
    none_indexed : (k : ℕ) → indexed_columns k 0 ≡ 0
    none_indexed zero = refl
    none_indexed (suc k) = refl
