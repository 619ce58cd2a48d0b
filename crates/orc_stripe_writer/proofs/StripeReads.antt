-- A written stripe is read: its streams are found behind the indexes, each index is found, and the directory is one that a reader accepts.
use Rattle.std.proofs.Common.{◌≡◌, ℕ, zero, suc, ◌+◌, ◌-◌, ◌<◌, ◌≤◌, ◌==◌, ◌&&◌, nat_lt, nat_le, true, false, Some, List, [], ◌∷◌, ◌++◌, length, take, drop, slice_get, refl, sym, ap, ◌∙◌, subst, arith, append_assoc, length-append, le-leb, lt-ltb}
use Rattle.std.specs.List.{flat_map}
use Rattle.orc_rle.specs.declared.sign.Rle.{Rle}
use Rattle.orc_wire.specs.declared.stripe_info.StripeInfo.{StripeInfo}
use Rattle.orc_wire.specs.declared.stripe_footer.StripeFooter.{StripeFooter}
use Rattle.orc_wire.specs.declared.stripe_footer.StreamMsg.{StreamMsg}
use Rattle.orc_wire.specs.Messages.{stripe_footer}
use Rattle.orc_wire.specs.Spells.{Spells}
use Rattle.orc_wire.specs.CanonicalMessages.{stripe_footer_text}
use Rattle.orc_values.specs.Cells.{Cell}
use Rattle.orc_values.specs.Columns.{cells}
use Rattle.orc_values.specs.Fits.{RowsFit}
use Rattle.orc_values.specs.Shapes.{Shape, width, shape_at}
use Rattle.orc_directory.specs.Directory.{has_stream, slice, have_room, names_once, have_columns, is_directory}
use Rattle.orc_column_reader.specs.Stripe.{encoding_at, columns_of, IsStripe}
use Rattle.orc_stripe_writer.specs.WrittenColumn.{Written}
use Rattle.orc_stripe_writer.specs.WrittenStripe.{AreFew, column_bytes, lines_from, HasColumns, indexed_columns, IsWrittenStripe}
use Rattle.orc_stripe_writer.proofs.WrittenDirectory.{drop_front, take_front, from_zero, same_stream, other_kind, other_column, before, after, not_listed, lines_before, AreFound, lines_found, lines_once, lines_of, lines_room}
use Rattle.orc_stripe_writer.proofs.WrittenReads.{column_at, there, encodings_at, written_at, column_read, encodings_right}
use Rattle.orc_stripe_writer.specs.Indexes.{index_lines, index_bytes}
use Rattle.std.specs.Cmp.Derive.{both_true}

-- indexes are passed by the streams of data
index_passed : (b : ℕ) (ts : List (List ℕ)) (ls : List StreamMsg) (rest : List ℕ) (c k : ℕ) → (6 == k) ≡ false → slice c k (index_lines b ts ++ ls) (index_bytes ts ++ rest) ≡ slice c k ls rest
index_passed b [] ls rest c k h = refl
index_passed b (t ∷ ts) ls rest c k h =
    let off : ((b == c) && (6 == k)) ≡ false = other_kind b c 6 k h in
    rw off (ap (λ bs. slice c k (index_lines (suc b) ts ++ ls) (drop (length t) bs)) (append_assoc t (index_bytes ts) rest)
    ∙ ap (λ bs. slice c k (index_lines (suc b) ts ++ ls) bs) (drop_front t (index_bytes ts ++ rest)) ∙ index_passed (suc b) ts ls rest c k h)

-- each is found
pub index_met : (b : ℕ) (ts : List (List ℕ)) (ls : List StreamMsg) (rest : List ℕ) (i c : ℕ) (t : List ℕ) → slice_get ts i ≡ Some t → b + i ≡ c
    → slice c 6 (index_lines b ts ++ ls) (index_bytes ts ++ rest) ≡ t
index_met b [] ls rest i c t h e = cc
index_met b (u ∷ ts) ls rest zero c t h e =
    let here : b ≡ c = omega (arith, e) in
    let same : u ≡ t = cc in
    let on : ((b == c) && (6 == 6)) ≡ true = ap (λ (n : ℕ). (b == n) && (6 == 6)) (sym here) ∙ same_stream b 6 in
    rw on (ap (λ bs. take (length u) bs) (append_assoc u (index_bytes ts) rest) ∙ take_front u (index_bytes ts ++ rest) ∙ same)
index_met b (u ∷ ts) ls rest (suc i) c t h e =
    let off : ((b == c) && (6 == 6)) ≡ false = other_column b c 6 6 (after b c (omega (arith, e))) in
    rw off (ap (λ bs. slice c 6 (index_lines (suc b) ts ++ ls) (drop (length u) bs)) (append_assoc u (index_bytes ts) rest)
    ∙ ap (λ bs. slice c 6 (index_lines (suc b) ts ++ ls) bs) (drop_front u (index_bytes ts ++ rest)) ∙ index_met (suc b) ts ls rest i c t h (omega (arith, e)))

index_room : (b : ℕ) (ts : List (List ℕ)) (ls : List StreamMsg) (room : ℕ) → have_room room ls ≡ true → have_room (length (index_bytes ts) + room) (index_lines b ts ++ ls) ≡ true
index_room b [] ls room h = ap (λ n. have_room n ls) (from_zero room) ∙ h
index_room b (t ∷ ts) ls room h =
    let all : length (index_bytes (t ∷ ts)) + room ≡ length t + (length (index_bytes ts) + room) = omega (arith, length-append t (index_bytes ts)) in
    let fits : nat_le (length t) (length t + (length (index_bytes ts) + room)) ≡ true = le-leb (length t) (length t + (length (index_bytes ts) + room)) (omega arith) in
    let left : length t + (length (index_bytes ts) + room) - length t ≡ length (index_bytes ts) + room = omega arith in
    ap (λ n. have_room n (index_lines b (t ∷ ts) ++ ls)) all ∙ rw fits (ap (λ n. have_room n (index_lines (suc b) ts ++ ls)) left ∙ index_room (suc b) ts ls room h)

-- no stream of data is an index
no_index : (c : ℕ) (ws : List Written) (d : ℕ) → has_stream d 6 (lines_from c ws) ≡ false
no_index c [] d = refl
no_index c (w ∷ ws) d =
    ap (λ es. has_stream d 6 es) (lines_before c w (lines_from (suc c) ws))
    ∙ not_listed c 0 w.marks _ d 6 (other_kind c d 0 6 refl) (not_listed c 1 w.content _ d 6 (other_kind c d 1 6 refl) (not_listed c 2 w.lengths _ d 6 (other_kind c d 2 6 refl) (not_listed c 3 w.dictionary_data _ d 6 (other_kind c d 3 6 refl) (no_index (suc c) ws d))))

index_not_before : (b : ℕ) (ts : List (List ℕ)) (ls : List StreamMsg) (d : ℕ) → d < b → has_stream d 6 ls ≡ false → has_stream d 6 (index_lines b ts ++ ls) ≡ false
index_not_before b [] ls d lt h = h
index_not_before b (t ∷ ts) ls d lt h =
    let off : ((b == d) && (6 == 6)) ≡ false = other_column b d 6 6 (before b d lt) in
    rw off (index_not_before (suc b) ts ls d (omega (arith, lt)) h)

index_once : (b : ℕ) (ts : List (List ℕ)) (ls : List StreamMsg) → ((d : ℕ) → has_stream d 6 ls ≡ false) → names_once ls ≡ true → names_once (index_lines b ts ++ ls) ≡ true
index_once b [] ls none h = h
index_once b (t ∷ ts) ls none h = rw (index_not_before (suc b) ts ls b (omega arith) (none b)) (index_once (suc b) ts ls none h)

index_columns : (b : ℕ) (ts : List (List ℕ)) (ls : List StreamMsg) (n : ℕ) → b + length ts ≤ n → have_columns n ls ≡ true → have_columns n (index_lines b ts ++ ls) ≡ true
index_columns b [] ls n le h = h
index_columns b (t ∷ ts) ls n le h = let lt : nat_lt b n ≡ true = lt-ltb b n (omega (arith, le)) in rw lt (index_columns (suc b) ts ls n (omega (arith, le)) h)

-- ---- reading back

pub indexed_few : (stride n : ℕ) → indexed_columns stride n ≤ n
indexed_few zero n = omega arith
indexed_few (suc k) n = omega arith

pub columns_found : (rle : Rle) (s : Shape) (rows : List Cell) (streams rest : List ℕ) (lines : List StreamMsg) (footer : StripeFooter) (indexes : List (List ℕ)) (bytes : List ℕ) (c : ℕ)
    → (h : HasColumns rle s rows (width s) streams lines footer.columns) → footer.streams ≡ index_lines 0 indexes ++ lines → bytes ≡ index_bytes indexes ++ (streams ++ rest) → c < width s
    → AreFound (columns_of footer bytes c).stream (column_at h.columns c)
columns_found rle s rows streams rest lines footer indexes bytes c h listed parts lt =
    let w = column_at h.columns c in
    let below : c < length h.columns = omega (arith, lt, h.counted) in
    let one = lines_found 0 h.columns rest c c w (there h.columns c below) (from_zero c) in
    let all : streams ++ rest ≡ flat_map column_bytes h.columns ++ rest = ap (λ bs. bs ++ rest) h.joined in
    let found : AreFound (λ j. slice c j lines (streams ++ rest)) w =
    subst (λ ms. AreFound (λ j. slice c j ms (streams ++ rest)) w) (sym h.listed) (subst (λ bs. AreFound (λ j. slice c j (lines_from 0 h.columns) bs) w) (sym all) one) in
    let at : (j : ℕ) → (6 == j) ≡ false → slice c j footer.streams bytes ≡ slice c j lines (streams ++ rest) = λ j e.
    (λ i. slice c j (listed i) (parts i)) ∙ index_passed 0 indexes lines (streams ++ rest) c j e in
    record { marks = at 0 refl ∙ found.marks; content = at 1 refl ∙ found.content; lengths = at 2 refl ∙ found.lengths; dictionary_data = at 3 refl ∙ found.dictionary_data }

pub column_encoded : (rle : Rle) (s : Shape) (rows : List Cell) (streams : List ℕ) (lines : List StreamMsg) (footer : StripeFooter) (bytes : List ℕ) (c : ℕ)
    → (h : HasColumns rle s rows (width s) streams lines footer.columns) → c < width s → (columns_of footer bytes c).encoding ≡ (column_at h.columns c).encoding
column_encoded rle s rows streams lines footer bytes c h lt =
    let below : c < length h.columns = omega (arith, lt, h.counted) in
    ap (λ es. encoding_at es c) h.encoded ∙ encodings_at h.columns c below

directory_right : (rle : Rle) (stride : ℕ) (s : Shape) (rows : List Cell) (info : StripeInfo) (bytes : List ℕ) → (h : IsWrittenStripe rle stride s rows info bytes)
    → is_directory (width s) (length (index_bytes h.indexes) + length h.streams) h.footer.streams ≡ true
directory_right rle stride s rows info bytes h =
    let ws = h.columns.columns in
    let listed : h.footer.streams ≡ index_lines 0 h.indexes ++ lines_from 0 ws = h.listed ∙ ap (λ ls. index_lines 0 h.indexes ++ ls) h.columns.listed in
    let long : length h.streams ≡ length (flat_map column_bytes ws) = ap length h.columns.joined in
    let few : length h.indexes ≤ width s = (let k = indexed_few stride (width s) in omega (arith, k, h.are.counted)) in
    let room : have_room (length (index_bytes h.indexes) + length h.streams) h.footer.streams ≡ true =
    (λ i. have_room (length (index_bytes h.indexes) + long i) (listed i)) ∙ index_room 0 h.indexes (lines_from 0 ws) (length (flat_map column_bytes ws)) (lines_room 0 ws) in
    let once : names_once h.footer.streams ≡ true = ap names_once listed ∙ index_once 0 h.indexes (lines_from 0 ws) (no_index 0 ws) (lines_once 0 ws) in
    let columns : have_columns (width s) h.footer.streams ≡ true =
    ap (have_columns (width s)) listed ∙ index_columns 0 h.indexes (lines_from 0 ws) (width s) (omega (arith, few)) (lines_of 0 ws (width s) (let k = h.columns.counted in omega (arith, k))) in
    both_true room (both_true once columns)

-- a written stripe is a stripe of its rows
pub stripe_read : (rle : Rle) (stride : ℕ) (s : Shape) (rows : List Cell) (info : StripeInfo) (bytes : List ℕ) → IsWrittenStripe rle stride s rows info bytes → RowsFit s rows → AreFew s rows → IsStripe s info bytes rows
stripe_read rle stride s rows info bytes h fit few =
    let text = stripe_footer_text.text h.footer in
    let index = index_bytes h.indexes in
    let a : info.index_length ≡ length index = ap (λ (i : StripeInfo). i.index_length) h.info_is in
    let b : info.data_length ≡ length h.streams = ap (λ (i : StripeInfo). i.data_length) h.info_is in
    let f : info.footer_length ≡ length text = ap (λ (i : StripeInfo). i.footer_length) h.info_is in
    let room : info.index_length + info.data_length ≡ length index + length h.streams = omega (arith, a, b) in
    let front : bytes ≡ (index ++ h.streams) ++ text = h.parts ∙ sym (append_assoc index h.streams text) in
    let all : length bytes ≡ length index + length h.streams + length text = (let k = ap length front in let l = length-append (index ++ h.streams) text in let m = length-append index h.streams in omega (arith, k, l, m)) in
    let seam : info.index_length + info.data_length ≡ length (index ++ h.streams) = (let m = length-append index h.streams in omega (arith, room, m)) in
    let rest : drop (info.index_length + info.data_length) bytes ≡ text = ap (λ n. drop n bytes) seam ∙ ap (drop (length (index ++ h.streams))) front ∙ drop_front (index ++ h.streams) text in
    record {
      footer = h.footer;
      has_footer = record {
        whole = omega (arith, all, room, f);
        read = subst (λ bs. Spells stripe_footer 0 0 bs h.footer) (sym rest) h.spelled;
        directory = ap (λ n. is_directory (width s) n h.footer.streams) room ∙ directory_right rle stride s rows info bytes h;
        encodings = encodings_right rle s rows h.streams h.lines h.footer.columns h.columns;
      };
      spelled = record {
        counted = sym (ap (λ (i : StripeInfo). i.number_of_rows) h.info_is);
        fit = fit;
        column = λ c lt.
            let w = column_at h.columns.columns c in
            let below : c < length h.columns.columns = (let k = h.columns.counted in omega (arith, lt, k)) in
            column_read rle (shape_at s c) (cells s c rows) (columns_of h.footer bytes c) w (record {
              encoded = column_encoded rle s rows h.streams h.lines h.footer bytes c h.columns lt;
              found = columns_found rle s rows h.streams text h.lines h.footer h.indexes bytes c h.columns h.listed h.parts lt;
            }) (few c lt) (written_at rle s rows 0 h.columns.columns c c h.columns.are below (from_zero c));
      };
    }
