-- What a written directory says of each stream.
use Rattle.std.proofs.Common.{◌≡◌, ℕ, zero, suc, ◌+◌, ◌-◌, ◌<◌, ◌≤◌, ◌==◌, ◌&&◌, ◌||◌, not, nat_lt, nat_le, true, false, List, [], ◌∷◌, ◌++◌, length, take, drop, Some, slice_get, refl, sym, ap, ◌∙◌, arith, append_assoc, append-nil, length-append, subst, Bool, lt-ltb, le-leb}
use Rattle.std.specs.List.{flat_map}
use Rattle.orc_wire.specs.declared.stripe_footer.StreamMsg.{StreamMsg}
use Rattle.orc_directory.specs.Directory.{has_stream, slice, have_room, names_once, needs_column, have_columns}
use Rattle.orc_stripe_writer.specs.WrittenColumn.{Written}
use Rattle.orc_stripe_writer.specs.WrittenStripe.{line, column_bytes, column_lines, lines_from}

pub drop_front : (xs ys : List ℕ) → drop (length xs) (xs ++ ys) ≡ ys
drop_front [] ys = refl
drop_front (x ∷ xs) ys = drop_front xs ys

pub take_front : (xs ys : List ℕ) → take (length xs) (xs ++ ys) ≡ xs
take_front [] ys = refl
take_front (x ∷ xs) ys = ap (λ zs. x ∷ zs) (take_front xs ys)

pub from_zero : (n : ℕ) → 0 + n ≡ n
from_zero n = omega arith

self : (c : ℕ) → (c == c) ≡ true
self c = grind arith

-- streams of another kind, or of another column
pub other_kind : (c d k j : ℕ) → (k == j) ≡ false → ((c == d) && (k == j)) ≡ false
other_kind c d k j h = by (c == d) (k == j) h
  where
    by : (p q : Bool) → q ≡ false → (p && q) ≡ false
    by true q e = e
    by false q e = refl

pub other_column : (c d k j : ℕ) → (c == d) ≡ false → ((c == d) && (k == j)) ≡ false
other_column c d k j h = ap (λ (p : Bool). p && (k == j)) h

pub same_stream : (c k : ℕ) → ((c == c) && (k == k)) ≡ true
same_stream c k = ap (λ (p : Bool). p && (k == k)) (self c) ∙ self k

-- ---- one stream

-- a stream of another column or kind is passed
passed : (c k : ℕ) (bytes : List ℕ) (ms : List StreamMsg) (rest : List ℕ) (d j : ℕ) → ((c == d) && (k == j)) ≡ false
    → slice d j (line c k bytes ++ ms) (bytes ++ rest) ≡ slice d j ms rest
passed c k [] ms rest d j h = refl
passed c k (b ∷ bs) ms rest d j h = rw h (ap (λ xs. slice d j ms xs) (drop_front (b ∷ bs) rest))

-- it is the one that is asked for
met : (c k : ℕ) (bytes : List ℕ) (ms : List StreamMsg) (rest : List ℕ) → slice c k ms rest ≡ []
    → slice c k (line c k bytes ++ ms) (bytes ++ rest) ≡ bytes
met c k [] ms rest h = h
met c k (b ∷ bs) ms rest h = rw (same_stream c k) (take_front (b ∷ bs) rest)

pub not_listed : (c k : ℕ) (bytes : List ℕ) (ms : List StreamMsg) (d j : ℕ) → ((c == d) && (k == j)) ≡ false → has_stream d j ms ≡ false → has_stream d j (line c k bytes ++ ms) ≡ false
not_listed c k [] ms d j t h = h
not_listed c k (b ∷ bs) ms d j t h = rw t h

named_once : (c k : ℕ) (bytes : List ℕ) (ms : List StreamMsg) → has_stream c k ms ≡ false → names_once ms ≡ true → names_once (line c k bytes ++ ms) ≡ true
named_once c k [] ms h o = o
named_once c k (b ∷ bs) ms h o = rw h o

has_column : (c k : ℕ) (bytes : List ℕ) (ms : List StreamMsg) (width : ℕ) → c < width → have_columns width ms ≡ true → have_columns width (line c k bytes ++ ms) ≡ true
has_column c k [] ms width h o = o
has_column c k (b ∷ bs) ms width h o = let t : nat_lt c width ≡ true = lt-ltb c width h in rw t (by (not (needs_column k)) (have_columns width ms) o)
  where
    by : (p q : Bool) → q ≡ true → ((p || true) && q) ≡ true
    by true q e = e
    by false q e = e

has_room : (c k : ℕ) (bytes : List ℕ) (ms : List StreamMsg) (room : ℕ) → have_room room ms ≡ true → have_room (length bytes + room) (line c k bytes ++ ms) ≡ true
has_room c k [] ms room h = ap (λ n. have_room n ms) (from_zero room) ∙ h
has_room c k (b ∷ bs) ms room h =
    let fits : nat_le (length (b ∷ bs)) (length (b ∷ bs) + room) ≡ true = le-leb (length (b ∷ bs)) (length (b ∷ bs) + room) (omega arith) in
    let left : length (b ∷ bs) + room - length (b ∷ bs) ≡ room = omega arith in
    rw fits (ap (λ n. have_room n ms) left ∙ h)

-- ---- one column

pub lines_before : (c : ℕ) (w : Written) (ms : List StreamMsg)
    → column_lines c w ++ ms ≡ line c 0 w.marks ++ (line c 1 w.content ++ (line c 2 w.lengths ++ (line c 3 w.dictionary_data ++ ms)))
lines_before c w ms = simp append_assoc

bytes_before : (w : Written) (rest : List ℕ) → column_bytes w ++ rest ≡ w.marks ++ (w.content ++ (w.lengths ++ (w.dictionary_data ++ rest)))
bytes_before w rest = simp append_assoc

abbrev all_lines : ℕ → Written → List StreamMsg → List StreamMsg
all_lines c w ms = line c 0 w.marks ++ (line c 1 w.content ++ (line c 2 w.lengths ++ (line c 3 w.dictionary_data ++ ms)))

abbrev all_bytes : Written → List ℕ → List ℕ
all_bytes w rest = w.marks ++ (w.content ++ (w.lengths ++ (w.dictionary_data ++ rest)))

apart : (c : ℕ) (w : Written) (ms : List StreamMsg) (rest : List ℕ) (d j : ℕ)
    → slice d j (column_lines c w ++ ms) (column_bytes w ++ rest) ≡ slice d j (all_lines c w ms) (all_bytes w rest)
apart c w ms rest d j = ap (λ es. slice d j es (column_bytes w ++ rest)) (lines_before c w ms) ∙ ap (λ bs. slice d j (all_lines c w ms) bs) (bytes_before w rest)

-- another column's streams are passed
column_passed : (c : ℕ) (w : Written) (ms : List StreamMsg) (rest : List ℕ) (d j : ℕ) → (c == d) ≡ false
    → slice d j (column_lines c w ++ ms) (column_bytes w ++ rest) ≡ slice d j ms rest
column_passed c w ms rest d j h =
    apart c w ms rest d j
    ∙ passed c 0 w.marks _ _ d j (other_column c d 0 j h) ∙ passed c 1 w.content _ _ d j (other_column c d 1 j h) ∙ passed c 2 w.lengths _ _ d j (other_column c d 2 j h) ∙ passed c 3 w.dictionary_data ms rest d j (other_column c d 3 j h)

column_not_listed : (c : ℕ) (w : Written) (ms : List StreamMsg) (d j : ℕ) → (c == d) ≡ false → has_stream d j ms ≡ false → has_stream d j (column_lines c w ++ ms) ≡ false
column_not_listed c w ms d j h n =
    ap (λ es. has_stream d j es) (lines_before c w ms)
    ∙ not_listed c 0 w.marks _ d j (other_column c d 0 j h) (not_listed c 1 w.content _ d j (other_column c d 1 j h) (not_listed c 2 w.lengths _ d j (other_column c d 2 j h) (not_listed c 3 w.dictionary_data ms d j (other_column c d 3 j h) n)))

-- the streams of a column, as they are found
pub record AreFound (x : ℕ → List ℕ) (w : Written) : Type 0 where
  pub marks : x 0 ≡ w.marks
  pub content : x 1 ≡ w.content
  pub lengths : x 2 ≡ w.lengths
  pub dictionary_data : x 3 ≡ w.dictionary_data

pub column_found : (c : ℕ) (w : Written) (ms : List StreamMsg) (rest : List ℕ) → ((j : ℕ) → slice c j ms rest ≡ [])
    → AreFound (λ j. slice c j (column_lines c w ++ ms) (column_bytes w ++ rest)) w
column_found c w ms rest none = record {
  marks = apart c w ms rest c 0 ∙ met c 0 w.marks _ _ (passed c 1 w.content _ _ c 0 (other_kind c c 1 0 refl) ∙ passed c 2 w.lengths _ _ c 0 (other_kind c c 2 0 refl) ∙ passed c 3 w.dictionary_data ms rest c 0 (other_kind c c 3 0 refl) ∙ none 0);
  content = apart c w ms rest c 1 ∙ passed c 0 w.marks _ _ c 1 (other_kind c c 0 1 refl) ∙ met c 1 w.content _ _ (passed c 2 w.lengths _ _ c 1 (other_kind c c 2 1 refl) ∙ passed c 3 w.dictionary_data ms rest c 1 (other_kind c c 3 1 refl) ∙ none 1);
  lengths = apart c w ms rest c 2 ∙ passed c 0 w.marks _ _ c 2 (other_kind c c 0 2 refl) ∙ passed c 1 w.content _ _ c 2 (other_kind c c 1 2 refl) ∙ met c 2 w.lengths _ _ (passed c 3 w.dictionary_data ms rest c 2 (other_kind c c 3 2 refl) ∙ none 2);
  dictionary_data = apart c w ms rest c 3 ∙ passed c 0 w.marks _ _ c 3 (other_kind c c 0 3 refl) ∙ passed c 1 w.content _ _ c 3 (other_kind c c 1 3 refl) ∙ passed c 2 w.lengths _ _ c 3 (other_kind c c 2 3 refl) ∙ met c 3 w.dictionary_data ms rest (none 3);
}

column_once : (c : ℕ) (w : Written) (ms : List StreamMsg) → ((j : ℕ) → has_stream c j ms ≡ false) → names_once ms ≡ true → names_once (column_lines c w ++ ms) ≡ true
column_once c w ms none o =
    ap names_once (lines_before c w ms)
    ∙ named_once c 0 w.marks _ (not_listed c 1 w.content _ c 0 (other_kind c c 1 0 refl) (not_listed c 2 w.lengths _ c 0 (other_kind c c 2 0 refl) (not_listed c 3 w.dictionary_data ms c 0 (other_kind c c 3 0 refl) (none 0))))
    (named_once c 1 w.content _ (not_listed c 2 w.lengths _ c 1 (other_kind c c 2 1 refl) (not_listed c 3 w.dictionary_data ms c 1 (other_kind c c 3 1 refl) (none 1)))
    (named_once c 2 w.lengths _ (not_listed c 3 w.dictionary_data ms c 2 (other_kind c c 3 2 refl) (none 2)) (named_once c 3 w.dictionary_data ms (none 3) o)))

column_of : (c : ℕ) (w : Written) (ms : List StreamMsg) (width : ℕ) → c < width → have_columns width ms ≡ true → have_columns width (column_lines c w ++ ms) ≡ true
column_of c w ms width h o =
    ap (have_columns width) (lines_before c w ms)
    ∙ has_column c 0 w.marks _ width h (has_column c 1 w.content _ width h (has_column c 2 w.lengths _ width h (has_column c 3 w.dictionary_data ms width h o)))

pub column_room : (c : ℕ) (w : Written) (ms : List StreamMsg) (room : ℕ) → have_room room ms ≡ true → have_room (length (column_bytes w) + room) (column_lines c w ++ ms) ≡ true
column_room c w ms room h =
    let l : length (column_bytes w) ≡ length w.marks + (length w.content + (length w.lengths + length w.dictionary_data)) = simp length-append in
    let all : length (column_bytes w) + room ≡ length w.marks + (length w.content + (length w.lengths + (length w.dictionary_data + room))) = omega (arith, l) in
    ap (λ n. have_room n (column_lines c w ++ ms)) all ∙ ap (have_room _) (lines_before c w ms)
    ∙ has_room c 0 w.marks _ _ (has_room c 1 w.content _ _ (has_room c 2 w.lengths _ _ (has_room c 3 w.dictionary_data ms room h)))

-- ---- all columns

pub before : (c d : ℕ) → d < c → (c == d) ≡ false
before c d h = grind arith

pub after : (c d : ℕ) → c < d → (c == d) ≡ false
after c d h = grind arith

none_before : (b : ℕ) (ws : List Written) (rest : List ℕ) (d j : ℕ) → d < b → slice d j (lines_from b ws) (flat_map column_bytes ws ++ rest) ≡ []
none_before b [] rest d j h = refl
none_before b (w ∷ ws) rest d j h =
    ap (λ bs. slice d j (lines_from b (w ∷ ws)) bs) (append_assoc (column_bytes w) (flat_map column_bytes ws) rest)
    ∙ column_passed b w (lines_from (suc b) ws) (flat_map column_bytes ws ++ rest) d j (before b d h) ∙ none_before (suc b) ws rest d j (omega arith)

not_before : (b : ℕ) (ws : List Written) (d j : ℕ) → d < b → has_stream d j (lines_from b ws) ≡ false
not_before b [] d j h = refl
not_before b (w ∷ ws) d j h = column_not_listed b w (lines_from (suc b) ws) d j (before b d h) (not_before (suc b) ws d j (omega arith))

pub lines_once : (b : ℕ) (ws : List Written) → names_once (lines_from b ws) ≡ true
lines_once b [] = refl
lines_once b (w ∷ ws) = column_once b w (lines_from (suc b) ws) (λ j. not_before (suc b) ws b j (omega arith)) (lines_once (suc b) ws)

pub lines_of : (b : ℕ) (ws : List Written) (width : ℕ) → b + length ws ≤ width → have_columns width (lines_from b ws) ≡ true
lines_of b [] width h = refl
lines_of b (w ∷ ws) width h = column_of b w (lines_from (suc b) ws) width (omega arith) (lines_of (suc b) ws width (omega arith))

pub lines_room : (b : ℕ) (ws : List Written) → have_room (length (flat_map column_bytes ws)) (lines_from b ws) ≡ true
lines_room b [] = refl
lines_room b (w ∷ ws) =
    ap (λ n. have_room n (lines_from b (w ∷ ws))) (length-append (column_bytes w) (flat_map column_bytes ws))
    ∙ column_room b w (lines_from (suc b) ws) (length (flat_map column_bytes ws)) (lines_room (suc b) ws)

-- a column's streams are found as they were written
pub lines_found : (b : ℕ) (ws : List Written) (rest : List ℕ) (i c : ℕ) (w : Written) → slice_get ws i ≡ Some w → b + i ≡ c → AreFound (λ j. slice c j (lines_from b ws) (flat_map column_bytes ws ++ rest)) w
lines_found b [] rest i c w h e = cc
lines_found b (v ∷ vs) rest zero c w h e =
    let same : v ≡ w = cc in
    let at : b ≡ c = omega arith in
    let parts : (column_bytes v ++ flat_map column_bytes vs) ++ rest ≡ column_bytes v ++ (flat_map column_bytes vs ++ rest) = append_assoc (column_bytes v) (flat_map column_bytes vs) rest in
    subst (λ n. AreFound (λ j. slice n j (lines_from b (v ∷ vs)) (flat_map column_bytes (v ∷ vs) ++ rest)) w) at
    (subst (λ u. AreFound (λ j. slice b j (lines_from b (v ∷ vs)) (flat_map column_bytes (v ∷ vs) ++ rest)) u) same
    (subst (λ bs. AreFound (λ j. slice b j (lines_from b (v ∷ vs)) bs) v) (sym parts)
    (column_found b v (lines_from (suc b) vs) (flat_map column_bytes vs ++ rest) (λ j. none_before (suc b) vs rest b j (omega arith)))))
lines_found b (v ∷ vs) rest (suc i) c w h e =
    let found = lines_found (suc b) vs rest i c w h (omega arith) in
    let on : (j : ℕ) → slice c j (lines_from b (v ∷ vs)) (flat_map column_bytes (v ∷ vs) ++ rest) ≡ slice c j (lines_from (suc b) vs) (flat_map column_bytes vs ++ rest)
    = λ j. ap (λ bs. slice c j (lines_from b (v ∷ vs)) bs) (append_assoc (column_bytes v) (flat_map column_bytes vs) rest)
    ∙ column_passed b v (lines_from (suc b) vs) (flat_map column_bytes vs ++ rest) c j (after b c (omega arith)) in
    record { marks = on 0 ∙ found.marks; content = on 1 ∙ found.content; lengths = on 2 ∙ found.lengths; dictionary_data = on 3 ∙ found.dictionary_data }

-- one more column at the end
pub lines-append : (b : ℕ) (ws : List Written) (w : Written) (n : ℕ) → length ws ≡ n → lines_from b (ws ++ w ∷ []) ≡ lines_from b ws ++ column_lines (b + n) w
lines-append b [] w n e = append-nil (column_lines b w) ∙ ap (λ c. column_lines c w) (let a : b ≡ b + n = omega arith in a)
lines-append b (v ∷ vs) w zero e = absurd (omega arith)
lines-append b (v ∷ vs) w (suc n) e =
    ap (λ es. column_lines b v ++ es) (lines-append (suc b) vs w n (omega arith)) ∙ sym (append_assoc (column_lines b v) (lines_from (suc b) vs) (column_lines (suc b + n) w))
    ∙ ap (λ c. lines_from b (v ∷ vs) ++ column_lines c w) (let a : suc b + n ≡ b + suc n = omega arith in a)

pub columns-append : (ws : List Written) (w : Written) → flat_map column_bytes (ws ++ w ∷ []) ≡ flat_map column_bytes ws ++ column_bytes w
columns-append [] w = append-nil (column_bytes w)
columns-append (v ∷ vs) w = ap (λ bs. column_bytes v ++ bs) (columns-append vs w) ∙ sym (append_assoc (column_bytes v) (flat_map column_bytes vs) (column_bytes w))
