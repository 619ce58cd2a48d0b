-- The rows of a file from a group of a stripe on.
use Rattle.std.proofs.Common.{◌≡◌, ◌∙◌, ℕ, zero, suc, ◌+◌, ◌*◌, ◌<◌, ◌≤◌, inl, inr, List, [], ◌∷◌, ◌++◌, length, take, drop, Option, refl, sym, ap, arith}
use Rattle.std.proofs.lemmas.List.Concat.{flat_map-append, flat_map-cons}
use Rattle.orc_wire.specs.declared.stripe_info.StripeInfo.{StripeInfo}
use Rattle.orc_values.specs.Cells.{Cell}
use Rattle.orc_values.specs.Shapes.{Shape}
use Rattle.orc_column_reader.specs.Stripe.{columns_of}
use Rattle.orc_stripe_reader.specs.GroupCursors.{HasGroup}
use Rattle.orc_tail.specs.Stripes.{stripe_at, stripes_rows, stripe_bytes}
use Rattle.orc_file_reader.specs.FileRows.{opened_stripe, cut_rows, rows_together, AreOfStripes, HasRows, FileIs}
use Rattle.orc_tail.specs.declared.tail.Tail.{Tail}
use Rattle.orc_file_reader.proofs.RowLemmas.{rows_cut, cut_whole, one_rows}
use Rattle.orc_cli_output.specs.Output.{IsOutsideFile}
use Rattle.orc_cli_output.specs.declared.fault.CliFault.{CliFault}
use Rattle.orc_check.specs.Findings.{rows_at}
use Rattle.orc_check.specs.RightIndexes.{StartsAtGroups}
use Rattle.orc_check.proofs.NoFinding.{stripe_is}
use Rattle.orc_cli_rows.specs.Rows.{row_line, row_lines, HaveJson}
use Rattle.orc_cli_rows.specs.FromGroup.{AreFromGroup, AreLinesFromGroup, NoLinesFrom, EndsFrom}
use Rattle.orc_cli_rows.proofs.RowsLemmas.{ends_outside as later_outside}
use Rattle.orc_theorems.specs.Places.{IsPlace, rows_before}

-- ---- the stripes behind a number

pub parts_behind : (s : Shape) (bytes : List ℕ) (infos : List StripeInfo) (parts : List (List Cell)) (k : ℕ) → AreOfStripes s bytes infos parts → AreOfStripes s bytes (drop k infos) (drop k parts)
parts_behind s bytes infos parts zero h = h
parts_behind s bytes [] [] (suc k) h = tt
parts_behind s bytes [] (p ∷ parts) (suc k) h = absurd h
parts_behind s bytes (i ∷ is) [] (suc k) h = absurd h
parts_behind s bytes (i ∷ is) (p ∷ parts) (suc k) h = parts_behind s bytes is parts k h.1

-- some rows into a stripe, those that come are the rest of it and the stripes behind it
pub rows_behind : (s : Shape) (bytes : List ℕ) (infos : List StripeInfo) (parts : List (List Cell)) (n inner : ℕ) → n < length infos → AreOfStripes s bytes infos parts → inner ≤ length (rows_at parts n)
    → drop (stripes_rows (take n infos) + inner) (rows_together parts) ≡ drop inner (rows_at parts n) ++ rows_together (drop (n + 1) parts)
rows_behind s bytes [] parts n inner lt h le = absurd (omega (arith, lt))
rows_behind s bytes (i ∷ is) [] n inner lt h le = absurd h
rows_behind s bytes (i ∷ is) (p ∷ parts) zero inner lt h le =
    let none : 0 + inner ≡ inner = omega arith in
    let all : rows_together (p ∷ parts) ≡ p ++ rows_together parts = flat_map-cons (λ (r : List Cell). r) p parts in
    (λ i. drop (none i) (all i)) ∙ drop_front p (rows_together parts) inner le
  where
    drop_front : (xs ys : List Cell) (k : ℕ) → k ≤ length xs → drop k (xs ++ ys) ≡ drop k xs ++ ys
    drop_front xs ys zero le = refl
    drop_front [] ys (suc k) le = absurd (omega (arith, le))
    drop_front (x ∷ xs) ys (suc k) le = drop_front xs ys k (omega (arith, le))
rows_behind s bytes (i ∷ is) (p ∷ parts) (suc n) inner lt h le =
    let own : length p ≡ i.number_of_rows = h.0.spelled.counted in
    let sum : stripes_rows (take (suc n) (i ∷ is)) + inner ≡ (stripes_rows (take n is) + inner) + length p = omega (arith, own) in
    let more : suc (n + 1) ≡ suc n + 1 = omega arith in
    let all : rows_together (p ∷ parts) ≡ p ++ rows_together parts = flat_map-cons (λ (r : List Cell). r) p parts in
    (λ i. drop (sum i) (all i)) ∙ drop_past p (rows_together parts) (stripes_rows (take n is) + inner) ∙ rows_behind s bytes is parts n inner (omega (arith, lt)) h.1 le
    ∙ ap (λ (k : ℕ). drop inner (rows_at parts n) ++ rows_together (drop k (p ∷ parts))) more
  where
    drop_past : (xs ys : List Cell) (k : ℕ) → drop (k + length xs) (xs ++ ys) ≡ drop k ys
    drop_past [] ys k = let z : k + 0 ≡ k = omega arith in ap (λ (m : ℕ). drop m ys) z
    drop_past (x ∷ xs) ys k = let z : k + suc (length xs) ≡ suc (k + length xs) = omega arith in ap (λ (m : ℕ). drop m (x ∷ (xs ++ ys))) z ∙ drop_past xs ys k

module _ (bytes : List ℕ) (tail : Tail) (rows : List Cell) (is : FileIs bytes tail rows) (starts : StartsAtGroups bytes tail rows) where
  abbrev parts : List (List Cell)
  parts = cut_rows tail.stripes rows

  of_stripes : AreOfStripes tail.schema bytes tail.stripes parts
  of_stripes = rows_cut bytes tail rows is

  whole : rows_together parts ≡ rows
  whole = cut_whole tail.stripes bytes tail.schema rows is.has_rows

  -- the rows that are read from the group on are the stripe's
  from_group : (n group : ℕ) (read : List Cell) → n < length tail.stripes → AreFromGroup tail n (stripe_bytes (stripe_at tail.stripes n) bytes) group read → read ≡ drop (group * tail.stride) (rows_at parts n)
  from_group n group read lt h =
      h.are.rows_are (columns_of h.footer (stripe_bytes (stripe_at tail.stripes n) bytes)) (rows_at parts n) (starts n lt h.footer h.has_footer group h.are.has_group)

  later_rows : (n : ℕ) (read : List Cell) → HasRows tail.schema bytes (drop (n + 1) tail.stripes) read → read ≡ rows_together (drop (n + 1) parts)
  later_rows n read h =
      one_rows tail.schema bytes (drop (n + 1) tail.stripes) read (rows_together (drop (n + 1) parts)) h
      (record { parts = drop (n + 1) parts; stripes = parts_behind tail.schema bytes tail.stripes parts (n + 1) of_stripes; rows_are = refl })

  pub lines_from : (n group : ℕ) (lines : List ℕ) → AreLinesFromGroup bytes tail n group lines → lines ≡ row_lines tail.schema (drop (rows_before tail n group) rows)
  lines_from n group lines h =
      let own = h.of_group in
      let first : own.rows ≡ drop (group * tail.stride) (rows_at parts n) = from_group n group own.rows h.there own.are in
      let rest : h.of_later.rows ≡ rows_together (drop (n + 1) parts) = later_rows n h.of_later.rows h.of_later.has_rows in
      let counted : length (rows_at parts n) ≡ (stripe_at tail.stripes n).number_of_rows = (let stripe = stripe_is bytes tail rows is n h.there in stripe.spelled.counted) in
      let inner : group * tail.stride ≤ length (rows_at parts n) = (let begun = own.are.are.has_group.there in omega (arith, begun, counted)) in
      let all : own.rows ++ h.of_later.rows ≡ drop (rows_before tail n group) rows =
      (λ i. first i ++ rest i) ∙ sym (rows_behind tail.schema bytes tail.stripes parts n (group * tail.stride) h.there of_stripes inner) ∙ ap (drop (rows_before tail n group)) whole in
      h.lines_are ∙ (λ i. own.lines_are i ++ h.of_later.lines_are i) ∙ sym (flat_map-append (row_line tail.schema) own.rows h.of_later.rows) ∙ ap (row_lines tail.schema) all

  -- ---- and refused for nothing of the file's

  some_rows : (n group : ℕ) → IsPlace tail n group → rows ≡ [] → ⊥
  some_rows n group place none =
      let stripe = stripe_is bytes tail rows is n place.there in
      let counted = stripe.spelled.counted in
      let begun = place.begun in
      let some = none_at tail.stripes rows n none in
      let long : length (rows_at parts n) ≡ 0 = ap (λ (p : List Cell). length p) some in
      omega (arith, counted, begun, long)
    where
      none_at : (infos : List StripeInfo) (all : List Cell) (n : ℕ) → all ≡ [] → rows_at (cut_rows infos all) n ≡ []
      none_at [] all n e = refl
      none_at (i ∷ is) all zero e = ap (take i.number_of_rows) e ∙ take_none i.number_of_rows
        where
          take_none : (k : ℕ) → ◌≡◌ {A = List Cell} (take k []) []
          take_none zero = refl
          take_none (suc k) = refl
      none_at (i ∷ is) all (suc n) e = none_at is (drop i.number_of_rows all) n (ap (drop i.number_of_rows) e ∙ drop_none i.number_of_rows)
        where
          drop_none : (k : ℕ) → ◌≡◌ {A = List Cell} (drop k []) []
          drop_none zero = refl
          drop_none (suc k) = refl

  no_stop : (n group : ℕ) (fault : CliFault) → IsPlace tail n group → HaveJson tail.schema rows → NoLinesFrom tail n (stripe_bytes (stripe_at tail.stripes n) bytes) group fault → ⊥
  no_stop n group fault place have (inl h) =
      let stripe = stripe_is bytes tail rows is n place.there in
      let text : List ℕ = stripe_bytes (stripe_at tail.stripes n) bytes in
      let has : HasGroup (opened_stripe tail n text stripe.footer) group = record { indexed = place.indexed; there = place.begun } in
      h.3.none stripe.footer (columns_of stripe.footer text) (rows_at parts n) stripe.has_footer (starts n place.there stripe.footer stripe.has_footer group has)
  no_stop n group fault place (inl none) (inr h) = some_rows n group place none
  no_stop n group fault place (inr distinct) (inr h) = let twice = h.1 in cc

  pub ends_outside : (n group : ℕ) (old new : Option (List ℕ)) (fault : CliFault) → IsPlace tail n group → HaveJson tail.schema rows → EndsFrom bytes tail n group old new fault → IsOutsideFile fault
  ends_outside n group old new fault place have (inl h) = absurd (omega (arith, h.0, place.there))
  ends_outside n group old new fault place have (inr (lt, inl (inl (inl stops, kept)))) = absurd (no_stop n group fault place have stops)
  ends_outside n group old new fault place have (inr (lt, inl (inl (inr source, kept)))) = inr source
  ends_outside n group old new fault place have (inr (lt, inl (inr part))) = inl part.0
  ends_outside n group old new fault place have (inr (lt, inr behind)) = later_outside bytes tail (n + 1) rows behind.middle new fault is.has_rows have behind.ends behind.ends.ends
