-- What is printed from a group on of a file that differs from another only before the group's offsets.
use Rattle.std.proofs.Common.{◌≡◌, ◌∙◌, ℕ, zero, suc, ◌+◌, ◌*◌, ◌<◌, ◌≤◌, inl, inr, List, [], ◌∷◌, ◌++◌, length, map, get_or, take, drop, Option, refl, sym, ap, subst, arith}
use Rattle.std.proofs.lemmas.List.Concat.{flat_map-append}
use Rattle.orc_wire.specs.declared.stripe_footer.StripeFooter.{StripeFooter}
use Rattle.orc_wire.specs.declared.stripe_info.StripeInfo.{StripeInfo}
use Rattle.orc_values.specs.Cells.{Cell}
use Rattle.orc_values.specs.Shapes.{Shape}
use Rattle.orc_column_reader.specs.Stripe.{HasFooter, IsStripe, columns_of}
use Rattle.orc_stripe_reader.specs.GroupCursors.{HasGroup, StartsGroup}
use Rattle.orc_stripe_reader.proofs.OneStripe.{one_stripe}
use Rattle.orc_tail.specs.Stripes.{stripe_at, stripe_bytes}
use Rattle.orc_file_reader.specs.FileRows.{opened_stripe, cut_rows, rows_together, AreOfStripes, HasRows, FileIs}
use Rattle.orc_tail.specs.declared.tail.Tail.{Tail}
use Rattle.orc_file_reader.proofs.RowLemmas.{rows_cut, cut_whole, one_rows}
use Rattle.orc_check.specs.Findings.{rows_at}
use Rattle.orc_check.specs.RightIndexes.{StartsAtGroups}
use Rattle.orc_check.proofs.NoFinding.{stripe_is}
use Rattle.orc_cli_output.specs.Output.{IsOutsideFile}
use Rattle.orc_cli_output.specs.declared.fault.CliFault.{CliFault}
use Rattle.orc_cli_rows.specs.Rows.{row_line, row_lines, HaveJson, StripeStops, EndsAt}
use Rattle.orc_cli_rows.specs.FromGroup.{AreFromGroup, AreLinesFromGroup, NoLinesFrom, EndsFrom}
use Rattle.orc_theorems.specs.Places.{IsPlace, rows_before}
use Rattle.orc_theorems.specs.BeforeGroups.{FileDiffersOnlyBefore}
use Rattle.orc_theorems.proofs.BeforeLemmas.{starts_before, footer_before, footer_back}
use Rattle.orc_theorems.proofs.PlaceLemmas.{parts_behind, rows_behind}

-- ---- stripes that are the same in two files

abbrev texts : List ℕ → List StripeInfo → List (List ℕ)
texts bytes infos = map (λ (info : StripeInfo). stripe_bytes info bytes) infos

head_same : (x y : List ℕ) (xs ys : List (List ℕ)) → x ∷ xs ≡ y ∷ ys → x ≡ y
head_same x y xs ys e = ap (λ (l : List (List ℕ)). get_or l 0 []) e

rest_same : (x y : List ℕ) (xs ys : List (List ℕ)) → x ∷ xs ≡ y ∷ ys → xs ≡ ys
rest_same x y xs ys e = ap (λ (l : List (List ℕ)). drop 1 l) e

same_stripes : (s : Shape) (a b : List ℕ) (infos : List StripeInfo) (parts : List (List Cell)) → texts a infos ≡ texts b infos → AreOfStripes s a infos parts → AreOfStripes s b infos parts
same_stripes s a b [] [] e h = tt
same_stripes s a b [] (p ∷ parts) e h = absurd h
same_stripes s a b (i ∷ is) [] e h = absurd h
same_stripes s a b (i ∷ is) (p ∷ parts) e h = (
  subst (λ (t : List ℕ). IsStripe s i t p) (head_same (stripe_bytes i a) (stripe_bytes i b) (texts a is) (texts b is) e) h.0,
  same_stripes s a b is parts (rest_same (stripe_bytes i a) (stripe_bytes i b) (texts a is) (texts b is) e) h.1,
)

-- by their numbers, from one on
same_text : (a b : List ℕ) (infos : List StripeInfo) (k m : ℕ) → texts a (drop k infos) ≡ texts b (drop k infos) → k ≤ m → m < length infos
    → stripe_bytes (stripe_at infos m) a ≡ stripe_bytes (stripe_at infos m) b
same_text a b [] k m e le lt = absurd (omega (arith, lt))
same_text a b (i ∷ is) zero zero e le lt = head_same (stripe_bytes i a) (stripe_bytes i b) (texts a is) (texts b is) e
same_text a b (i ∷ is) zero (suc m) e le lt = same_text a b is zero m (rest_same (stripe_bytes i a) (stripe_bytes i b) (texts a is) (texts b is) e) (omega arith) (omega (arith, lt))
same_text a b (i ∷ is) (suc k) zero e le lt = absurd (omega (arith, le))
same_text a b (i ∷ is) (suc k) (suc m) e le lt = same_text a b is k m e (omega (arith, le)) (omega (arith, lt))

-- ---- the rows of the stripes behind a number

take_none : (k : ℕ) → ◌≡◌ {A = List Cell} (take k []) []
take_none zero = refl
take_none (suc k) = refl

drop_none : (k : ℕ) → ◌≡◌ {A = List Cell} (drop k []) []
drop_none zero = refl
drop_none (suc k) = refl

-- no stripe has rows where there are none
none_at : (infos : List StripeInfo) (all : List Cell) (n : ℕ) → all ≡ [] → rows_at (cut_rows infos all) n ≡ []
none_at [] all n e = refl
none_at (i ∷ is) all zero e = ap (take i.number_of_rows) e ∙ take_none i.number_of_rows
none_at (i ∷ is) all (suc n) e = none_at is (drop i.number_of_rows all) n (ap (drop i.number_of_rows) e ∙ drop_none i.number_of_rows)

module _ (bytes : List ℕ) (tail : Tail) (rows : List Cell) (is : FileIs bytes tail rows) (starts : StartsAtGroups bytes tail rows)
    (n group : ℕ) (other : List ℕ) (differs : FileDiffersOnlyBefore bytes tail n group other) where
  abbrev parts : List (List Cell)
  parts = cut_rows tail.stripes rows

  abbrev mine : ℕ → List ℕ
  mine m = stripe_bytes (stripe_at tail.stripes m) bytes

  abbrev its : ℕ → List ℕ
  its m = stripe_bytes (stripe_at tail.stripes m) other

  of_stripes : AreOfStripes tail.schema bytes tail.stripes parts
  of_stripes = rows_cut bytes tail rows is

  -- what is the stripe's footer here is so there
  footer_there : n < length tail.stripes → (footer : StripeFooter) → HasFooter tail.schema (stripe_at tail.stripes n) (its n) footer → HasFooter tail.schema (stripe_at tail.stripes n) (mine n) footer
  footer_there lt footer has =
      let stripe = stripe_is bytes tail rows is n lt in
      footer_back (opened_stripe tail n (mine n) stripe.footer) group (its n) footer (differs.here stripe.footer stripe.has_footer) has

  -- and it starts at the group with the rows that it has there
  starts_here : n < length tail.stripes → (footer : StripeFooter) → HasFooter tail.schema (stripe_at tail.stripes n) (mine n) footer → HasGroup (opened_stripe tail n (mine n) footer) group
      → StartsGroup (opened_stripe tail n (its n) footer) (columns_of footer (mine n)) (rows_at parts n) group
  starts_here lt footer has there =
      starts_before (opened_stripe tail n (mine n) footer) (columns_of footer (mine n)) (rows_at parts n) group (its n) (starts n lt footer has group there) (differs.here footer has)

  from_group : (read : List Cell) → n < length tail.stripes → AreFromGroup tail n (its n) group read → read ≡ drop (group * tail.stride) (rows_at parts n)
  from_group read lt h =
      h.are.rows_are (columns_of h.footer (mine n)) (rows_at parts n)
      (starts_here lt h.footer (footer_there lt h.footer h.has_footer) (record { indexed = h.are.has_group.indexed; there = h.are.has_group.there }))

  later_rows : (read : List Cell) → HasRows tail.schema other (drop (n + 1) tail.stripes) read → read ≡ rows_together (drop (n + 1) parts)
  later_rows read h =
      one_rows tail.schema bytes (drop (n + 1) tail.stripes) read (rows_together (drop (n + 1) parts))
      (record { parts = h.parts; stripes = same_stripes tail.schema other bytes (drop (n + 1) tail.stripes) h.parts differs.behind h.stripes; rows_are = h.rows_are })
      (record { parts = drop (n + 1) parts; stripes = parts_behind tail.schema bytes tail.stripes parts (n + 1) of_stripes; rows_are = refl })

  pub lines_before : (lines : List ℕ) → AreLinesFromGroup other tail n group lines → lines ≡ row_lines tail.schema (drop (rows_before tail n group) rows)
  lines_before lines h =
      let own = h.of_group in
      let first : own.rows ≡ drop (group * tail.stride) (rows_at parts n) = from_group own.rows h.there own.are in
      let rest : h.of_later.rows ≡ rows_together (drop (n + 1) parts) = later_rows h.of_later.rows h.of_later.has_rows in
      let counted : length (rows_at parts n) ≡ (stripe_at tail.stripes n).number_of_rows = (let stripe = stripe_is bytes tail rows is n h.there in stripe.spelled.counted) in
      let inner : group * tail.stride ≤ length (rows_at parts n) = (let begun = own.are.are.has_group.there in omega (arith, begun, counted)) in
      let whole : rows_together parts ≡ rows = cut_whole tail.stripes bytes tail.schema rows is.has_rows in
      let all : own.rows ++ h.of_later.rows ≡ drop (rows_before tail n group) rows =
      (λ i. first i ++ rest i) ∙ sym (rows_behind tail.schema bytes tail.stripes parts n (group * tail.stride) h.there of_stripes inner) ∙ ap (drop (rows_before tail n group)) whole in
      h.lines_are ∙ (λ i. own.lines_are i ++ h.of_later.lines_are i) ∙ sym (flat_map-append (row_line tail.schema) own.rows h.of_later.rows) ∙ ap (row_lines tail.schema) all

  -- ---- and refused for nothing of the file's

  some_rows : IsPlace tail n group → rows ≡ [] → ⊥
  some_rows place none =
      let counted = (stripe_is bytes tail rows is n place.there).spelled.counted in
      let begun = place.begun in
      let long : length (rows_at parts n) ≡ 0 = ap (λ (p : List Cell). length p) (none_at tail.stripes rows n none) in
      omega (arith, counted, begun, long)

  no_stop : (fault : CliFault) → IsPlace tail n group → HaveJson tail.schema rows → NoLinesFrom tail n (its n) group fault → ⊥
  no_stop fault place have (inl h) =
      let stripe = stripe_is bytes tail rows is n place.there in
      let has = footer_before (opened_stripe tail n (mine n) stripe.footer) group (its n) stripe.footer (differs.here stripe.footer stripe.has_footer) stripe.has_footer in
      h.3.none stripe.footer (columns_of stripe.footer (mine n)) (rows_at parts n) has
      (starts_here place.there stripe.footer stripe.has_footer (record { indexed = place.indexed; there = place.begun }))
  no_stop fault place (inl none) (inr h) = some_rows place none
  no_stop fault place (inr distinct) (inr h) = let twice = h.1 in cc

  later_is : (m : ℕ) → n < m → m < length tail.stripes → IsStripe tail.schema (stripe_at tail.stripes m) (its m) (rows_at parts m)
  later_is m behind lt =
      subst (λ (t : List ℕ). IsStripe tail.schema (stripe_at tail.stripes m) t (rows_at parts m)) (sym (same_text other bytes tail.stripes (n + 1) m differs.behind (omega (arith, behind)) lt))
      (stripe_is bytes tail rows is m lt)

  no_later_stop : (m : ℕ) (fault : CliFault) → n < m → m < length tail.stripes → HaveJson tail.schema rows → StripeStops tail.schema other m (stripe_at tail.stripes m) fault → ⊥
  no_later_stop m fault behind lt have (inl h) = h.2.3.none (rows_at parts m) (later_is m behind lt)
  no_later_stop m fault behind lt (inl none) (inr h) =
      h.1.some (one_stripe tail.schema (stripe_at tail.stripes m) (its m) h.1.rows (rows_at parts m) h.1.stripe (later_is m behind lt) ∙ none_at tail.stripes rows m none)
  no_later_stop m fault behind lt (inr distinct) (inr h) = let twice = h.1.twice in cc

  later_outside : (m : ℕ) (lines : List ℕ) (old new : Option (List ℕ)) (fault : CliFault) → n < m → m < length tail.stripes → HaveJson tail.schema rows
      → EndsAt tail.schema other m (stripe_at tail.stripes m) lines old new fault → IsOutsideFile fault
  later_outside m lines old new fault behind lt have (inl (inl stops, out)) = absurd (no_later_stop m fault behind lt have stops)
  later_outside m lines old new fault behind lt have (inl (inr source, out)) = inr source
  later_outside m lines old new fault behind lt have (inr part) = inl part.0

  pub ends_before : (old new : Option (List ℕ)) (fault : CliFault) → IsPlace tail n group → HaveJson tail.schema rows → EndsFrom other tail n group old new fault → IsOutsideFile fault
  ends_before old new fault place have (inl h) = absurd (omega (arith, h.0, place.there))
  ends_before old new fault place have (inr (lt, inl (inl (inl stops, kept)))) = absurd (no_stop fault place have stops)
  ends_before old new fault place have (inr (lt, inl (inl (inr source, kept)))) = inr source
  ends_before old new fault place have (inr (lt, inl (inr part))) = inl part.0
  ends_before old new fault place have (inr (lt, inr behind)) =
      later_outside behind.ends.n behind.ends.lines behind.middle new fault (omega (arith, behind.ends.begun)) behind.ends.some have behind.ends.ends
