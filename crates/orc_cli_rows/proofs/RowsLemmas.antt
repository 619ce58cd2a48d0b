-- Rows as lines, stripe by stripe: what the first stripes have printed, and why the next one stops it.
use Rattle.std.proofs.Common.{◌≡◌, ℕ, zero, suc, ◌+◌, ◌-◌, ◌<◌, ◌≤◌, List, [], ◌∷◌, ◌++◌, length, take, drop, refl, sym, ap, ◌∙◌, subst, arith, append-nil, length-drop, Option, Some, None, inl, inr}
use Rattle.std.specs.Borrow.{Bor}
use Rattle.std.specs.Option.{IfSome}
use Rattle.std.specs.Prelude.{IfErr, Result, Ok, Err}
use Rattle.std.specs.Io.KnownBytes.{Appends}
use Rattle.std.proofs.lemmas.List.{take_more}
use Rattle.std.proofs.Math.Seq.{take-length}
use Rattle.std.proofs.lemmas.List.Concat.{flat_map-append}
use Rattle.orc_wire.specs.declared.stripe_info.StripeInfo.{StripeInfo}
use Rattle.orc_values.specs.Cells.{Cell}
use Rattle.orc_values.specs.Shapes.{Shape}
use Rattle.orc_column_reader.specs.Stripe.{IsStripe}
use Rattle.orc_stripe_reader.proofs.OneStripe.{one_stripe}
use Rattle.orc_tail.specs.Stripes.{stripe_at, stripe_bytes}
use Rattle.orc_tail.specs.Tails.{IsTail, TailOpenFault, ReadFault, tail_tests}
use Rattle.orc_tail.specs.declared.fault.FileFault.{FileFault}
use Rattle.orc_file_reader.specs.FileRows.{rows_together, HasRows, FileIs, AreOfStripes as RowsOfStripes}
use Rattle.orc_tail.specs.declared.tail.Tail.{Tail}
use Rattle.orc_cli_output.specs.Output.{write_failed, IsOutsideFile, IsWantOfMemory}
use Rattle.orc_cli_output.proofs.OutputLemmas.{appends_more}
use Rattle.orc_cli_rows.specs.Rows.{row_line, row_lines, HaveJson, AreOfStripe, AreLinesOfStripes, StripeStops, EndsAt, EndsIn, RefusesRows, IsWantOfRows}
use Rattle.orc_cli_rows.specs.Printed.{IsAsked, IsNotAsked, AreLinesOfFile, ArePrinted, PrintingEnds, PrintingStops, RefusesFile}
use Rattle.orc_cli_rows.specs.declared.start.Start.{Start}
use Rattle.orc_cli_output.specs.declared.fault.CliFault.{CliFault}
use Rattle.orc_cli_output.specs.declared.fault.CliFault.TheVariants.{File}
use Rattle.orc_io.proofs.Told.{keeps_itself}

-- ---- stripes, one more at a time

more_parts : (s : Shape) (bytes : List ℕ) (infos : List StripeInfo) (parts : List (List Cell)) (info : StripeInfo) (rows : List Cell) → RowsOfStripes s bytes infos parts
    → IsStripe s info (stripe_bytes info bytes) rows → RowsOfStripes s bytes (infos ++ info ∷ []) (parts ++ rows ∷ [])
more_parts s bytes [] [] info rows p is = (is, tt)
more_parts s bytes [] (x ∷ xs) info rows p is = absurd p
more_parts s bytes (i ∷ is) [] info rows p own = absurd p
more_parts s bytes (i ∷ is) (x ∷ xs) info rows p own = (p.0, more_parts s bytes is xs info rows p.1 own)

more_rows : (s : Shape) (bytes : List ℕ) (infos : List StripeInfo) (info : StripeInfo) (rows own : List Cell) → HasRows s bytes infos rows → IsStripe s info (stripe_bytes info bytes) own
    → HasRows s bytes (infos ++ info ∷ []) (rows ++ own)
more_rows s bytes infos info rows own p is = record {
  parts = p.parts ++ own ∷ [];
  stripes = more_parts s bytes infos p.parts info own p.stripes is;
  rows_are = ap (λ (t : List Cell). t ++ own) p.rows_are ∙ (ap (λ (t : List Cell). rows_together p.parts ++ t) (sym (append-nil own)) ∙ sym (flat_map-append (λ (r : List Cell). r) p.parts (own ∷ [])));
}

json_both : (s : Shape) (a b : List Cell) → HaveJson s a → HaveJson s b → HaveJson s (a ++ b)
json_both s a b (inr distinct) q = inr distinct
json_both s a b (inl none) (inr distinct) = inr distinct
json_both s a b (inl none) (inl nothing) = inl (rw (none, nothing) refl)

more_lines : (s : Shape) (bytes : List ℕ) (infos : List StripeInfo) (n : ℕ) (lines own : List ℕ) → n < length infos → AreLinesOfStripes s bytes (take n infos) lines
    → AreOfStripe s (stripe_at infos n) (stripe_bytes (stripe_at infos n) bytes) own → AreLinesOfStripes s bytes (take (n + 1) infos) (lines ++ own)
more_lines s bytes infos n lines own lt p is =
    let next = take_more infos n (record { offset = 0; index_length = 0; data_length = 0; footer_length = 0; number_of_rows = 0 }) lt in
    record {
      rows = p.rows ++ is.rows;
      has_rows = subst (λ (t : List StripeInfo). HasRows s bytes t (p.rows ++ is.rows)) (sym next) (more_rows s bytes (take n infos) (stripe_at infos n) p.rows is.rows p.has_rows is.stripe);
      have_json = json_both s p.rows is.rows p.have_json is.have_json;
      lines_are = ap (λ (t : List ℕ). t ++ own) p.lines_are ∙ (ap (λ (t : List ℕ). row_lines s p.rows ++ t) is.lines_are ∙ sym (flat_map-append (row_line s) p.rows is.rows));
    }

-- ---- what is out

pub appends_none : (known : Option (List ℕ)) → Appends known known []
appends_none None = tt
appends_none (Some bytes) = sym (append-nil bytes)

-- ---- the same where the bytes are told, from a stripe on

-- the lines of the stripes from the first of them on are out, up to number n
abbrev pub Printed : Option (List ℕ) → Shape → List StripeInfo → ℕ → ℕ → Option (List ℕ) → Option (List ℕ) → Type 0
Printed told s infos first n old new = IfSome told (λ all. (lines : List ℕ) × AreLinesOfStripes s all (take (n - first) (drop first infos)) lines × Appends old new lines)

no_lines : (s : Shape) (bytes : List ℕ) → AreLinesOfStripes s bytes [] []
no_lines s bytes = record { rows = []; has_rows = record { parts = []; stripes = tt; rows_are = refl }; have_json = inl refl; lines_are = refl }

pub printed_none : (told : Option (List ℕ)) (s : Shape) (infos : List StripeInfo) (first : ℕ) (known : Option (List ℕ)) → Printed told s infos first first known known
printed_none None s infos first known = tt
printed_none (Some all) s infos first known =
    let none : 0 ≡ first - first = omega arith in
    ([], subst (λ (k : ℕ). AreLinesOfStripes s all (take k (drop first infos)) []) none (no_lines s all), appends_none known)

-- a stripe of those from a number on
at_drop : (infos : List StripeInfo) (first k : ℕ) → stripe_at (drop first infos) k ≡ stripe_at infos (first + k)
at_drop infos zero k = let z : k ≡ 0 + k = omega arith in ap (stripe_at infos) z
at_drop [] (suc first) k = let z : suc first + k ≡ suc (first + k) = omega arith in sym (ap (stripe_at []) z)
at_drop (i ∷ is) (suc first) k = let z : suc (first + k) ≡ suc first + k = omega arith in at_drop is first k ∙ ap (stripe_at (i ∷ is)) z

pub printed_next : (told : Option (List ℕ)) (s : Shape) (infos : List StripeInfo) (first n : ℕ) (old mid new : Option (List ℕ)) → first ≤ n → n < length infos → Printed told s infos first n old mid
    → IfSome told (λ all. (own : List ℕ) × AreOfStripe s (stripe_at infos n) (stripe_bytes (stripe_at infos n) all) own × Appends mid new own) → Printed told s infos first (n + 1) old new
printed_next None s infos first n old mid new le lt p q = tt
printed_next (Some all) s infos first n old mid new le lt p q =
    let k = n - first in
    let there : k < length (drop first infos) = (let l = length-drop first infos in omega (arith, le, lt, l)) in
    let sum : first + k ≡ n = omega (arith, le) in
    let same : stripe_at (drop first infos) k ≡ stripe_at infos n = at_drop infos first k ∙ ap (stripe_at infos) sum in
    let more : k + 1 ≡ n + 1 - first = omega (arith, le) in
    let own = subst (λ (i : StripeInfo). AreOfStripe s i (stripe_bytes i all) q.0) (sym same) q.1 in (
      p.0 ++ q.0,
      subst (λ (m : ℕ). AreLinesOfStripes s all (take m (drop first infos)) (p.0 ++ q.0)) more (more_lines s all (drop first infos) k p.0 q.0 there p.1 own),
      appends_more old mid new p.0 q.0 p.2 q.2,
    )

pub printed_all : (told : Option (List ℕ)) (s : Shape) (infos : List StripeInfo) (first n : ℕ) (old new : Option (List ℕ)) → n ≡ length infos → Printed told s infos first n old new
    → IfSome told (λ all. (lines : List ℕ) × AreLinesOfStripes s all (drop first infos) lines × Appends old new lines)
printed_all None s infos first n old new e p = tt
printed_all (Some all) s infos first n old new e p =
    let long : n - first ≡ length (drop first infos) = (let l = length-drop first infos in omega (arith, e, l)) in
    (p.0, subst (λ (t : List StripeInfo). AreLinesOfStripes s all t p.0) (ap (λ (k : ℕ). take k (drop first infos)) long ∙ take-length (drop first infos)) p.1, p.2)

-- ---- where printing ends

-- a part of a stripe's lines is out, where the output failed
abbrev pub EndsAmong : Shape → StripeInfo → List ℕ → List ℕ → Option (List ℕ) → Option (List ℕ) → CliFault → Type 0
EndsAmong s info bytes before old new fault =
    (fault ≡ write_failed) × ((own : List ℕ) × AreOfStripe s info bytes own × ((count : ℕ) × (count < length own) × Appends old new (before ++ take count own)))

ends_behind : (s : Shape) (bytes : List ℕ) (n : ℕ) (info : StripeInfo) (lines : List ℕ) (old mid new : Option (List ℕ)) (fault : CliFault) → Appends old mid lines
    → EndsAt s bytes n info [] mid new fault → EndsAt s bytes n info lines old new fault
ends_behind s bytes n info lines old mid new fault p (inl h) =
    inl (h.0, subst (λ (t : List ℕ). Appends old new t) (append-nil lines) (appends_more old mid new lines [] p h.1))
ends_behind s bytes n info lines old mid new fault p (inr h) =
    inr (h.0, (h.1.0, h.1.1, (h.1.2.0, h.1.2.1, appends_more old mid new lines (take h.1.2.0 h.1.0) p h.1.2.2)))

pub ends_in : (told : Option (List ℕ)) (tail : Tail) (first n : ℕ) (old mid new : Option (List ℕ)) (fault : CliFault) → first ≤ n → n < length tail.stripes → Printed told tail.schema tail.stripes first n old mid
    → IfSome told (λ all. EndsAt tail.schema all n (stripe_at tail.stripes n) [] mid new fault) → IfSome told (λ all. EndsIn all tail first old new fault)
ends_in None tail first n old mid new fault le lt p h = tt
ends_in (Some all) tail first n old mid new fault le lt p h = record {
  n = n;
  begun = le;
  some = lt;
  lines = p.0;
  before = p.1;
  ends = ends_behind tail.schema all n (stripe_at tail.stripes n) p.0 old mid new fault p.2 h;
}

-- ---- a file

pub printed_file : (told : Option (List ℕ)) (tail : Tail) (start : Option Start) (old new : Option (List ℕ)) → IfSome told (λ bytes. IsTail bytes tail)
    → IfSome told (λ all. (lines : List ℕ) × AreLinesOfFile all tail start lines × Appends old new lines) → IfSome told (λ bytes. ArePrinted bytes start old new)
printed_file None tail start old new is h = tt
printed_file (Some bytes) tail start old new is h = (tail, h.0, is, h.1, h.2)

pub refused_file : (told : Option (List ℕ)) (tail : Tail) (start : Option Start) (old new : Option (List ℕ)) (fault : CliFault) → IfSome told (λ bytes. IsTail bytes tail)
    → IfSome told (λ all. PrintingStops all tail start old new fault) → IfSome told (λ bytes. RefusesFile bytes start old new fault)
refused_file None tail start old new fault is h = tt
refused_file (Some bytes) tail start old new fault is (inl h) = inl (inr (inr h.0), h.1)
refused_file (Some bytes) tail start old new fault is (inr h) = inr (tail, is, h)

pub no_printer : (told : Option (List ℕ)) (tail : Tail) (start : Option Start) (known : Option (List ℕ)) (fault : CliFault) → IsWantOfMemory fault
    → IfSome told (λ all. PrintingStops all tail start known known fault)
no_printer None tail start known fault h = tt
no_printer (Some all) tail start known fault h = inl (h, keeps_itself known)

pub printer_ends : {A : Type 0} (r : Result A CliFault) (told : Option (List ℕ)) (tail : Tail) (start : Option Start) (old new : Option (List ℕ))
    → IfErr r (λ fault. IfSome told (λ all. PrintingEnds all tail start old new fault)) → IfErr r (λ fault. IfSome told (λ all. PrintingStops all tail start old new fault))
printer_ends (Ok x) told tail start old new h = tt
printer_ends (Err fault) None tail start old new h = tt
printer_ends (Err fault) (Some all) tail start old new h = inr h

pub refused_open : (told : Option (List ℕ)) (start : Option Start) (known : Option (List ℕ)) (why : FileFault) → ReadFault told why (λ bytes. TailOpenFault bytes why)
    → IfSome told (λ bytes. RefusesFile bytes start known known (File why))
refused_open None start known why h = tt
refused_open (Some bytes) start known why (inl memory) = inl (inr (inr (inl (ap File memory))), keeps_itself known)
refused_open (Some bytes) start known why (inr (inl source)) = inl (inr (inl (ap File source)), keeps_itself known)
refused_open (Some bytes) start known why (inr (inr bad)) = inl (inl (why, refl, bad), keeps_itself known)

-- ---- a file whose rows have JSON is refused for what is outside of it

none_first : (a b : List Cell) → a ++ b ≡ [] → a ≡ []
none_first [] b e = refl
none_first (c ∷ a) b e = absurd (cc)

none_second : (a b : List Cell) → a ++ b ≡ [] → b ≡ []
none_second [] b e = e
none_second (c ∷ a) b e = absurd (cc)

-- a stripe of a file has rows, and none where the file has none
record HasOwn (s : Shape) (info : StripeInfo) (bytes : List ℕ) (all : List Cell) : Type 0 where
  rows : List Cell
  stripe : IsStripe s info bytes rows
  none : all ≡ [] → rows ≡ []

own_rows : (s : Shape) (bytes : List ℕ) (infos : List StripeInfo) (parts : List (List Cell)) (n : ℕ) → n < length infos → RowsOfStripes s bytes infos parts
    → HasOwn s (stripe_at infos n) (stripe_bytes (stripe_at infos n) bytes) (rows_together parts)
own_rows s bytes [] parts n lt p = absurd (omega (arith, lt))
own_rows s bytes (i ∷ is) [] n lt p = absurd p
own_rows s bytes (i ∷ is) (x ∷ xs) zero lt p = record { rows = x; stripe = p.0; none = λ e. none_first x (rows_together xs) e }
own_rows s bytes (i ∷ is) (x ∷ xs) (suc n) lt p =
    let h = own_rows s bytes is xs n (omega (arith, lt)) p.1 in
    record { rows = h.rows; stripe = h.stripe; none = λ e. h.none (none_second x (rows_together xs) e) }

stops_nowhere : (s : Shape) (bytes : List ℕ) (infos : List StripeInfo) (n : ℕ) (rows : List Cell) (fault : CliFault) → n < length infos → HasRows s bytes infos rows → HaveJson s rows
    → StripeStops s bytes n (stripe_at infos n) fault → ⊥
stops_nowhere s bytes infos n rows fault lt p have (inl h) =
    let own = own_rows s bytes infos p.parts n lt p.stripes in
    h.2.3.none own.rows own.stripe
stops_nowhere s bytes infos n rows fault lt p (inr distinct) (inr h) = let twice = h.1.twice in absurd (cc)
stops_nowhere s bytes infos n rows fault lt p (inl nothing) (inr h) =
    let own = own_rows s bytes infos p.parts n lt p.stripes in
    let same = one_stripe s (stripe_at infos n) (stripe_bytes (stripe_at infos n) bytes) h.1.rows own.rows h.1.stripe own.stripe in
    h.1.some (same ∙ own.none (sym p.rows_are ∙ nothing))

pub ends_outside : (bytes : List ℕ) (tail : Tail) (first : ℕ) (rows : List Cell) (old new : Option (List ℕ)) (fault : CliFault) → HasRows tail.schema bytes tail.stripes rows → HaveJson tail.schema rows
    → (h : EndsIn bytes tail first old new fault) → EndsAt tail.schema bytes h.n (stripe_at tail.stripes h.n) h.lines old new fault → IsOutsideFile fault
ends_outside bytes tail first rows old new fault p have h (inl q) = elim q.0 [
  | inl stops ↦ absurd (stops_nowhere tail.schema bytes tail.stripes h.n rows fault h.some p have stops)
  | inr source ↦ inr source
]
ends_outside bytes tail first rows old new fault p have h (inr q) = inl q.0

refuses_outside : (bytes : List ℕ) (tail : Tail) (rows : List Cell) (old new : Option (List ℕ)) (fault : CliFault) → FileIs bytes tail rows → HaveJson tail.schema rows → RefusesFile bytes None old new fault
    → IsOutsideFile fault
refuses_outside bytes tail rows old new fault p have (inl h) = elim h.0 [
  | inl bad ↦ absurd ((tail_tests bytes).none tail bad.0 bad.2 p.tail_is)
  | inr source ↦ inr source
]
refuses_outside bytes tail rows old new fault p have (inr h) =
    let same = (tail_tests bytes).one tail h.0 p.tail_is h.1 in
    ends_outside bytes h.0 0 rows old new fault (subst (λ (t : Tail). HasRows t.schema bytes t.stripes rows) same p.has_rows) (subst (λ (t : Tail). HaveJson t.schema rows) same have) h.2 h.2.ends

-- without a text there is no place
no_place : (start : Option Start) → IsAsked None start → start ≡ None
no_place None h = refl
no_place (Some start) h = absurd h

pub refused_only : (told : Option (List ℕ)) (from : Option (Bor (List ℕ))) (start : Option Start) (old new : Option (List ℕ)) (fault : CliFault) → from ≡ None → IsAsked from start
    → IfSome told (λ bytes. RefusesFile bytes start old new fault)
    → IfSome told (λ bytes. (tail : Tail) (rows : List Cell) → FileIs bytes tail rows → HaveJson tail.schema rows → IsOutsideFile fault)
refused_only None from start old new fault none asked h = tt
refused_only (Some bytes) from start old new fault none asked h = λ tail rows p have.
    let whole : start ≡ None = no_place start (subst (λ (f : Option (Bor (List ℕ))). IsAsked f start) none asked) in
    refuses_outside bytes tail rows old new fault p have (subst (λ (s : Option Start). RefusesFile bytes s old new fault) whole h)

-- of an answer
pub answered_only : {A B : Type 0} (told : Option (List ℕ)) (from : Option (Bor (List ℕ))) (start : Option Start) (old new : Option (List ℕ)) (r : Result A (CliFault × B)) → from ≡ None → IsAsked from start
    → IfErr r (λ e. IfSome told (λ bytes. RefusesFile bytes start old new e.0))
    → IfSome told (λ bytes. (tail : Tail) (rows : List Cell) → FileIs bytes tail rows → HaveJson tail.schema rows → IfErr r (λ e. IsOutsideFile e.0))
answered_only None from start old new r none asked h = tt
answered_only (Some bytes) from start old new (Ok a) none asked h = λ tail rows p have. tt
answered_only (Some bytes) from start old new (Err e) none asked h = refused_only (Some bytes) from start old new e.0 none asked h

-- where no text is given, it isn't one that names no place
pub not_asked : (told : Option (List ℕ)) (from : Option (Bor (List ℕ))) (fault : CliFault) → from ≡ None → IsNotAsked from fault
    → IfSome told (λ bytes. (tail : Tail) (rows : List Cell) → FileIs bytes tail rows → HaveJson tail.schema rows → IsOutsideFile fault)
not_asked told from fault none h =
    let nothing : IsAsked None None = tt in
    absurd (h.1 None (subst (λ (f : Option (Bor (List ℕ))). IsAsked f None) (sym none) nothing))

-- ---- whose want of memory it is

pub rows_want : (fault : CliFault) → RefusesRows fault → IsWantOfMemory fault → IsWantOfRows fault
rows_want fault h (inl e) = inr e
rows_want fault h (inr (inl e)) = absurd (subst (λ (f : CliFault). RefusesRows f) e h)
rows_want fault h (inr (inr (inl e))) = inl e
rows_want fault h (inr (inr (inr e))) = absurd (subst (λ (f : CliFault). RefusesRows f) e h)

pub no_place_layer : (from : Option (Bor (List ℕ))) (fault : CliFault) → IsNotAsked from fault → RefusesRows fault
no_place_layer from fault h = subst (λ (f : CliFault). RefusesRows f) (sym h.0) tt
