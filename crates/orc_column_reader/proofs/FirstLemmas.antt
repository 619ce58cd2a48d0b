-- What comes first in a stream, and what it says of a column.
use Rattle.std.proofs.Common.{◌≡◌, ℕ, ◌+◌, ◌<◌, ◌≤◌, ℤ, pos, negsuc, Bool, true, List, [], ◌∷◌, ◌++◌, map, length, take, drop, sum, refl, sym, ap, ◌∙◌, subst, arith, append_assoc, append-nil, take-append-drop}
use Rattle.std.specs.List.{AllByRecursion}
use Rattle.std.specs.Str.{is_utf8}
use Rattle.orc_rle.specs.declared.sign.Sign.{Sign}
use Rattle.orc_rle.specs.declared.sign.Sign.TheVariants.{Unsigned}
use Rattle.orc_rle.specs.Values.{InRange, AllInRange}
use Rattle.orc_rle.specs.Stream.{AreRuns, IsStream}
use Rattle.orc_rle.specs.declared.sign.Rle.{Rle}
use Rattle.orc_rle.specs.declared.sign.Rle.TheVariants.{One, Two}
use Rattle.orc_column_reader.specs.Fronts.{Precedes}
use Rattle.orc_column_reader.specs.Numbers.{is_run}
use Rattle.orc_column_reader.specs.ReaderFaults.{Pass}
use Rattle.orc_column_reader.specs.Runs.{RunsFirst, RunsBegin}
use Rattle.orc_column_reader.specs.Spellings.{size, concatenated}
use Rattle.orc_column_reader.proofs.RunsLemmas.{past_end}
use Rattle.orc_values.proofs.Lists.{drop_twice, all_append, sum_more}
use Rattle.orc_column_reader.specs.ValueFaults.{NotAll, CutsNoText, PassTogether, StayBelow}

-- ---- of runs

pub nothing_first : {A : Type 0} (is_run : List ℕ → List A → Type 0) (pending : List A) (rest : List ℕ) → RunsFirst is_run pending rest []
nothing_first is_run pending rest = ([], rest, pending ++ [], refl, ([], refl, ([], (refl, refl))))

pub first_taken : {A : Type 0} (is_run : List ℕ → List A → Type 0) (values : List A) (used : ℕ) (rest : List ℕ) (x : A) → drop used values ≡ x ∷ drop (used + 1) values
    → Precedes (RunsFirst is_run (drop used values) rest) (RunsFirst is_run (drop (used + 1) values) rest) (x ∷ [])
first_taken is_run values used rest x e = λ all h. (h.0, h.1, h.2, h.3, (h.4.0, ap (λ t. x ∷ t) h.4.1 ∙ ap (λ t. t ++ h.4.0) (sym e), h.4.2))

pub first_read : {A : Type 0} (is_run : List ℕ → List A → Type 0) (pending : List A) (rest text left : List ℕ) (v : List A) → pending ≡ [] → is_run text v → rest ≡ text ++ left
    → Precedes (RunsFirst is_run pending rest) (RunsFirst is_run v left) []
first_read is_run pending rest text left v none run parts = λ all h. (
  text ++ h.0,
  h.1,
  h.2,
  parts ∙ ap (λ t. text ++ t) h.3 ∙ sym (append_assoc text h.0 h.1),
  (all ++ h.2, ap (λ t. t ++ (all ++ h.2)) (sym none), ((text, v) ∷ h.4.2.0, (h.0, h.4.0, run, refl, h.4.1, h.4.2.1))),
)

-- the run is used up, and the next one is read
pub first_next : {A : Type 0} (is_run : List ℕ → List A → Type 0) (values : List A) (used : ℕ) (bytes : List ℕ) (at len : ℕ) (new : List A) → length values ≤ used → is_run (take len (drop at bytes)) new
    → Precedes (RunsFirst is_run (drop used values) (drop at bytes)) (RunsFirst is_run new (drop (at + len) bytes)) []
first_next is_run values used bytes at len new u is =
    let b : drop at bytes ≡ take len (drop at bytes) ++ drop (at + len) bytes = sym (take-append-drop len (drop at bytes)) ∙ ap (λ t. take len (drop at bytes) ++ t) (drop_twice at len bytes) in
    first_read is_run (drop used values) (drop at bytes) (take len (drop at bytes)) (drop (at + len) bytes) new (past_end used values u) is b

pub first_after : {X : Type 0} (before between after : List X → Type 0) (a b : List X) → Precedes before between a → Precedes between after b → Precedes before after (a ++ b)
first_after before between after a b p q = λ rest r. subst before (sym (append_assoc a b rest)) (p (b ++ rest) (q rest r))

-- ---- of numbers

pub not_all_before : (passes : ℤ → Bool) (before after : List ℤ → Type 0) (n : ℤ) → Precedes before after (n ∷ []) → NotAll passes after → NotAll passes before
not_all_before passes before after n p h = (n ∷ h.0, p h.0 h.1, λ all. h.2 all.1)

pub not_all_now : (passes : ℤ → Bool) (before after : List ℤ → Type 0) (n : ℤ) → Precedes before after (n ∷ []) → after [] → (passes n ≡ true → ⊥) → NotAll passes before
not_all_now passes before after n p none h = (n ∷ [], p [] none, λ all. h all.0)

-- ---- of lengths

pass_more : (n most most' : ℕ) (numbers : List ℤ) (lengths : List ℕ) → most ≡ n + most' → ((ls : List ℕ) → numbers ≡ map pos ls → most' < sum ls) → pos n ∷ numbers ≡ map pos lengths → most < sum lengths
pass_more n most most' numbers [] e h is = cc
pass_more n most most' numbers (m ∷ lengths) e h is =
    let first : n ≡ m = cc in
    let rest : numbers ≡ map pos lengths = cc in
    omega (arith, e, first, h lengths rest, sum_more m lengths)

pub pass_before : (n most most' : ℕ) (before after : List ℤ → Type 0) → most ≡ n + most' → Precedes before after (pos n ∷ []) → Pass after most' → Pass before most
pass_before n most most' before after e p h = (pos n ∷ h.0, p h.0 h.1, λ lengths is. pass_more n most most' h.0 lengths e h.2 is)

alone : (n most : ℕ) (lengths : List ℕ) → most < n → pos n ∷ [] ≡ map pos lengths → most < sum lengths
alone n most [] lt is = cc
alone n most (m ∷ lengths) lt is =
    let first : n ≡ m = cc in
    omega (arith, lt, first, sum_more m lengths)

pub pass_now : (n most : ℕ) (before after : List ℤ → Type 0) → most < n → Precedes before after (pos n ∷ []) → after [] → Pass before most
pass_now n most before after lt p none = (pos n ∷ [], p [] none, λ lengths is. alone n most lengths lt is)

no_lengths : (k most : ℕ) (lengths : List ℕ) → negsuc k ∷ [] ≡ map pos lengths → most < sum lengths
no_lengths k most [] is = cc
no_lengths k most (m ∷ lengths) is = cc

pub pass_negative : (k most : ℕ) (before after : List ℤ → Type 0) → Precedes before after (negsuc k ∷ []) → after [] → Pass before most
pass_negative k most before after p none = (negsuc k ∷ [], p [] none, λ lengths is. no_lengths k most lengths is)

pub below_before : (n count count' : ℕ) (before after : List ℤ → Type 0) → count ≡ n + count' → Precedes before after (pos n ∷ []) → StayBelow after count' → StayBelow before count
below_before n count count' before after e p h = (n ∷ h.0, p (map pos h.0) h.1, omega (arith, e, h.2, sum_more n h.0))

pub below_now : {X : Type 0} (all : List ℤ → Type 0) (rest : List X) → all [] → (rest ≡ [] → ⊥) → StayBelow all (length rest)
below_now all [] h some = absurd (some refl)
below_now all (x ∷ rest) h some = ([], h, omega arith)

-- ---- of texts

pub no_text_before : (before after : List ℤ → Type 0) (front bytes rest : List ℕ) → Precedes before after (size front ∷ []) → bytes ≡ front ++ rest → CutsNoText after rest → CutsNoText before bytes
no_text_before before after front bytes rest p e h =
    (front ∷ h.0, h.1, p (map size h.0) h.2, e ∙ ap (λ t. front ++ t) h.3 ∙ sym (append_assoc front (concatenated h.0) h.1), λ all. h.4 all.1)

pub no_text_now : (before after : List ℤ → Type 0) (front bytes rest : List ℕ) → Precedes before after (size front ∷ []) → after [] → bytes ≡ front ++ rest → (is_utf8 front ≡ true → ⊥) → CutsNoText before bytes
no_text_now before after front bytes rest p none e bad =
    (front ∷ [], rest, p [] none, e ∙ ap (λ t. t ++ rest) (sym (append-nil front)), λ all. bad all.0)

-- ---- from the start of a stream

pub first_begins : {A : Type 0} (is_run : List ℕ → List A → Type 0) (pending : List A) (bytes : List ℕ) (all : List A) → pending ≡ [] → RunsFirst is_run pending bytes all → RunsBegin is_run bytes all
first_begins is_run pending bytes all none h =
    (h.0, h.1, h.2, h.3, subst (λ t. IsStream is_run h.0 t) (sym (h.4.1 ∙ ap (λ t. t ++ h.4.0) none)) h.4.2)

-- ---- lengths are no negative numbers

all_front : {X : Type 0} (P : X → Type 0) (a b : List X) → AllByRecursion P (a ++ b) → AllByRecursion P a
all_front P [] b p = tt
all_front P (x ∷ a) b p = (p.0, all_front P a b p.1)

run_in_range : (v : Rle) (sign : Sign) (bytes : List ℕ) (values : List ℤ) → is_run v sign bytes values → AllInRange sign values
run_in_range One sign bytes values h = h.in_range
run_in_range Two sign bytes values h = h.in_range

runs_in_range : (v : Rle) (sign : Sign) (pieces : List (List ℕ × List ℤ)) (bytes : List ℕ) (values : List ℤ) → AreRuns (is_run v sign) pieces bytes values → AllInRange sign values
runs_in_range v sign [] bytes values h = subst (λ t. AllInRange sign t) (sym h.1) tt
runs_in_range v sign (p ∷ ps) bytes values h =
    subst (λ t. AllInRange sign t) (sym h.4) (all_append (InRange sign) p.1 h.1 (run_in_range v sign p.0 p.1 h.2) (runs_in_range v sign ps h.0 h.1 h.5))

abbrev naturals : List ℤ → List ℕ
naturals [] = []
naturals (pos n ∷ ns) = n ∷ naturals ns
naturals (negsuc n ∷ ns) = naturals ns

naturals_are : (ns : List ℤ) → AllInRange Unsigned ns → ns ≡ map pos (naturals ns)
naturals_are [] h = refl
naturals_are (pos n ∷ ns) h = ap (λ t. pos n ∷ t) (naturals_are ns h.1)
naturals_are (negsuc n ∷ ns) h = absurd h.0

pub begin_lengths : (v : Rle) (bytes : List ℕ) (most : ℕ) → Pass (RunsBegin (is_run v Unsigned) bytes) most → PassTogether (RunsBegin (is_run v Unsigned) bytes) most
begin_lengths v bytes most h =
    let b = h.1 in
    let e = naturals_are h.0 (all_front (InRange Unsigned) h.0 b.2 (runs_in_range v Unsigned b.4.0 b.0 (h.0 ++ b.2) b.4.1)) in
    (naturals h.0, subst (λ t. RunsBegin (is_run v Unsigned) bytes t) e h.1, h.2 (naturals h.0) e)
