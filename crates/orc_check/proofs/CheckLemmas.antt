-- A file that is checked stripe by stripe.
use Rattle.std.proofs.Common.{◌≡◌, ◌≢◌, ◌∙◌, ℕ, zero, suc, ◌+◌, ◌<◌, ◌≤◌, ◌⊎◌, inl, inr, List, [], ◌∷◌, ◌++◌, length, get_or, Option, Some, None, refl, sym, ap, subst, arith, length-append}
use Rattle.std.specs.List.{AllByRecursion}
use Rattle.std.specs.Option.{IfSome}
use Rattle.std.specs.Prelude.{IfOk, IfErr, MatchResult, Result, Ok, Err}
use Rattle.orc_wire.specs.declared.stripe_footer.StripeFooter.{StripeFooter}
use Rattle.orc_wire.specs.declared.stripe_info.StripeInfo.{StripeInfo}
use Rattle.orc_values.specs.Cells.{Cell}
use Rattle.orc_values.specs.Shapes.{Shape, width}
use Rattle.orc_stats.specs.declared.stat.Stat.{Stat}
use Rattle.orc_column_reader.specs.Faults.{RowsFault}
use Rattle.orc_column_reader.specs.Stripe.{HasFooter, IsStripe, columns_of}
use Rattle.orc_stripe_reader.specs.Opened.{Opened}
use Rattle.orc_stripe_reader.specs.Opening as opening
use Rattle.orc_stripe_reader.proofs.OneStripe.{by_footer}
use Rattle.orc_tail.specs.Stripes.{stripe_at, most_stripes, stripe_bytes}
use Rattle.orc_file_reader.specs.FileRows.{rows_together, AreOfStripes, HasRows, FileIs, IsNoStripe, StripeRefused, FirstRefused, cut_rows}
use Rattle.orc_tail.specs.Tails.{IsTail, TailOpenFault, ReadFault, IsOfTail, tail_tests}
use Rattle.orc_tail.specs.declared.tail.Tail.{Tail}
use Rattle.orc_tail.specs.declared.fault.FileFault.{FileFault}
use Rattle.orc_tail.specs.declared.fault.FileFault.TheVariants.{Stripe, SourceFailed, OutOfMemory}
use Rattle.orc_directory.specs.declared.fault.StripeFault.{StripeFault}
use Rattle.orc_directory.specs.declared.fault.StripeFault.TheVariants as stripe
use Rattle.orc_file_reader.proofs.RowLemmas.{one_file, no_file, parts_cut}
use Rattle.orc_check.specs.declared.finding.Finding.{Finding}
use Rattle.orc_check.specs.Findings.{OfEach, OfStripe, OfStripes, OfFile, Findings, AddsFindings, stripe_told, rows_at}
use Rattle.orc_check.specs.Checking.{HaveKnown, AreKnown, IsChecked, AreOfSchema, AreOwnStats, CheckFault, IsOfStripe, IsOfStripes, IsOfCheck}
use Rattle.orc_check.proofs.Checked.{AreChecked, text_at}

get_front : {X : Type 0} (xs : List X) (x d : X) (k : ℕ) → k < length xs → get_or (xs ++ x ∷ []) k d ≡ get_or xs k d
get_front [] x d k lt = absurd (omega (arith, lt))
get_front (y ∷ xs) x d zero lt = refl
get_front (y ∷ xs) x d (suc k) lt = get_front xs x d k (omega (arith, lt))

get_last : {X : Type 0} (xs : List X) (x d : X) (k : ℕ) → length xs ≡ k → get_or (xs ++ x ∷ []) k d ≡ x
get_last [] x d zero e = refl
get_last [] x d (suc k) e = absurd (omega (arith, e))
get_last (y ∷ xs) x d zero e = absurd (omega (arith, e))
get_last (y ∷ xs) x d (suc k) e = get_last xs x d k (omega (arith, e))

pub each_so : (F G : ℕ → List Finding → Type 0) (n : ℕ) (found : List Finding) → ((k : ℕ) → k < n → (own : List Finding) → F k own → G k own) → OfEach F n found → OfEach G n found
each_so F G zero found f h = h
each_so F G (suc n) found f h = (h.0, h.1, each_so F G n h.0 (λ k lt. f k (omega (arith, lt))) h.2, f n (omega arith) h.1 h.3, h.4)

all_more : {X : Type 0} (P : X → Type 0) (xs : List X) (x : X) → AllByRecursion P xs → P x → AllByRecursion P (xs ++ x ∷ [])
all_more P [] x h p = (p, tt)
all_more P (y ∷ xs) x h p = (h.0, all_more P xs x h.1 p)

known_more : (s : Shape) (told : List (List Stat)) (parts : List (List Cell)) (own : List (List Stat)) (rows : List Cell) (stats : List Stat) → AreKnown s told parts own
    → HaveKnown s (get_or told (length parts) []) rows (width s) stats → AreKnown s told (parts ++ rows ∷ []) (own ++ stats ∷ [])
known_more s [] [] [] rows stats h p = (p, tt)
known_more s (t ∷ told) [] [] rows stats h p = (p, tt)
known_more s told [] (x ∷ own) rows stats h p = absurd h
known_more s told (r ∷ parts) [] rows stats h p = absurd h
known_more s [] (r ∷ parts) (x ∷ own) rows stats h p = (h.0, known_more s [] parts own rows stats h.1 p)
known_more s (t ∷ told) (r ∷ parts) (x ∷ own) rows stats h p = (h.0, known_more s told parts own rows stats h.1 p)

of_schema : (s : Shape) (info : StripeInfo) (bytes : List ℕ) (rows : List Cell) → IsStripe s info bytes rows → AreOfSchema s rows
of_schema s info bytes rows h = record { fit = h.spelled.fit; few = λ c lt. (h.spelled.column c lt).few }

pub below_or : (k n : ℕ) → k < n + 1 → (k ≡ n) ⊎ (k < n)
below_or zero zero lt = inl refl
below_or zero (suc n) lt = inr (omega arith)
below_or (suc k) zero lt = absurd (omega (arith, lt))
below_or (suc k) (suc n) lt = elim (below_or k n (omega (arith, lt))) [ inl e ↦ inl (ap suc e) | inr b ↦ inr (omega (arith, b)) ]

-- nothing is checked yet
pub none_checked : (tail : Tail) → AreChecked tail 0 [] [] [] []
none_checked tail = record { texts_many = refl; many = refl; fit = tt; known = tt; stripes = λ k lt. absurd (omega (arith, lt)); found_are = refl }

module _ (tail : Tail) (n : ℕ) (texts : List (List ℕ)) (parts : List (List Cell)) (found after : List Finding) (own : List (List Stat)) (bytes : List ℕ) (stats : List Stat) where
  pub more_checked : AreChecked tail n texts parts found own → (h : IsChecked tail n bytes found after stats) → AreChecked tail (n + 1) (texts ++ bytes ∷ []) (parts ++ h.rows ∷ []) after (own ++ stats ∷ [])
  more_checked c h =
      let rows : List Cell = h.rows in
      let moved : (k : ℕ) → k < n → (xs : List Finding) → OfStripe tail k (text_at texts k) (rows_at parts k) xs → OfStripe tail k (text_at (texts ++ bytes ∷ []) k) (rows_at (parts ++ rows ∷ []) k) xs
      = λ k lt xs f.
      subst (λ (t : List ℕ). OfStripe tail k t (rows_at (parts ++ rows ∷ []) k) xs) (sym (get_front texts bytes [] k (omega (arith, lt, c.texts_many))))
      (subst (λ (r : List Cell). OfStripe tail k (text_at texts k) r xs) (sym (get_front parts rows [] k (omega (arith, lt, c.many)))) f) in
      let G : ℕ → List Finding → Type 0 = λ k. OfStripe tail k (text_at (texts ++ bytes ∷ []) k) (rows_at (parts ++ rows ∷ []) k) in
      let here : G n h.found.0
      = subst (λ (t : List ℕ). OfStripe tail n t (rows_at (parts ++ rows ∷ []) n) h.found.0) (sym (get_last texts bytes [] n c.texts_many))
      (subst (λ (r : List Cell). OfStripe tail n bytes r h.found.0) (sym (get_last parts rows [] n c.many)) h.found.1) in
      let one : n + 1 ≡ suc n = omega arith in
      record {
        texts_many = length-append texts (bytes ∷ []) ∙ ap (λ k. k + 1) c.texts_many;
        many = length-append parts (rows ∷ []) ∙ ap (λ k. k + 1) c.many;
        fit = all_more (AreOfSchema tail.schema) parts rows c.fit (of_schema tail.schema (stripe_at tail.stripes n) bytes rows h.stripe);
        known = known_more tail.schema tail.stripe_stats parts own rows stats c.known
            (subst (λ (k : ℕ). HaveKnown tail.schema (stripe_told tail k) rows (width tail.schema) stats) (sym c.many) h.counted);
        stripes = λ k lt. elim (below_or k n lt) [
          | inl e ↦ subst (λ (j : ℕ). IsStripe tail.schema (stripe_at tail.stripes j) (text_at (texts ++ bytes ∷ []) j) (rows_at (parts ++ rows ∷ []) j)) (sym e)
              (subst (λ (t : List ℕ). IsStripe tail.schema (stripe_at tail.stripes n) t (rows_at (parts ++ rows ∷ []) n)) (sym (get_last texts bytes [] n c.texts_many))
              (subst (λ (r : List Cell). IsStripe tail.schema (stripe_at tail.stripes n) bytes r) (sym (get_last parts rows [] n c.many)) h.stripe))
          | inr b ↦ subst (λ (t : List ℕ). IsStripe tail.schema (stripe_at tail.stripes k) t (rows_at (parts ++ rows ∷ []) k)) (sym (get_front texts bytes [] k (omega (arith, b, c.texts_many))))
              (subst (λ (r : List Cell). IsStripe tail.schema (stripe_at tail.stripes k) (text_at texts k) r) (sym (get_front parts rows [] k (omega (arith, b, c.many)))) (c.stripes k b))
        ];
        found_are = subst (λ (m : ℕ). OfEach G m after) (sym one)
            (found, h.found.0, each_so (λ k. OfStripe tail k (text_at texts k) (rows_at parts k)) G n found moved c.found_are, here, h.found.2);
      }

-- the bytes read are those of the stripes
abbrev pub AreTold : Option (List ℕ) → Tail → ℕ → List (List ℕ) → Type 0
AreTold told tail n texts = IfSome told (λ all. (k : ℕ) → k < n → text_at texts k ≡ stripe_bytes (stripe_at tail.stripes k) all)

pub more_told : (told : Option (List ℕ)) (tail : Tail) (n : ℕ) (texts : List (List ℕ)) (bytes : List ℕ) → length texts ≡ n → AreTold told tail n texts
    → IfSome told (λ all. bytes ≡ stripe_bytes (stripe_at tail.stripes n) all) → AreTold told tail (n + 1) (texts ++ bytes ∷ [])
more_told None tail n texts bytes many h e = tt
more_told (Some all) tail n texts bytes many h e = λ k lt. elim (below_or k n lt) [
  | inl same ↦ subst (λ (j : ℕ). text_at (texts ++ bytes ∷ []) j ≡ stripe_bytes (stripe_at tail.stripes j) all) (sym same) (get_last texts bytes [] n many ∙ e)
  | inr b ↦ get_front texts bytes [] k (omega (arith, b, many)) ∙ h k b
]

-- ---- all stripes

pub stripes_are : (s : Shape) (bytes : List ℕ) (infos : List StripeInfo) (parts : List (List Cell)) → length parts ≡ length infos
    → ((k : ℕ) → k < length infos → IsStripe s (stripe_at infos k) (stripe_bytes (stripe_at infos k) bytes) (rows_at parts k)) → AreOfStripes s bytes infos parts
stripes_are s bytes [] [] e h = tt
stripes_are s bytes [] (p ∷ parts) e h = absurd (omega (arith, e))
stripes_are s bytes (i ∷ is) [] e h = absurd (omega (arith, e))
stripes_are s bytes (i ∷ is) (p ∷ parts) e h = (h 0 (omega arith), stripes_are s bytes is parts (omega (arith, e)) (λ k lt. h (suc k) (omega (arith, lt))))

module _ (tail : Tail) (texts : List (List ℕ)) (parts : List (List Cell)) (found : List Finding) (own : List (List Stat)) (bytes : List ℕ) where
  stripes_read : (n : ℕ) → n ≤ length tail.stripes → AreChecked tail n texts parts found own → AreTold (Some bytes) tail n texts → (k : ℕ) → k < n
      → IsStripe tail.schema (stripe_at tail.stripes k) (stripe_bytes (stripe_at tail.stripes k) bytes) (rows_at parts k)
  stripes_read n le c t k lt = subst (λ (b : List ℕ). IsStripe tail.schema (stripe_at tail.stripes k) b (rows_at parts k)) (t k lt) (c.stripes k lt)

  pub all_found : (all : List Finding) → IsTail bytes tail → AreChecked tail (length tail.stripes) texts parts found own → AreTold (Some bytes) tail (length tail.stripes) texts → AddsFindings (OfFile tail parts) found all
      → (rows : List Cell) × FileIs bytes tail rows × Findings bytes tail rows all
  all_found all is c t more =
      let there : AreOfStripes tail.schema bytes tail.stripes parts = stripes_are tail.schema bytes tail.stripes parts c.many (stripes_read (length tail.stripes) (omega arith) c t) in
      let has : HasRows tail.schema bytes tail.stripes (rows_together parts) = record { parts = parts; stripes = there; rows_are = refl } in
      let cut : cut_rows tail.stripes (rows_together parts) ≡ parts = parts_cut tail.schema bytes tail.stripes (rows_together parts) has in
      let stripes : OfStripes bytes tail parts found
      = each_so (λ k. OfStripe tail k (text_at texts k) (rows_at parts k)) (λ k. OfStripe tail k (stripe_bytes (stripe_at tail.stripes k) bytes) (rows_at parts k)) (length tail.stripes) found
      (λ k lt xs f. subst (λ (b : List ℕ). OfStripe tail k b (rows_at parts k) xs) (t k lt) f) c.found_are in (
        rows_together parts,
        record { tail_is = is; has_rows = has },
        (found, more.0, subst (λ (p : List (List Cell)). OfStripes bytes tail p found) (sym cut) stripes, subst (λ (p : List (List Cell)). OfFile tail p more.0) (sym cut) more.1, more.2),
      )

refused_at : (s : Shape) (bytes : List ℕ) (infos : List StripeInfo) (parts : List (List Cell)) (m n : ℕ) (fault : FileFault) → n < length infos
    → ((k : ℕ) → k < n → IsStripe s (stripe_at infos k) (stripe_bytes (stripe_at infos k) bytes) (rows_at parts k)) → StripeRefused s bytes (m + n) (stripe_at infos n) fault → FirstRefused s bytes m infos fault
refused_at s bytes [] parts m n fault lt h r = absurd (omega (arith, lt))
refused_at s bytes (i ∷ is) parts m zero fault lt h r = let z : m + 0 ≡ m = omega arith in inl (subst (λ (j : ℕ). StripeRefused s bytes j i fault) z r)
refused_at s bytes (i ∷ is) [] m (suc n) fault lt h r =
    let z : m + suc n ≡ m + 1 + n = omega arith in
    inr ([], h 0 (omega arith), refused_at s bytes is [] (m + 1) n fault (omega (arith, lt)) (λ k b. h (suc k) (omega (arith, b))) (subst (λ (j : ℕ). StripeRefused s bytes j (stripe_at is n) fault) z r))
refused_at s bytes (i ∷ is) (p ∷ parts) m (suc n) fault lt h r =
    let z : m + suc n ≡ m + 1 + n = omega arith in
    inr (p, h 0 (omega arith), refused_at s bytes is parts (m + 1) n fault (omega (arith, lt)) (λ k b. h (suc k) (omega (arith, b))) (subst (λ (j : ℕ). StripeRefused s bytes j (stripe_at is n) fault) z r))

-- bytes that are a stripe of no rows
abbrev pub NoRows : Shape → StripeInfo → ℕ → List ℕ → FileFault → Type 0
NoRows s info n bytes fault = (fault ≡ OutOfMemory) ⊎ ((why : StripeFault) × (fault ≡ Stripe n why) × (why ≢ stripe.OutOfMemory) × IsNoStripe s info bytes why)

pub stripe_read : (told : Option (List ℕ)) (s : Shape) (info : StripeInfo) (n : ℕ) (bytes : List ℕ) (fault : FileFault) → IfSome told (λ all. bytes ≡ stripe_bytes info all)
    → NoRows s info n bytes fault → ReadFault told fault (λ all. StripeRefused s all n info fault)
stripe_read told s info n bytes fault read (inl memory) = inl memory
stripe_read None s info n bytes fault read (inr h) = inr (inr tt)
stripe_read (Some all) s info n bytes fault read (inr h) = inr (inr (h.0, h.1, h.2, subst (λ (b : List ℕ). IsNoStripe s info b h.0) read h.3))

-- bytes that have no view have no rows
pub no_view : (s : Shape) (info : StripeInfo) (n : ℕ) (bytes : List ℕ) (fault : FileFault) → ((footer : StripeFooter) → HasFooter s info bytes footer → fault ≡ OutOfMemory)
    → (fault ≡ OutOfMemory) ⊎ ((why : StripeFault) × (fault ≡ Stripe n why) × (why ≢ stripe.OutOfMemory) × opening.StripeOpenFault s info bytes why) → NoRows s info n bytes fault
no_view s info n bytes fault only (inl memory) = inl memory
no_view s info n bytes fault only (inr h) =
    inr (h.0, h.1, h.2, record { none = λ rows is. let wrong : Stripe n h.0 ≡ OutOfMemory = sym h.1 ∙ only is.footer is.has_footer in cc; reason = inl h.3 })

-- nor have those whose columns spell none
pub no_columns : (view : Opened) (s : Shape) (info : StripeInfo) (bytes : List ℕ) (n : ℕ) (cause : StripeFault) (fault : FileFault) → HasFooter s info bytes view.footer → view.schema ≡ s → view.info ≡ info → view.bytes ≡ bytes
    → (cause ≢ stripe.OutOfMemory → RowsFault view.schema (columns_of view.footer view.bytes) view.info.number_of_rows cause) → ((cause ≡ stripe.OutOfMemory) × (fault ≡ OutOfMemory)) ⊎ ((cause ≢ stripe.OutOfMemory) × (fault ≡ Stripe n cause)) → NoRows s info n bytes fault
no_columns view s info bytes n cause fault has es ei eb refused (inl memory) = inl memory.1
no_columns view s info bytes n cause fault has es ei eb refused (inr h) =
    let by_schema = subst (λ (t : Shape). RowsFault t (columns_of view.footer view.bytes) view.info.number_of_rows cause) es (refused h.0) in
    let by_info = subst (λ (i : StripeInfo). RowsFault s (columns_of view.footer view.bytes) i.number_of_rows cause) ei by_schema in
    let why = subst (λ (b : List ℕ). RowsFault s (columns_of view.footer b) info.number_of_rows cause) eb by_info in
    inr (cause, h.1, h.0, record { none = λ rows is. why.none rows (by_footer s info bytes view.footer rows has is); reason = inr (view.footer, has, why) })

pub stripe_refused : (told : Option (List ℕ)) (tail : Tail) (n : ℕ) (texts : List (List ℕ)) (parts : List (List Cell)) (found : List Finding) (own : List (List Stat)) (fault : FileFault) → n < length tail.stripes
    → AreChecked tail n texts parts found own → AreTold told tail n texts
    → ReadFault told fault (λ bytes. StripeRefused tail.schema bytes n (stripe_at tail.stripes n) fault) → ReadFault told fault (λ bytes. FirstRefused tail.schema bytes 0 tail.stripes fault)
stripe_refused told tail n texts parts found own fault lt c t (inl memory) = inl memory
stripe_refused told tail n texts parts found own fault lt c t (inr (inl source)) = inr (inl source)
stripe_refused None tail n texts parts found own fault lt c t (inr (inr h)) = inr (inr tt)
stripe_refused (Some bytes) tail n texts parts found own fault lt c t (inr (inr h)) =
    let z : n ≡ 0 + n = omega arith in
    inr (inr (refused_at tail.schema bytes tail.stripes parts 0 n fault lt (stripes_read tail texts parts found own bytes n (omega (arith, lt)) c t)
    (subst (λ (j : ℕ). StripeRefused tail.schema bytes j (stripe_at tail.stripes n) fault) z h)))

pub tail_refused : (told : Option (List ℕ)) (fault : FileFault) → ReadFault told fault (λ bytes. TailOpenFault bytes fault) → ReadFault told fault (λ bytes. CheckFault bytes fault)
tail_refused told fault (inl memory) = inl memory
tail_refused told fault (inr (inl source)) = inr (inl source)
tail_refused None fault (inr (inr h)) = inr (inr tt)
tail_refused (Some bytes) fault (inr (inr h)) = inr (inr (inl h))

pub first_refused : (told : Option (List ℕ)) (tail : Tail) (fault : FileFault) → IfSome told (λ bytes. IsTail bytes tail)
    → ReadFault told fault (λ bytes. FirstRefused tail.schema bytes 0 tail.stripes fault) → ReadFault told fault (λ bytes. CheckFault bytes fault)
first_refused told tail fault is (inl memory) = inl memory
first_refused told tail fault is (inr (inl source)) = inr (inl source)
first_refused None tail fault is (inr (inr h)) = inr (inr tt)
first_refused (Some bytes) tail fault is (inr (inr h)) = inr (inr (inr (tail, is, h)))

-- the file's columns, too
pub file_found : (told : Option (List ℕ)) (tail : Tail) (n : ℕ) (texts : List (List ℕ)) (parts : List (List Cell)) (found all : List Finding) (own : List (List Stat)) → n ≡ length tail.stripes
    → AreChecked tail n texts parts found own → AreTold told tail n texts → AddsFindings (OfFile tail parts) found all
    → IfSome told (λ bytes. IsTail bytes tail → (rows : List Cell) × FileIs bytes tail rows × Findings bytes tail rows all)
file_found None tail n texts parts found all own e c t more = tt
file_found (Some bytes) tail n texts parts found all own e c t more = λ is.
    all_found tail texts parts found own bytes all is (subst (λ (k : ℕ). AreChecked tail k texts parts found own) e c) (subst (λ (k : ℕ). AreTold (Some bytes) tail k texts) e t) more

pub are_own : (tail : Tail) (n : ℕ) (texts : List (List ℕ)) (parts : List (List Cell)) (found : List Finding) (own : List (List Stat)) → n ≤ most_stripes → AreChecked tail n texts parts found own → AreOwnStats tail.schema tail.stripe_stats parts own
are_own tail n texts parts found own few c = record { fit = c.fit; few = omega (arith, few, c.many); known = c.known }

-- ---- what it comes to

pub found_here : (told : Option (List ℕ)) (tail : Tail) (all : List Finding) → IfSome told (λ bytes. IsTail bytes tail)
    → IfSome told (λ bytes. IsTail bytes tail → (rows : List Cell) × FileIs bytes tail rows × Findings bytes tail rows all)
    → IfSome told (λ bytes. (t : Tail) × (rows : List Cell) × FileIs bytes t rows × Findings bytes t rows all)
found_here None tail all is h = tt
found_here (Some bytes) tail all is h = let f = h is in (tail, f.0, f.1, f.2)

pub found_only : (told : Option (List ℕ)) (all : List Finding) → IfSome told (λ bytes. (tail : Tail) × (rows : List Cell) × FileIs bytes tail rows × Findings bytes tail rows all)
    → IfSome told (λ bytes. (tail : Tail) (rows : List Cell) → FileIs bytes tail rows → Findings bytes tail rows all)
found_only None all h = tt
found_only (Some bytes) all h = λ tail rows is.
    let same = one_file bytes h.0 tail h.1 rows h.2 is in
    subst (λ (r : List Cell). Findings bytes tail r all) same.1 (subst (λ (t : Tail). Findings bytes t h.1 all) same.0 h.3)

pub fault_only : (told : Option (List ℕ)) (fault : FileFault) → ReadFault told fault (λ bytes. CheckFault bytes fault)
    → IfSome told (λ bytes. (tail : Tail) (rows : List Cell) → FileIs bytes tail rows → (fault ≡ OutOfMemory) ⊎ (fault ≡ SourceFailed))
fault_only None fault h = tt
fault_only (Some bytes) fault (inl memory) = λ tail rows is. inl memory
fault_only (Some bytes) fault (inr (inl source)) = λ tail rows is. inr source
fault_only (Some bytes) fault (inr (inr (inl unread))) = λ tail rows is. absurd ((tail_tests bytes).none tail fault unread is.tail_is)
fault_only (Some bytes) fault (inr (inr (inr bad))) = λ tail rows is.
    let same : bad.0 ≡ tail = (tail_tests bytes).one bad.0 tail bad.1 is.tail_is in
    absurd (no_file bytes tail rows fault (subst (λ (t : Tail). FirstRefused t.schema bytes 0 t.stripes fault) same bad.2) is)

pub none_told : (told : Option (List ℕ)) (tail : Tail) → AreTold told tail 0 []
none_told None tail = tt
none_told (Some all) tail = λ k lt. absurd (omega (arith, lt))

-- ---- of an answer

pub answered : {A : Type 0} (items : A → List Finding) (told : Option (List ℕ)) (tail : Tail) (r : Result A FileFault) → IfSome told (λ bytes. IsTail bytes tail)
    → IfOk r (λ found. IfSome told (λ bytes. IsTail bytes tail → (rows : List Cell) × FileIs bytes tail rows × Findings bytes tail rows (items found)))
    → IfOk r (λ found. IfSome told (λ bytes. (t : Tail) × (rows : List Cell) × FileIs bytes t rows × Findings bytes t rows (items found)))
answered items told tail (Ok x) is h = found_here told tail (items x) is h
answered items told tail (Err e) is h = tt

pub refused : {A : Type 0} (told : Option (List ℕ)) (tail : Tail) (r : Result A FileFault) → IfSome told (λ bytes. IsTail bytes tail)
    → IfErr r (λ e. ReadFault told e (λ bytes. FirstRefused tail.schema bytes 0 tail.stripes e)) → IfErr r (λ e. ReadFault told e (λ bytes. CheckFault bytes e))
refused told tail (Ok x) is h = tt
refused told tail (Err e) is h = first_refused told tail e is h

abbrev as_answer : (A : Type 0) → Result A FileFault → Result A FileFault
as_answer A r = r

for_all_ok : {A : Type 0} (items : A → List Finding) (told : Option (List ℕ)) (x : A) → IfSome told (λ bytes. (tail : Tail) (rows : List Cell) → FileIs bytes tail rows → Findings bytes tail rows (items x))
    → IfSome told (λ bytes. (tail : Tail) (rows : List Cell) → FileIs bytes tail rows
    → MatchResult (as_answer A (Ok x)) (λ found. Findings bytes tail rows (items found)) (λ e. (e ≡ OutOfMemory) ⊎ (e ≡ SourceFailed)))
for_all_ok items None x h = tt
for_all_ok items (Some bytes) x h = h

for_all_err : {A : Type 0} (items : A → List Finding) (told : Option (List ℕ)) (e : FileFault) → IfSome told (λ bytes. (tail : Tail) (rows : List Cell) → FileIs bytes tail rows → (e ≡ OutOfMemory) ⊎ (e ≡ SourceFailed))
    → IfSome told (λ bytes. (tail : Tail) (rows : List Cell) → FileIs bytes tail rows
    → MatchResult (as_answer A (Err e)) (λ found. Findings bytes tail rows (items found)) (λ f. (f ≡ OutOfMemory) ⊎ (f ≡ SourceFailed)))
for_all_err items None e h = tt
for_all_err items (Some bytes) e h = h

pub either : {A : Type 0} (items : A → List Finding) (told : Option (List ℕ)) (r : Result A FileFault)
    → IfOk r (λ found. IfSome told (λ bytes. (t : Tail) × (rows : List Cell) × FileIs bytes t rows × Findings bytes t rows (items found)))
    → IfErr r (λ e. ReadFault told e (λ bytes. CheckFault bytes e))
    → IfSome told (λ bytes. (tail : Tail) (rows : List Cell) → FileIs bytes tail rows
    → MatchResult r (λ found. Findings bytes tail rows (items found)) (λ e. (e ≡ OutOfMemory) ⊎ (e ≡ SourceFailed)))
either items told (Ok x) h k = for_all_ok items told x (found_only told (items x) h)
either items told (Err e) h k = for_all_err items told e (fault_only told e k)

-- ---- names of faults

pub stripe_named : (s : Shape) (info : StripeInfo) (n : ℕ) (bytes : List ℕ) (fault : FileFault) → NoRows s info n bytes fault
    → (fault ≡ OutOfMemory) ⊎ ((fault ≡ SourceFailed) ⊎ IsOfStripe n fault)
stripe_named s info n bytes fault (inl memory) = inl memory
stripe_named s info n bytes fault (inr h) = inr (inr (h.0, h.1, h.2, (s, info, bytes, h.3)))

pub stripes_named : (many n : ℕ) (fault : FileFault) → n < many → (fault ≡ OutOfMemory) ⊎ ((fault ≡ SourceFailed) ⊎ IsOfStripe n fault)
    → (fault ≡ OutOfMemory) ⊎ ((fault ≡ SourceFailed) ⊎ IsOfStripes many fault)
stripes_named many n fault lt (inl memory) = inl memory
stripes_named many n fault lt (inr (inl source)) = inr (inl source)
stripes_named many n fault lt (inr (inr h)) = inr (inr (n, lt, h))

check_named : (many : ℕ) (fault : FileFault) → many ≤ most_stripes → (fault ≡ OutOfMemory) ⊎ ((fault ≡ SourceFailed) ⊎ IsOfStripes many fault)
    → (fault ≡ SourceFailed) ⊎ IsOfCheck fault
check_named many fault few (inl memory) = inr (inl (subst (λ (e : FileFault). IsOfTail e) (sym memory) tt))
check_named many fault few (inr (inl source)) = inl source
check_named many fault few (inr (inr h)) = let lt = h.1 in inr (inr (h.0, omega (arith, lt, few), h.2))

pub all_named : {A : Type 0} (many : ℕ) (r : Result A FileFault) → many ≤ most_stripes → IfErr r (λ e. (e ≡ OutOfMemory) ⊎ ((e ≡ SourceFailed) ⊎ IsOfStripes many e))
    → IfErr r (λ e. (e ≡ SourceFailed) ⊎ IsOfCheck e)
all_named many (Ok x) few h = tt
all_named many (Err e) few h = check_named many e few h

pub tail_named : (fault : FileFault) → (fault ≡ SourceFailed) ⊎ IsOfTail fault → (fault ≡ SourceFailed) ⊎ IsOfCheck fault
tail_named fault (inl source) = inl source
tail_named fault (inr of_tail) = inr (inl of_tail)
