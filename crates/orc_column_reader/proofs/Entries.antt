-- The entries of a dictionary, read one by one.
use Rattle.std.proofs.Common.{◌≡◌, ℕ, ◌<◌, List, [], ◌∷◌, ◌++◌, map, length, refl, sym, ap, ◌∙◌, subst, arith, append-nil, length-append}
use Rattle.std.proofs.lemmas.List.{map-append}
use Rattle.orc_rle.specs.declared.sign.Sign.TheVariants.{Unsigned}
use Rattle.orc_rle.specs.declared.sign.Rle.{Rle}
use Rattle.orc_column_reader.specs.declared.numbers.Numbers.{Numbers}
use Rattle.orc_column_reader.specs.declared.entry.Entry.{Entry}
use Rattle.orc_column_reader.specs.Fronts.{Leaves, Lacks}
use Rattle.orc_column_reader.specs.Spellings.{size, Sized}
use Rattle.orc_column_reader.specs.Numbers.{AreNumbers, NumbersLeft}
use Rattle.orc_column_reader.specs.Stripe.{Is}
use Rattle.orc_column_reader.specs.Starting.{NumbersStart}
use Rattle.orc_column_reader.specs.Columns.{entry_bytes}
use Rattle.orc_column_reader.proofs.Fronts.{one_after_other, lacks_after}
use Rattle.orc_column_reader.proofs.StartLemmas.{numbers_alike}

pub begun : (v : Rle) (lengths bytes : List ℕ) (r : Numbers) → NumbersStart v Unsigned lengths r → Leaves (Sized (AreNumbers v Unsigned lengths) (Is bytes)) (Sized (NumbersLeft r) (Is bytes)) []
begun v lengths bytes r s =
    let a = numbers_alike v Unsigned lengths r s in
    record { found = λ rest h. (a.to (map size rest) h.0, h.1); only = λ all h le. (all, refl, (a.from (map size all) h.0, h.1)) }

pub entries_more : (before between after : List (List ℕ) → Type 0) (es es' : List Entry) (e : Entry) (bytes : List ℕ) → entry_bytes e ≡ bytes → es' ≡ es ++ e ∷ [] → Leaves before between (map entry_bytes es) → Leaves between after (bytes ∷ []) → Leaves before after (map entry_bytes es')
entries_more before between after es es' e bytes of is p q =
    let one = subst (λ b. Leaves between after (b ∷ [])) (sym of) q in
    subst (λ t. Leaves before after t) (sym (ap (λ t. map entry_bytes t) is ∙ map-append entry_bytes es (e ∷ []))) (one_after_other before between after (map entry_bytes es) (entry_bytes e ∷ []) p one)

pub entries_found : (before after : List (List ℕ) → Type 0) (es : List (List ℕ)) → Leaves before after es → after [] → before es
entries_found before after es p h = subst before (append-nil es) (p.found [] h)

none_more : {X : Type 0} (xs rest : List X) → length (xs ++ rest) ≡ length xs → rest ≡ []
none_more xs [] e = refl
none_more xs (r ∷ rest) e = absurd (omega (arith, e, length-append xs (r ∷ rest)))

pub entries_over : (before after : List (List ℕ) → Type 0) (es all : List (List ℕ)) → Leaves before after es → (after [] → ⊥) → length all ≡ length es → before all → ⊥
entries_over before after es all p over n h =
    let l = p.only all h (omega (arith, n)) in
    over (subst after (none_more es l.0 (sym (ap length l.1) ∙ n)) l.2)

pub entries_lack : (before between : List (List ℕ) → Type 0) (es all : List (List ℕ)) → Leaves before between es → Lacks between 1 → length es < length all → before all → ⊥
entries_lack before between es all p none lt h = lacks_after before between es 1 p none all h (omega (arith, lt))
