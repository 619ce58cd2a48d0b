-- A file's rows, read stripe by stripe: what the first stripes have given, and what the rest of them still gives.
use Rattle.std.specs.Prelude.{◌≡◌, ℕ, ◌+◌, ◌<◌, ◌≤◌, List, [], ◌∷◌, ◌++◌, length, drop, ◌⊎◌, Option, Some, None}
use Rattle.std.proofs.Common.{◌∙◌, sym, ap, subst, refl, inl, inr, append_assoc}
use Rattle.std.specs.Option.{IfSome}
use Rattle.std.proofs.Math.Seq.{drop-length}
use Rattle.std.proofs.lemmas.List.Concat.{flat_map-cons}
use Rattle.orc_wire.specs.declared.stripe_info.StripeInfo.{StripeInfo}
use Rattle.orc_values.specs.Cells.{Cell}
use Rattle.orc_values.specs.Shapes.{Shape}
use Rattle.orc_column_reader.specs.Stripe.{IsStripe}
use Rattle.orc_tail.specs.Stripes.{stripe_at, stripe_length, stripe_bytes}
use Rattle.orc_tail.specs.Tails.{IsTail, ReadFault}
use Rattle.orc_file_reader.specs.FileRows.{HasRows, HasMore, FileIs}
use Rattle.orc_file_reader.specs.StripeCaps.{AllWithin, CappedRefused, FirstCapped}
use Rattle.orc_tail.specs.declared.tail.Tail.{Tail}
use Rattle.orc_tail.specs.declared.fault.FileFault.{FileFault}
use Rattle.orc_tail.specs.declared.fault.FileFault.TheVariants.{SourceFailed, OutOfMemory}
use Rattle.orc_file_reader.proofs.StripeCapLemmas.{refused_within}
use Rattle.orc_tail.proofs.StripeLemmas.{next_is}
use Rattle.orc_file_reader.proofs.RowLemmas.{one_rows, no_file}

-- The rows of the first n stripes: with those of the others they are all rows, and the first of the others that
-- is refused is the first of all.
pub record Front (cap : ℕ) (s : Shape) (bytes : List ℕ) (infos : List StripeInfo) (n : ℕ) (rows : List Cell) : Type 0 where
  pub found : (rest : List Cell) → HasRows s bytes (drop n infos) rest → HasRows s bytes infos (rows ++ rest)
  pub refused : (fault : FileFault) → FirstCapped cap s bytes n (drop n infos) fault → FirstCapped cap s bytes 0 infos fault

has_more : (s : Shape) (bytes : List ℕ) (info : StripeInfo) (infos : List StripeInfo) (own rest : List Cell) → IsStripe s info (stripe_bytes info bytes) own → HasRows s bytes infos rest
    → HasRows s bytes (info ∷ infos) (own ++ rest)
has_more s bytes info infos own rest is p = record {
  parts = own ∷ p.parts;
  stripes = (is, p.stripes);
  rows_are = ap (λ (t : List Cell). own ++ t) p.rows_are ∙ sym (flat_map-cons (λ (r : List Cell). r) own p.parts);
}

one_more : (cap : ℕ) (s : Shape) (bytes : List ℕ) (infos : List StripeInfo) (n : ℕ) (before after : List Cell) → n < length infos → stripe_length (stripe_at infos n) ≤ cap → Front cap s bytes infos n before → HasMore s (stripe_at infos n) bytes before after
    → Front cap s bytes infos (n + 1) after
one_more cap s bytes infos n before after lt within p h =
    let d : StripeInfo = record { offset = 0; index_length = 0; data_length = 0; footer_length = 0; number_of_rows = 0 } in
    let next = next_is infos n d lt in
    record {
      found = λ rest q.
          subst (λ (t : List Cell). HasRows s bytes infos t) (sym (append_assoc before h.0 rest) ∙ ap (λ (t : List Cell). t ++ rest) (sym h.2))
          (p.found (h.0 ++ rest) (subst (λ (t : List StripeInfo). HasRows s bytes t (h.0 ++ rest)) (sym next) (has_more s bytes (stripe_at infos n) (drop (n + 1) infos) h.0 rest h.1 q)));
      refused = λ fault q. p.refused fault (subst (λ (t : List StripeInfo). FirstCapped cap s bytes n t fault) (sym next) (inr (h.0, (within, h.1), q)));
    }

no_stripes : (s : Shape) (bytes : List ℕ) → HasRows s bytes [] []
no_stripes s bytes = record { parts = []; stripes = tt; rows_are = refl }

append_none : (rows : List Cell) → rows ++ [] ≡ rows
append_none [] = refl
append_none (r ∷ rows) = ap (λ (t : List Cell). r ∷ t) (append_none rows)

all_rows : (cap : ℕ) (s : Shape) (bytes : List ℕ) (infos : List StripeInfo) (rows : List Cell) → Front cap s bytes infos (length infos) rows → HasRows s bytes infos rows
all_rows cap s bytes infos rows p =
    subst (λ (t : List Cell). HasRows s bytes infos t) (append_none rows)
    (p.found [] (subst (λ (t : List StripeInfo). HasRows s bytes t []) (sym (drop-length infos)) (no_stripes s bytes)))

refused_first : (cap : ℕ) (s : Shape) (bytes : List ℕ) (infos : List StripeInfo) (n : ℕ) (rows : List Cell) (fault : FileFault) → n < length infos → Front cap s bytes infos n rows
    → CappedRefused cap s bytes n (stripe_at infos n) fault → FirstCapped cap s bytes 0 infos fault
refused_first cap s bytes infos n rows fault lt p h =
    let d : StripeInfo = record { offset = 0; index_length = 0; data_length = 0; footer_length = 0; number_of_rows = 0 } in
    p.refused fault (subst (λ (t : List StripeInfo). FirstCapped cap s bytes n t fault) (sym (next_is infos n d lt)) (inl h))

-- ---- the same where the bytes are told

pub front_start : (told : Option (List ℕ)) (cap : ℕ) (s : Shape) (infos : List StripeInfo) → IfSome told (λ bytes. Front cap s bytes infos 0 [])
front_start None cap s infos = tt
front_start (Some bytes) cap s infos = record { found = λ rest p. p; refused = λ fault p. p }

pub front_next : (told : Option (List ℕ)) (cap : ℕ) (s : Shape) (infos : List StripeInfo) (n : ℕ) (before after : List Cell) → n < length infos → stripe_length (stripe_at infos n) ≤ cap → IfSome told (λ bytes. Front cap s bytes infos n before)
    → IfSome told (λ bytes. HasMore s (stripe_at infos n) bytes before after) → IfSome told (λ bytes. Front cap s bytes infos (n + 1) after)
front_next None cap s infos n before after lt within p h = tt
front_next (Some bytes) cap s infos n before after lt within p h = one_more cap s bytes infos n before after lt within p h

pub front_found : (told : Option (List ℕ)) (cap : ℕ) (tail : Tail) (n : ℕ) (rows : List Cell) → n ≡ length tail.stripes → IfSome told (λ bytes. Front cap tail.schema bytes tail.stripes n rows)
    → IfSome told (λ bytes. IsTail bytes tail → FileIs bytes tail rows)
front_found None cap tail n rows e p = tt
front_found (Some bytes) cap tail n rows e p = λ is. record { tail_is = is; has_rows = all_rows cap tail.schema bytes tail.stripes rows (subst (λ (k : ℕ). Front cap tail.schema bytes tail.stripes k rows) e p) }

pub front_only : (told : Option (List ℕ)) (cap : ℕ) (tail : Tail) (n : ℕ) (rows : List Cell) → n ≡ length tail.stripes → IfSome told (λ bytes. Front cap tail.schema bytes tail.stripes n rows)
    → IfSome told (λ bytes. (all : List Cell) → FileIs bytes tail all → rows ≡ all)
front_only None cap tail n rows e p = tt
front_only (Some bytes) cap tail n rows e p = λ all is.
    one_rows tail.schema bytes tail.stripes rows all (all_rows cap tail.schema bytes tail.stripes rows (subst (λ (k : ℕ). Front cap tail.schema bytes tail.stripes k rows) e p)) is.has_rows

pub front_fault : (told : Option (List ℕ)) (cap : ℕ) (tail : Tail) (n : ℕ) (rows : List Cell) (fault : FileFault) → n < length tail.stripes → IfSome told (λ bytes. Front cap tail.schema bytes tail.stripes n rows)
    → ReadFault told fault (λ bytes. CappedRefused cap tail.schema bytes n (stripe_at tail.stripes n) fault) → ReadFault told fault (λ bytes. FirstCapped cap tail.schema bytes 0 tail.stripes fault)
front_fault told cap tail n rows fault lt p (inl memory) = inl memory
front_fault told cap tail n rows fault lt p (inr (inl source)) = inr (inl source)
front_fault None cap tail n rows fault lt p (inr (inr h)) = inr (inr tt)
front_fault (Some bytes) cap tail n rows fault lt p (inr (inr h)) = inr (inr (refused_first cap tail.schema bytes tail.stripes n rows fault lt p h))

pub fault_only : (told : Option (List ℕ)) (cap : ℕ) (tail : Tail) (fault : FileFault) → ReadFault told fault (λ bytes. FirstCapped cap tail.schema bytes 0 tail.stripes fault)
    → AllWithin cap tail.stripes → IfSome told (λ bytes. (rows : List Cell) → FileIs bytes tail rows → (fault ≡ OutOfMemory) ⊎ (fault ≡ SourceFailed))
fault_only None cap tail fault h all = tt
fault_only (Some bytes) cap tail fault (inl memory) all = λ rows is. inl memory
fault_only (Some bytes) cap tail fault (inr (inl source)) all = λ rows is. inr source
fault_only (Some bytes) cap tail fault (inr (inr bad)) all = λ rows is. absurd (no_file bytes tail rows fault (refused_within cap tail.schema bytes 0 tail.stripes fault all bad) is)

-- ---- the cap

-- none of the first n stripes is longer than the cap: where no other is, none is
abbrev pub IsWithinFront : ℕ → List StripeInfo → ℕ → Type 0
IsWithinFront cap infos n = AllWithin cap (drop n infos) → AllWithin cap infos

pub within_next : (cap : ℕ) (infos : List StripeInfo) (n : ℕ) → n < length infos → stripe_length (stripe_at infos n) ≤ cap → IsWithinFront cap infos n → IsWithinFront cap infos (n + 1)
within_next cap infos n lt here p = λ all.
    let d : StripeInfo = record { offset = 0; index_length = 0; data_length = 0; footer_length = 0; number_of_rows = 0 } in
    p (subst (λ (t : List StripeInfo). AllWithin cap t) (sym (next_is infos n d lt)) (here, all))

pub within_all : (cap : ℕ) (infos : List StripeInfo) (n : ℕ) → n ≡ length infos → IsWithinFront cap infos n → AllWithin cap infos
within_all cap infos n e p = p (subst (λ (k : ℕ). AllWithin cap (drop k infos)) (sym e) (subst (λ (t : List StripeInfo). AllWithin cap t) (sym (drop-length infos)) tt))
