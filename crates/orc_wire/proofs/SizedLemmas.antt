-- A field of bytes that are written before their length: a byte stands for the length until it is known.
use Rattle.std.proofs.Common.{◌≡◌, ℕ, ◌+◌, ◌*◌, ◌<◌, ◌≤◌, List, [], ◌∷◌, ◌++◌, length, take, drop, set, refl, sym, ap, ◌∙◌, subst, arith, append_assoc, length-append, add-one, nat_lt, true, lt-ltb}
use Rattle.std.proofs.lemmas.List.{take_at, drop_at, take-append-drop, take-take, set_split}
use Rattle.orc_bits.specs.Varint.{varint_text}
use Rattle.orc_wire.specs.Fields.{sized}
use Rattle.orc_wire.specs.CanonicalText.{KeepsFront, payload_text, sized_text}
use Rattle.orc_wire.proofs.PutLemmas.{front_same, front_taken, keeps_more}

-- ---- the length of one byte

pub varint_text-below : (n : ℕ) → n < 128 → varint_text n ≡ n ∷ []
unfolding varint_text
varint_text-below n lt = let small : nat_lt n 128 ≡ true = lt-ltb n 128 lt in rw small refl

-- the byte at the place becomes the length of what stands behind it
pub set-size : (old : List ℕ) (place len : ℕ) → place < length old → len ≡ length (drop (place + 1) old) → len < 128
    → set old place len ≡ take place old ++ payload_text (sized (drop (place + 1) old))
set-size old place len lt is few =
    let content = drop (place + 1) old in
    let size : varint_text (length content) ≡ len ∷ [] = ap varint_text (sym is) ∙ varint_text-below len few in
    let split : set old place len ≡ take place old ++ (len ∷ content) = rw add-one (set_split old place len lt) in
    split ∙ ap (λ (t : List ℕ). take place old ++ (t ++ content)) (sym size)

-- ---- what stands in front

pub keeps_taken : (old new : List ℕ) (start : ℕ) → new ≡ old → KeepsFront (take start old) new
keeps_taken old new start e = keeps_more (take start old) new (drop start old) (e ∙ sym (take-append-drop start old))

pub keeps_less : (old new : List ℕ) (start place : ℕ) → start ≤ place → KeepsFront (take place old) new → KeepsFront (take start old) new
keeps_less old new start place le h =
    let kept = take place old in
    let seam : take start kept ++ drop start kept ≡ kept = take-append-drop start kept in
    let parts : kept ≡ take start old ++ drop start kept = sym seam ∙ ap (λ (t : List ℕ). t ++ drop start kept) (take-take start place old le) in
    λ front f. h front (keeps_more (take start old) kept (drop start kept) parts front f)

pub keeps_all : (old mid new : List ℕ) (start : ℕ) → KeepsFront old mid → start ≡ length old → KeepsFront (take start mid) new → KeepsFront old new
keeps_all old mid new start h is k =
    subst (λ (t : List ℕ). KeepsFront t new) (front_taken old mid start (h old (front_same old)) is) k

-- ---- a field that was begun

-- its key, a byte for the length, and its content
pub record Begun (n : ℕ) (old content mid : List ℕ) (place : ℕ) : Type 0 where
  pub text : mid ≡ ((old ++ varint_text (n * 8 + 2)) ++ (0 ∷ [])) ++ content
  pub at_size : place ≡ length (old ++ varint_text (n * 8 + 2))

-- what is begun, with its content behind it
pub begun_with : (n : ℕ) (old begun content mid : List ℕ) (place : ℕ) → begun ≡ (old ++ varint_text (n * 8 + 2)) ++ (0 ∷ []) → place ≡ length (old ++ varint_text (n * 8 + 2)) → mid ≡ begun ++ content → Begun n old content mid place
begun_with n old begun content mid place b at e = record { text = e ∙ ap (λ (t : List ℕ). t ++ content) b; at_size = at }

begun_front : (n : ℕ) (old content mid : List ℕ) (place : ℕ) → Begun n old content mid place → take place mid ≡ old ++ varint_text (n * 8 + 2)
begun_front n old content mid place b =
    let front = old ++ varint_text (n * 8 + 2) in
    ap (take place) (b.text ∙ append_assoc front (0 ∷ []) content) ∙ take_at front (0 ∷ content) place (sym b.at_size)

begun_content : (n : ℕ) (old content mid : List ℕ) (place : ℕ) → Begun n old content mid place → drop (place + 1) mid ≡ content
begun_content n old content mid place b =
    let front = old ++ varint_text (n * 8 + 2) in
    ap (drop (place + 1)) b.text ∙ drop_at (front ++ (0 ∷ [])) content (place + 1) (omega (arith, b.at_size, length-append front (0 ∷ [])))

-- what stood in front of it still does
pub begun_keeps : (n : ℕ) (old content mid new : List ℕ) (place : ℕ) → Begun n old content mid place → KeepsFront (take place mid) new → KeepsFront old new
begun_keeps n old content mid new place b k =
    λ front f. k front (keeps_more old (take place mid) (varint_text (n * 8 + 2)) (begun_front n old content mid place b) front f)

-- the field's text, once the length stands at the place
pub begun_text : (n : ℕ) (old content mid new : List ℕ) (place : ℕ) → Begun n old content mid place
    → new ≡ take place mid ++ payload_text (sized (drop (place + 1) mid)) → new ≡ old ++ sized_text n content
begun_text n old content mid new place b e =
    let key = varint_text (n * 8 + 2) in
    e ∙ (ap (λ (t : List ℕ). t ++ payload_text (sized (drop (place + 1) mid))) (begun_front n old content mid place b)
    ∙ (ap (λ (t : List ℕ). (old ++ key) ++ payload_text (sized t)) (begun_content n old content mid place b)
    ∙ append_assoc old key (payload_text (sized content))))
