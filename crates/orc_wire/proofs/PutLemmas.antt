-- Appending texts one after the other.
use Rattle.std.proofs.Common.{◌≡◌, ℕ, ◌+◌, ◌<◌, ◌≤◌, ◌^◌, suc, List, [], ◌∷◌, ◌++◌, length, take, drop, get_or, sym, ap, ◌∙◌, subst, arith, append_assoc, length-append, add-one, drop-cons, Result, Ok, Err}
use Rattle.std.specs.Result.{OnOk}
use Rattle.std.specs.List.{AllByRecursion}
use Rattle.std.proofs.Math.Seq.{take-append_seam}
use Rattle.std.proofs.lemmas.List.{append-nil}
use Rattle.orc_bits.specs.Varint.{varint_text}
use Rattle.orc_wire.specs.Fields.{Payload}
use Rattle.orc_wire.specs.CanonicalText.{IsFront, KeepsFront, field_text, list_text, varints_text}

pub front_same : (a : List ℕ) → IsFront a a
front_same a = record { more = []; parts = sym (append-nil a) }

pub keeps_same : (old new : List ℕ) → new ≡ old → KeepsFront old new
keeps_same old new e = λ front h. record { more = h.more; parts = e ∙ h.parts }

pub keeps_more : (old new text : List ℕ) → new ≡ old ++ text → KeepsFront old new
keeps_more old new text e = λ front h. record { more = h.more ++ text; parts = e ∙ (ap (λ (t : List ℕ). t ++ text) h.parts ∙ append_assoc front h.more text) }

pub on_ok_any : {T E : Type 0} (r : Result T E) (P : Type 0) → P → OnOk r P
on_ok_any (Ok x) P h = h
on_ok_any (Err e) P h = tt

pub on_ok_then : {T E P Q : Type 0} (r : Result T E) → OnOk r P → (P → Q) → OnOk r Q
on_ok_then (Ok x) h f = f h
on_ok_then (Err e) h f = tt

-- one text behind another
pub and_then : (old mid text rest new : List ℕ) → mid ≡ old ++ text → new ≡ mid ++ rest → new ≡ old ++ (text ++ rest)
and_then old mid text rest new e f = f ∙ (ap (λ (t : List ℕ). t ++ rest) e ∙ append_assoc old text rest)

pub front_taken : (front bytes : List ℕ) (n : ℕ) → IsFront front bytes → n ≡ length front → take n bytes ≡ front
front_taken front bytes n h e = rw (h.parts, e) (take-append_seam front h.more)

pub text_fits : (old new text : List ℕ) (len cap : ℕ) → new ≡ old ++ text → len ≡ length new → len ≤ cap → cap < 2 ^ 63 → length text < 2 ^ 64
text_fits old new text len cap e is le lt = omega (arith, is, le, lt, ap length e, length-append old text)

next_is : {M : Type 0} (items : List M) (i : ℕ) (item : M) → i < length items → item ≡ get_or items i item → drop i items ≡ item ∷ drop (i + 1) items
next_is {M} items i item lt is = rw add-one (drop-cons items i item lt ∙ ap (λ (x : M). x ∷ drop (suc i) items) (sym is))

-- one more field of a list
pub list_next : {M : Type 0} (payload : M → Payload) (n : ℕ) (items : List M) (i : ℕ) (item : M) (mid new whole : List ℕ) → i < length items → item ≡ get_or items i item
    → new ≡ mid ++ field_text n (payload item) → mid ++ list_text payload n (drop i items) ≡ whole → new ++ list_text payload n (drop (i + 1) items) ≡ whole
list_next {M} payload n items i item mid new whole lt is e h =
    let text = field_text n (payload item) in
    let rest = list_text payload n (drop (i + 1) items) in
    let step : mid ++ (text ++ rest) ≡ whole = ap (λ (t : List M). mid ++ list_text payload n t) (sym (next_is items i item lt is)) ∙ h in
    ap (λ (t : List ℕ). t ++ rest) e ∙ (append_assoc mid text rest ∙ step)

-- one more number of a packed list
pub varints_next : (items : List ℕ) (i item : ℕ) (mid new whole : List ℕ) → i < length items → item ≡ get_or items i item
    → new ≡ mid ++ varint_text item → mid ++ varints_text (drop i items) ≡ whole → new ++ varints_text (drop (i + 1) items) ≡ whole
varints_next items i item mid new whole lt is e h =
    let rest = varints_text (drop (i + 1) items) in
    let step : mid ++ (varint_text item ++ rest) ≡ whole = ap (λ (t : List ℕ). mid ++ varints_text t) (sym (next_is items i item lt is)) ∙ h in
    ap (λ (t : List ℕ). t ++ rest) e ∙ (append_assoc mid (varint_text item) rest ∙ step)

-- one more item of which P is true
pub all_next : {M : Type 0} (P : M → Type 0) (items : List M) (i : ℕ) (item : M) → i < length items → item ≡ get_or items i item → P item
    → (AllByRecursion P (drop i items) → AllByRecursion P items) → AllByRecursion P (drop (i + 1) items) → AllByRecursion P items
all_next {M} P items i item lt is p h rest = h (subst (λ (t : List M). AllByRecursion P t) (sym (next_is items i item lt is)) (p, rest))
