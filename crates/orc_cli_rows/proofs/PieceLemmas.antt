-- A stripe's lines in pieces: what is out, and why no more of them.
use Rattle.std.proofs.Common.{◌≡◌, ℕ, zero, suc, ◌+◌, ◌<◌, List, [], ◌∷◌, ◌++◌, length, take, drop, get_or, Bool, true, false, Option, Some, None, Result, Ok, Err, refl, sym, ap, ◌∙◌, subst, arith, append_assoc, append-nil, length-append}
use Rattle.std.specs.Prelude.{OnOk, OnErr, is_ok, is_err}
use Rattle.std.specs.Io.KnownBytes.{Appends}
use Rattle.std.proofs.Math.Seq.{take-append_seam, drop-append_seam}
use Rattle.orc_cli_output.specs.Output.{AppendsPart}
use Rattle.orc_cli_output.specs.declared.fault.CliFault.{CliFault}
use Rattle.orc_cli_output.proofs.OutputLemmas.{appends_more}
use Rattle.orc_cli_rows.specs.Pieces.{spelled_start, IsSent, IsGiven}
use Rattle.orc_cli_rows.proofs.RowsLemmas.{appends_none}

pub on_ok_so : {A E : Type 0} (r : Result A E) (P Q : Type 0) → (P → Q) → OnOk r P → OnOk r Q
on_ok_so (Ok a) P Q so h = so h
on_ok_so (Err e) P Q so h = tt

pub ok_of : {A E P : Type 0} (r : Result A E) → is_ok r ≡ true → OnOk r P → P
ok_of (Ok a) is h = h
ok_of (Err e) is h = absurd (cc)

pub err_of : {A E P : Type 0} (r : Result A E) → is_ok r ≡ false → OnErr r P → P
err_of (Ok a) is h = absurd (cc)
err_of (Err e) is h = h

-- a part of lines behind which others stand is a part of all of them
take_front : (n : ℕ) (a b : List ℕ) → n < length a → take n (a ++ b) ≡ take n a
take_front n [] b lt = absurd (omega (arith, lt))
take_front zero (x ∷ a) b lt = refl
take_front (suc n) (x ∷ a) b lt = ap (λ (t : List ℕ). x ∷ t) (take_front n a b (omega (arith, lt)))

take_behind : (n : ℕ) (a b : List ℕ) → take (length a + n) (a ++ b) ≡ a ++ take n b
take_behind n [] b = let z : 0 + n ≡ n = omega arith in ap (λ (k : ℕ). take k b) z
take_behind n (x ∷ a) b =
    let z : suc (length a) + n ≡ suc (length a + n) = omega arith in
    ap (λ (k : ℕ). take k (x ∷ (a ++ b))) z ∙ ap (λ (t : List ℕ). x ∷ t) (take_behind n a b)

part_of_front : (old new : Option (List ℕ)) (a b : List ℕ) → AppendsPart old new a → AppendsPart old new (a ++ b)
part_of_front old new a b p =
    let long = length-append a b in
    let lt = p.1 in
    (p.0, omega (arith, long, lt), subst (λ (t : List ℕ). Appends old new t) (sym (take_front p.0 a b lt)) p.2)

part_behind : (old mid new : Option (List ℕ)) (a b : List ℕ) → Appends old mid a → AppendsPart mid new b → AppendsPart old new (a ++ b)
part_behind old mid new a b out p =
    let long = length-append a b in
    let lt = p.1 in
    (length a + p.0, omega (arith, long, lt), subst (λ (t : List ℕ). Appends old new t) (sym (take_behind p.0 a b)) (appends_more old mid new a (take p.0 b) out p.2))

-- ---- text that goes out in pieces

pub sent_first : (start : Option (List ℕ)) (waiting : List ℕ) → waiting ≡ [] → IsSent start start waiting false []
sent_first start waiting none = ([], appends_none start, sym none)

pub sent_waits : (start now : Option (List ℕ)) (old new more : List ℕ) (failed : Bool) (bytes : List ℕ) → new ≡ old ++ more → IsSent start now old failed bytes → IsSent start now new failed (bytes ++ more)
sent_waits start now old new more false bytes is h =
    (h.0, h.1, ap (λ (t : List ℕ). t ++ more) h.2 ∙ append_assoc h.0 old more ∙ ap (λ (t : List ℕ). h.0 ++ t) (sym is))
sent_waits start now old new more true bytes is h = part_of_front start now bytes more h

-- what waited is sent, or a part of it where the device fails
pub sent_out : (answer : Result (Unit {0}) CliFault) (start now next : Option (List ℕ)) (waiting bytes : List ℕ) → OnOk answer (Appends now next waiting) → OnErr answer (AppendsPart now next waiting)
    → IsSent start now waiting false bytes → IsSent start next [] (is_err answer) bytes
sent_out (Ok _) start now next waiting bytes all part h =
    (h.0 ++ waiting, appends_more start now next h.0 waiting h.1 all, h.2 ∙ sym (append-nil (h.0 ++ waiting)))
sent_out (Err _) start now next waiting bytes all part h =
    subst (λ (t : List ℕ). AppendsPart start next t) (sym h.2) (part_behind start now next h.0 waiting h.1 part)

-- these bytes are sent, before which nothing waited
pub sent_more : (answer : Result (Unit {0}) CliFault) (start now next : Option (List ℕ)) (waiting bytes more : List ℕ) → waiting ≡ [] → OnOk answer (Appends now next more) → OnErr answer (AppendsPart now next more)
    → IsSent start now waiting false bytes → IsSent start next waiting (is_err answer) (bytes ++ more)
sent_more (Ok _) start now next waiting bytes more none all part h =
    let own = h.2 ∙ ap (λ (t : List ℕ). h.0 ++ t) none ∙ append-nil h.0 in
    (h.0 ++ more, appends_more start now next h.0 more h.1 all, ap (λ (t : List ℕ). t ++ more) own ∙ sym (append-nil (h.0 ++ more)) ∙ ap (λ (t : List ℕ). (h.0 ++ more) ++ t) (sym none))
sent_more (Err _) start now next waiting bytes more none all part h =
    let own = h.2 ∙ ap (λ (t : List ℕ). h.0 ++ t) none ∙ append-nil h.0 in
    subst (λ (t : List ℕ). AppendsPart start next (t ++ more)) (sym own) (part_behind start now next h.0 more h.1 part)

-- a failed device gets nothing more
pub sent_dropped : (start now : Option (List ℕ)) (old new bytes more : List ℕ) (failed : Bool) → failed ≡ true → IsSent start now old failed bytes → IsSent start now new failed (bytes ++ more)
sent_dropped start now old new bytes more true is h = part_of_front start now bytes more h
sent_dropped start now old new bytes more false is h = absurd (cc)

pub sent_kept : (start now : Option (List ℕ)) (old new bytes : List ℕ) (failed : Bool) → failed ≡ true → IsSent start now old failed bytes → IsSent start now new failed bytes
sent_kept start now old new bytes true is h = h
sent_kept start now old new bytes false is h = absurd (cc)

-- at the end nothing waits
pub sent_good : (start now : Option (List ℕ)) (bytes : List ℕ) (failed : Bool) → failed ≡ false → IsSent start now [] failed bytes → Appends start now bytes
sent_good start now bytes false is h = subst (λ (t : List ℕ). Appends start now t) (sym (h.2 ∙ append-nil h.0)) h.1
sent_good start now bytes true is h = absurd (cc)

pub sent_part : (start now : Option (List ℕ)) (bytes : List ℕ) (failed : Bool) → failed ≡ true → IsSent start now [] failed bytes → AppendsPart start now bytes
sent_part start now bytes true is h = h
sent_part start now bytes false is h = absurd (cc)

-- ---- behind what the device had at the start

pub given_new : (name : ℕ) (now : Option (List ℕ)) (waiting : List ℕ) → waiting ≡ [] → IsGiven name now waiting false (spelled_start name now)
given_new name now waiting none = record { start = now; text = []; bytes_are = sym (append-nil (spelled_start name now)); sent = sent_first now waiting none }

pub given_more : (name : ℕ) (now next : Option (List ℕ)) (old new : List ℕ) (was failed : Bool) (bytes more : List ℕ) → ((start : Option (List ℕ)) (text : List ℕ) → IsSent start now old was text → IsSent start next new failed (text ++ more))
    → IsGiven name now old was bytes → IsGiven name next new failed (bytes ++ more)
given_more name now next old new was failed bytes more sent h = record {
  start = h.start;
  text = h.text ++ more;
  bytes_are = ap (λ (t : List ℕ). t ++ more) h.bytes_are ∙ append_assoc (spelled_start name h.start) h.text more;
  sent = sent h.start h.text h.sent;
}

pub given_same : (name : ℕ) (now next : Option (List ℕ)) (old new : List ℕ) (was failed : Bool) (bytes : List ℕ) → ((start : Option (List ℕ)) (text : List ℕ) → IsSent start now old was text → IsSent start next new failed text)
    → IsGiven name now old was bytes → IsGiven name next new failed bytes
given_same name now next old new was failed bytes sent h = record { start = h.start; text = h.text; bytes_are = h.bytes_are; sent = sent h.start h.text h.sent }

pub given_waits : (name : ℕ) (now : Option (List ℕ)) (old new more : List ℕ) (failed : Bool) (bytes : List ℕ) → new ≡ old ++ more → IsGiven name now old failed bytes → IsGiven name now new failed (bytes ++ more)
given_waits name now old new more failed bytes is h = given_more name now now old new failed failed bytes more (λ start text s. sent_waits start now old new more failed text is s) h

pub given_dropped : (name : ℕ) (now : Option (List ℕ)) (waiting bytes more : List ℕ) (failed : Bool) → failed ≡ true → IsGiven name now waiting failed bytes → IsGiven name now waiting failed (bytes ++ more)
given_dropped name now waiting bytes more failed is h = given_more name now now waiting waiting failed failed bytes more (λ start text s. sent_dropped start now waiting waiting text more failed is s) h

-- what stands behind one start is one text
behind_start : (m n : ℕ) (a b : Option (List ℕ)) (s t : List ℕ) → spelled_start m a ++ s ≡ spelled_start n b ++ t → (m ≡ n) × (a ≡ b) × (s ≡ t)
behind_start m n None None s t e = (ap (λ (l : List ℕ). get_or l 0 0) e, refl, ap (drop 2) e)
behind_start m n None (Some y) s t e = absurd (let k = ap (λ (l : List ℕ). get_or l 1 0) e in cc)
behind_start m n (Some x) None s t e = absurd (let k = ap (λ (l : List ℕ). get_or l 1 0) e in cc)
behind_start m n (Some x) (Some y) s t e =
    let long : length x ≡ length y = (let k = ap (λ (l : List ℕ). get_or l 1 0) e in omega (arith, k)) in
    let rest : x ++ s ≡ y ++ t = ap (drop 2) e in
    let front : x ≡ y = sym (take-append_seam x s) ∙ ap (take (length x)) rest ∙ ap (λ (k : ℕ). take k (y ++ t)) long ∙ take-append_seam y t in
    let back : s ≡ t = sym (drop-append_seam x s) ∙ ap (drop (length x)) rest ∙ ap (λ (k : ℕ). drop k (y ++ t)) long ∙ drop-append_seam y t in
    (ap (λ (l : List ℕ). get_or l 0 0) e, ap (λ (l : List ℕ). Some l) front, back)

-- the device is the one that was there at the start, and the text is what was put behind
given_sent : (name other : ℕ) (start now : Option (List ℕ)) (waiting : List ℕ) (failed : Bool) (text : List ℕ) → IsGiven other now waiting failed (spelled_start name start ++ text)
    → (name ≡ other) × IsSent start now waiting failed text
given_sent name other start now waiting failed text h =
    let same = behind_start name other start h.start text h.text h.bytes_are in
    (same.0, subst (λ (o : Option (List ℕ)). IsSent o now waiting failed text) (sym same.1) (subst (λ (t : List ℕ). IsSent h.start now waiting failed t) (sym same.2) h.sent))

-- the same of lines behind a front
pub given_behind : (name other : ℕ) (start now : Option (List ℕ)) (waiting : List ℕ) (failed : Bool) (front lines : List ℕ) → IsGiven other now waiting failed ((spelled_start name start ++ front) ++ lines)
    → (name ≡ other) × IsSent start now waiting failed (front ++ lines)
given_behind name other start now waiting failed front lines h =
    given_sent name other start now waiting failed (front ++ lines) (subst (λ (t : List ℕ). IsGiven other now waiting failed t) (append_assoc (spelled_start name start) front lines) h)
