-- One walk over a stream's runs, which notes where each begins and how many values come before it.
use Rattle.std.proofs.Common.{◌≡◌, ◌≢◌, ℕ, ◌+◌, ◌<◌, ◌≤◌, List, [], ◌∷◌, ◌++◌, length, take, drop, refl, sym, ap, ◌∙◌, subst, arith, inl, inr, append_assoc, length-append, length-drop}
use Rattle.std.proofs.Math.Seq.{take-add}
use Rattle.std.proofs.lemmas.Bool.{cases_lt}
use Rattle.std.proofs.lemmas.List.{take-append-drop, length-take-le, take_all}
use Rattle.orc_rle.specs.declared.fault.RunFault.{RunFault}
use Rattle.orc_rle.specs.declared.fault.RunFault.TheVariants.{TooFew}
use Rattle.orc_rle.specs.Stream.{AreRuns, IsStream, StopsWithin}
use Rattle.orc_rle.proofs.RunLemmas.{One, Some, None, OneFault}
use Rattle.orc_rle.proofs.StreamLemmas.{runs_rest, runs_push, no_first, within_few, within_none, one_stop_within}
use Rattle.orc_positions.specs.RunTable.{Places, offsets_of, counts_of, ArePlaces}
use Rattle.orc_rle.proofs.SeekLemmas.{runs_more}

offsets_more : {A : Type 0} (R : List ℕ → List A → Type 0) (ps : List (List ℕ × List A)) (p : List ℕ × List A) (bytes : List ℕ) (values : List A) (at : ℕ) → AreRuns R ps bytes values
    → offsets_of at (ps ++ p ∷ []) ≡ offsets_of at ps ++ (at + length bytes + length p.0) ∷ []
offsets_more R [] p bytes values at h = let e : at + length p.0 ≡ at + length bytes + length p.0 = omega (arith, ap length h.0) in ap (λ (n : ℕ). at ∷ n ∷ []) e
offsets_more R (q ∷ qs) p bytes values at h =
    let e : at + length q.0 + length h.0 + length p.0 ≡ at + length bytes + length p.0 = omega (arith, ap length h.3, length-append q.0 h.0) in
    ap (λ (t : List ℕ). at ∷ t) (offsets_more R qs p h.0 h.1 (at + length q.0) h.5 ∙ ap (λ (n : ℕ). offsets_of (at + length q.0) qs ++ n ∷ []) e)

counts_more : {A : Type 0} (R : List ℕ → List A → Type 0) (ps : List (List ℕ × List A)) (p : List ℕ × List A) (bytes : List ℕ) (values : List A) (before : ℕ) → AreRuns R ps bytes values
    → counts_of before (ps ++ p ∷ []) ≡ counts_of before ps ++ (before + length values + length p.1) ∷ []
counts_more R [] p bytes values before h =
    let e : before + length p.1 ≡ before + length values + length p.1 = omega (arith, ap length h.1) in ap (λ (n : ℕ). before ∷ n ∷ []) e
counts_more R (q ∷ qs) p bytes values before h =
    let e : before + length q.1 + length h.1 + length p.1 ≡ before + length values + length p.1 = omega (arith, ap length h.4, length-append q.1 h.1) in
    ap (λ (t : List ℕ). before ∷ t) (counts_more R qs p h.0 h.1 (before + length q.1) h.5 ∙ ap (λ (n : ℕ). counts_of (before + length q.1) qs ++ n ∷ []) e)

-- the runs up to here, and the places without this one
pub record Walked {A : Type 0} (R : List ℕ → List A → Type 0) (bytes : List ℕ) (at before : ℕ) (offsets counts : List ℕ) : Type 0 where
  pub within : at ≤ length bytes
  pub runs : List (List ℕ × List A)
  pub values : List A
  pub stream : AreRuns R runs (take at bytes) values
  pub counted : before ≡ length values
  pub offsets_are : offsets ++ at ∷ [] ≡ offsets_of 0 runs
  pub counts_are : counts ++ before ∷ [] ≡ counts_of 0 runs

pub walk_begins : {A : Type 0} (R : List ℕ → List A → Type 0) (bytes : List ℕ) → Walked R bytes 0 0 [] []
walk_begins R bytes = record { within = omega arith; runs = []; values = []; stream = (refl, refl); counted = refl; offsets_are = refl; counts_are = refl }

pub walk_more : {A : Type 0} (R : List ℕ → List A → Type 0) (bytes : List ℕ) (at before len found : ℕ) (offsets counts : List ℕ) (v : List A) → Walked R bytes at before offsets counts
    → len ≤ length (drop at bytes) → R (take len (drop at bytes)) v → found ≡ length v
    → Walked R bytes (at + len) (before + found) (offsets ++ at ∷ []) (counts ++ before ∷ [])
walk_more {A = A} R bytes at before len found offsets counts v w le run e =
    let text = take len (drop at bytes) in
    let size : length (take at bytes) ≡ at = length-take-le at bytes w.within in
    let more : length text ≡ len = length-take-le len (drop at bytes) le in
    let next : at + len ≡ 0 + length (take at bytes) + length text = omega (arith, size, more) in
    let count : before + found ≡ 0 + length w.values + length v = omega (arith, e, w.counted) in
    record {
      within = omega (arith, w.within, le, length-drop at bytes);
      runs = w.runs ++ (text, v) ∷ [];
      values = w.values ++ v;
      stream = subst (λ (t : List ℕ). AreRuns R (w.runs ++ (text, v) ∷ []) t (w.values ++ v)) (sym (take-add at len bytes)) (runs_more R w.runs (take at bytes) text w.values v w.stream run);
      counted = omega (arith, w.counted, e, length-append w.values v);
      offsets_are = ap (λ (t : List ℕ). t ++ (at + len) ∷ []) w.offsets_are
          ∙ (ap (λ (n : ℕ). offsets_of 0 w.runs ++ n ∷ []) next ∙ sym (offsets_more R w.runs (text, v) (take at bytes) w.values 0 w.stream));
      counts_are = ap (λ (t : List ℕ). t ++ (before + found) ∷ []) w.counts_are
          ∙ (ap (λ (n : ℕ). counts_of 0 w.runs ++ n ∷ []) count ∙ sym (counts_more R w.runs (text, v) (take at bytes) w.values 0 w.stream));
    }

pub walk_ends : {A : Type 0} (R : List ℕ → List A → Type 0) (bytes : List ℕ) (at before : ℕ) (offsets counts : List ℕ) (places : Places) → Walked R bytes at before offsets counts
    → length bytes ≤ at → places.offsets ≡ offsets ++ at ∷ [] → places.counts ≡ counts ++ before ∷ [] → ArePlaces R bytes places
walk_ends R bytes at before offsets counts places w le e f = record {
  runs = w.runs;
  values = w.values;
  stream = subst (λ (t : List ℕ). AreRuns R w.runs t w.values) (take_all at bytes le) w.stream;
  offsets_are = e ∙ w.offsets_are;
  counts_are = f ∙ w.counts_are;
}

-- a stream goes on with a run
pub walk_goes : {A : Type 0} (R : List ℕ → List A → Type 0) (F : List ℕ → RunFault → Type 0) → One R → Some R → None R F → (bytes : List ℕ) (at before : ℕ) (offsets counts : List ℕ)
    (fault : RunFault) (all : List A) → Walked R bytes at before offsets counts → at < length bytes → F (drop at bytes) fault → IsStream R bytes all → ⊥
walk_goes R F one some none bytes at before offsets counts fault all w lt fails stream =
    let r = runs_rest R one some w.runs stream.0 (take at bytes) (drop at bytes) bytes w.values all w.stream stream.1 (sym (take-append-drop at bytes)) in
    no_first R F none (drop at bytes) r.values fault (λ e. omega (arith, lt, ap length e, length-drop at bytes)) fails r.stream

-- and the values so far, with those of the next run, are some of its values
pub walk_fits : {A : Type 0} (R : List ℕ → List A → Type 0) → One R → Some R → (bytes : List ℕ) (at before len : ℕ) (offsets counts : List ℕ) (v all : List A)
    → Walked R bytes at before offsets counts → R (take len (drop at bytes)) v → IsStream R bytes all → before + length v ≤ length all
walk_fits R one some bytes at before len offsets counts v all w run stream =
    let s = runs_push R w.runs (take at bytes) (take len (drop at bytes)) w.values v w.stream run in
    let parts : bytes ≡ (take at bytes ++ take len (drop at bytes)) ++ drop len (drop at bytes) =
    sym (take-append-drop at bytes) ∙ (ap (λ (t : List ℕ). take at bytes ++ t) (sym (take-append-drop len (drop at bytes))) ∙ sym (append_assoc (take at bytes) (take len (drop at bytes)) (drop len (drop at bytes)))) in
    let r = runs_rest R one some s.0 stream.0 (take at bytes ++ take len (drop at bytes)) (drop len (drop at bytes)) bytes (w.values ++ v) all s.1 stream.1 parts in
    omega (arith, ap length r.parts, length-append (w.values ++ v) r.values, length-append w.values v, w.counted)

-- at the end of the bytes nothing stops it but that more values are asked for
pub walk_stops : {A : Type 0} (R : List ℕ → List A → Type 0) (F : List ℕ → RunFault → Type 0) → One R → Some R → None R F → OneFault F → (n : ℕ) (bytes : List ℕ)
    (at before : ℕ) (offsets counts : List ℕ) (fault : RunFault) → Walked R bytes at before offsets counts → length bytes ≤ at → before ≤ n → StopsWithin R F n bytes fault
    → fault ≢ TooFew (length bytes) → ⊥
walk_stops {A = A} R F one some none one_fault n bytes at before offsets counts fault w le most stops other =
    elim (cases_lt before n) [
      | inl lt ↦
          let few = within_few R F n bytes at w.values (TooFew (length bytes)) le (w.runs, w.stream) (omega (arith, lt, w.counted)) refl in
          other (one_stop_within R F one some none one_fault n bytes fault (TooFew (length bytes)) stops few)
      | inr ge ↦
          let stream : IsStream R bytes w.values = (w.runs, subst (λ (t : List ℕ). AreRuns R w.runs t w.values) (take_all at bytes le) w.stream) in
          within_none R F one some none n bytes fault w.values stops stream (omega (arith, ge, most, w.counted))
    ]
