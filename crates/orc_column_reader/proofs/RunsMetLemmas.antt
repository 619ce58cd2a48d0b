-- Which fault a reader of runs meets.
use Rattle.std.proofs.Common.{◌≡◌, ℕ, zero, suc, ◌+◌, ◌<◌, ◌≤◌, List, [], ◌∷◌, ◌++◌, length, take, drop, refl, sym, ap, ◌∙◌, inl, inr, ◌⊎◌, arith, append_assoc, length-append, take-append-drop}
use Rattle.std.proofs.lemmas.List.{length-take-le}
use Rattle.orc_rle.specs.declared.fault.RunFault.{RunFault}
use Rattle.orc_rle.specs.declared.fault.RunFault.TheVariants as run
use Rattle.orc_rle.specs.Stream.{IsStream, StopsWithin, IsTooFew, IsNoRun, IsTooMany, at_place, RunsLeft}
use Rattle.orc_column_reader.specs.RunsMet.{StopsThere, StopsLater, RunsMeet}
use Rattle.orc_column_reader.proofs.RunsLemmas.{RunLaws, past_end, not_past_end, runs_ended}
use Rattle.orc_values.proofs.Lists.{drop_twice}

nothing_read : {A : Type 0} (is_run : List ℕ → List A → Type 0) → IsStream is_run [] []
nothing_read is_run = ([], (refl, refl))

run_more : {A : Type 0} (is_run : List ℕ → List A → Type 0) (text front : List ℕ) (v values : List A) → is_run text v → IsStream is_run front values → IsStream is_run (text ++ front) (v ++ values)
run_more is_run text front v values r s = ((text, v) ∷ s.0, (front, values, r, refl, refl, s.1))

-- the same of other counts: as many values are missing, and the place is the same
moved : {A : Type 0} (is_run : List ℕ → List A → Type 0) (fails : List ℕ → RunFault → Type 0) (rest : List ℕ) (count count' n n' place place' total : ℕ) (f : RunFault)
    → count + n' ≡ count' + n → place ≡ place' → StopsThere is_run fails rest count n place total f → StopsThere is_run fails rest count' n' place' total f
moved is_run fails rest count count' n n' place place' total f e p (inl h) = inl (h.0, omega (arith, e, h.1), h.2)
moved is_run fails rest count count' n n' place place' total f e p (inr (inl h)) = inr (inl (h.0, h.1, h.2, h.3 ∙ ap (at_place h.0) p))
moved is_run fails rest count count' n n' place place' total f e p (inr (inr h)) =
    inr (inr (h.0, h.1, h.2, h.3, h.4, omega (arith, e, h.5), h.6 ∙ ap (λ k. run.TooMany k) p))

-- ---- what is met after a value, or a run, was met before

later_value : {A : Type 0} (is_run : List ℕ → List A → Type 0) (fails : List ℕ → RunFault → Type 0) (pending before : List A) (bytes : List ℕ) (at total n : ℕ) (f : RunFault) → length before ≡ suc (length pending)
    → StopsLater is_run fails pending bytes at total n f → StopsLater is_run fails before bytes at total (suc n) f
later_value is_run fails pending before bytes at total n f e h = record {
  front = h.front;
  rest = h.rest;
  values = h.values;
  parts = h.parts;
  stream = h.stream;
  few = omega (arith, e, h.few);
  reason = moved is_run fails h.rest (length pending + length h.values) (length before + length h.values) n (suc n) (at + length h.front) (at + length h.front) total f (omega (arith, e)) refl h.reason;
}

pub met_value : {A : Type 0} (is_run : List ℕ → List A → Type 0) (fails : List ℕ → RunFault → Type 0) (x : A) (pending before : List A) (bytes : List ℕ) (start at total n : ℕ) (f : RunFault) → before ≡ x ∷ pending
    → RunsMeet is_run fails pending bytes start at total n f → RunsMeet is_run fails before bytes start at total (suc n) f
met_value is_run fails x pending before bytes start at total n f e (inl h) = inl (later_value is_run fails pending before bytes at total n f (ap length e) h)
met_value is_run fails x pending before bytes start at total n f e (inr h) = inr (omega (arith, ap length e, h.0), h.1)

front_place : (text front : List ℕ) (at len : ℕ) → length text ≡ len → (at + len) + length front ≡ at + length (text ++ front)
front_place text front at len n = omega (arith, n, length-append text front)

met_run : {A : Type 0} (is_run : List ℕ → List A → Type 0) (fails : List ℕ → RunFault → Type 0) (pending : List A) (bytes text left : List ℕ) (v : List A) (start at len total n : ℕ) (f : RunFault)
    → pending ≡ [] → is_run text v → bytes ≡ text ++ left → length text ≡ len → RunsMeet is_run fails v left at (at + len) total n f → RunsMeet is_run fails pending bytes start at total n f
met_run is_run fails pending bytes text left v start at len total n f none r parts l (inl h) =
    let both = length-append v h.values in
    inl (record {
      front = text ++ h.front;
      rest = h.rest;
      values = v ++ h.values;
      parts = parts ∙ ap (λ t. text ++ t) h.parts ∙ sym (append_assoc text h.front h.rest);
      stream = run_more is_run text h.front v h.values r h.stream;
      few = omega (arith, ap length none, both, h.few);
      reason = moved is_run fails h.rest (length v + length h.values) (length pending + length (v ++ h.values)) n n ((at + len) + length h.front) (at + length (text ++ h.front)) total f
          (omega (arith, ap length none, both)) (front_place text h.front at len l) h.reason;
    })
met_run is_run fails pending bytes text left v start at len total n f none r parts l (inr h) =
    let e : at ≡ at + 0 = omega arith in
    inl (record {
      front = [];
      rest = bytes;
      values = [];
      parts = refl;
      stream = nothing_read is_run;
      few = omega (arith, ap length none);
      reason = inr (inr (text, left, v, r, parts, omega (arith, h.0), h.1 ∙ ap (λ k. run.TooMany k) e));
    })

next_parts : (at len : ℕ) (bytes : List ℕ) → drop at bytes ≡ take len (drop at bytes) ++ drop (at + len) bytes
next_parts at len bytes = sym (take-append-drop len (drop at bytes)) ∙ ap (λ t. take len (drop at bytes) ++ t) (drop_twice at len bytes)

pub met_next : {A : Type 0} (is_run : List ℕ → List A → Type 0) (fails : List ℕ → RunFault → Type 0) (pending new : List A) (bytes : List ℕ) (start at len total n : ℕ) (f : RunFault)
    → pending ≡ [] → len ≤ length (drop at bytes) → is_run (take len (drop at bytes)) new
    → RunsMeet is_run fails new (drop (at + len) bytes) at (at + len) total n f → RunsMeet is_run fails pending (drop at bytes) start at total n f
met_next is_run fails pending new bytes start at len total n f none le is h =
    met_run is_run fails pending (drop at bytes) (take len (drop at bytes)) (drop (at + len) bytes) new start at len total n f none is (next_parts at len bytes) (length-take-le len (drop at bytes) le) h

-- ---- what is met now

pub met_stop : {A : Type 0} (is_run : List ℕ → List A → Type 0) (fails : List ℕ → RunFault → Type 0) (pending : List A) (bytes : List ℕ) (start at total n : ℕ) (cause f : RunFault) → pending ≡ [] → at < length bytes
    → fails (drop at bytes) cause → f ≡ at_place cause at → RunsMeet is_run fails pending (drop at bytes) start at total n f
met_stop is_run fails pending bytes start at total n cause f none lt h is =
    let e : at ≡ at + 0 = omega arith in
    inl (record {
      front = [];
      rest = drop at bytes;
      values = [];
      parts = refl;
      stream = nothing_read is_run;
      few = omega (arith, ap length none);
      reason = inr (inl (cause, λ empty. omega (arith, lt, not_past_end at bytes empty), h, is ∙ ap (at_place cause) e));
    })

pub met_end : {A : Type 0} (is_run : List ℕ → List A → Type 0) (fails : List ℕ → RunFault → Type 0) (pending : List A) (bytes : List ℕ) (start at total n : ℕ) → pending ≡ [] → length bytes ≤ at
    → RunsMeet is_run fails pending (drop at bytes) start at total (suc n) (run.TooFew total)
met_end is_run fails pending bytes start at total n none le =
    inl (record {
      front = [];
      rest = drop at bytes;
      values = [];
      parts = refl;
      stream = nothing_read is_run;
      few = omega (arith, ap length none);
      reason = inl (past_end at bytes le, omega (arith, ap length none), refl);
    })

-- ---- nothing more is needed

pub met_left : {A : Type 0} (is_run : List ℕ → List A → Type 0) (fails : List ℕ → RunFault → Type 0) (values : List A) (used : ℕ) (bytes : List ℕ) (start at total : ℕ) → used < length values
    → RunsMeet is_run fails (drop used values) (drop at bytes) start at total 0 (run.TooMany start)
met_left is_run fails values used bytes start at total lt = inr (some_left (drop used values) (λ none. omega (arith, lt, not_past_end used values none)), refl)
  where
    some_left : {A : Type 0} (xs : List A) → (xs ≡ [] → ⊥) → 0 < length xs
    some_left [] h = absurd (h refl)
    some_left (x ∷ xs) h = omega arith

pub met_pass : {A : Type 0} (is_run : List ℕ → List A → Type 0) (fails : List ℕ → RunFault → Type 0) → RunLaws is_run → (pending new : List A) (bytes : List ℕ) (start at len total : ℕ)
    → pending ≡ [] → is_run (take len (drop at bytes)) new → RunsMeet is_run fails pending (drop at bytes) start at total 0 (run.TooMany at)
met_pass is_run fails laws pending new bytes start at len total none is =
    let e : at ≡ at + 0 = omega arith in
    inl (record {
      front = [];
      rest = drop at bytes;
      values = [];
      parts = refl;
      stream = nothing_read is_run;
      few = omega (arith, ap length none);
      reason = inr (inr (take len (drop at bytes), drop (at + len) bytes, new, is, next_parts at len bytes, omega (arith, some_values is_run laws (take len (drop at bytes)) new is), ap (λ k. run.TooMany k) e));
    })
  where
    some_values : {A : Type 0} (is_run : List ℕ → List A → Type 0) → RunLaws is_run → (text : List ℕ) (v : List A) → is_run text v → 0 < length v
    some_values is_run laws text [] h = absurd (laws.values text h)
    some_values is_run laws text (x ∷ v) h = omega arith

-- where something is left and the run that was read last is used up, bytes are left
pub bytes_more : {A : Type 0} (is_run : List ℕ → List A → Type 0) (values : List A) (used : ℕ) (bytes : List ℕ) (at : ℕ) → length values ≤ used → (RunsLeft is_run (drop used values) (drop at bytes) [] → ⊥) → at < length bytes
bytes_more is_run values used bytes at le over = from_rest at bytes (λ none. over (runs_ended is_run values used bytes at le (not_past_end at bytes none)))
  where
    from_rest : (at : ℕ) (bytes : List ℕ) → (drop at bytes ≡ [] → ⊥) → at < length bytes
    from_rest zero [] h = absurd (h refl)
    from_rest zero (b ∷ bs) h = omega arith
    from_rest (suc at) [] h = absurd (h refl)
    from_rest (suc at) (b ∷ bs) h = omega (arith, from_rest at bs h)

-- ---- at the start of a stream

start_reason : {A : Type 0} (is_run : List ℕ → List A → Type 0) (fails : List ℕ → RunFault → Type 0) (pending values : List A) (bytes front rest : List ℕ) (at total n : ℕ) (f : RunFault) → pending ≡ [] → at ≡ 0 → total ≡ length bytes
    → StopsThere is_run fails rest (length pending + length values) n (at + length front) total f
    → IsTooFew n bytes rest values f ⊎ (IsNoRun fails front rest f ⊎ IsTooMany is_run n front rest values f)
start_reason is_run fails pending values bytes front rest at total n f none first all (inl h) = inl (h.0, omega (arith, ap length none, h.1), h.2 ∙ ap (λ k. run.TooFew k) all)
start_reason is_run fails pending values bytes front rest at total n f none first all (inr (inl h)) =
    let e : at + length front ≡ length front = omega (arith, first) in
    inr (inl (h.0, h.1, h.2, h.3 ∙ ap (at_place h.0) e))
start_reason is_run fails pending values bytes front rest at total n f none first all (inr (inr h)) =
    let e : at + length front ≡ length front = omega (arith, first) in
    inr (inr (h.0, h.1, h.2, h.3, h.4, omega (arith, ap length none, h.5), h.6 ∙ ap (λ k. run.TooMany k) e))

pub met_start : {A : Type 0} (is_run : List ℕ → List A → Type 0) (fails : List ℕ → RunFault → Type 0) (pending : List A) (bytes : List ℕ) (start at total n : ℕ) (f : RunFault) → pending ≡ [] → at ≡ 0 → total ≡ length bytes
    → RunsMeet is_run fails pending bytes start at total n f → StopsWithin is_run fails n bytes f
met_start is_run fails pending bytes start at total n f none first all (inl h) = record {
  front = h.front;
  rest = h.rest;
  values = h.values;
  parts = h.parts;
  stream = h.stream;
  few = omega (arith, ap length none, h.few);
  reason = start_reason is_run fails pending h.values bytes h.front h.rest at total n f none first all h.reason;
}
met_start is_run fails pending bytes start at total n f none first all (inr h) = absurd (omega (arith, ap length none, h.0))
