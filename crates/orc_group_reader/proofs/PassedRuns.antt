-- What a reader that was entered at a position meets and gives is what its whole stream has behind the values passed.
use Rattle.std.proofs.Common.{◌≡◌, ℕ, ◌+◌, ◌-◌, ◌<◌, ◌≤◌, List, [], ◌∷◌, ◌++◌, length, take, drop, refl, sym, ap, ◌∙◌, subst, arith, inl, inr, ◌⊎◌, append_assoc, length-append, take-append-drop}
use Rattle.std.proofs.lemmas.List.{length-take-le, nil_from_length}
use Rattle.orc_bits.proofs.PackedLaws.{same_length}
use Rattle.orc_rle.specs.Seeking.{Passes}
use Rattle.orc_rle.specs.Stream.{AreRuns, IsStream, StopsWithin, at_place, RunsLeft}
use Rattle.orc_rle.specs.declared.fault.RunFault.{RunFault}
use Rattle.orc_rle.specs.declared.fault.RunFault.TheVariants as run
use Rattle.orc_rle.proofs.StreamLemmas.{Going, fronts, runs_push, one_stream}
use Rattle.orc_column_reader.specs.Runs.{RunsFirst, RunsBegin}
use Rattle.orc_column_reader.specs.RunsMet.{StopsThere, RunsMeet}
use Rattle.orc_column_reader.proofs.RunsLemmas.{RunLaws}
use Rattle.orc_group_reader.specs.RunsPassed.{IsLastRun}
use Rattle.orc_group_reader.specs.Behind.{LeadsTo}
use Rattle.orc_group_reader.proofs.RunStarts.{drop_behind}

-- two streams, the one behind the other
pub both_streams : {A : Type 0} (R : List ℕ → List A → Type 0) (ps : List (List ℕ × List A)) (a b : List ℕ) (v w : List A) → AreRuns R ps a v → IsStream R b w → IsStream R (a ++ b) (v ++ w)
both_streams {A = A} R [] a b v w h s = subst (λ (t : List ℕ). IsStream R (t ++ b) (v ++ w)) (sym h.0) (subst (λ (t : List A). IsStream R b (t ++ w)) (sym h.1) s)
both_streams {A = A} R (p ∷ ps) a b v w h s =
    let k = both_streams R ps h.0 b h.1 w h.5 s in
    (p ∷ k.0, (h.0 ++ b, h.1 ++ w, h.2, ap (λ (t : List ℕ). t ++ b) h.3 ∙ append_assoc p.0 h.0 b, ap (λ (t : List A). t ++ w) h.4 ∙ append_assoc p.1 h.1 w, k.1))

-- ---- the last run begins at one place

-- a run behind a front can't end where another one does that goes on from there
goes_past : {A : Type 0} (R : List ℕ → List A → Type 0) → RunLaws R → (bytes f t r g u q : List ℕ) (b v c w : List A) → bytes ≡ f ++ (t ++ r) → bytes ≡ g ++ (u ++ q) → IsStream R f b → R t v → IsStream R g c → R u w
    → length f + length t ≡ length g + length u → Going R (t ++ r) b c → ⊥
goes_past {A = A} R laws bytes f t r g u q b v c w e d sf rt sg ru len on =
    let first = laws.one t on.text r on.more v on.past rt on.run on.parts in
    let one : (f ++ t) ++ r ≡ (g ++ u) ++ q = append_assoc f t r ∙ sym e ∙ d ∙ sym (append_assoc g u q) in
    let same = same_length (f ++ t) (g ++ u) r q (omega (arith, len, length-append f t, length-append g u)) one in
    let left = runs_push R sf.0 f t b v sf.1 rt in
    let right = runs_push R sg.0 g u c w sg.1 ru in
    let all = one_stream R laws.one laws.some (g ++ u) (b ++ v) (c ++ w) (subst (λ (x : List ℕ). IsStream R x (b ++ v)) same.front left) right in
    let none : length w ≡ 0 = omega (arith, on.far, ap length first.1, ap length all, length-append b v, length-append c w) in
    laws.values u (subst (λ (x : List A). R u x) (nil_from_length w none) ru)

same_start : {A : Type 0} (R : List ℕ → List A → Type 0) → RunLaws R → (bytes f t r g u q : List ℕ) (b v c w : List A) → bytes ≡ f ++ (t ++ r) → bytes ≡ g ++ (u ++ q) → IsStream R f b → R t v → IsStream R g c → R u w
    → length f + length t ≡ length g + length u → length f ≡ length g
same_start R laws bytes f t r g u q b v c w e d sf rt sg ru len = elim (fronts R laws.one sf.0 sg.0 f g (t ++ r) (u ++ q) b c sf.1 sg.1 (sym e ∙ d)) [
  | inl same ↦ same.len
  | inr (inl on) ↦ absurd (goes_past R laws bytes f t r g u q b v c w e d sf rt sg ru len on)
  | inr (inr on) ↦ absurd (goes_past R laws bytes g u q f t r c w b v d e sg ru sf rt (sym len) on)
]

-- ---- what is passed, and what is left of the last run

-- the last of the runs in front, which begins at the start
pub record LastOf {A : Type 0} (R : List ℕ → List A → Type 0) (offset start : ℕ) (front : List ℕ) (passed left : List A) : Type 0 where
  pub first : List ℕ
  pub text : List ℕ
  pub before : List A
  pub last : List A
  pub parts : front ≡ first ++ text
  pub stream : IsStream R first before
  pub run : R text last
  pub start_is : start ≡ offset + length first
  pub few : length before ≤ length passed
  pub counted : length before + length last ≡ length passed + length left

-- runs from the offset on have the values that are passed, and those that are left
pub record Passed {A : Type 0} (R : List ℕ → List A → Type 0) (bytes : List ℕ) (offset start at : ℕ) (passed left : List A) : Type 0 where
  pub front : List ℕ
  pub rest : List ℕ
  pub parts : drop offset bytes ≡ front ++ rest
  pub stream : IsStream R front (passed ++ left)
  pub at_is : at ≡ offset + length front
  pub last : (left ≡ []) ⊎ LastOf R offset start front passed left

some_text : {A : Type 0} (R : List ℕ → List A → Type 0) → RunLaws R → (text : List ℕ) (v : List A) → R text v → 0 < length text
some_text R laws [] v r = absurd (laws.some v r)
some_text R laws (b ∷ text) v r = omega arith

begins_where : {A : Type 0} (R : List ℕ → List A → Type 0) → RunLaws R → (bytes : List ℕ) (offset start at : ℕ) (front text rest : List ℕ) (before last : List A) → drop offset bytes ≡ front ++ (text ++ rest) → IsStream R front before → R text last
    → at ≡ offset + (length front + length text) → IsLastRun R bytes offset start at → start ≡ offset + length front
begins_where R laws bytes offset start at front text rest before last parts stream run at_is (inl h) = absurd (omega (arith, h.1, at_is, some_text R laws text last run))
begins_where R laws bytes offset start at front text rest before last parts stream run at_is (inr h) =
    let same = same_start R laws (drop offset bytes) h.front h.text h.rest front text rest h.before h.last before last h.parts parts h.stream h.run stream run (omega (arith, at_is, h.start_is, h.end_is)) in
    omega (arith, same, h.start_is)

pub passed_by : {A : Type 0} (R : List ℕ → List A → Type 0) → RunLaws R → (bytes : List ℕ) (offset skip need start len at : ℕ) (left : List A) → skip ≤ need → need ≤ skip + 1 → Passes R (drop offset bytes) skip need len left → at ≡ offset + len
    → IsLastRun R bytes offset start at → (passed : List A) × (length passed ≡ skip) × Passed R bytes offset start at passed left
passed_by {A = A} R laws bytes offset skip need start len at left le ge (inl h) e l =
    let none : 0 ≡ skip = omega (arith, le, h.0) in (
      [],
      none,
      record { front = []; rest = drop offset bytes; parts = refl; stream = ([], (refl, h.2)); at_is = omega (arith, e, h.1); last = inl h.2 },
    )
passed_by {A = A} R laws bytes offset skip need start len at left le ge (inr h) e l =
    let d = skip - length h.before in
    let few : length h.before ≤ skip = omega (arith, h.few, ge) in
    let most : d ≤ length h.last = omega (arith, h.enough, le) in
    let passed : List A = h.before ++ take d h.last in
    let counted : length passed ≡ skip = omega (arith, length-append h.before (take d h.last), length-take-le d h.last most, few) in
    let values : h.before ++ h.last ≡ passed ++ left =
    ap (λ (t : List A). h.before ++ t) (sym (take-append-drop d h.last) ∙ ap (λ (t : List A). take d h.last ++ t) (sym h.left_is)) ∙ sym (append_assoc h.before (take d h.last) left) in
    let at_is : at ≡ offset + (length h.front + length h.text) = omega (arith, e, h.len_is) in (
      passed,
      counted,
      record {
        front = h.front ++ h.text;
        rest = h.rest;
        parts = h.parts ∙ sym (append_assoc h.front h.text h.rest);
        stream = subst (λ (t : List A). IsStream R (h.front ++ h.text) t) values (runs_push R h.stream.0 h.front h.text h.before h.last h.stream.1 h.run);
        at_is = omega (arith, at_is, length-append h.front h.text);
        last = inr (record {
          first = h.front;
          text = h.text;
          before = h.before;
          last = h.last;
          parts = refl;
          stream = h.stream;
          run = h.run;
          start_is = begins_where R laws bytes offset start at h.front h.text h.rest h.before h.last h.parts h.stream h.run at_is l;
          few = omega (arith, counted, few);
          counted = omega (arith, ap length values, length-append h.before h.last, length-append passed left);
        });
      },
    )

-- ---- of the whole stream

-- the whole stream, from its start to the place behind the last run that was read
record Whole {A : Type 0} (R : List ℕ → List A → Type 0) (bytes : List ℕ) (at : ℕ) (values left : List A) : Type 0 where
  front : List ℕ
  rest : List ℕ
  parts : bytes ≡ front ++ rest
  stream : IsStream R front (values ++ left)
  at_is : at ≡ length front
  rest_is : drop at bytes ≡ rest

module _ {A : Type 0} (R : List ℕ → List A → Type 0) (bytes : List ℕ) (offset start at skip k : ℕ) (passed left : List A) (names : LeadsTo R bytes offset skip k) (counted : length passed ≡ skip) (p : Passed R bytes offset start at passed left) where
  abbrev pub values : List A
  values = names.before ++ passed

  pub long : length values ≡ k
  long = omega (arith, length-append names.before passed, counted, names.number_is)

  behind_front : drop offset bytes ≡ names.rest
  behind_front = drop_behind bytes names.front names.rest 0 offset names.parts (omega (arith, names.offset_is))

  whole : Whole R bytes at values left
  whole =
      let rest : names.rest ≡ p.front ++ p.rest = sym behind_front ∙ p.parts in
      let parts : bytes ≡ (names.front ++ p.front) ++ p.rest = names.parts ∙ ap (λ (t : List ℕ). names.front ++ t) rest ∙ sym (append_assoc names.front p.front p.rest) in
      let at_is : at ≡ length (names.front ++ p.front) = omega (arith, p.at_is, names.offset_is, length-append names.front p.front) in
      record {
        front = names.front ++ p.front;
        rest = p.rest;
        parts = parts;
        stream = subst (λ (t : List A). IsStream R (names.front ++ p.front) t) (sym (append_assoc names.before passed left)) (both_streams R names.stream.0 names.front p.front names.before (passed ++ left) names.stream.1 p.stream);
        at_is = at_is;
        rest_is = drop_behind bytes (names.front ++ p.front) p.rest 0 at parts (omega (arith, at_is));
      }

  stops_there : (F : List ℕ → RunFault → Type 0) (front rest : List ℕ) (more : List A) (n : ℕ) (f : RunFault) → StopsThere R F rest (length left + length more) n (at + length front) (length bytes) f
      → StopsThere R F rest (length ((values ++ left) ++ more)) (k + n) (length (whole.front ++ front)) (length bytes) f
  stops_there F front rest more n f h =
      let count : length ((values ++ left) ++ more) ≡ k + (length left + length more) = omega (arith, length-append (values ++ left) more, length-append values left, long) in
      let place : at + length front ≡ length (whole.front ++ front) = omega (arith, whole.at_is, length-append whole.front front) in
      elim h [
        | inl none ↦ inl (none.0, omega (arith, none.1, count), none.2)
        | inr (inl bad) ↦ inr (inl (bad.0, bad.1, bad.2, bad.3 ∙ ap (at_place bad.0) place))
        | inr (inr many) ↦ inr (inr (many.0, many.1, many.2, many.3, many.4, omega (arith, many.5, count), many.6 ∙ ap (λ (i : ℕ). run.TooMany i) place))
      ]

  pub meets_whole : (F : List ℕ → RunFault → Type 0) (n : ℕ) (f : RunFault) → RunsMeet R F left (drop at bytes) start at (length bytes) n f → StopsWithin R F (k + n) bytes f
  meets_whole F n f (inl h) = record {
    front = whole.front ++ h.front;
    rest = h.rest;
    values = (values ++ left) ++ h.values;
    parts = whole.parts ∙ ap (λ (t : List ℕ). whole.front ++ t) (sym whole.rest_is ∙ h.parts) ∙ sym (append_assoc whole.front h.front h.rest);
    stream = both_streams R whole.stream.0 whole.front h.front (values ++ left) h.values whole.stream.1 h.stream;
    few = omega (arith, h.few, length-append (values ++ left) h.values, length-append values left, long);
    reason = stops_there F h.front h.rest h.values n f h.reason;
  }
  meets_whole F n f (inr h) = elim p.last [
    | inl none ↦ absurd (omega (arith, h.0, ap length none))
    | inr l ↦
        let rest : names.rest ≡ (l.first ++ l.text) ++ p.rest = sym behind_front ∙ p.parts ∙ ap (λ (t : List ℕ). t ++ p.rest) l.parts in
        let place : start ≡ length (names.front ++ l.first) = omega (arith, l.start_is, names.offset_is, length-append names.front l.first) in
        record {
          front = names.front ++ l.first;
          rest = l.text ++ p.rest;
          values = names.before ++ l.before;
          parts = names.parts ∙ ap (λ (t : List ℕ). names.front ++ t) (rest ∙ append_assoc l.first l.text p.rest) ∙ sym (append_assoc names.front l.first (l.text ++ p.rest));
          stream = both_streams R names.stream.0 names.front l.first names.before l.before names.stream.1 l.stream;
          few = omega (arith, l.few, counted, names.number_is, length-append names.before l.before);
          reason = inr (inr (l.text, p.rest, l.last, l.run, refl, omega (arith, h.0, l.counted, counted, names.number_is, length-append names.before l.before), h.1 ∙ ap (λ (i : ℕ). run.TooMany i) place));
        }
  ]

  pub first_whole : (more : List A) → RunsFirst R left (drop at bytes) more → RunsBegin R bytes (values ++ more)
  first_whole more h =
      let extra = h.2 in
      let read = h.4.0 in
      let same : (values ++ left) ++ read ≡ (values ++ more) ++ extra = append_assoc values left read ∙ ap (λ (t : List A). values ++ t) (sym h.4.1) ∙ sym (append_assoc values more extra) in (
        whole.front ++ h.0,
        h.1,
        extra,
        whole.parts ∙ ap (λ (t : List ℕ). whole.front ++ t) (sym whole.rest_is ∙ h.3) ∙ sym (append_assoc whole.front h.0 h.1),
        subst (λ (t : List A). IsStream R (whole.front ++ h.0) t) same (both_streams R whole.stream.0 whole.front h.0 (values ++ left) read whole.stream.1 h.4.2),
      )

  pub left_whole : (more : List A) → RunsLeft R left (drop at bytes) more → IsStream R bytes (values ++ more)
  left_whole more h =
      let same : (values ++ left) ++ h.0 ≡ values ++ more = append_assoc values left h.0 ∙ ap (λ (t : List A). values ++ t) (sym h.1) in
      subst (λ (b : List ℕ). IsStream R b (values ++ more)) (sym (whole.parts ∙ ap (λ (t : List ℕ). whole.front ++ t) (sym whole.rest_is)))
      (subst (λ (t : List A). IsStream R (whole.front ++ drop at bytes) t) same (both_streams R whole.stream.0 whole.front (drop at bytes) (values ++ left) h.0 whole.stream.1 h.2))
