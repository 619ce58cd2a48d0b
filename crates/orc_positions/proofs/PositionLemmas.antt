-- Positions in streams of runs: what they name, and what comes from there on.
use Rattle.std.proofs.Common.{◌≡◌, ℕ, suc, zero, min, ◌+◌, ◌-◌, ◌<◌, ◌≤◌, List, [], ◌∷◌, ◌++◌, length, take, drop, refl, sym, ap, subst, ◌∙◌, arith, inl, inr, append_assoc, length-drop, length-append}
use Rattle.std.proofs.Math.Seq.{drop-append_seam, drop-append-add}
use Rattle.std.proofs.lemmas.List.{append-nil, take-append-drop, length-take-le, drop-drop, drop-append-le, nil_from_length}
use Rattle.std.proofs.lemmas.Bool.{cases_lt}
use Rattle.orc_bits.proofs.PackedLaws.{same_length}
use Rattle.orc_rle.specs.declared.fault.RunFault.{RunFault}
use Rattle.orc_rle.specs.Stream.{AreRuns, IsStream, RunsLeft}
use Rattle.orc_rle.specs.Seeking.{Passes, Seeks, CountsRuns, SeekFails}
use Rattle.orc_rle.proofs.RunLemmas.{One, Some, None}
use Rattle.orc_rle.proofs.SeekLemmas.{counts_some, counts_zero}
use Rattle.orc_rle.proofs.StreamLemmas.{Going, fronts, runs_push, runs_rest, one_stream, no_first, single, empty_front}
use Rattle.orc_positions.specs.Position.{Begins, GoesOnFrom, IsInside, IsWriterPosition, HasValues, IsOneRun}

drop-front : {A : Type 0} (xs ys : List A) (n : ℕ) → n ≡ length xs → drop n (xs ++ ys) ≡ ys
drop-front {A = A} xs ys n e = ap (λ (k : ℕ). drop k (xs ++ ys)) e ∙ drop-append_seam xs ys

-- what comes after the offset
pub rest_is : {A : Type 0} (R : List ℕ → List A → Type 0) (bytes : List ℕ) (offset skip n : ℕ) (h : Begins R bytes offset skip n) → drop offset bytes ≡ h.rest
rest_is R bytes offset skip n h = ap (drop offset) h.parts ∙ drop-front h.front h.rest offset h.offset_is

pub offset_within : {A : Type 0} (R : List ℕ → List A → Type 0) (bytes : List ℕ) (offset skip n : ℕ) → Begins R bytes offset skip n → offset ≤ length bytes
offset_within R bytes offset skip n h = omega (arith, ap length h.parts, length-append h.front h.rest, h.offset_is)

left_after : {A : Type 0} (before last more left : List A) (skip : ℕ) → length before ≤ skip → skip ≤ length before + length last → left ≡ drop (skip - length before) last
    → drop skip ((before ++ last) ++ more) ≡ left ++ more
left_after {A = A} before last more left skip from to e =
    let sum : skip ≡ length before + (skip - length before) = omega (arith, from) in
    drop-append-le skip (before ++ last) more (omega (arith, length-append before last, to))
    ∙ ap (λ (t : List A). t ++ more) (ap (λ (k : ℕ). drop k (before ++ last)) sum ∙ (drop-append-add before last (skip - length before) ∙ sym e))

-- of a stream's own bytes
passes_on : {A : Type 0} (R : List ℕ → List A → Type 0) → One R → Some R → (bytes : List ℕ) (skip need len : ℕ) (left all : List A) → skip ≤ need → need ≤ skip + 1
    → Passes R bytes skip need len left → IsStream R bytes all → RunsLeft R left (drop len bytes) (drop skip all)
passes_on R one some bytes skip need len left all le ge (inl h) stream =
    let none : skip ≡ 0 = omega (arith, le, h.0) in
    (all, (rw (h.2, none) refl), (rw h.1 stream))
passes_on {A = A} R one some bytes skip need len left all le ge (inr h) stream =
    let s = runs_push R h.stream.0 h.front h.text h.before h.last h.stream.1 h.run in
    let parts : bytes ≡ (h.front ++ h.text) ++ h.rest = h.parts ∙ sym (append_assoc h.front h.text h.rest) in
    let r = runs_rest R one some s.0 stream.0 (h.front ++ h.text) h.rest bytes (h.before ++ h.last) all s.1 stream.1 parts in
    let rest : drop len bytes ≡ h.rest = ap (drop len) parts ∙ drop-front (h.front ++ h.text) h.rest len (omega (arith, h.len_is, length-append h.front h.text)) in (
      r.values,
      ap (drop skip) r.parts ∙ left_after h.before h.last r.values left skip (omega (arith, h.few, ge)) (omega (arith, h.enough, le)) h.left_is,
      subst (λ (t : List ℕ). IsStream R t r.values) (sym rest) r.stream,
    )

-- from a position on come the values from its number on
pub goes_on : {A : Type 0} (R : List ℕ → List A → Type 0) → One R → Some R → (bytes : List ℕ) (offset skip need n at : ℕ) (left all : List A) → skip ≤ need → need ≤ skip + 1
    → Begins R bytes offset skip n → IsStream R bytes all → Seeks R bytes offset skip need at left → RunsLeft R left (drop at bytes) (drop n all)
goes_on {A = A} R one some bytes offset skip need n at left all le ge h stream k =
    let r = runs_rest R one some h.stream.0 stream.0 h.front h.rest bytes h.before all h.stream.1 stream.1 h.parts in
    let rest = subst (λ (t : List ℕ). IsStream R t r.values) (sym (rest_is R bytes offset skip n h)) r.stream in
    let p = passes_on R one some (drop offset bytes) skip need k.len left r.values le ge k.passes rest in
    let values : drop n all ≡ drop skip r.values = ap (drop n) r.parts ∙ (ap (λ (m : ℕ). drop m (h.before ++ r.values)) h.number_is ∙ drop-append-add h.before r.values skip) in
    let place : drop k.len (drop offset bytes) ≡ drop at bytes = drop-drop k.len offset bytes ∙ ap (λ (m : ℕ). drop m bytes) (sym k.at_is) in
    (p.0, values ∙ p.1, subst (λ (t : List ℕ). IsStream R t p.0) place p.2)

-- runs that have as many values reach them
pub record Reached {A : Type 0} (R : List ℕ → List A → Type 0) (bytes : List ℕ) (skip need : ℕ) : Type 0 where
  pub len : ℕ
  pub left : List A
  pub passes : Passes R bytes skip need len left

reach_first : {A : Type 0} (R : List ℕ → List A → Type 0) (bytes text rest : List ℕ) (last : List A) (skip need : ℕ) → 0 < need → need ≤ length last → bytes ≡ text ++ rest → R text last
    → Reached R bytes skip need
reach_first R bytes text rest last skip need lt le parts run = record {
  len = length text;
  left = drop skip last;
  passes = inr (record {
    front = [];
    text = text;
    rest = rest;
    before = [];
    last = last;
    parts = parts;
    stream = ([], (refl, refl));
    run = run;
    few = lt;
    enough = omega (arith, le);
    len_is = omega arith;
    left_is = let whole : skip ≡ skip - 0 = omega arith in ap (λ (k : ℕ). drop k last) whole;
  });
}

reach_later : {A : Type 0} (R : List ℕ → List A → Type 0) (bytes text rest : List ℕ) (first : List A) (skip need : ℕ) → length first < need → bytes ≡ text ++ rest → R text first
    → Reached R rest (skip - length first) (need - length first) → Reached R bytes skip need
reach_later {A = A} R bytes text rest first skip need lt parts run r = elim r.passes [
  | inl none ↦ absurd (omega (arith, lt, none.0))
  | inr h ↦
      let less : (skip - length first) - length h.before ≡ skip - length (first ++ h.before) = omega (arith, length-append first h.before) in
      record {
        len = length text + r.len;
        left = r.left;
        passes = inr (record {
          front = text ++ h.front;
          text = h.text;
          rest = h.rest;
          before = first ++ h.before;
          last = h.last;
          parts = parts ∙ (ap (λ (t : List ℕ). text ++ t) h.parts ∙ sym (append_assoc text h.front (h.text ++ h.rest)));
          stream = ((text, first) ∷ h.stream.0, (h.front, h.before, run, refl, refl, h.stream.1));
          run = h.run;
          few = omega (arith, h.few, lt, length-append first h.before);
          enough = omega (arith, h.enough, lt, length-append first h.before);
          len_is = omega (arith, h.len_is, length-append text h.front);
          left_is = h.left_is ∙ ap (λ (k : ℕ). drop k h.last) less;
        });
      }
]

pub reach_there : {A : Type 0} (R : List ℕ → List A → Type 0) (ps : List (List ℕ × List A)) (bytes : List ℕ) (values : List A) (skip need : ℕ) → AreRuns R ps bytes values
    → need ≤ length values → Reached R bytes skip need
reach_there R ps bytes values skip zero h le = record { len = 0; left = []; passes = inl (refl, refl, refl) }
reach_there R [] bytes values skip (suc need) h le = absurd (omega (arith, le, ap length h.1))
reach_there R (p ∷ ps) bytes values skip (suc need) h le =
    elim (cases_lt (length p.1) (suc need)) [
      | inl lt ↦
          reach_later R bytes p.0 h.0 p.1 skip (suc need) lt h.3 h.2
          (reach_there R ps h.0 h.1 (skip - length p.1) (suc need - length p.1) h.5 (omega (arith, le, ap length h.4, length-append p.1 h.1)))
      | inr ge ↦ reach_first R bytes p.0 h.0 p.1 skip (suc need) (omega arith) ge h.3 h.2
    ]

-- a position is found
pub sought : {A : Type 0} (R : List ℕ → List A → Type 0) → One R → Some R → (bytes : List ℕ) (offset skip need n : ℕ) (all : List A) → skip ≤ need → need ≤ skip + 1
    → (h : Begins R bytes offset skip n) → need ≤ length h.after → IsStream R bytes all → GoesOnFrom R bytes offset skip need (drop n all)
sought R one some bytes offset skip need n all le ge h there stream =
    let rest = subst (λ (t : List ℕ). IsStream R t h.after) (sym (rest_is R bytes offset skip n h)) h.more in
    let r = reach_there R rest.0 (drop offset bytes) h.after skip need rest.1 there in
    let seeks : Seeks R bytes offset skip need (offset + r.len) r.left = record { within = offset_within R bytes offset skip n h; len = r.len; passes = r.passes; at_is = refl } in
    record { at = offset + r.len; left = r.left; seeks = seeks; goes_on = goes_on R one some bytes offset skip need n (offset + r.len) r.left all le ge h stream seeks }

-- a position names one number
pub one_number : {A : Type 0} (R : List ℕ → List A → Type 0) → One R → Some R → (bytes : List ℕ) (offset skip n m : ℕ) → Begins R bytes offset skip n → Begins R bytes offset skip m → n ≡ m
one_number R one some bytes offset skip n m h k =
    let front : h.front ≡ k.front = (same_length h.front k.front h.rest k.rest (sym h.offset_is ∙ k.offset_is) (sym h.parts ∙ k.parts)).front in
    let before = one_stream R one some k.front h.before k.before (subst (λ (t : List ℕ). IsStream R t h.before) front h.stream) k.stream in
    omega (arith, h.number_is, k.number_is, ap length before)

-- only the bytes from the offset on have a part in the answer
pub seek_alone : {A : Type 0} (R : List ℕ → List A → Type 0) (a b : List ℕ) (offset skip need at : ℕ) (left : List A) → drop offset a ≡ drop offset b → offset ≤ length b
    → Seeks R a offset skip need at left → Seeks R b offset skip need at left
seek_alone R a b offset skip need at left same le h =
    record { within = le; len = h.len; passes = subst (λ (t : List ℕ). Passes R t skip need h.len left) same h.passes; at_is = h.at_is }

pub fails_alone : {A : Type 0} (R : List ℕ → List A → Type 0) (F : List ℕ → RunFault → Type 0) (a b : List ℕ) (offset need : ℕ) (fault : RunFault) → drop offset a ≡ drop offset b
    → offset ≤ length a → offset ≤ length b → SeekFails R F a offset need fault → SeekFails R F b offset need fault
fails_alone R F a b offset need fault same la lb (inl (inl past, is)) = absurd (omega (arith, past, la))
fails_alone R F a b offset need fault same la lb (inl (inr h, is)) =
    inl (inr (record { within = lb; values = h.values; stream = subst (λ (t : List ℕ). IsStream R t h.values) same h.stream; few = h.few }), is)
fails_alone R F a b offset need fault same la lb (inr h) = inr (record {
  within = lb;
  front = h.front;
  rest = h.rest;
  before = h.before;
  parts = sym same ∙ h.parts;
  stream = h.stream;
  few = h.few;
  more = h.more;
  first = h.first;
  fails_first = h.fails_first;
  fault_is = h.fault_is;
})

-- the run at a writer's position is longer than what is passed
inside_going : {A : Type 0} (R : List ℕ → List A → Type 0) → One R → Some R → (bytes rest : List ℕ) (offset skip : ℕ) (v w : List A) → drop offset bytes ≡ rest
    → IsInside R bytes offset skip → Going R rest v w → length v + skip < length w
inside_going R one some bytes rest offset skip v w e (inl end) on =
    let none : [] ≡ on.text ++ on.more = sym (nil_from_length (drop offset bytes) (omega (arith, length-drop offset bytes, end.0))) ∙ (e ∙ on.parts) in
    absurd (some on.past (subst (λ (t : List ℕ). R t on.past) (empty_front on.text on.more none) on.run))
inside_going R one some bytes rest offset skip v w e (inr run) on =
    let same = one run.0 on.text run.1 on.more run.2 on.past run.3 on.run (sym run.4 ∙ (e ∙ on.parts)) in
    omega (arith, on.far, run.5, ap length same.1)

pub record SamePlace (o p s t : ℕ) : Type 0 where
  pub offset : o ≡ p
  pub skip : s ≡ t

-- a value has one place
pub one_place : {A : Type 0} (R : List ℕ → List A → Type 0) → One R → Some R → (bytes : List ℕ) (o p s t n : ℕ) → IsWriterPosition R bytes o s n → IsWriterPosition R bytes p t n → SamePlace o p s t
one_place R one some bytes o p s t n h k =
    let b = h.begins in
    let d = k.begins in
    elim (fronts R one b.stream.0 d.stream.0 b.front d.front b.rest d.rest b.before d.before b.stream.1 d.stream.1 (sym b.parts ∙ d.parts)) [
      | inl same ↦
          let offset : o ≡ p = omega (arith, same.len, b.offset_is, d.offset_is) in
          let front : b.front ≡ d.front = (same_length b.front d.front b.rest d.rest same.len (sym b.parts ∙ d.parts)).front in
          let before = one_stream R one some d.front b.before d.before (subst (λ (x : List ℕ). IsStream R x b.before) front b.stream) d.stream in
          record { offset = offset; skip = omega (arith, b.number_is, d.number_is, ap length before) }
      | inr (inl on) ↦
          let far = inside_going R one some bytes b.rest o s b.before d.before (rest_is R bytes o s n b) h.inside on in
          absurd (omega (arith, far, b.number_is, d.number_is))
      | inr (inr on) ↦
          let far = inside_going R one some bytes d.rest p t d.before b.before (rest_is R bytes p t n d) k.inside on in
          absurd (omega (arith, far, b.number_is, d.number_is))
    ]

-- one run more is passed
after_run : {A : Type 0} (R : List ℕ → List A → Type 0) → One R → Some R → (bytes : List ℕ) (offset n len : ℕ) (v : List A) → (h : Begins R bytes offset 0 n) → R (take len (drop offset bytes)) v
    → (more : List A) × (h.after ≡ v ++ more) × IsStream R (drop len (drop offset bytes)) more
after_run {A = A} R one some bytes offset n len v h run =
    let rest = subst (λ (t : List ℕ). IsStream R t h.after) (sym (rest_is R bytes offset 0 n h)) h.more in
    let first = single R (take len (drop offset bytes)) v run in
    let r = runs_rest R one some first.0 rest.0 (take len (drop offset bytes)) (drop len (drop offset bytes)) (drop offset bytes) v h.after first.1 rest.1
    (sym (take-append-drop len (drop offset bytes))) in
    (r.values, r.parts, r.stream)

pub mark_more : {A : Type 0} (R : List ℕ → List A → Type 0) → One R → Some R → (bytes : List ℕ) (offset before len found : ℕ) (v : List A) → Begins R bytes offset 0 before
    → len ≤ length (drop offset bytes) → R (take len (drop offset bytes)) v → found ≡ length v → Begins R bytes (offset + len) 0 (before + found)
mark_more {A = A} R one some bytes offset before len found v h le run e =
    let k = after_run R one some bytes offset before len v h run in
    let text : bytes ≡ (h.front ++ take len (drop offset bytes)) ++ drop len (drop offset bytes) =
    h.parts ∙ (ap (λ (t : List ℕ). h.front ++ t) (sym (rest_is R bytes offset 0 before h) ∙ sym (take-append-drop len (drop offset bytes)))
    ∙ sym (append_assoc h.front (take len (drop offset bytes)) (drop len (drop offset bytes)))) in
    record {
      front = h.front ++ take len (drop offset bytes);
      rest = drop len (drop offset bytes);
      before = h.before ++ v;
      after = k.0;
      parts = text;
      stream = runs_push R h.stream.0 h.front (take len (drop offset bytes)) h.before v h.stream.1 run;
      more = k.2;
      offset_is = omega (arith, h.offset_is, length-append h.front (take len (drop offset bytes)), length-take-le len (drop offset bytes) le);
      number_is = omega (arith, h.number_is, length-append h.before v, e);
      there = omega arith;
    }

-- the value stands in the run at the run start
pub mark_place : {A : Type 0} (R : List ℕ → List A → Type 0) → One R → Some R → (bytes : List ℕ) (offset before n len found : ℕ) (v : List A) → Begins R bytes offset 0 before
    → R (take len (drop offset bytes)) v → found ≡ length v → before ≤ n → n - before < found → IsWriterPosition R bytes offset (n - before) n
mark_place R one some bytes offset before n len found v h run e le lt =
    let k = after_run R one some bytes offset before len v h run in
    record {
      begins = record {
        front = h.front;
        rest = h.rest;
        before = h.before;
        after = h.after;
        parts = h.parts;
        stream = h.stream;
        more = h.more;
        offset_is = h.offset_is;
        number_is = omega (arith, h.number_is, le);
        there = omega (arith, lt, e, ap length k.1, length-append v k.0);
      };
      inside = inr (take len (drop offset bytes), drop len (drop offset bytes), v, run, sym (take-append-drop len (drop offset bytes)), omega (arith, lt, e));
    }

-- all values come before the run start
pub mark_end : {A : Type 0} (R : List ℕ → List A → Type 0) → One R → Some R → (bytes : List ℕ) (offset before n : ℕ) → Begins R bytes offset 0 before
    → length bytes ≤ offset → before ≤ n → HasValues R bytes n → IsWriterPosition R bytes offset (n - before) n
mark_end {A = A} R one some bytes offset before n h end le all =
    let size : length h.rest ≡ 0 = omega (arith, ap length h.parts, length-append h.front h.rest, h.offset_is, end) in
    let none : h.rest ≡ [] = nil_from_length h.rest size in
    let whole : bytes ≡ h.front = h.parts ∙ (ap (λ (t : List ℕ). h.front ++ t) none ∙ append-nil h.front) in
    let same = one_stream R one some bytes all.0 h.before all.1 (subst (λ (t : List ℕ). IsStream R t h.before) (sym whole) h.stream) in
    let zero : n ≡ before = omega (arith, le, all.2, ap length same, h.number_is) in
    record {
      begins = record {
        front = h.front;
        rest = h.rest;
        before = h.before;
        after = h.after;
        parts = h.parts;
        stream = h.stream;
        more = h.more;
        offset_is = h.offset_is;
        number_is = omega (arith, h.number_is, zero);
        there = omega (arith, zero);
      };
      inside = inl (omega (arith, h.offset_is, ap length whole), omega (arith, zero));
    }

-- where bytes come after the run start, a run stands in front of them
pub mark_goes : {A : Type 0} (R : List ℕ → List A → Type 0) (F : List ℕ → RunFault → Type 0) → None R F → (bytes : List ℕ) (offset before : ℕ) (fault : RunFault) → Begins R bytes offset 0 before
    → offset < length bytes → F (drop offset bytes) fault → ⊥
mark_goes R F none bytes offset before fault h lt fails =
    let rest = subst (λ (t : List ℕ). IsStream R t h.after) (sym (rest_is R bytes offset 0 before h)) h.more in
    no_first R F none (drop offset bytes) h.after fault (λ e. omega (arith, lt, ap length e, length-drop offset bytes)) fails rest

-- a stream's start is a run start
pub start_is_run_start : {A : Type 0} (R : List ℕ → List A → Type 0) (bytes : List ℕ) (all : List A) → IsStream R bytes all → Begins R bytes 0 0 0
start_is_run_start R bytes all h = record {
  front = [];
  rest = bytes;
  before = [];
  after = all;
  parts = refl;
  stream = ([], (refl, refl));
  more = h;
  offset_is = refl;
  number_is = omega arith;
  there = omega arith;
}

-- a writer's position needs one run at most
pub place_run : {A : Type 0} (R : List ℕ → List A → Type 0) (bytes : List ℕ) (offset skip : ℕ) → IsInside R bytes offset skip → IsOneRun R bytes offset skip
place_run R bytes offset skip (inl end) = inl end.1
place_run R bytes offset skip (inr run) = inr (run.0, run.1, run.2, run.3, run.4, omega (arith, run.5))

-- bytes before the offset may be others
pub rest_alone : (a b : List ℕ) (offset len at : ℕ) → drop offset a ≡ drop offset b → at ≡ offset + len → drop at a ≡ drop at b
rest_alone a b offset len at same e =
    ap (λ (k : ℕ). drop k a) e ∙ (sym (drop-drop len offset a) ∙ (ap (drop len) same ∙ (drop-drop len offset b ∙ ap (λ (k : ℕ). drop k b) (sym e))))

pub goes_on_alone : {A : Type 0} (R : List ℕ → List A → Type 0) (a b : List ℕ) (offset skip need : ℕ) (all : List A) → drop offset a ≡ drop offset b → offset ≤ length b
    → GoesOnFrom R a offset skip need all → GoesOnFrom R b offset skip need all
goes_on_alone R a b offset skip need all same le h = record {
  at = h.at;
  left = h.left;
  seeks = seek_alone R a b offset skip need h.at h.left same le h.seeks;
  goes_on = subst (λ (t : List ℕ). RunsLeft R h.left t all) (rest_alone a b offset h.seeks.len h.at same h.seeks.at_is) h.goes_on;
}

-- a position that begins is found
pub record Found {A : Type 0} (R : List ℕ → List A → Type 0) (bytes : List ℕ) (offset skip need : ℕ) : Type 0 where
  pub at : ℕ
  pub left : List A
  pub seeks : Seeks R bytes offset skip need at left

pub place_found : {A : Type 0} (R : List ℕ → List A → Type 0) (bytes : List ℕ) (offset skip n : ℕ) → Begins R bytes offset skip n → Found R bytes offset skip skip
place_found R bytes offset skip n h =
    let rest = subst (λ (t : List ℕ). IsStream R t h.after) (sym (rest_is R bytes offset skip n h)) h.more in
    let r = reach_there R rest.0 (drop offset bytes) h.after skip skip rest.1 h.there in
    record { at = offset + r.len; left = r.left; seeks = record { within = offset_within R bytes offset skip n h; len = r.len; passes = r.passes; at_is = refl } }

-- one run is decoded where any are needed, and else none
text_some : {A : Type 0} (R : List ℕ → List A → Type 0) → Some R → (text : List ℕ) (v : List A) → R text v → 0 < length text
text_some R some [] v r = absurd (some v r)
text_some R some (b ∷ text) v r = omega arith

pub counts_exact : {A : Type 0} (R : List ℕ → List A → Type 0) → Some R → (bytes : List ℕ) (offset skip need at old new : ℕ) (left : List A) → Seeks R bytes offset skip need at left
    → CountsRuns R bytes offset at old new → new ≤ old + 1 → new ≡ old + min 1 need
counts_exact {A = A} R some bytes offset skip need at old new left h k le =
    elim h.passes [
      | inl none ↦
          let here : at ≡ offset = omega (arith, h.at_is, none.1) in
          let zero = counts_zero R some bytes offset old new (subst (λ (to : ℕ). CountsRuns R bytes offset to old new) here k) in
          omega (arith, zero, none.0)
      | inr r ↦
          let pos = text_some R some r.text r.last r.run in
          let size = ap length r.parts ∙ (length-append r.front (r.text ++ r.rest) ∙ ap (λ (n : ℕ). length r.front + n) (length-append r.text r.rest)) in
          let one = counts_some R bytes offset at old new k (omega (arith, h.at_is, r.len_is, pos)) (omega (arith, h.at_is, r.len_is, size, length-drop offset bytes, h.within)) in
          omega (arith, one, le, r.few)
    ]
