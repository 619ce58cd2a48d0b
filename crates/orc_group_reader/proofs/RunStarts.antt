-- A walk over the runs from an offset on, and where the last of them begins.
use Rattle.std.proofs.Common.{◌≡◌, ℕ, ◌+◌, ◌<◌, ◌≤◌, List, [], ◌∷◌, ◌++◌, length, drop, refl, sym, ap, ◌∙◌, subst, arith, inl, inr, append_assoc, length-append}
use Rattle.std.proofs.lemmas.List.{drop-drop}
use Rattle.std.proofs.Math.Seq.{drop-append_seam}
use Rattle.orc_rle.specs.Seeking.{Passes, Seeks}
use Rattle.orc_rle.specs.Stream.{IsStream}
use Rattle.orc_rle.proofs.RunLemmas.{Some}
use Rattle.orc_rle.proofs.StreamLemmas.{runs_push}
use Rattle.orc_group_reader.specs.RunsPassed.{AreRunsTo, IsLastRun}

drop_front : (xs ys : List ℕ) (n : ℕ) → n ≡ length xs → drop n (xs ++ ys) ≡ ys
drop_front xs ys n e = ap (λ (k : ℕ). drop k (xs ++ ys)) e ∙ drop-append_seam xs ys

-- what comes behind a front
pub drop_behind : (bytes front rest : List ℕ) (from to : ℕ) → drop from bytes ≡ front ++ rest → to ≡ from + length front → drop to bytes ≡ rest
drop_behind bytes front rest from to parts e =
    ap (λ (k : ℕ). drop k bytes) e ∙ sym (drop-drop (length front) from bytes) ∙ ap (drop (length front)) parts ∙ drop_front front rest (length front) refl

-- what was gone to lies behind runs
passed_runs : {A : Type 0} (R : List ℕ → List A → Type 0) (bytes : List ℕ) (offset skip need len at : ℕ) (left : List A) → Passes R (drop offset bytes) skip need len left → at ≡ offset + len → AreRunsTo R bytes offset at
passed_runs R bytes offset skip need len at left (inl h) e =
    record { front = []; rest = drop offset bytes; values = []; parts = refl; stream = ([], (refl, refl)); to_is = omega (arith, e, h.1) }
passed_runs R bytes offset skip need len at left (inr h) e = record {
  front = h.front ++ h.text;
  rest = h.rest;
  values = h.before ++ h.last;
  parts = h.parts ∙ sym (append_assoc h.front h.text h.rest);
  stream = runs_push R h.stream.0 h.front h.text h.before h.last h.stream.1 h.run;
  to_is = omega (arith, e, h.len_is, length-append h.front h.text);
}

pub runs_to : {A : Type 0} (R : List ℕ → List A → Type 0) (bytes : List ℕ) (offset skip need at : ℕ) (left : List A) → Seeks R bytes offset skip need at left → AreRunsTo R bytes offset at
runs_to R bytes offset skip need at left h = passed_runs R bytes offset skip need h.len at left h.passes h.at_is

-- ---- the walk

-- runs are passed as far as the next one, the last of them begins at the start, and runs go on to the end
pub record Walked {A : Type 0} (R : List ℕ → List A → Type 0) (bytes : List ℕ) (offset start next end : ℕ) : Type 0 where
  pub before : AreRunsTo R bytes offset next
  pub left : AreRunsTo R bytes next end
  pub last : IsLastRun R bytes offset start next

pub walk_begins : {A : Type 0} (R : List ℕ → List A → Type 0) (bytes : List ℕ) (offset end : ℕ) → AreRunsTo R bytes offset end → Walked R bytes offset offset offset end
walk_begins R bytes offset end h = record {
  before = record { front = []; rest = drop offset bytes; values = []; parts = refl; stream = ([], (refl, refl)); to_is = omega arith };
  left = h;
  last = inl (refl, refl);
}

-- the run that comes next, and those behind it
pub record NextRun {A : Type 0} (R : List ℕ → List A → Type 0) (bytes : List ℕ) (next end : ℕ) : Type 0 where
  pub text : List ℕ
  pub front : List ℕ
  pub rest : List ℕ
  pub last : List A
  pub values : List A
  pub run : R text last
  pub parts : drop next bytes ≡ text ++ (front ++ rest)
  pub stream : IsStream R front values
  pub to_is : end ≡ (next + length text) + length front

next_of : {A : Type 0} (R : List ℕ → List A → Type 0) (bytes front rest : List ℕ) (values : List A) (next end : ℕ) → drop next bytes ≡ front ++ rest → end ≡ next + length front → next < end → IsStream R front values
    → NextRun R bytes next end
next_of R bytes front rest values next end parts e lt ([], k) = absurd (omega (arith, lt, e, ap length k.0))
next_of R bytes front rest values next end parts e lt (p ∷ ps, k) = record {
  text = p.0;
  front = k.0;
  rest = rest;
  last = p.1;
  values = k.1;
  run = k.2;
  parts = parts ∙ ap (λ (t : List ℕ). t ++ rest) k.3 ∙ append_assoc p.0 k.0 rest;
  stream = (ps, k.5);
  to_is = omega (arith, e, ap length k.3, length-append p.0 k.0);
}

pub next_run : {A : Type 0} (R : List ℕ → List A → Type 0) (bytes : List ℕ) (next end : ℕ) → AreRunsTo R bytes next end → next < end → NextRun R bytes next end
next_run R bytes next end h lt = next_of R bytes h.front h.rest h.values next end h.parts h.to_is lt h.stream

pub next_some : {A : Type 0} (R : List ℕ → List A → Type 0) → Some R → (bytes : List ℕ) (next end : ℕ) (n : NextRun R bytes next end) → 0 < length n.text
next_some {A = A} R some bytes next end n = pos n.text n.run
  where
    pos : (text : List ℕ) → R text n.last → 0 < length text
    pos [] r = absurd (some n.last r)
    pos (b ∷ text) r = omega arith

pub walk_more : {A : Type 0} (R : List ℕ → List A → Type 0) (bytes : List ℕ) (offset start next len end : ℕ) → Walked R bytes offset start next end → (n : NextRun R bytes next end) → len ≡ length n.text
    → Walked R bytes offset next (next + len) end
walk_more R bytes offset start next len end w n e =
    let b = w.before in
    let rest : b.rest ≡ n.text ++ (n.front ++ n.rest) = sym (drop_behind bytes b.front b.rest offset next b.parts b.to_is) ∙ n.parts in
    let parts : drop offset bytes ≡ b.front ++ (n.text ++ (n.front ++ n.rest)) = b.parts ∙ ap (λ (t : List ℕ). b.front ++ t) rest in
    record {
      before = record {
        front = b.front ++ n.text;
        rest = n.front ++ n.rest;
        values = b.values ++ n.last;
        parts = parts ∙ sym (append_assoc b.front n.text (n.front ++ n.rest));
        stream = runs_push R b.stream.0 b.front n.text b.values n.last b.stream.1 n.run;
        to_is = omega (arith, b.to_is, e, length-append b.front n.text);
      };
      left = record {
        front = n.front;
        rest = n.rest;
        values = n.values;
        parts = drop_behind bytes n.text (n.front ++ n.rest) next (next + len) n.parts (omega (arith, e));
        stream = n.stream;
        to_is = omega (arith, n.to_is, e);
      };
      last = inr (record {
        front = b.front;
        text = n.text;
        rest = n.front ++ n.rest;
        before = b.values;
        last = n.last;
        parts = parts;
        stream = b.stream;
        run = n.run;
        start_is = b.to_is;
        end_is = omega (arith, e);
      });
    }

-- the walk stays within the bytes
pub walk_within : {A : Type 0} (R : List ℕ → List A → Type 0) (bytes : List ℕ) (next end : ℕ) (n : NextRun R bytes next end) → next + length n.text ≤ end
walk_within R bytes next end n = omega (arith, n.to_is)

-- where no run is left, the last one is known
pub walk_ends : {A : Type 0} (R : List ℕ → List A → Type 0) (bytes : List ℕ) (offset start next end : ℕ) → Walked R bytes offset start next end → end ≤ next → IsLastRun R bytes offset start end
walk_ends R bytes offset start next end w le =
    let same : next ≡ end = omega (arith, le, w.left.to_is) in
    subst (λ (k : ℕ). IsLastRun R bytes offset start k) same w.last
