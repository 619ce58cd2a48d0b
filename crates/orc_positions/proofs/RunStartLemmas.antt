-- A walk over a stream's runs that keeps the extent of the run at which it stands.
use Rattle.std.proofs.Common.{◌≡◌, ℕ, ◌+◌, ◌-◌, ◌<◌, ◌≤◌, List, [], ◌∷◌, ◌++◌, length, take, drop, refl, sym, ap, subst, ◌∙◌, arith, inl, inr, length-drop, length-append}
use Rattle.std.proofs.Math.Seq.{take-append_seam}
use Rattle.orc_rle.specs.Stream.{IsStream}
use Rattle.orc_rle.proofs.RunLemmas.{One, Some}
use Rattle.orc_positions.specs.declared.run_start.RunStart.{RunStart}
use Rattle.orc_positions.specs.Position.{Begins, IsWriterPosition}
use Rattle.orc_positions.specs.RunStarts.{IsRunStart, start_of_stream}
use Rattle.orc_positions.proofs.PositionLemmas.{mark_more, mark_place, offset_within, rest_is, start_is_run_start}

-- the bytes of a run in front
front_text : (bytes text rest : List ℕ) (len : ℕ) → bytes ≡ text ++ rest → len ≡ length text → take len bytes ≡ text
front_text bytes text rest len e l = ap (take len) e ∙ (ap (λ (k : ℕ). take k (text ++ rest)) l ∙ take-append_seam text rest)

-- the next run begins where this one ends
pub mark_end_begins : {A : Type 0} (R : List ℕ → List A → Type 0) → One R → Some R → (bytes : List ℕ) (run_start : RunStart) (offset before : ℕ) → IsRunStart R bytes run_start
    → offset ≡ run_start.offset + run_start.len → before ≡ run_start.before + run_start.count → Begins R bytes offset 0 before
mark_end_begins {A = A} R one some bytes run_start offset before m o b =
    elim m.extent [
      | inl none ↦
          let eo : run_start.offset ≡ offset = omega (arith, o, none.0) in
          let eb : run_start.before ≡ before = omega (arith, b, none.1) in
          subst (λ (k : ℕ). Begins R bytes k 0 before) eo (subst (λ (k : ℕ). Begins R bytes run_start.offset 0 k) eb m.begins)
      | inr run ↦
          let text : take run_start.len (drop run_start.offset bytes) ≡ run.0 = front_text (drop run_start.offset bytes) run.0 run.1 run_start.len run.4 run.5 in
          let le : run_start.len ≤ length (drop run_start.offset bytes) = omega (arith, ap length run.4, length-append run.0 run.1, run.5) in
          let more = mark_more R one some bytes run_start.offset run_start.before run_start.len run_start.count run.2 m.begins le (subst (λ (t : List ℕ). R t run.2) (sym text) run.3) run.6 in
          subst (λ (k : ℕ). Begins R bytes k 0 before) (sym o) (subst (λ (k : ℕ). Begins R bytes (run_start.offset + run_start.len) 0 k) (sym b) more)
    ]

-- and no later than the stream
pub mark_within : {A : Type 0} (R : List ℕ → List A → Type 0) (bytes : List ℕ) (run_start : RunStart) → IsRunStart R bytes run_start → run_start.offset + run_start.len ≤ length bytes
mark_within R bytes run_start m =
    let o = offset_within R bytes run_start.offset 0 run_start.before m.begins in
    elim m.extent [
      | inl none ↦ omega (arith, o, none.0)
      | inr run ↦ omega (arith, o, ap length run.4, length-append run.0 run.1, run.5, length-drop run_start.offset bytes)
    ]

-- a value of the run start's run has its place there
pub mark_holds : {A : Type 0} (R : List ℕ → List A → Type 0) → One R → Some R → (bytes : List ℕ) (run_start : RunStart) (n : ℕ) → IsRunStart R bytes run_start → run_start.before ≤ n
    → n - run_start.before < run_start.count → IsWriterPosition R bytes run_start.offset (n - run_start.before) n
mark_holds {A = A} R one some bytes run_start n m le lt =
    elim m.extent [
      | inl none ↦ absurd (omega (arith, lt, none.1))
      | inr run ↦
          let text : take run_start.len (drop run_start.offset bytes) ≡ run.0 = front_text (drop run_start.offset bytes) run.0 run.1 run_start.len run.4 run.5 in
          mark_place R one some bytes run_start.offset run_start.before n run_start.len run_start.count run.2 m.begins (subst (λ (t : List ℕ). R t run.2) (sym text) run.3) run.6 le lt
    ]

-- where bytes come after a place at which a run begins, one stands in front of them
pub record RunThere {A : Type 0} (R : List ℕ → List A → Type 0) (bytes : List ℕ) : Type 0 where
  pub text : List ℕ
  pub rest : List ℕ
  pub values : List A
  pub run : R text values
  pub parts : bytes ≡ text ++ rest

first_run : {A : Type 0} (R : List ℕ → List A → Type 0) (bytes : List ℕ) (all : List A) → 0 < length bytes → IsStream R bytes all → RunThere R bytes
first_run R bytes all lt ([], h) = absurd (omega (arith, lt, ap length h.0))
first_run R bytes all lt (p ∷ ps, h) = record { text = p.0; rest = h.0; values = p.1; run = h.2; parts = h.3 }

pub run_there : {A : Type 0} (R : List ℕ → List A → Type 0) (bytes : List ℕ) (offset before : ℕ) → Begins R bytes offset 0 before → offset < length bytes → RunThere R (drop offset bytes)
run_there R bytes offset before h lt =
    first_run R (drop offset bytes) h.after (omega (arith, lt, length-drop offset bytes)) (subst (λ (t : List ℕ). IsStream R t h.after) (sym (rest_is R bytes offset 0 before h)) h.more)

-- the run start of a run that was measured
pub mark_over : {A : Type 0} (R : List ℕ → List A → Type 0) (bytes : List ℕ) (end run_start : RunStart) → Begins R bytes end.offset 0 end.before → (t : RunThere R (drop end.offset bytes))
    → (run_start.offset ≡ end.offset) × (run_start.before ≡ end.before) → run_start.len ≡ length t.text → run_start.count ≡ length t.values → IsRunStart R bytes run_start
mark_over R bytes end run_start h t start len count = record {
  begins = subst (λ (k : ℕ). Begins R bytes k 0 run_start.before) (sym start.0) (subst (λ (k : ℕ). Begins R bytes end.offset 0 k) (sym start.1) h);
  extent = inr (t.text, t.rest, t.values, t.run, ap (λ (k : ℕ). drop k bytes) start.0 ∙ t.parts, len, count);
}

-- a run has bytes
pub run_some : {A : Type 0} (R : List ℕ → List A → Type 0) → Some R → (bytes : List ℕ) (t : RunThere R bytes) → 0 < length t.text
run_some {A = A} R some bytes t = pos t.text t.run
  where
    pos : (text : List ℕ) → R text t.values → 0 < length text
    pos [] r = absurd (some t.values r)
    pos (b ∷ text) r = omega arith

-- a run start of which no run is known
pub mark_unread : {A : Type 0} (R : List ℕ → List A → Type 0) (bytes : List ℕ) (run_start : RunStart) → Begins R bytes run_start.offset 0 run_start.before → (run_start.len ≡ 0) × (run_start.count ≡ 0) → IsRunStart R bytes run_start
mark_unread R bytes run_start h none = record { begins = h; extent = inl (none.0, none.1) }

-- a stream's start is a run start
pub mark_start : {A : Type 0} (R : List ℕ → List A → Type 0) (bytes : List ℕ) (all : List A) → IsStream R bytes all → IsRunStart R bytes start_of_stream
mark_start R bytes all h = record { begins = start_is_run_start R bytes all h; extent = inl (refl, refl) }
