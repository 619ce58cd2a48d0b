-- What is put into an output, a part after the other.
use Rattle.std.proofs.Common.{◌≡◌, ℕ, List, [], ◌++◌, refl, sym, ◌∙◌, subst, append_assoc, append-nil}
use Rattle.std.specs.Prelude.{Result, Ok, Err, OnOk}
use Rattle.orc_json_printer.specs.Outputs.{Puts, PutsSome}

-- ---- these bytes

pub puts_then : {T : Type 0} (holds : T → List ℕ → Type 0) (a b c : T) (x y : List ℕ) → Puts holds a b x → Puts holds b c y → Puts holds a c (x ++ y)
puts_then holds a b c x y p q = λ before h. subst (λ (t : List ℕ). holds c t) (append_assoc before x y) (q (before ++ x) (p before h))

pub puts_is : {T : Type 0} (holds : T → List ℕ → Type 0) (a b : T) (x y : List ℕ) → x ≡ y → Puts holds a b x → Puts holds a b y
puts_is holds a b x y e p = subst (λ (t : List ℕ). Puts holds a b t) e p

pub puts_none : {T : Type 0} (holds : T → List ℕ → Type 0) (a : T) → Puts holds a a []
puts_none holds a = λ before h. subst (λ (t : List ℕ). holds a t) (sym (append-nil before)) h

-- the last part is put by a call that may be refused
pub puts_last : {T X E : Type 0} (holds : T → List ℕ → Type 0) (r : Result X E) (a b c : T) (x y : List ℕ) → Puts holds a b x → OnOk r (Puts holds b c y) → OnOk r (Puts holds a c (x ++ y))
puts_last holds (Ok v) a b c x y p q = puts_then holds a b c x y p q
puts_last holds (Err e) a b c x y p q = tt

pub puts_last_is : {T X E : Type 0} (holds : T → List ℕ → Type 0) (r : Result X E) (a b : T) (x y : List ℕ) → x ≡ y → OnOk r (Puts holds a b x) → OnOk r (Puts holds a b y)
puts_last_is holds (Ok v) a b x y e p = puts_is holds a b x y e p
puts_last_is holds (Err f) a b x y e p = tt

-- ---- some bytes

pub some_then : {T : Type 0} (holds : T → List ℕ → Type 0) (a b c : T) → PutsSome holds a b → PutsSome holds b c → PutsSome holds a c
some_then holds a b c p q = λ before h.
    let first = p before h in
    let second = q (before ++ first.0) first.1 in
    (first.0 ++ second.0, subst (λ (t : List ℕ). holds c t) (append_assoc before first.0 second.0) second.1)

pub some_of_puts : {T : Type 0} (holds : T → List ℕ → Type 0) (a b : T) (x : List ℕ) → Puts holds a b x → PutsSome holds a b
some_of_puts holds a b x p = λ before h. (x, p before h)

pub some_none : {T : Type 0} (holds : T → List ℕ → Type 0) (a : T) → PutsSome holds a a
some_none holds a = some_of_puts holds a a [] (puts_none holds a)

-- ---- all of a text, a part after the other

-- what was put since is the whole but for the rest
pub record PutsUpTo {T : Type 0} (holds : T → List ℕ → Type 0) (a b : T) (rest all : List ℕ) : Type 0 where
  pub done : List ℕ
  pub put : Puts holds a b done
  pub whole : done ++ rest ≡ all

pub up_to_first : {T : Type 0} (holds : T → List ℕ → Type 0) (a : T) (all : List ℕ) → PutsUpTo holds a a all all
up_to_first holds a all = record { done = []; put = puts_none holds a; whole = refl }

pub up_to_next : {T : Type 0} (holds : T → List ℕ → Type 0) (a b c : T) (x rest all : List ℕ) → Puts holds b c x → PutsUpTo holds a b (x ++ rest) all → PutsUpTo holds a c rest all
up_to_next holds a b c x rest all p u = record {
  done = u.done ++ x;
  put = puts_then holds a b c u.done x u.put p;
  whole = append_assoc u.done x rest ∙ u.whole;
}

pub up_to_is : {T : Type 0} (holds : T → List ℕ → Type 0) (a b : T) (rest same all : List ℕ) → rest ≡ same → PutsUpTo holds a b rest all → PutsUpTo holds a b same all
up_to_is holds a b rest same all e u = subst (λ (t : List ℕ). PutsUpTo holds a b t all) e u

pub up_to_end : {T : Type 0} (holds : T → List ℕ → Type 0) (a b : T) (all : List ℕ) → PutsUpTo holds a b [] all → Puts holds a b all
up_to_end holds a b all u = puts_is holds a b u.done all (sym (append-nil u.done) ∙ u.whole) u.put

pub up_to_some : {T : Type 0} (holds : T → List ℕ → Type 0) (a b : T) (rest all : List ℕ) → PutsUpTo holds a b rest all → PutsSome holds a b
up_to_some holds a b rest all u = some_of_puts holds a b u.done u.put
