-- A result that is handed on as another call gave it.
use Rattle.std.proofs.Common.{Result, Ok, Err}
use Rattle.std.specs.Prelude.{IfOk, IfErr, OnOk, OnErr}

module _ {T E : Type 0} where
  pub if_ok : (r : Result T E) {P Q : T → Type 0} → IfOk r P → ((x : T) → P x → Q x) → IfOk r Q
  if_ok (Ok x) p f = f x p
  if_ok (Err y) p f = tt

  pub if_ok_both : (r : Result T E) {P Q R : T → Type 0} → IfOk r P → IfOk r Q → ((x : T) → P x → Q x → R x) → IfOk r R
  if_ok_both (Ok x) p q f = f x p q
  if_ok_both (Err y) p q f = tt

  pub if_err : (r : Result T E) {P Q : E → Type 0} → IfErr r P → ((y : E) → P y → Q y) → IfErr r Q
  if_err (Ok x) p f = tt
  if_err (Err y) p f = f y p

  pub on_ok : (r : Result T E) {P Q : Type 0} → OnOk r P → (P → Q) → OnOk r Q
  on_ok (Ok x) p f = f p
  on_ok (Err y) p f = tt

  pub on_err : (r : Result T E) {P Q : Type 0} → OnErr r P → (P → Q) → OnErr r Q
  on_err (Ok x) p f = tt
  on_err (Err y) p f = f p
