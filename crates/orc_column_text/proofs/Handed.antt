-- A result that is handed on as another call gave it, with several facts of it.
use Rattle.std.proofs.Common.{Result, Ok, Err}
use Rattle.std.specs.Prelude.{OnOk}

module _ {T E : Type 0} where
  pub on_ok_both : (r : Result T E) {P Q R : Type 0} → OnOk r P → OnOk r Q → (P → Q → R) → OnOk r R
  on_ok_both (Ok x) p q f = f p q
  on_ok_both (Err y) p q f = tt

  pub on_ok_three : (r : Result T E) {P Q R S : Type 0} → OnOk r P → OnOk r Q → OnOk r R → (P → Q → R → S) → OnOk r S
  on_ok_three (Ok x) p q s f = f p q s
  on_ok_three (Err y) p q s f = tt
