-- What a call returns, and what the caller's buffer has then (own).
use Rattle.std.specs.Prelude.{◌≡◌, ℕ, List, ◌++◌, length, take, drop, min}
use Rattle.orc_c.specs.declared.answer.Answer.{Answer}
use Rattle.orc_c.specs.declared.fault.Fault.{Fault}
use Rattle.orc_c.specs.Faults.{layer_of, number_of}

-- as many of the bytes as the buffer has room for, followed by what it had there before
abbrev pub holding : List ℕ → List ℕ → List ℕ
holding bytes old = let n = min (length bytes) (length old) in take n bytes ++ drop n old

-- These bytes were put: their number is returned, and no fault.
pub record WasPut (bytes old new : List ℕ) (answer : Answer) : Type 0 where
  pub layer_is : answer.layer ≡ 0
  pub number_is : answer.number ≡ 0
  pub length_is : answer.length ≡ length bytes
  pub held : new ≡ holding bytes old

-- This fault is returned, and a text was put.
pub record WasTold (fault : Fault) (old new : List ℕ) (answer : Answer) : Type 0 where
  pub layer_is : answer.layer ≡ layer_of fault
  pub number_is : answer.number ≡ number_of fault
  pub text : List ℕ
  pub length_is : answer.length ≡ length text
  pub held : new ≡ holding text old

-- some bytes for which this holds were put
abbrev pub HasPut : List ℕ → List ℕ → Answer → (List ℕ → Type 0) → Type 0
HasPut old new answer Holds = (bytes : List ℕ) × Holds bytes × WasPut bytes old new answer

-- some fault for which this holds is returned
abbrev pub HasTold : List ℕ → List ℕ → Answer → (Fault → Type 0) → Type 0
HasTold old new answer Holds = (fault : Fault) × Holds fault × WasTold fault old new answer
