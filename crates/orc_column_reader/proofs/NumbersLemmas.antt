-- Runs of integers of both versions, and of bytes.
use Rattle.std.specs.Prelude.{IfErr}
use Rattle.orc_rle.specs.declared.fault.RunFault.{RunFault}
use Rattle.std.proofs.Common.{Result, Ok, Err, ◌≡◌, ℕ, List, ◌++◌, length}
use Rattle.orc_rle.specs.declared.sign.Sign.{Sign}
use Rattle.orc_rle.specs.ByteRun.{IsByteRun}
use Rattle.orc_rle.proofs.ByteLaws.{one_byte_run, byte_run_some, byte_run_values}
use Rattle.orc_rle.specs.laws.OneLaws.{one_run, not_empty, has_values}
use Rattle.orc_rle.specs.laws.TwoLaws.{one_run_two, not_empty_two, some_values_two}
use Rattle.orc_rle.specs.declared.sign.Rle.{Rle}
use Rattle.orc_rle.specs.declared.sign.Rle.TheVariants.{One, Two}
use Rattle.orc_column_reader.specs.Numbers.{is_run}
use Rattle.orc_column_reader.proofs.RunsLemmas.{RunLaws}

pub laws_of : (version : Rle) (sign : Sign) → RunLaws (is_run version sign)
laws_of One sign = record { one = one_run sign; some = not_empty sign; values = has_values sign }
laws_of Two sign = record { one = one_run_two sign; some = not_empty_two sign; values = some_values_two sign }

pub byte_laws : RunLaws IsByteRun
byte_laws = record { one = one_byte_run; some = byte_run_some; values = byte_run_values }

pub err_none : {A : Type 0} (is_run : List ℕ → List A → Type 0) (bytes : List ℕ) (result : Result ℕ RunFault)
    → ((front rest : List ℕ) (v : List A) → is_run front v → bytes ≡ front ++ rest → result ≡ Ok (length front))
    → IfErr result (λ _. (front rest : List ℕ) (v : List A) → is_run front v → bytes ≡ front ++ rest → ⊥)
err_none is_run bytes (Ok n) only = tt
err_none is_run bytes (Err e) only = λ front rest v is parts. let k = only front rest v is parts in cc
