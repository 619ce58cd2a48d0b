use Rattle.std.proofs.Common.{◌≡◌, ℕ, List, ℤ, subst, Ok, inl, inr}
use Rattle.hex.specs.Hex.{decode_of}
use Rattle.hex.proofs.HexLemmas.{decode_of-same}
use Rattle.orc_rle.specs.declared.sign.Rle.{Rle}
use Rattle.orc_rle.specs.declared.sign.Sign.{Sign}
use Rattle.orc_cli_output.specs.Output.{IsWantOfMemory, write_failed}
use Rattle.orc_cli_output.specs.declared.fault.CliFault.{CliFault}
use Rattle.orc_cli_ints.specs.Ints.{IsIntegerStream, DigitsSpellInts, RefusesDigits, IsWantOfInts}

-- digits spell one list of bytes
pub decoded_stream : (rle : Rle) (sign : Sign) (text bytes : List ℕ) (values : List ℤ) → decode_of text ≡ Ok bytes → DigitsSpellInts rle sign text values → IsIntegerStream rle sign bytes values
decoded_stream rle sign text bytes values decoded spells =
    subst (λ (t : List ℕ). IsIntegerStream rle sign t values) (decode_of-same text spells.0 bytes spells.1 decoded) spells.2

-- ---- whose want of memory it is

pub digits_want : (rle : Rle) (sign : Sign) (text : List ℕ) (fault : CliFault) → RefusesDigits rle sign text fault → IsWantOfMemory fault → IsWantOfInts fault
digits_want rle sign text fault h (inl e) = inr e
digits_want rle sign text fault h (inr (inl e)) = inl e
digits_want rle sign text fault h (inr (inr (inl e))) = let bad = subst (λ (f : CliFault). RefusesDigits rle sign text f) e h in let q = bad.0 in absurd (cc)
digits_want rle sign text fault h (inr (inr (inr e))) = absurd (subst (λ (f : CliFault). RefusesDigits rle sign text f) e h)

pub output_want : (fault : CliFault) → fault ≡ write_failed → IsWantOfMemory fault → IsWantOfInts fault
output_want fault failed (inl e) = absurd (cc)
output_want fault failed (inr (inl e)) = absurd (cc)
output_want fault failed (inr (inr (inl e))) = absurd (cc)
output_want fault failed (inr (inr (inr e))) = absurd (cc)
