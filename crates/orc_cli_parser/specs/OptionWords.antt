-- The words that options take.
use Rattle.std.specs.Prelude.{ℕ, List, codes}
use Rattle.orc_rle.specs.declared.sign.Rle.{Rle}
use Rattle.orc_rle.specs.declared.sign.Rle.TheVariants.{One, Two}
use Rattle.orc_rle.specs.declared.sign.Sign.{Sign}
use Rattle.orc_rle.specs.declared.sign.Sign.TheVariants.{Signed, Unsigned}

-- the word of a version of the integer run lengths
abbrev pub version_word : Rle → List ℕ
version_word One = codes "1"
version_word Two = codes "2"

-- the word of a sign
abbrev pub sign_word : Sign → List ℕ
sign_word Signed = codes "s"
sign_word Unsigned = codes "u"
