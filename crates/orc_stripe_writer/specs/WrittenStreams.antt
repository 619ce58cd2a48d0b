-- What the writer makes of the values of one stream (ORC specification, "Run Length Encoding", "Boolean Run
-- Length Encoding").
use Rattle.std.specs.Prelude.{◌≡◌, ℕ, ℤ, Bool, true, false, List, []}
use Rattle.std.specs.List.{list_all}
use Rattle.orc_rle.specs.declared.sign.Rle.{Rle}
use Rattle.orc_rle.specs.declared.sign.Rle.TheVariants.{One, Two}
use Rattle.orc_rle.specs.declared.sign.Sign.{Sign}
use Rattle.orc_rle.specs.Values.{AllInRange}
use Rattle.orc_rle.specs.WrittenOne.{IsWrittenOne}
use Rattle.orc_rle.specs.WrittenTwo.{IsWrittenTwo}
use Rattle.orc_rle.specs.BitStream.{IsBitText}

-- the bytes are what the writer makes of the numbers in this version
abbrev pub WritesInts : Rle → Sign → List ℤ → List ℕ → Type 0
WritesInts One sign numbers bytes = IsWrittenOne sign numbers bytes
WritesInts Two sign numbers bytes = IsWrittenTwo sign numbers bytes

-- the numbers are within the range of the sign, and the bytes are what the writer makes of them in this version
abbrev pub AreWrittenInts : Rle → Sign → List ℤ → List ℕ → Type 0
AreWrittenInts rle sign numbers bytes = AllInRange sign numbers × WritesInts rle sign numbers bytes

-- PRESENT has no bytes if this is true, and else the marks in runs
abbrev pub AreMarksIf : Bool → List Bool → List ℕ → Type 0
AreMarksIf true marks bytes = bytes ≡ []
AreMarksIf false marks bytes = IsBitText marks bytes

-- PRESENT is left out if no cell is null
abbrev pub AreWrittenMarks : List Bool → List ℕ → Type 0
AreWrittenMarks marks bytes = AreMarksIf (list_all (λ m. m) marks) marks bytes
