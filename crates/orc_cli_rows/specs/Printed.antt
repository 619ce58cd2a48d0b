-- What `rows` prints of a file: all rows, or those from a group of a stripe on where a text asks for them.
use Rattle.std.specs.Prelude.{◌≡◌, List, ℕ, ◌⊎◌, Option, Some, None}
use Rattle.std.specs.Borrow.{Bor}
use Rattle.std.specs.Io.KnownBytes.{Appends, Keeps}
use Rattle.orc_json_rows.specs.declared.json_fault.JsonFault.TheVariants as json
use Rattle.orc_tail.specs.Tails.{IsTail}
use Rattle.orc_tail.specs.declared.tail.Tail.{Tail}
use Rattle.orc_cli_output.specs.Output.{IsNotOpened, IsWantOfMemory}
use Rattle.orc_cli_output.specs.declared.fault.CliFault.{CliFault}
use Rattle.orc_cli_output.specs.declared.fault.CliFault.TheVariants.{Json}
use Rattle.orc_cli_rows.specs.declared.start.Start.{Start}
use Rattle.orc_cli_rows.specs.Rows.{AreLinesOfStripes, EndsIn}
use Rattle.orc_cli_rows.specs.FromGroup.{IsStartText, AreLinesFromGroup, EndsFrom}

-- the text, if there is one, names this place
abbrev pub IsAsked : Option (Bor (List ℕ)) → Option Start → Type 0
IsAsked None None = Unit {0}
IsAsked None (Some start) = ⊥
IsAsked (Some text) None = ⊥
IsAsked (Some text) (Some start) = IsStartText text.now start.stripe start.group

-- it names none, and this is the refusal
abbrev pub IsNotAsked : Option (Bor (List ℕ)) → CliFault → Type 0
IsNotAsked from fault = (fault ≡ Json json.Syntax) × ((start : Option Start) → IsAsked from start → ⊥)

-- the lines of all rows of a file with this tail, or those from the place on
abbrev pub AreLinesOfFile : List ℕ → Tail → Option Start → List ℕ → Type 0
AreLinesOfFile bytes tail None lines = AreLinesOfStripes tail.schema bytes tail.stripes lines
AreLinesOfFile bytes tail (Some start) lines = AreLinesFromGroup bytes tail start.stripe start.group lines

-- the bytes have a tail, and these lines are out
abbrev pub ArePrinted : List ℕ → Option Start → Option (List ℕ) → Option (List ℕ) → Type 0
ArePrinted bytes start old new =
    (tail : Tail) × (lines : List ℕ) × IsTail bytes tail × AreLinesOfFile bytes tail start lines × Appends old new lines

-- why printing ends in a file with this tail
abbrev pub PrintingEnds : List ℕ → Tail → Option Start → Option (List ℕ) → Option (List ℕ) → CliFault → Type 0
PrintingEnds bytes tail None old new fault = EndsIn bytes tail 0 old new fault
PrintingEnds bytes tail (Some start) old new fault = EndsFrom bytes tail start.stripe start.group old new fault

-- the same, or there is no memory for what prints the rows, and nothing is out
abbrev pub PrintingStops : List ℕ → Tail → Option Start → Option (List ℕ) → Option (List ℕ) → CliFault → Type 0
PrintingStops bytes tail start old new fault = (IsWantOfMemory fault × Keeps old new) ⊎ PrintingEnds bytes tail start old new fault

-- why a file is refused, and what is out then: nothing where it isn't opened
abbrev pub RefusesFile : List ℕ → Option Start → Option (List ℕ) → Option (List ℕ) → CliFault → Type 0
RefusesFile bytes start old new fault =
    (IsNotOpened bytes fault × Keeps old new)
    ⊎ ((tail : Tail) × IsTail bytes tail × PrintingEnds bytes tail start old new fault)

-- the text names no place, with nothing out, or the file is refused
abbrev pub RefusesPlace : List ℕ → Option (Bor (List ℕ)) → Option (List ℕ) → Option (List ℕ) → CliFault → Type 0
RefusesPlace bytes from old new fault =
    (IsNotAsked from fault × Keeps old new)
    ⊎ ((start : Option Start) × IsAsked from start × RefusesFile bytes start old new fault)
