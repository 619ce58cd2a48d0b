-- A cap on the length of a tail: its three parts have at most `cap` bytes together. The ORC specification has no such
-- limit: it is this project's, for programs that read files of strangers.
use Rattle.std.specs.Prelude.{ℕ, ◌+◌, ◌-◌, ◌^◌, ◌≤◌, List}
use Rattle.orc_wire.specs.declared.post_script.PostScript.{PostScript}
use Rattle.orc_tail.specs.Layout.{postscript_length}
use Rattle.orc_tail.specs.Tests.{Test, check, ◌then◌}
use Rattle.orc_tail.specs.Tails.{end_tests, tail_tests}
use Rattle.orc_tail.specs.declared.tail.Tail.{Tail}
use Rattle.orc_tail.specs.declared.fault.FileFault.{FileFault}
use Rattle.orc_tail.specs.declared.fault.FileFault.TheVariants.{Limit}

-- the greatest cap, which no file exceeds
abbrev pub no_cap : ℕ
no_cap = 2 ^ 64 - 1

-- the bytes of the postscript, the footer and the metadata together
abbrev pub tail_length : List ℕ → PostScript → ℕ
tail_length bytes postscript = postscript_length bytes + postscript.footer_length + postscript.metadata_length

-- the tests of both ends, then the test of the cap, then all tests of a tail
abbrev pub capped_tests : ℕ → List ℕ → Test Tail
capped_tests cap bytes =
    end_tests bytes then λ postscript.
    check (tail_length bytes postscript ≤ cap) Limit
    (tail_tests bytes)

-- the bytes pass each of these tests, which find this tail
abbrev pub IsCappedTail : ℕ → List ℕ → Tail → Type 0
IsCappedTail cap bytes = (capped_tests cap bytes).finds

-- the fault of the first of these tests that the bytes fail
abbrev pub CappedFault : ℕ → List ℕ → FileFault → Type 0
CappedFault cap bytes = (capped_tests cap bytes).fails
