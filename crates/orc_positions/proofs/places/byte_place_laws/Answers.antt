use Rattle.orc_rle.specs.ByteRun.{IsByteRun}
use Rattle.orc_rle.proofs.ByteLaws.{one_byte_run, byte_run_some}
use Rattle.orc_positions.proofs.PlaceLemmas.{named, begins_named}
use Rattle.orc_positions.proofs.BitPositionLemmas.{has_whole}
use Rattle.orc_positions.proofs.places.byte_place_laws.Goals as goal

pub returns-clause-named : goal.returns-clause-named
returns-clause-named c = named IsByteRun one_byte_run byte_run_some

pub returns-clause-begins : goal.returns-clause-begins
returns-clause-begins c = begins_named IsByteRun one_byte_run byte_run_some

pub returns-clause-named_bit : goal.returns-clause-named_bit
returns-clause-named_bit c = λ bytes places total offset skip bits n are has le h.
    record {
      whole = h.0;
      begins = named IsByteRun one_byte_run byte_run_some bytes places offset skip h.0 are (has_whole bytes total h.0 bits n has h.2 le) h.3;
      few = h.1;
      number_is = h.2;
      there = le;
    }

pub returns-clause-begins_bit : goal.returns-clause-begins_bit
returns-clause-begins_bit c = λ bytes places total offset skip bits n are h.
    (h.whole, h.few, h.number_is, begins_named IsByteRun one_byte_run byte_run_some bytes places offset skip h.whole are h.begins)
