use Rattle.orc_column_tests.proofs.runs.places.bit_place_of.Goals as goal

pub byte_run_start_at-requires-clause-from : goal.byte_run_start_at-requires-clause-from
byte_run_start_at-requires-clause-from c =
    let stream = c.in_ok-values.ensures.found.0 in
    rw c.start.ensures (c.byte_start_law.ensures c.args.bytes.now stream.packed stream.runs)
