use Rattle.orc_column_tests.proofs.runs.places.byte_place_of.Goals as goal

pub sought_byte-requires-clause-start : goal.sought_byte-requires-clause-start
sought_byte-requires-clause-start c = c.byte_start_law.ensures c.args.bytes.now c.in_ok-values.values.items c.in_ok-values.ensures.found.0
