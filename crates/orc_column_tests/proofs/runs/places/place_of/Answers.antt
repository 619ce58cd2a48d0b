use Rattle.orc_column_tests.proofs.runs.places.place_of.Goals as goal

pub sought_place-requires-clause-start : goal.sought_place-requires-clause-start
sought_place-requires-clause-start g c = c.start_law.ensures c.args.sign c.args.bytes.now c.in_ok-values.values.items c.in_ok-values.ensures.found
