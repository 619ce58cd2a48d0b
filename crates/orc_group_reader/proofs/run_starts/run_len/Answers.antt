use Rattle.orc_group_reader.proofs.run_starts.run_len.Goals as goal

pub returns-in-One : goal.returns-in-One
returns-in-One c = λ front rest v is parts. (c.run_size.ensures front rest v (rw c.in-One.is at is) parts).0

pub returns-in-Two : goal.returns-in-Two
returns-in-Two c = λ front rest v is parts. (c.run_size-in-Two.ensures front rest v (rw c.in-Two.is at is) parts).0
