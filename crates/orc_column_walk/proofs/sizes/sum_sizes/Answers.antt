use Rattle.std.proofs.Common.{true, false, inl}
use Rattle.std.proofs.lemmas.Result.{err_from_is_err_and}
use Rattle.orc_column_reader.specs.ReaderFaults.{ListsMeet}
use Rattle.orc_column_reader.specs.RunsMet.{NumbersMeet}
use Rattle.orc_column_reader.proofs.NeedLemmas.{always_end}
use Rattle.orc_column_walk.specs.OwnLeft.{SizesLeft}
use Rattle.orc_column_walk.proofs.ReadLemmas.{all_read, over_read, lack_read, over_fault}
use Rattle.orc_column_walk.proofs.SizeLemmas.{no_sizes}
use Rattle.orc_column_walk.proofs.sizes.sum_sizes.Goals as goal

pub returns-clause-found : goal.returns-clause-found
returns-clause-found c =
    let f = c.in_ok-together.ensures.found in
    let e = c.numbers_end.ensures in
    let ended = rw c.if-not-numbers_end.false at e in
    (f.0, f.1, all_read (SizesLeft c.args.source.now) (SizesLeft c.add_sizes.new.source) f.0 f.2 (no_sizes c.add_sizes.new.source ended), f.3)

pub returns-then-not-numbers_end-clause-none : goal.returns-then-not-numbers_end-clause-none
returns-then-not-numbers_end-clause-none c =
    λ memory sizes h e.
    let f = c.in_ok-together.ensures.found in
    let n = c.numbers_end.ensures in
    let more = rw c.if-not-numbers_end.true at n in
    over_read (SizesLeft c.args.source.now) (SizesLeft c.add_sizes.new.source) f.0 c.args.count f.2 f.1 (λ k. more k.0) sizes h e

pub returns-then-not-numbers_end-clause-fault : goal.returns-then-not-numbers_end-clause-fault
returns-then-not-numbers_end-clause-fault c =
    λ memory.
    let a = c.args.source.now in
    let b = c.add_sizes.new.source in
    let e = c.numbers_left.ensures in
    (true, over_fault (λ all n f. ListsMeet a all n f) (λ all n f. ListsMeet b all n f) c.args.count c.run_fault.result c.in_ok-together.ensures.before (inl (c.numbers_left.result, c.run_fault.ensures.same e.no_memory, e.no_memory, always_end (NumbersMeet b.numbers) c.numbers_left.result e.met)))

pub returns-in_err-together-clause-none : goal.returns-in_err-together-clause-none
returns-in_err-together-clause-none c =
    let p = err_from_is_err_and c.from_residual.result c.from_residual.ensures.1 in
    rw (p.1, p.2) (λ memory sizes h e. lack_read (SizesLeft c.args.source.now) c.args.count c.in_err-together.ensures.none sizes h e)

pub returns-in_err-together-clause-fault : goal.returns-in_err-together-clause-fault
returns-in_err-together-clause-fault c =
    let p = err_from_is_err_and c.from_residual.result c.from_residual.ensures.1 in
    rw (p.1, p.2) (λ memory. (false, c.in_err-together.ensures.fault memory))
