use Rattle.std.proofs.Common.{[], refl, arith}
use Rattle.std.proofs.lemmas.Result.{err_from_is_err_and}
use Rattle.orc_values.specs.Shapes.{struct_of, no_field}
use Rattle.orc_column_reader.specs.ReaderFaults.{ListsMeet}
use Rattle.orc_column_walk.specs.OwnLeft.{SizesLeft}
use Rattle.orc_column_walk.proofs.ReadLemmas.{read_lacks, read_fault, read_on}
use Rattle.orc_column_walk.proofs.SizeLemmas.{no_sizes_read, size_read, sizes_lack}
use Rattle.orc_column_walk.proofs.sizes.add_sizes.Goals as goal

pub loop-init : goal.loop-init
loop-init c = no_sizes_read c.args.source.now

pub loop-preserved : goal.loop-preserved
loop-preserved c =
    size_read c.args.source.now c.loop.source c.next_size.new.source c.loop.counter c.loop.together c.in_ok-size.size _ c.loop.invariant
    c.in_ok-size.ensures.found c.in_ok-size.ensures.room.0 c.in_ok-size.ensures.room.1 c.in_ok-size.ensures.before refl

pub returns-in_err-size-clause-none : goal.returns-in_err-size-clause-none
returns-in_err-size-clause-none c =
    let p = err_from_is_err_and c.from_residual.result c.from_residual.ensures.1 in
    rw p.1 (let a = c.args.source.now in
    let b = c.loop.source in
    read_lacks (SizesLeft a) (SizesLeft b) (λ all n f. ListsMeet a all n f) (λ all n f. ListsMeet b all n f) c.loop.counter c.args.count c.loop.invariant.sizes c.loop.invariant.read c.loop-test.true
    (sizes_lack b (λ below. c.in_err-size.ensures.none (struct_of no_field []) below)))

pub returns-in_err-size-clause-fault : goal.returns-in_err-size-clause-fault
returns-in_err-size-clause-fault c =
    let p = err_from_is_err_and c.from_residual.result c.from_residual.ensures.1 in
    rw (p.1, p.2) (λ memory.
    let a = c.args.source.now in
    let b = c.loop.source in
    read_fault (SizesLeft a) (SizesLeft b) (λ all n f. ListsMeet a all n f) (λ all n f. ListsMeet b all n f) c.loop.counter c.args.count c.loop.invariant.sizes c.in_err-size.field-0.0 c.loop.invariant.read c.loop-test.true (c.in_err-size.ensures.fault memory))

pub returns-clause-before : goal.returns-clause-before
returns-clause-before c =
    let a = c.args.source.now in
    let b = c.loop.source in
    read_on (SizesLeft a) (SizesLeft b) (λ all n f. ListsMeet a all n f) (λ all n f. ListsMeet b all n f) c.loop.counter c.args.count c.loop.invariant.sizes c.loop.invariant.read (omega (arith, c.loop-test.false, c.loop.auto.counter-end))
