use Rattle.std.proofs.Common.{arith, ap, take, sym, ◌+◌, ◌-◌, ◌<◌, ◌≡◌, ◌∙◌}
use Rattle.std.proofs.lemmas.List.{length-take-le}
use Rattle.orc_bits.specs.Packed.{packed_len}
use Rattle.orc_bits.specs.Width.{width_at}
use Rattle.orc_rle.specs.Header.{code_in}
use Rattle.orc_rle.proofs.SizeLemmas.{delta_none_there, delta_even_size, delta_sized_size, start_few}
use Rattle.orc_rle.proofs.v2.delta.delta_bytes.Goals as goal

pub returns-in_default-clause-only : goal.returns-in_default-clause-only
returns-in_default-clause-only c = λ sign front more v p e.
    absurd (delta_none_there sign c.args.head c.args.low c.args.rest.now front more v c.in_default.field-0 p e c.in_default.ensures.fault)

pub returns-clause-only : goal.returns-clause-only
returns-clause-only c = λ sign front more v p e.
    let start = c.in-Ok.ensures in
    let zero : code_in c.args.head ≡ 0 = omega (arith, c.if-head-gt0.false) in
    delta_even_size sign c.args.head c.args.low c.in-Ok.len c.in-Ok.field-0-0 c.in-Ok.field-0-1 c.args.rest.now front more v p e start.within start.found zero

pub returns-clause-few : goal.returns-clause-few
returns-clause-few c =
    let start = c.in-Ok.ensures in
    omega (arith, start_few (take c.in-Ok.len c.args.rest.now) c.in-Ok.field-0-0 c.in-Ok.field-0-1 start.found, length-take-le c.in-Ok.len c.args.rest.now start.within)

pub returns-then-head-gt0-clause-only : goal.returns-then-head-gt0-clause-only
returns-then-head-gt0-clause-only c = λ sign front more v p e.
    let start = c.in-Ok.ensures in
    let some : 0 < code_in c.args.head = c.if-head-gt0.true in
    let count = c.saturating_sub.ensures ∙ ap (λ n. n - 2) c.length_in.ensures.is in
    let size = c.packed_bytes.ensures.len ∙ (λ i. packed_len (width_at (c.width_in.ensures i)) (count i)) in
    delta_sized_size sign c.args.head c.args.low c.in-Ok.len c.in-Ok.field-0-0 c.in-Ok.field-0-1 c.args.rest.now front more v p e start.within start.found some
    ∙ ap (λ n. (c.in-Ok.len + n) + 2) (sym size)

pub returns-then-head-gt0-clause-few : goal.returns-then-head-gt0-clause-few
returns-then-head-gt0-clause-few c =
    let start = c.in-Ok.ensures in
    omega (
      arith,
      start_few (take c.in-Ok.len c.args.rest.now) c.in-Ok.field-0-0 c.in-Ok.field-0-1 start.found,
      length-take-le c.in-Ok.len c.args.rest.now start.within,
      c.packed_bytes.ensures.few,
    )
