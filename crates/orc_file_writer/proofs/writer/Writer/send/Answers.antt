use Rattle.std.proofs.Common.{◌≡◌, ◌+◌, [], length, ap, ◌∙◌, arith, refl}
use Rattle.orc_row_batch.specs.Batch.{kept_rows}
use Rattle.orc_file_writer.specs.Writing.{WrittenStripe, IsWrittenAt}
use Rattle.orc_row_batch.proofs.BatchLemmas.{held_rows}
use Rattle.orc_file_writer.proofs.BatchSteps.{held_again}
use Rattle.orc_file_writer.proofs.CountLemmas.{counts_none, few_none, few_cells}
use Rattle.orc_file_writer.proofs.StatTests.{all_stats_more, stripe_stats_are}
use Rattle.orc_file_writer.proofs.WriterLemmas.{stripe_within, cut_sent, cut_all, sent_full, sent_last, laid_more, length_more, rows_more, stripe_bytes, stripe_rows, root_few, taken_more, taken_all}
use Rattle.orc_file_writer.proofs.writer.Writer.send.Goals as goal

pub returns-in-Err-clause-cut : goal.returns-in-Err-clause-cut
returns-in-Err-clause-cut g c = λ first rows few h.
    let w = c.args.self.now in
    let kept = kept_rows w.schema w.batch in
    let one : WrittenStripe = record { info = c.args.stripe.info; bytes = c.args.stripe.bytes.items; rows = kept; stats = c.args.stripe.stats.items } in
    let is : IsWrittenAt w.options w.schema w.written one = record { placed = c.requires.place; written = c.requires.text; read = c.requires.stripe; counted = c.requires.stats } in
    let within = stripe_within w.schema w.infos.items c.args.stripe.info c.args.stripe.bytes.items kept w.total c.requires.stripe (w.room c.requires.begun) w.total_is w.few_rows c.requires.few in
    cut_sent w.options w.schema first _ w.written w.infos.items w.stats.items kept rows h one refl is _ c.in-Err.taken c.requires.begun few within c.requires.schema (rw c.deref.ensures.value at c.in-Err.ensures.some)

pub returns-in_default-clause-cut : goal.returns-in_default-clause-cut
returns-in_default-clause-cut g c = λ first rows few h.
    let w = c.args.self.now in
    let kept = kept_rows w.schema w.batch in
    let one : WrittenStripe = record { info = c.args.stripe.info; bytes = c.args.stripe.bytes.items; rows = kept; stats = c.args.stripe.stats.items } in
    let is : IsWrittenAt w.options w.schema w.written one = record { placed = c.requires.place; written = c.requires.text; read = c.requires.stripe; counted = c.requires.stats } in
    let within = stripe_within w.schema w.infos.items c.args.stripe.info c.args.stripe.bytes.items kept w.total c.requires.stripe (w.room c.requires.begun) w.total_is w.few_rows c.requires.few in
    cut_all w.options w.schema first _ w.written w.infos.items w.stats.items kept rows h one refl is _ c.requires.begun few within c.requires.schema (rw c.deref.ensures.value at c.in-Ok.ensures.all)

pub returns-in_default-push-clause-cut : goal.returns-in_default-push-clause-cut
returns-in_default-push-clause-cut g c = λ first rows few h.
    let w = c.args.self.now in
    let kept = kept_rows w.schema w.batch in
    let one : WrittenStripe = record { info = c.args.stripe.info; bytes = c.args.stripe.bytes.items; rows = kept; stats = c.args.stripe.stats.items } in
    let is : IsWrittenAt w.options w.schema w.written one = record { placed = c.requires.place; written = c.requires.text; read = c.requires.stripe; counted = c.requires.stats } in
    let within = stripe_within w.schema w.infos.items c.args.stripe.info c.args.stripe.bytes.items kept w.total c.requires.stripe (w.room c.requires.begun) w.total_is w.few_rows c.requires.few in
    cut_all w.options w.schema first _ w.written w.infos.items w.stats.items kept rows h one refl is _ c.requires.begun few within c.requires.schema (rw c.deref.ensures.value at c.in-Ok.ensures.all)

pub returns-clause-kept : goal.returns-clause-kept
returns-clause-kept g c = λ first rows full h.
    let w = c.args.self.now in
    let kept = kept_rows w.schema w.batch in
    let one : WrittenStripe = record { info = c.args.stripe.info; bytes = c.args.stripe.bytes.items; rows = kept; stats = c.args.stripe.stats.items } in
    let is : IsWrittenAt w.options w.schema w.written one = record { placed = c.requires.place; written = c.requires.text; read = c.requires.stripe; counted = c.requires.stats } in
    let n : c.len.result ≡ length c.args.stripe.bytes.items = omega (arith, c.len.ensures, c.args.stripe.bytes.ok.0) in
    rw (c.in-Ok-push.ensures.items, c.in-Ok-push-2.ensures.items, c.from_vec.ensures) (sent_full w.options w.schema first _ w.written w.infos.items w.stats.items kept rows h one refl is _ _ full (rw c.deref.ensures.value at c.in-Ok.ensures.all) (ap (λ m. w.written + m) n))

pub returns-clause-last : goal.returns-clause-last
returns-clause-last g c = λ first rows few h.
    let w = c.args.self.now in
    let kept = kept_rows w.schema w.batch in
    let one : WrittenStripe = record { info = c.args.stripe.info; bytes = c.args.stripe.bytes.items; rows = kept; stats = c.args.stripe.stats.items } in
    let is : IsWrittenAt w.options w.schema w.written one = record { placed = c.requires.place; written = c.requires.text; read = c.requires.stripe; counted = c.requires.stats } in
    rw (c.in-Ok-push.ensures.items, c.in-Ok-push-2.ensures.items, c.from_vec.ensures) (sent_last w.options w.schema first _ w.written w.infos.items w.stats.items kept rows h one refl is _ _ (kept_rows w.schema c.clear.new.self) c.requires.begun few (rw c.deref.ensures.value at c.in-Ok.ensures.all))

pub invariant_of-self-2-clause-laid : goal.invariant_of-self-2-clause-laid
invariant_of-self-2-clause-laid g c =
    let w = c.args.self.now in
    let n = stripe_rows w.schema c.args.stripe.info c.args.stripe.bytes.items (kept_rows w.schema w.batch) c.requires.stripe in
    let few = root_few w.schema (kept_rows w.schema w.batch) (few_cells w.schema w.counts.items (kept_rows w.schema w.batch) w.wide w.counted w.few_cells) in
    rw c.in-Ok-push-2.ensures.items (laid_more 3 w.infos.items c.args.stripe.info w.laid (c.requires.place ∙ w.placed c.requires.open) (omega (arith, n, few)))

pub invariant_of-self-2-clause-bytes : goal.invariant_of-self-2-clause-bytes
invariant_of-self-2-clause-bytes g c =
    let w = c.args.self.now in
    let m = length_more w.infos.items c.args.stripe.info in
    let n = stripe_bytes w.schema c.args.stripe.info c.args.stripe.bytes.items (kept_rows w.schema w.batch) c.requires.stripe in
    rw c.in-Ok-push-2.ensures.items (omega (arith, m, n, c.requires.few))

pub invariant_of-self-2-clause-counted_stats : goal.invariant_of-self-2-clause-counted_stats
invariant_of-self-2-clause-counted_stats g c = λ f.
    let w = c.args.self.now in
    let kept = kept_rows w.schema w.batch in
    rw (c.in-Ok-push.ensures.items, c.from_vec.ensures) (all_stats_more w.schema w.stats.items c.args.stripe.stats.items (w.counted_stats c.requires.open)
    (stripe_stats_are w.schema kept c.args.stripe.stats.items w.held.fit (few_cells w.schema w.counts.items kept w.wide w.counted w.few_cells) c.requires.stats))

pub invariant_of-self-2-clause-placed : goal.invariant_of-self-2-clause-placed
invariant_of-self-2-clause-placed g c = λ f.
    let w = c.args.self.now in
    let m = length_more w.infos.items c.args.stripe.info in
    let n = stripe_bytes w.schema c.args.stripe.info c.args.stripe.bytes.items (kept_rows w.schema w.batch) c.requires.stripe in
    let p = w.placed c.requires.open in
    rw c.in-Ok-push-2.ensures.items (omega (arith, m, n, p, c.len.ensures))

pub invariant_of-self-2-clause-total_is : goal.invariant_of-self-2-clause-total_is
invariant_of-self-2-clause-total_is g c =
    let w = c.args.self.now in
    let m = rows_more w.infos.items c.args.stripe.info in
    let n = stripe_rows w.schema c.args.stripe.info c.args.stripe.bytes.items (kept_rows w.schema w.batch) c.requires.stripe in
    let t = w.total_is in
    let none = held_rows w.schema [] c.clear.new.self (c.clear.ensures.rows w.schema w.held.columns) in
    rw (c.in-Ok-push-2.ensures.items, none) (omega (arith, m, n, t))

pub invariant_of-self-2-clause-few_cells : goal.invariant_of-self-2-clause-few_cells
invariant_of-self-2-clause-few_cells g c = rw c.reset.ensures (few_none (length c.args.self.now.counts.items))

pub invariant_of-self-2-clause-counted : goal.invariant_of-self-2-clause-counted
invariant_of-self-2-clause-counted g c =
    let w = c.args.self.now in
    let none = held_rows w.schema [] c.clear.new.self (c.clear.ensures.rows w.schema w.held.columns) in
    rw (c.reset.ensures, w.wide, none) (counts_none w.schema)

pub invariant_of-self-2-clause-held : goal.invariant_of-self-2-clause-held
invariant_of-self-2-clause-held g c =
    let w = c.args.self.now in
    held_again w.schema [] c.clear.new.self (c.clear.ensures.rows w.schema w.held.columns)

pub returns-clause-empty : goal.returns-clause-empty
returns-clause-empty g c = let w = c.args.self.now in held_rows w.schema [] c.clear.new.self (c.clear.ensures.rows w.schema w.held.columns)

pub returns-in-Err-clause-taken : goal.returns-in-Err-clause-taken
returns-in-Err-clause-taken g c = λ first h.
    let part = rw c.deref.ensures.value at c.in-Err.ensures.part in
    taken_more first (g.W.Sink.told c.args.self.now.out) _ c.args.self.now.written c.in-Err.taken c.args.stripe.bytes.items (omega (arith, part)) (rw c.deref.ensures.value at c.in-Err.ensures.some) h

pub returns-in_default-clause-taken : goal.returns-in_default-clause-taken
returns-in_default-clause-taken g c = λ first h.
    let all : c.len.result ≡ length c.args.stripe.bytes.items = omega (arith, c.len.ensures, c.args.stripe.bytes.ok.0) in
    taken_all first (g.W.Sink.told c.args.self.now.out) _ c.args.self.now.written c.len.result c.args.stripe.bytes.items all (rw c.deref.ensures.value at c.in-Ok.ensures.all) h

pub returns-in_default-push-clause-taken : goal.returns-in_default-push-clause-taken
returns-in_default-push-clause-taken g c = λ first h.
    let all : c.len.result ≡ length c.args.stripe.bytes.items = omega (arith, c.len.ensures, c.args.stripe.bytes.ok.0) in
    taken_all first (g.W.Sink.told c.args.self.now.out) _ c.args.self.now.written c.len.result c.args.stripe.bytes.items all (rw c.deref.ensures.value at c.in-Ok.ensures.all) h

pub returns-clause-taken : goal.returns-clause-taken
returns-clause-taken g c = λ first h.
    let all : c.len.result ≡ length c.args.stripe.bytes.items = omega (arith, c.len.ensures, c.args.stripe.bytes.ok.0) in
    taken_all first (g.W.Sink.told c.args.self.now.out) _ c.args.self.now.written c.len.result c.args.stripe.bytes.items all (rw c.deref.ensures.value at c.in-Ok.ensures.all) h
