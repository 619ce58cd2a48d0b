use Rattle.std.proofs.Common.{◌≡◌, ◌∙◌, ℕ, ◌<◌, ◌≤◌, List, length, inl, refl, sym, ap, subst, arith}
use Rattle.std.proofs.lemmas.Result.{err_from_is_err_and}
use Rattle.orc_values.specs.Shapes.{width}
use Rattle.orc_stripe_reader.specs.Opened.{Opened}
use Rattle.orc_stripe_reader.specs.GroupCursors.{HasGroup}
use Rattle.orc_stripe_reader.specs.RowIndexes.{HasIndex}
use Rattle.orc_stripe_reader.specs.Opening.{StripeOpenFault}
use Rattle.orc_tail.specs.Stripes.{stripe_at, stripe_bytes}
use Rattle.orc_file_reader.specs.FileRows.{opened_stripe, cut_rows}
use Rattle.orc_tail.specs.declared.tail.Tail.{Tail}
use Rattle.orc_check.specs.Findings.{rows_at}
use Rattle.orc_theorems.specs.SoughtGroups.{IsGroupSought}
use Rattle.orc_theorems.proofs.SoughtLemmas.{view_reads, view_is, load_fault, view_fault, stripe_fault_is, memory_fault}
use Rattle.orc_theorems.proofs.CursorLemmas.{stripe_of, footer_here}
use Rattle.orc_theorems.proofs.written_positions_calls.seek_in_stripe.Goals as goal
use Rattle.orc_io.proofs.Told.{at_told}

pub returns-in-Ok-clause-sought : goal.returns-in-Ok-clause-sought
returns-in-Ok-clause-sought g c = λ bytes rows told reads.
    let tail = c.args.file.now.tail in
    let n = c.args.stripe in
    let own : c.load.new.into.items ≡ stripe_bytes (stripe_at tail.stripes n) bytes =
    at_told _ bytes (λ (b : List ℕ). c.load.new.into.items ≡ stripe_bytes (stripe_at tail.stripes n) b) told c.in_ok-load.ensures.loaded.bytes in
    let opened = c.load.new.self.tail in
    let lasts : opened ≡ tail = c.in_ok-load.ensures.tail in
    let there : n < length opened.stripes = omega (arith, c.if-stripe-as_slice.false, ap length c.as_slice.ensures, ap (λ (t : Tail). length t.stripes) c.tail.ensures, ap (λ (t : Tail). length t.stripes) lasts) in
    let view = c.in_ok-view.view in
    let mine = rows_at (cut_rows tail.stripes rows) n in
    let place = c.deref.ensures.value ∙ own ∙ ap (λ (t : Tail). stripe_bytes (stripe_at t.stripes n) bytes) (sym lasts) in
    let is = view_is bytes c.deref.result.now tail opened n view lasts place c.in_ok-view.ensures.found c.in_ok-view.ensures.same in
    let sought = c.in-Ok.ensures.sought mine
    (λ some below. view_reads bytes c.deref.result.now tail opened rows n view reads lasts there place c.in_ok-view.ensures.found c.in_ok-view.ensures.same c.args.column some below) in
    record {
      there = subst (λ (t : Tail). n < length t.stripes) lasts there;
      footer = view.footer;
      has_footer = is.1;
      group = subst (λ (v : Opened). IsGroupSought v mine c.args.column c.args.group c.in-Ok.sought) is.0 sought;
    }

pub returns-then-stripe-as_slice-clause-refused : goal.returns-then-stripe-as_slice-clause-refused
returns-then-stripe-as_slice-clause-refused g c = λ uncapped.
    let tail = c.args.file.now.tail in
    let beyond : length tail.stripes ≤ c.args.stripe = omega (arith, c.if-stripe-as_slice.true, ap length c.as_slice.ensures, ap (λ (t : Tail). length t.stripes) c.tail.ensures) in
    inl (refl, beyond)

pub returns-in_err-load-clause-refused : goal.returns-in_err-load-clause-refused
returns-in_err-load-clause-refused g c = λ uncapped.
    let p = err_from_is_err_and c.from_residual.result c.from_residual.ensures.1 in
    rw (p.1, p.2) (load_fault c.args.file.now.tail c.args.stripe c.in_err-load.field-0.0 (c.in_err-load.ensures.uncapped uncapped))

pub returns-in_err-view-clause-refused : goal.returns-in_err-view-clause-refused
returns-in_err-view-clause-refused g c = λ uncapped.
    let p = err_from_is_err_and c.from_residual-in_err-view.result c.from_residual-in_err-view.ensures.1 in
    let tail = c.args.file.now.tail in
    let there : c.args.stripe < length tail.stripes = omega (arith, c.if-stripe-as_slice.false, ap length c.as_slice.ensures, ap (λ (t : Tail). length t.stripes) c.tail.ensures) in
    let opened = c.load.new.self.tail in
    rw (p.1, p.2) (view_fault tail c.args.stripe c.in_err-view.field-0.0 (StripeOpenFault opened.schema (stripe_at opened.stripes c.args.stripe) c.deref.result.now) there
    c.in_err-view.ensures.fault)

pub returns-clause-refused : goal.returns-clause-refused
returns-clause-refused g c = λ uncapped.
    let tail = c.args.file.now.tail in
    let there : c.args.stripe < length tail.stripes = omega (arith, c.if-stripe-as_slice.false, ap length c.as_slice.ensures, ap (λ (t : Tail). length t.stripes) c.tail.ensures) in
    stripe_fault_is tail c.args.stripe c.in-Err.cause c.stripe_fault.result there c.stripe_fault.ensures

pub returns-then-stripe-as_slice-clause-only : goal.returns-then-stripe-as_slice-clause-only
returns-then-stripe-as_slice-clause-only g c = λ bytes rows told uncapped is reads starts place below.
    let there = place.there in
    absurd (omega (arith, there, c.if-stripe-as_slice.true, ap length c.as_slice.ensures, ap (λ (t : Tail). length t.stripes) c.tail.ensures))

pub returns-in_err-load-clause-only : goal.returns-in_err-load-clause-only
returns-in_err-load-clause-only g c = λ bytes rows told uncapped is reads starts place below.
    let p = err_from_is_err_and c.from_residual.result c.from_residual.ensures.1 in
    rw (p.1, p.2) (c.in_err-load.ensures.uncapped uncapped)

pub returns-in_err-view-clause-only : goal.returns-in_err-view-clause-only
returns-in_err-view-clause-only g c = λ bytes rows told uncapped is reads starts place below.
    let p = err_from_is_err_and c.from_residual-in_err-view.result c.from_residual-in_err-view.ensures.1 in
    let tail = c.args.file.now.tail in
    let n = c.args.stripe in
    let opened = c.load.new.self.tail in
    let lasts : opened ≡ tail = c.in_ok-load.ensures.tail in
    let own : c.load.new.into.items ≡ stripe_bytes (stripe_at tail.stripes n) bytes =
    at_told _ bytes (λ (b : List ℕ). c.load.new.into.items ≡ stripe_bytes (stripe_at tail.stripes n) b) told c.in_ok-load.ensures.loaded.bytes in
    let stripe = stripe_of c.row_laws.ensures.cut bytes tail rows n is place.there in
    let has = footer_here opened.schema tail.schema (stripe_at opened.stripes n) (stripe_at tail.stripes n) c.deref.result.now (stripe_bytes (stripe_at tail.stripes n) bytes) stripe.footer
    (ap (λ (t : Tail). t.schema) lasts) (ap (λ (t : Tail). stripe_at t.stripes n) lasts) (c.deref.ensures.value ∙ own) stripe.has_footer in
    rw (p.1, p.2) (inl (c.in_err-view.ensures.only stripe.footer has))

pub returns-clause-only : goal.returns-clause-only
returns-clause-only g c = λ bytes rows told uncapped is reads starts place below.
    let tail = c.args.file.now.tail in
    let n = c.args.stripe in
    let k = c.args.column in
    let own : c.load.new.into.items ≡ stripe_bytes (stripe_at tail.stripes n) bytes =
    at_told _ bytes (λ (b : List ℕ). c.load.new.into.items ≡ stripe_bytes (stripe_at tail.stripes n) b) told c.in_ok-load.ensures.loaded.bytes in
    let opened = c.load.new.self.tail in
    let lasts : opened ≡ tail = c.in_ok-load.ensures.tail in
    let there : n < length opened.stripes = omega (arith, c.if-stripe-as_slice.false, ap length c.as_slice.ensures, ap (λ (t : Tail). length t.stripes) c.tail.ensures, ap (λ (t : Tail). length t.stripes) lasts) in
    let view = c.in_ok-view.view in
    let mine = rows_at (cut_rows tail.stripes rows) n in
    let at = c.deref.ensures.value ∙ own ∙ ap (λ (t : Tail). stripe_bytes (stripe_at t.stripes n) bytes) (sym lasts) in
    let same = view_is bytes c.deref.result.now tail opened n view lasts at c.in_ok-view.ensures.found c.in_ok-view.ensures.same in
    let whole = opened_stripe tail n (stripe_bytes (stripe_at tail.stripes n) bytes) view.footer in
    let has : HasGroup whole c.args.group = record { indexed = place.indexed; there = place.begun } in
    let begins = starts n place.there view.footer same.1 c.args.group has in
    let column = begins.column k below in
    let some : 0 < view.stride = subst (λ (v : Opened). 0 < v.stride) (sym same.0) place.indexed in
    let mine_below : k < width view.schema = subst (λ (v : Opened). k < width v.schema) (sym same.0) below in
    let index : HasIndex view.footer view.bytes k column.1.0 = subst (λ (v : Opened). HasIndex v.footer v.bytes k column.1.0) (sym same.0) column.1.1 in
    let one_run = view_reads bytes c.deref.result.now tail opened rows n view reads lasts there at c.in_ok-view.ensures.found c.in_ok-view.ensures.same k some mine_below in
    let places = one_run column.1.0 index c.args.group column.0 column.1.3 in
    memory_fault n c.in-Err.cause c.stripe_fault.result (c.in-Err.ensures.only column.1.0 column.0 _ some mine_below index column.1.3 places) c.stripe_fault.ensures
