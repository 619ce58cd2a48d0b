use Rattle.std.proofs.Common.{◌≡◌, ◌∙◌, ℕ, ◌<◌, ◌*◌, drop, refl, subst}
use Rattle.std.specs.Prelude.{MatchResult}
use Rattle.orc_wire.specs.declared.stripe_info.StripeInfo.{StripeInfo}
use Rattle.orc_values.specs.Views.{views}
use Rattle.orc_column_reader.specs.Stripe.{columns_of}
use Rattle.orc_directory.specs.declared.fault.StripeFault.TheVariants.{OutOfMemory}
use Rattle.orc_stripe_reader.specs.Opened.{Opened}
use Rattle.orc_stripe_reader.specs.GroupCursors.{HasGroup, StartsGroup}
use Rattle.orc_tail.specs.Stripes.{stripe_at, stripe_bytes}
use Rattle.orc_file_reader.specs.FileRows.{opened_stripe, cut_rows}
use Rattle.orc_check.specs.Findings.{rows_at}
use Rattle.orc_theorems.specs.BeforeGroups.{with_bytes}
use Rattle.orc_theorems.specs.RowsRead.{rows_read}
use Rattle.orc_theorems.proofs.CursorLemmas.{same_opened, stripe_of, footer_here}
use Rattle.orc_theorems.proofs.cursor_calls.rows_from.Goals as goal

pub returns-in-Ok-clause-file : goal.returns-in-Ok-clause-file
returns-in-Ok-clause-file c = λ all tail rows n is none lt same text some there.
    let view = c.in-Ok.view in
    let group = c.args.group in
    let kept = c.in-Ok.ensures.same in
    let own = stripe_bytes (stripe_at tail.stripes n) all in
    let mine = rows_at (cut_rows tail.stripes rows) n in
    let stripe = stripe_of c.row_laws.ensures.cut all tail rows n is lt in
    let whole = opened_stripe tail n own stripe.footer in
    let footer : view.footer ≡ stripe.footer = c.in-Ok.ensures.only stripe.footer
    (footer_here c.args.schema.now tail.schema c.args.info (stripe_at tail.stripes n) c.args.bytes.now own stripe.footer same.0 same.1 text stripe.has_footer) in
    let has : HasGroup whole group = record {
      indexed = subst (λ (k : ℕ). 0 < k) same.2 some;
      there = subst (λ (k : ℕ). group * k < (stripe_at tail.stripes n).number_of_rows) same.2
          (subst (λ (i : StripeInfo). group * c.args.stride < i.number_of_rows) same.1 there);
    } in
    let begins = c.reading_from_the_middle.ensures.starts all tail rows is none n lt stripe.footer stripe.has_footer group has in
    let here = subst (λ (v : Opened). StartsGroup v (columns_of stripe.footer own) mine group)
    (same_opened view whole (kept.0 ∙ same.0) (kept.1 ∙ same.1) (kept.2 ∙ same.2) (kept.3 ∙ text) footer) begins in
    subst (λ (k : ℕ). MatchResult c.read_from.result (λ read. rows_read read.first (views read.rest.items) ≡ drop (group * k) mine) (λ fault. fault ≡ OutOfMemory))
    kept.2 (c.read_from.ensures (columns_of stripe.footer own) mine here)

pub returns-in-Ok-clause-alone : goal.returns-in-Ok-clause-alone
returns-in-Ok-clause-alone c = λ whole x rows same has starts differs.
    let view = c.in-Ok.view in
    let group = c.args.group in
    let bytes = c.args.bytes.now in
    let kept = c.in-Ok.ensures.same in
    let there = c.reading_from_the_middle.ensures.footer whole group bytes has differs in
    let footer : view.footer ≡ whole.footer = c.in-Ok.ensures.only whole.footer
    (footer_here c.args.schema.now whole.schema c.args.info whole.info bytes bytes whole.footer same.0 same.1 refl there) in
    let here = subst (λ (v : Opened). StartsGroup v x rows group)
    (same_opened view (with_bytes whole bytes) (kept.0 ∙ same.0) (kept.1 ∙ same.1) (kept.2 ∙ same.2) kept.3 footer)
    (c.reading_from_the_middle.ensures.alone whole x rows group bytes starts differs) in
    subst (λ (k : ℕ). MatchResult c.read_from.result (λ read. rows_read read.first (views read.rest.items) ≡ drop (group * k) rows) (λ fault. fault ≡ OutOfMemory))
    kept.2 (c.read_from.ensures x rows here)

pub returns-in-Err-clause-file : goal.returns-in-Err-clause-file
returns-in-Err-clause-file c = λ all tail rows n is none lt same text some there.
    let own = stripe_bytes (stripe_at tail.stripes n) all in
    let stripe = stripe_of c.row_laws.ensures.cut all tail rows n is lt in
    c.in-Err.ensures.only stripe.footer
    (footer_here c.args.schema.now tail.schema c.args.info (stripe_at tail.stripes n) c.args.bytes.now own stripe.footer same.0 same.1 text stripe.has_footer)

pub returns-in-Err-clause-alone : goal.returns-in-Err-clause-alone
returns-in-Err-clause-alone c = λ whole x rows same has starts differs.
    let bytes = c.args.bytes.now in
    let there = c.reading_from_the_middle.ensures.footer whole c.args.group bytes has differs in
    c.in-Err.ensures.only whole.footer (footer_here c.args.schema.now whole.schema c.args.info whole.info bytes bytes whole.footer same.0 same.1 refl there)
