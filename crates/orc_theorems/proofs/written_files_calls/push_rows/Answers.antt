use Rattle.std.proofs.Common.{◌≡◌, ◌∙◌, ◌<◌, ◌+◌, List, [], ◌∷◌, ◌++◌, Err, map, refl, sym, ap, subst, append_assoc, append-nil, drop, arith}
use Rattle.std.proofs.lemmas.Bool.{false≢true}
use Rattle.std.proofs.lemmas.List.{at_drop_all}
use Rattle.std.proofs.lemmas.Result.{err_from_is_err_and}
use Rattle.orc_values.specs.Cells.{Cell}
use Rattle.orc_values.specs.Views.{view, views}
use Rattle.orc_file_writer.specs.Progress.{progress}
use Rattle.orc_theorems.specs.Refusals.{IsWriteFault}
use Rattle.orc_theorems.proofs.ReadLemmas.{pushed_more, cut_of_all, all_of}
use Rattle.orc_theorems.proofs.RefusalLemmas.{passes_at, push_fault, same_write_fault}
use Rattle.orc_theorems.proofs.written_files_calls.push_rows.Goals as goal

pub loop-row-init : goal.loop-row-init
loop-row-init g c = record {
  schema = refl;
  options = refl;
  going = λ was. was;
  no_failure = refl;
  pushed = ([], refl, λ first before h. rw (append-nil before) h);
}

pub loop-row-preserved : goal.loop-row-preserved
loop-row-preserved g c =
    let inv = c.loop-row.invariant in
    let row = c.row-item.result in
    record {
      schema = c.push.ensures.takes.same.0 ∙ inv.schema;
      options = c.push.ensures.takes.same.1 ∙ inv.options;
      going = λ was. c.in_ok-push.ensures.takes.ok;
      no_failure = c.in_ok-push.ensures.takes.out.kept ∙ inv.no_failure;
      pushed = (
        inv.pushed.0 ++ view c.row-item.result ∷ [],
        pushed_more view c.args.rows.now c.loop-row.row-index c.row-item.result inv.pushed.0 c.loop-row-test.true c.row-item.is inv.pushed.1,
        λ first before h.
            rw (← append_assoc before inv.pushed.0 (view row ∷ [])) (c.in_ok-push.ensures.pushed first (before ++ inv.pushed.0) (inv.pushed.2 first before h)),
      );
    }

pub returns-clause-pushed : goal.returns-clause-pushed
returns-clause-pushed g c = λ first before h.
    let inv = c.loop-row.invariant in
    let none : inv.pushed.0 ++ views (drop c.loop-row.row-index c.args.rows.now) ≡ inv.pushed.0 ++ []
    = at_drop_all (λ rows. inv.pushed.0 ++ map view rows) c.args.rows.now c.loop-row.row-index c.loop-row-test.false in
    let all : inv.pushed.0 ≡ views c.args.rows.now = sym (append-nil inv.pushed.0) ∙ sym none ∙ inv.pushed.1 in
    rw (← all) (inv.pushed.2 first before h)

pub returns-in_err-push-clause-cut : goal.returns-in_err-push-clause-cut
returns-in_err-push-clause-cut g c = λ first before pushed was wrote.
    let inv = c.loop-row.invariant in
    let p = err_from_is_err_and c.from_residual.result c.from_residual.ensures.1 in
    let why = rw (p.1, p.2) at wrote in
    cut_of_all view c.args.writer.now.options c.loop-row.writer.options c.args.writer.now.schema c.loop-row.writer.schema first (g.W.Sink.told c.push.new.self.out) before inv.pushed.0
    c.args.rows.now c.loop-row.row-index c.row-item.result inv.options inv.schema c.loop-row-test.true c.row-item.is inv.pushed.1
    (c.in_err-push.ensures.takes.cut first (before ++ inv.pushed.0) (inv.pushed.2 first before pushed) (inv.going was) (c.in_err-push.ensures.takes.write_fails why))

pub returns-in_err-push-clause-refused : goal.returns-in_err-push-clause-refused
returns-in_err-push-clause-refused g c = λ first before pushed was.
    let inv = c.loop-row.invariant in
    let p = err_from_is_err_and c.from_residual.result c.from_residual.ensures.1 in
    let told = g.W.Sink.told in
    let old = c.args.writer.now in
    let w = c.loop-row.writer in
    let n = c.push.new.self in
    let e = c.in_err-push.ensures.takes in
    let row = view c.row-item.result in
    let more = views (drop (c.loop-row.row-index + 1) c.args.rows.now) in
    let front = before ++ inv.pushed.0 in
    let there = inv.pushed.2 first before pushed in
    let whole = all_of view before inv.pushed.0 c.args.rows.now c.loop-row.row-index c.row-item.result c.loop-row-test.true c.row-item.is inv.pushed.1 in
    rw (p.1, p.2) (subst (λ (rows : List Cell). IsWriteFault old.options old.schema rows c.in_err-push.field-0.0) whole
    (same_write_fault old.options w.options old.schema w.schema (front ++ row ∷ more) c.in_err-push.field-0.0 inv.options inv.schema
    (push_fault w.options w.schema front row more c.in_err-push.field-0.0 n.failed e.refused
    (λ q. absurd (false≢true (sym (inv.going was) ∙ e.failed.0 (ap Err q)))) (λ q. (e.shape (inv.going was)).0 (ap Err q))
    (λ q none. (e.counted first front there).0 (e.only_limit (ap Err q) none))
    (λ q has. passes_at (progress told w) first front row more there.0 (e.long (ap Err q) has)))))

pub returns-in_err-push-clause-write_failed : goal.returns-in_err-push-clause-write_failed
returns-in_err-push-clause-write_failed g c = λ wrote.
    let inv = c.loop-row.invariant in
    let p = err_from_is_err_and c.from_residual.result c.from_residual.ensures.1 in
    let why = rw (p.1, p.2) at wrote in
    let rose : g.W.Sink.failures c.push.new.self.out ≡ g.W.Sink.failures c.loop-row.writer.out + 1 = c.in_err-push.ensures.takes.out.failed why in
    let same = inv.no_failure in
    omega (arith, rose, same)

pub returns-clause-no_failure : goal.returns-clause-no_failure
returns-clause-no_failure g c = c.loop-row.invariant.no_failure
