-- What calls leave of a source or a sink, one after another, and as another layer's faults say it.
use Rattle.std.proofs.Common.{◌≡◌, ◌+◌, ◌⊎◌, inl, inr, ℕ, List, Option, Result, Ok, Err, OnOk, IfErr, ◌∙◌, ap, subst, arith}
use Rattle.orc_io.specs.Leaves.{LeavesSource, LeavesSink}

-- A call that succeeds and one after it leave what both leave.
pub leaves_both : {S T U E : Type 0} {tells : S → Option (List ℕ)} {size_of failures_of : S → ℕ} {source_failed : E}
    {old mid new : S} {first : T} (rest : Result U E)
    → LeavesSource tells size_of failures_of source_failed old mid (Ok first)
    → LeavesSource tells size_of failures_of source_failed mid new rest
    → LeavesSource tells size_of failures_of source_failed old new rest
leaves_both {failures_of = f} {old = old} {mid = mid} {new = new} (Ok done) p q = record {
  told = q.told ∙ p.told;
  size = q.size ∙ p.size;
  kept = q.kept ∙ p.kept;
  failed = λ e. cc;
  others = tt;
}
leaves_both {failures_of = f} {source_failed = s} {old = old} {mid = mid} {new = new} (Err fault) p q =
    let kept : f mid ≡ f old = p.kept in
    let either : (fault ≡ s) ⊎ (f new ≡ f mid) = q.others in
    let others : (fault ≡ s) ⊎ (f new ≡ f old) = elim either [ inl is ↦ inl is | inr same ↦ inr (same ∙ kept) ] in
    record {
      told = q.told ∙ p.told;
      size = q.size ∙ p.size;
      kept = tt;
      failed = λ e. let rose : f new ≡ f mid + 1 = q.failed e in omega (arith, rose, kept);
      others = others;
    }

-- A refusal that another layer passes on under its own fault leaves what it left there.
pub leaves_as : {S T U E F : Type 0} {tells : S → Option (List ℕ)} {size_of failures_of : S → ℕ} {below_failed : E}
    {source_failed : F} {old new : S} {why : E} {fault : F}
    → (fault ≡ source_failed → why ≡ below_failed) → (why ≡ below_failed → fault ≡ source_failed)
    → LeavesSource {T = T} tells size_of failures_of below_failed old new (Err why)
    → LeavesSource {T = U} tells size_of failures_of source_failed old new (Err fault)
leaves_as {failures_of = f} {below_failed = below} {source_failed = failed} {old = old} {new = new} {why = why} {fault = fault} down up p =
    let either : (why ≡ below) ⊎ (f new ≡ f old) = p.others in
    let others : (fault ≡ failed) ⊎ (f new ≡ f old) = elim either [ inl is ↦ inl (up is) | inr same ↦ inr same ] in
    record {
      told = p.told;
      size = p.size;
      kept = tt;
      failed = λ e. let same : fault ≡ failed = cc in p.failed (ap Err (down same));
      others = others;
    }

-- Of a sink that had not failed more often than at first, a call leaves what it leaves of the first.
pub kept_then : {W T E : Type 0} {failures_of : W → ℕ} {sink_failed : E} {old mid new : W}
    {result : Result T E} → failures_of mid ≡ failures_of old
    → LeavesSink failures_of sink_failed mid new result
    → LeavesSink failures_of sink_failed old new result
kept_then {failures_of = f} {sink_failed = s} {old = old} {new = new} {result = r} e p =
    let P : ℕ → Type 0 = λ n. OnOk r (f new ≡ n) in
    let Q : ℕ → Type 0 = λ n. IfErr r (λ fault. (fault ≡ s) ⊎ (f new ≡ n)) in
    record {
      kept = subst P e p.kept;
      failed = λ is. let rose = p.failed is in omega (arith, rose, e);
      others = subst Q e p.others;
    }

-- So does a call on a sink that another layer passes on under its own fault.
pub sink_as : {W T U E F : Type 0} {failures_of : W → ℕ} {below_failed : E} {sink_failed : F} {old new : W} {why : E}
    {fault : F}
    → (fault ≡ sink_failed → why ≡ below_failed) → (why ≡ below_failed → fault ≡ sink_failed)
    → LeavesSink {T = T} failures_of below_failed old new (Err why)
    → LeavesSink {T = U} failures_of sink_failed old new (Err fault)
sink_as {failures_of = f} {below_failed = below} {sink_failed = failed} {old = old} {new = new} {why = why} {fault = fault} down up p =
    let either : (why ≡ below) ⊎ (f new ≡ f old) = p.others in
    let others : (fault ≡ failed) ⊎ (f new ≡ f old) = elim either [ inl is ↦ inl (up is) | inr same ↦ inr same ] in
    record {
      kept = tt;
      failed = λ e. let same : fault ≡ failed = cc in p.failed (ap Err (down same));
      others = others;
    }
