use Rattle.std.proofs.Common.{◌≡◌, ℕ, zero, suc, ◌+◌, ◌^◌, ◌<◌, ◌≤◌, ◌⊎◌, inl, inr, refl, ◌++◌, ◌∷◌, [], List, length, ap, sym, ◌∙◌, subst, arith, append_assoc, append-nil}
use Rattle.std.specs.Prelude.{sum_by}
use Rattle.std.proofs.lemmas.Result.{err_from_is_err_and}
use Rattle.orc_values.specs.Shapes.{width}
use Rattle.orc_types.proofs.Trees.{length-types}
use Rattle.orc_stats.specs.declared.stat.Stat.{Stat}
use Rattle.orc_stats.specs.Joining.{joined}
use Rattle.orc_stats.specs.Faults.{JoinFault}
use Rattle.orc_stats.specs.declared.fault.StatFault.{StatFault}
use Rattle.orc_stats.specs.declared.fault.StatFault.TheVariants as fault
use Rattle.orc_tail.specs.Statistics.{kind_at, of_columns, column_stats}
use Rattle.orc_tail.proofs.Columns.{column_kind}
use Rattle.orc_tail.proofs.tail.file_stats.file_statistics.Goals as goal

pub join_all-requires : goal.join_all-requires
join_all-requires c =
    let s = c.args.schema.now in let n = c.loop-column.column in
    let there : n < width s = omega (arith, ap length c.types-types.ensures.same, length-types s 0, c.loop-column-test.true) in
    let k : c.kind_of_type-kind.result ≡ kind_at s n = column_kind s c.types-types.result.now n c.index-types-column.result c.kind_of_type-kind.result c.types-types.ensures.same there c.kind_of_type-kind.ensures c.index-types-column.is in
    let are : c.deref.result.now ≡ column_stats n c.args.stats.now = c.deref.ensures.value ∙ c.in_ok-stripes.ensures in
    rw (k, are) (c.requires.kinds n there)

fault_of : (M : Type 0) (ss : List Stat) (e : StatFault) → JoinFault M ss e
    → (e ≡ fault.OutOfMemory) ⊎ ((e ≡ fault.CountTooLarge) × (2 ^ 62 < sum_by (λ (s : Stat). s.count) ss))
fault_of M ss fault.CountTooLarge j = inr (refl, j)
fault_of M ss fault.OutOfMemory j = inl refl

pub returns-in_err-stat-clause-fault : goal.returns-in_err-stat-clause-fault
returns-in_err-stat-clause-fault c =
    let s = c.args.schema.now in let n = c.loop-column.column in
    let there : n < width s = omega (arith, ap length c.types-types.ensures.same, length-types s 0, c.loop-column-test.true) in
    let are : c.deref.result.now ≡ column_stats n c.args.stats.now = c.deref.ensures.value ∙ c.in_ok-stripes.ensures in
    let p = err_from_is_err_and c.from_residual-in_err-stat.result c.from_residual-in_err-stat.ensures.1 in
    rw (p.1, p.2) (elim (fault_of _ c.deref.result.now c.in_err-stat.field-0.0 c.in_err-stat.ensures.fault) [
      | inl memory ↦ inl memory
      | inr large ↦ inr (large.0, n, there, subst (λ (xs : List Stat). 4611686018427387904 < sum_by (λ (s : Stat). s.count) xs) are large.1)
    ])

few_more : (f : ℕ → ℕ) (n : ℕ) → ((c : ℕ) → c < n → f c ≤ 4611686018427387904) → f n ≤ 4611686018427387904 → (c : ℕ) → c < n + 1 → f c ≤ 4611686018427387904
few_more f n few here c lt = elim (equal_or_below c n lt) [
  | inl e ↦ subst (λ m. f m ≤ 4611686018427387904) (sym e) here
  | inr below ↦ few c below
]
  where
    equal_or_below : (c n : ℕ) → c < n + 1 → (c ≡ n) ⊎ (c < n)
    equal_or_below zero zero lt = inl refl
    equal_or_below zero (suc n) lt = inr (omega arith)
    equal_or_below (suc c) zero lt = absurd (omega (arith, lt))
    equal_or_below (suc c) (suc n) lt = elim (equal_or_below c n (omega (arith, lt))) [ inl e ↦ inl (ap suc e) | inr b ↦ inr (omega (arith, b)) ]

pub loop-column-preserved : goal.loop-column-preserved
loop-column-preserved c =
    let s = c.args.schema.now in let n = c.loop-column.column in
    let f : ℕ → Stat = λ m. joined (kind_at s m) (column_stats m c.args.stats.now) in
    let there : n < width s = omega (arith, ap length c.types-types.ensures.same, length-types s 0, c.loop-column-test.true) in
    let k : c.kind_of_type-kind.result ≡ kind_at s n = column_kind s c.types-types.result.now n c.index-types-column.result c.kind_of_type-kind.result c.types-types.ensures.same there c.kind_of_type-kind.ensures c.index-types-column.is in
    let are : c.deref.result.now ≡ column_stats n c.args.stats.now = c.deref.ensures.value ∙ c.in_ok-stripes.ensures in
    let one : c.in_ok-stat.stat ≡ f n = c.in_ok-stat.ensures.found ∙ (λ i. joined (k i) (are i)) in
    let next : n + 1 ≡ suc n = omega arith in
    record {
      found = λ rest e.
          ap (λ xs. xs ++ of_columns f (n + 1) rest) c.in_ok-push.ensures.items
          ∙ append_assoc c.loop-column.found.items (c.in_ok-stat.stat ∷ []) (of_columns f (n + 1) rest)
          ∙ ap (λ x. c.loop-column.found.items ++ x ∷ of_columns f (n + 1) rest) one
          ∙ ap (λ m. c.loop-column.found.items ++ f n ∷ of_columns f m rest) next
          ∙ c.loop-column.invariant.found (suc rest) (omega (arith, e));
      few = few_more (λ m. sum_by (λ (s : Stat). s.count) (column_stats m c.args.stats.now)) n c.loop-column.invariant.few
          (subst (λ (xs : List Stat). sum_by (λ (s : Stat). s.count) xs ≤ 4611686018427387904) are c.in_ok-stat.ensures.most);
    }

pub returns-clause-found : goal.returns-clause-found
returns-clause-found c = sym (append-nil c.loop-column.found.items) ∙ c.loop-column.invariant.found 0 (omega (arith, ap length c.types-types.ensures.same, length-types c.args.schema.now 0, c.loop-column-test.false))

pub returns-clause-few : goal.returns-clause-few
returns-clause-few c = λ n lt. c.loop-column.invariant.few n (omega (arith, ap length c.types-types.ensures.same, length-types c.args.schema.now 0, c.loop-column-test.false, lt))
