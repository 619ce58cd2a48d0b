-- Statistics that a file without findings stores: the law of findings, handed in.
use Rattle.std.proofs.Common.{◌≡◌, ◌↔◌, sym, subst, inl, inr, ℕ, true, false, Option, Some, List, []}
use Rattle.std.specs.Prelude.{IfSome}
use Rattle.std.specs.List.{AllByRecursion}
use Rattle.orc_values.specs.Cells.{Cell}
use Rattle.orc_stats.specs.declared.stat.Stat.{Stat}
use Rattle.orc_tail.specs.declared.tail.Tail.{Tail}
use Rattle.orc_file_reader.specs.FileRows.{cut_rows, FileIs}
use Rattle.orc_file_reader.specs.Honest.{Honest}
use Rattle.orc_check.specs.Findings.{Findings, TellsWhole, rows_at}
use Rattle.orc_check.specs.RightIndexes.{HasIndexes}
use Rattle.orc_skipping.specs.Predicates.{Predicate, truth}
use Rattle.orc_skipping.specs.Rules.{bold, cautious, taken_boldly}
use Rattle.orc_skipping.specs.Right.{Admits, AreRight, LackNothing}
use Rattle.orc_skipping.proofs.Rows.{one_column}
use Rattle.orc_theorems.specs.StoredStats.{AreStoredStats, rows_of_group}
use Rattle.orc_theorems.proofs.ReadyStats.{IsReady, all_ready, if_so, stripe_ready, file_ready}
use Rattle.orc_theorems.proofs.GroupStats.{group_ready}

abbrev pub NoneLaw : Type 0
NoneLaw = (bytes : List ℕ) (tail : Tail) (rows : List Cell) → FileIs bytes tail rows → Findings bytes tail rows [] ↔ (Honest tail rows × TellsWhole tail rows × HasIndexes bytes tail rows)

pub stored_right : NoneLaw → (bytes : List ℕ) (tail : Tail) (rows : List Cell) (told : ℕ → Option Stat) (part : List Cell) → FileIs bytes tail rows → Findings bytes tail rows []
    → AreStoredStats bytes tail rows told part → AreRight tail.schema part told × LackNothing told
stored_right none bytes tail rows told part is found (inl h) =
    let here : List Cell = rows_at (cut_rows tail.stripes rows) h.stripe in
    let right = (none bytes tail rows is).0 found in
    subst (λ (cs : List Cell). AreRight tail.schema cs told × LackNothing told) (sym h.rows_are)
    (all_ready tail.schema here told (λ c. if_so (told c) _ (IsReady tail.schema here c) (h.stored c) (λ x. stripe_ready bytes tail rows is right.0 h.stripe h.there c x)))
stored_right none bytes tail rows told part is found (inr (inl h)) =
    let here : List Cell = rows_of_group tail.stride h.group (rows_at (cut_rows tail.stripes rows) h.stripe) in
    let right = (none bytes tail rows is).0 found in
    subst (λ (cs : List Cell). AreRight tail.schema cs told × LackNothing told) (sym h.rows_are)
    (all_ready tail.schema here told (group_ready bytes tail rows told part is right.2 h))
stored_right none bytes tail rows told part is found (inr (inr h)) =
    let right = (none bytes tail rows is).0 found in
    subst (λ (cs : List Cell). AreRight tail.schema cs told × LackNothing told) (sym h.rows_are)
    (all_ready tail.schema rows told (λ c. if_so (told c) _ (IsReady tail.schema rows c) (h.stored c) (λ x. file_ready bytes tail rows is right.1 c x)))

-- the cells of one column, by its statistic
pub cells_skipped : (x : Stat) (xs : List Cell) (p : Predicate) → AllByRecursion (Admits x) xs → taken_boldly x ≡ x → bold (λ c. Some x) p ≡ false
    → AllByRecursion (λ cell. truth (λ c. Some cell) p ≡ Some true → ⊥) xs
cells_skipped x xs p admits full skipped =
    one_column x xs p admits (subst (λ (y : Stat). cautious (λ c. Some y) p ≡ false) full skipped)

pub at_told_column : (o : Option Stat) (x : Stat) (P : Stat → Type 0) → o ≡ Some x → IfSome o P → P x
at_told_column o x P e h = subst (λ (q : Option Stat). IfSome q P) e h
