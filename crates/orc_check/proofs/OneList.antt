-- What is found of a file is one list.
use Rattle.std.proofs.Common.{◌≡◌, ◌∙◌, ℕ, zero, suc, inl, inr, List, ◌++◌, length, sym, ap, subst, arith}
use Rattle.orc_wire.specs.declared.row_index.RowIndexMsg.{RowIndexMsg}
use Rattle.orc_wire.specs.declared.stripe_footer.StripeFooter.{StripeFooter}
use Rattle.orc_values.specs.Cells.{Cell}
use Rattle.orc_values.specs.Shapes.{width}
use Rattle.orc_stats.specs.declared.stat.Stat.{Stat}
use Rattle.orc_stripe_reader.specs.Opened.{Opened}
use Rattle.orc_stripe_reader.proofs.OneStripe.{one_footer}
use Rattle.orc_tail.specs.Stripes.{stripe_at, stripe_bytes}
use Rattle.orc_file_reader.specs.FileRows.{opened_stripe, cut_rows}
use Rattle.orc_tail.specs.declared.tail.Tail.{Tail}
use Rattle.orc_check.specs.declared.finding.Finding.{Finding}
use Rattle.orc_check.specs.declared.finding.Finding.TheVariants.{StripeStatistic, IndexStatistic, IndexPosition, FileStatistic}
use Rattle.orc_check.specs.Findings.{Unless, Both, OfEach, IndexedColumn, HasRightStatistic, HasRightPositions, OfGroup, OfGroups, column_with, IsIndexedColumn, OfIndex, OfColumn, OfStripe, OfStripes, OfFile, Findings, TellsStripe, TellsFile, stripe_told, rows_at}
use Rattle.orc_check.proofs.IndexFound.{one_index}

unless_one : (P : Type 0) (f : Finding) (a b : List Finding) → Unless P f a → Unless P f b → a ≡ b
unless_one P f a b (inl p) (inl q) = p.1 ∙ sym q.1
unless_one P f a b (inl p) (inr q) = absurd (q.0 p.0)
unless_one P f a b (inr p) (inl q) = absurd (p.0 q.0)
unless_one P f a b (inr p) (inr q) = p.1 ∙ sym q.1

both_one : (P Q : List Finding → Type 0) → ((a b : List Finding) → P a → P b → a ≡ b) → ((a b : List Finding) → Q a → Q b → a ≡ b) → (a b : List Finding) → Both P Q a → Both P Q b → a ≡ b
both_one P Q p q a b x y = x.4 ∙ (λ i. p x.0 y.0 x.2 y.2 i ++ q x.1 y.1 x.3 y.3 i) ∙ sym y.4

each_one : (F : ℕ → List Finding → Type 0) → ((k : ℕ) (a b : List Finding) → F k a → F k b → a ≡ b) → (n : ℕ) (a b : List Finding) → OfEach F n a → OfEach F n b → a ≡ b
each_one F one zero a b x y = x ∙ sym y
each_one F one (suc n) a b x y = both_one (OfEach F n) (F n) (each_one F one n) (one n) a b x y

group_one : (x : IndexedColumn) (n c g : ℕ) (a b : List Finding) → OfGroup x n c g a → OfGroup x n c g b → a ≡ b
group_one x n c g =
    both_one (Unless (HasRightStatistic x g) (IndexStatistic n c g)) (Unless (HasRightPositions x g) (IndexPosition n c g))
    (unless_one (HasRightStatistic x g) (IndexStatistic n c g)) (unless_one (HasRightPositions x g) (IndexPosition n c g))

pub one_column : (view : Opened) (rows : List Cell) (c : ℕ) (x y : IndexedColumn) → IsIndexedColumn view rows c x → IsIndexedColumn view rows c y → x ≡ y
one_column view rows c x y p q =
    p.column_is ∙ ap (λ (m : RowIndexMsg). column_with view rows c m.entries) (one_index view.footer view.bytes c p.message q.message p.has_index q.has_index) ∙ sym q.column_is

index_one : (view : Opened) (n : ℕ) (rows : List Cell) (c : ℕ) (a b : List Finding) → OfIndex view n rows c a → OfIndex view n rows c b → a ≡ b
index_one view n rows c a b (inl x) (inl y) = x.1 ∙ sym y.1
index_one view n rows c a b (inl x) (inr y) = absurd (omega (arith, x.0, y.0))
index_one view n rows c a b (inr x) (inl y) = absurd (omega (arith, x.0, y.0))
index_one view n rows c a b (inr (s, inl x)) (inr (t, inl y)) = x.1 ∙ sym y.1
index_one view n rows c a b (inr (s, inl x)) (inr (t, inr y)) = absurd (x.0 y.0 y.1)
index_one view n rows c a b (inr (s, inr x)) (inr (t, inl y)) = absurd (y.0 x.0 x.1)
index_one view n rows c a b (inr (s, inr x)) (inr (t, inr y)) =
    let same : y.0 ≡ x.0 = one_column view rows c y.0 x.0 y.1 x.1 in
    each_one (OfGroup x.0 n c) (group_one x.0 n c) (length x.0.entries) a b x.2 (subst (λ (z : IndexedColumn). OfGroups z n c b) same y.2)

column_one : (view : Opened) (told : List Stat) (n : ℕ) (rows : List Cell) (c : ℕ) (a b : List Finding) → OfColumn view told n rows c a → OfColumn view told n rows c b → a ≡ b
column_one view told n rows c =
    both_one (Unless (TellsStripe view.schema told rows c) (StripeStatistic n c)) (OfIndex view n rows c) (unless_one (TellsStripe view.schema told rows c) (StripeStatistic n c)) (index_one view n rows c)

stripe_one : (tail : Tail) (n : ℕ) (bytes : List ℕ) (rows : List Cell) (a b : List Finding) → OfStripe tail n bytes rows a → OfStripe tail n bytes rows b → a ≡ b
stripe_one tail n bytes rows a b x y =
    let told = stripe_told tail n in
    let same = one_footer tail.schema (stripe_at tail.stripes n) bytes y.0 x.0 y.1 x.1 in
    each_one (OfColumn (opened_stripe tail n bytes x.0) told n rows) (column_one (opened_stripe tail n bytes x.0) told n rows) (width tail.schema) a b x.2
    (subst (λ (f : StripeFooter). OfEach (OfColumn (opened_stripe tail n bytes f) told n rows) (width tail.schema) b) same y.2)

pub one_findings : (bytes : List ℕ) (tail : Tail) (rows : List Cell) (a b : List Finding) → Findings bytes tail rows a → Findings bytes tail rows b → a ≡ b
one_findings bytes tail rows =
    let parts : List (List Cell) = cut_rows tail.stripes rows in
    both_one (OfStripes bytes tail parts) (OfFile tail parts)
    (each_one (λ n. OfStripe tail n (stripe_bytes (stripe_at tail.stripes n) bytes) (rows_at parts n)) (λ n. stripe_one tail n (stripe_bytes (stripe_at tail.stripes n) bytes) (rows_at parts n)) (length tail.stripes))
    (each_one (λ c. Unless (TellsFile tail parts c) (FileStatistic c)) (λ c. unless_one (TellsFile tail parts c) (FileStatistic c)) (width tail.schema))
