-- A written index: there is one, it reads back, and it is right for a reader.
use Rattle.std.proofs.Common.{◌≡◌, ℕ, suc, ◌<◌, ◌^◌, Option, Some, List, [], ◌∷◌, length, slice_get, refl, sym, ap, ◌∙◌, subst, arith}
use Rattle.std.specs.List.{AllByRecursion}
use Rattle.std.specs.Option.{IfSome}
use Rattle.orc_wire.specs.declared.column_stats.ColumnStats.{ColumnStats}
use Rattle.orc_wire.specs.declared.row_index.RowIndexEntry.{RowIndexEntry}
use Rattle.orc_wire.specs.CanonicalMessages.{column_stats_text, row_index_entry_text, row_index_text}
use Rattle.orc_wire.proofs.WholeLaws.{entry_whole, index_whole}
use Rattle.orc_values.specs.Cells.{Cell}
use Rattle.orc_values.specs.Fits.{RowsFit}
use Rattle.orc_values.specs.Shapes.{Shape}
use Rattle.orc_stats.specs.Kinds.{kind_of}
use Rattle.orc_stats.specs.Messages.{message_of, IsStat}
use Rattle.orc_stats.specs.Statistics.{stat}
use Rattle.orc_stats.proofs.Fitting.{are_of_kind}
use Rattle.orc_stats.proofs.Normal.{stat-normal}
use Rattle.orc_stats.proofs.ReadBack.{reads_back}
use Rattle.orc_column_reader.specs.Stripe.{Streams}
use Rattle.orc_row_groups.specs.Bounds.{before_group, group_of}
use Rattle.orc_row_index.specs.RowIndex.{IsWrittenEntry, AreEntries, IsWrittenIndex, IsRightIndex}
use Rattle.orc_row_index.proofs.ColumnPlaces.{places_read, one_places}
use Rattle.orc_row_groups.proofs.Groups.{group_fits, group_few}
use Rattle.orc_row_index.proofs.StatWhole.{stat_whole}

-- ---- it reads back

group_stat : (s : Shape) (cells : List Cell) (bounds : List ℕ) (g : ℕ) → RowsFit s cells → length cells < 2 ^ 31 → IsStat (kind_of s) (stat (kind_of s) (group_of cells bounds g))
group_stat s cells bounds g fit few =
    stat-normal (kind_of s) (group_of cells bounds g) (are_of_kind s (group_of cells bounds g) (group_fits s cells bounds g fit)) (let k = group_few cells bounds g in omega (arith, k, few))

all_by_get : (P : RowIndexEntry → Type 0) (es : List RowIndexEntry) → ((g : ℕ) (e : RowIndexEntry) → slice_get es g ≡ Some e → P e) → AllByRecursion P es
all_by_get P [] h = tt
all_by_get P (e ∷ es) h = (h 0 e refl, all_by_get P es (λ g d at. h (suc g) d at))

pub entries_whole : (s : Shape) (x : Streams) (cells : List Cell) (bounds : List ℕ) (n : ℕ) (entries : List RowIndexEntry) → RowsFit s cells → length cells < 2 ^ 31
    → AreEntries s x cells bounds n entries → row_index_text.whole (record { entries = entries })
entries_whole s x cells bounds n entries fit few h =
    index_whole (record { entries = entries }) (all_by_get row_index_entry_text.whole entries (λ g e at.
    let is = (h.each g e at).statistics in
    entry_whole e (subst (λ (o : Option ColumnStats). IfSome o column_stats_text.whole) (sym is) (stat_whole (stat (kind_of s) (group_of cells bounds g)) (group_stat s cells bounds g fit few).limits))))

-- ---- one text

pub same_entries : (a b : List RowIndexEntry) → length a ≡ length b → ((g : ℕ) (x y : RowIndexEntry) → slice_get a g ≡ Some x → slice_get b g ≡ Some y → x ≡ y) → a ≡ b
same_entries [] [] l h = refl
same_entries [] (y ∷ b) l h = absurd (omega (arith, l))
same_entries (x ∷ a) [] l h = absurd (omega (arith, l))
same_entries (x ∷ a) (y ∷ b) l h =
    let first = h 0 x y refl refl in
    let later = same_entries a b (omega (arith, l)) (λ g u v p q. h (suc g) u v p q) in
    λ i. first i ∷ later i

pub one_entry : (s : Shape) (x : Streams) (before group : List Cell) (a b : RowIndexEntry) → IsWrittenEntry s x before group a → IsWrittenEntry s x before group b → a ≡ b
one_entry s x before group a b h k =
    let p = one_places s x before a.positions b.positions h.positions k.positions in
    let q : a.statistics ≡ b.statistics = h.statistics ∙ sym k.statistics in
    λ i. record { positions = p i; statistics = q i }

pub one_index : (s : Shape) (x : Streams) (cells : List Cell) (bounds a b : List ℕ) → IsWrittenIndex s x cells bounds a → IsWrittenIndex s x cells bounds b → a ≡ b
one_index s x cells bounds a b h k =
    let same = same_entries h.entries k.entries (h.are.counted ∙ sym k.are.counted)
    (λ g d e p q. one_entry s x (before_group cells bounds g) (group_of cells bounds g) d e (h.are.each g d p) (k.are.each g e q)) in
    h.text_is ∙ ap (λ (es : List RowIndexEntry). row_index_text.text (record { entries = es })) same ∙ sym k.text_is

-- ---- right for a reader

pub index_right : (s : Shape) (x : Streams) (cells : List Cell) (bounds text : List ℕ) → RowsFit s cells → length cells < 2 ^ 31 → IsWrittenIndex s x cells bounds text → IsRightIndex s x cells bounds text
index_right s x cells bounds text fit few h = record {
  message = record { entries = h.entries };
  spelled = h.spelled;
  counted = h.are.counted;
  positions = λ g e at. places_read s x (before_group cells bounds g) e.positions (h.are.each g e at).positions;
  statistics = λ g e at. (message_of (stat (kind_of s) (group_of cells bounds g)), (h.are.each g e at).statistics, reads_back (kind_of s) (stat (kind_of s) (group_of cells bounds g)) (group_stat s cells bounds g fit few));
}
