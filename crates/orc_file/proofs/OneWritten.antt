-- Of rows one file is written.
use Rattle.std.proofs.Common.{◌≡◌, ℕ, suc, ◌+◌, ◌<◌, List, [], ◌∷◌, ◌++◌, length, Some, refl, sym, ap, ◌∙◌, subst, arith, length-append}
use Rattle.std.specs.Prelude.{slice_get}
use Rattle.std.proofs.lemmas.List.{append-nil}
use Rattle.orc_row_batch.specs.declared.options.Options.{Options}
use Rattle.orc_wire.specs.declared.stripe_info.StripeInfo.{StripeInfo}
use Rattle.orc_values.specs.Shapes.{Shape, width}
use Rattle.orc_values.specs.Cells.{Cell}
use Rattle.orc_stats.specs.declared.stat.Stat.{Stat}
use Rattle.orc_stripe_writer.specs.WrittenStripe.{IsWrittenStripe, HaveStats}
use Rattle.orc_stats.specs.ColumnStatistics.{column_stat}
use Rattle.orc_stripe_writer.proofs.StripeLaws.{one_stripe}
use Rattle.orc_tail.specs.Layout.{magic}
use Rattle.orc_tail.specs.Images.{tail_text}
use Rattle.orc_file_writer.specs.Writing.{WrittenStripe, IsWrittenAt, AreWrittenStripes, written_bytes, rows_of, infos_of, stats_of, AreFilled, written_tail, IsWrittenFile}
use Rattle.orc_tail.specs.declared.tail.Tail.{Tail}
use Rattle.orc_file_writer.proofs.StatTests.{some_or}
use Rattle.orc_file_writer.proofs.WriterLemmas.{cut_at}

-- ---- a stripe

same_list : (f : ℕ → Stat) (xs ys : List Stat) → length xs ≡ length ys → ((i : ℕ) → i < length xs → slice_get xs i ≡ Some (f i)) → ((i : ℕ) → i < length ys → slice_get ys i ≡ Some (f i)) → xs ≡ ys
same_list f [] [] e p q = refl
same_list f [] (y ∷ ys) e p q = absurd (omega (arith, e))
same_list f (x ∷ xs) [] e p q = absurd (omega (arith, e))
same_list f (x ∷ xs) (y ∷ ys) e p q =
    let here : x ≡ y = ap (some_or x) (p 0 (omega arith)) ∙ sym (ap (some_or y) (q 0 (omega arith))) in
    let rest : xs ≡ ys = same_list (λ i. f (suc i)) xs ys (omega (arith, e)) (λ i l. p (suc i) (omega (arith, l))) (λ i l. q (suc i) (omega (arith, l))) in
    rw (here, rest) refl

same_stats : (s : Shape) (rows : List Cell) (xs ys : List Stat) → HaveStats s rows (width s) xs → HaveStats s rows (width s) ys → xs ≡ ys
same_stats s rows xs ys p q =
    let m = p.counted in let n = q.counted in
    same_list (column_stat s rows) xs ys (omega (arith, m, n)) (λ i l. p.each i (omega (arith, l, m))) (λ i l. q.each i (omega (arith, l, n)))

one_file_stripe : (options : Options) (s : Shape) (at : ℕ) (c d : WrittenStripe) → c.rows ≡ d.rows → IsWrittenAt options s at c → IsWrittenAt options s at d → c ≡ d
one_file_stripe options s at c d rows p q =
    let text = one_stripe options.rle options.stride s d.rows (record c.info { offset = 0 }) (record d.info { offset = 0 }) c.bytes d.bytes
    (subst (λ (r : List Cell). IsWrittenStripe options.rle options.stride s r (record c.info { offset = 0 }) c.bytes) rows p.written) q.written in
    let stats : c.stats ≡ d.stats = same_stats s d.rows c.stats d.stats (subst (λ (r : List Cell). HaveStats s r (width s) c.stats) rows p.counted) q.counted in
    let info : c.info ≡ d.info =
    ap (λ (o : ℕ). record c.info { offset = o }) (p.placed ∙ sym q.placed) ∙ ap (λ (i : StripeInfo). record i { offset = d.info.offset }) text.0 in
    λ i. record { info = info i; bytes = text.1 i; rows = rows i; stats = stats i }

-- ---- stripes

filled_some : (n : ℕ) (c : WrittenStripe) (cs : List WrittenStripe) → AreFilled n (c ∷ cs) → 0 < n
filled_some n c [] h = let a = h.0 in let b = h.1 in omega (arith, a, b)
filled_some n c (d ∷ ds) h = filled_some n d ds h.1

first_some : (n : ℕ) (c : WrittenStripe) (cs : List WrittenStripe) → AreFilled n (c ∷ cs) → 0 < length c.rows
first_some n c [] h = h.0
first_some n c (d ∷ ds) h = let e = h.0 in let l = filled_some n d ds h.1 in omega (arith, e, l)

-- one stripe has no rows of which others have more
too_few : (n : ℕ) (c d e : WrittenStripe) (es : List WrittenStripe) → AreFilled n (c ∷ []) → AreFilled n (d ∷ e ∷ es) → c.rows ++ [] ≡ d.rows ++ rows_of (e ∷ es) → ⊥
too_few n c d e es p q same =
    let most = p.1 in let full = q.0 in let some = first_some n e es q.1 in
    let l = sym (length-append c.rows []) ∙ ap length same ∙ length-append d.rows (rows_of (e ∷ es)) in
    let m = length-append e.rows (rows_of es) in
    omega (arith, most, full, some, l, m)

one_list : (options : Options) (s : Shape) (at : ℕ) (cs ds : List WrittenStripe) → AreWrittenStripes options s at cs → AreWrittenStripes options s at ds → AreFilled options.stripe_rows cs → AreFilled options.stripe_rows ds → rows_of cs ≡ rows_of ds → cs ≡ ds
one_list options s at [] [] p q f g e = refl
one_list options s at [] (d ∷ ds) p q f g e =
    let some = first_some options.stripe_rows d ds g in let l = ap length e ∙ length-append d.rows (rows_of ds) in absurd (omega (arith, some, l))
one_list options s at (c ∷ cs) [] p q f g e =
    let some = first_some options.stripe_rows c cs f in let l = sym (length-append c.rows (rows_of cs)) ∙ ap length e in absurd (omega (arith, some, l))
one_list options s at (c ∷ []) (d ∷ []) p q f g e =
    let rows : c.rows ≡ d.rows = sym (append-nil c.rows) ∙ e ∙ append-nil d.rows in
    ap (λ (x : WrittenStripe). x ∷ []) (one_file_stripe options s at c d rows p.0 q.0)
one_list options s at (c ∷ []) (d ∷ d2 ∷ ds) p q f g e = absurd (too_few options.stripe_rows c d d2 ds f g e)
one_list options s at (c ∷ c2 ∷ cs) (d ∷ []) p q f g e = absurd (too_few options.stripe_rows d c c2 cs g f (sym e))
one_list options s at (c ∷ c2 ∷ cs) (d ∷ d2 ∷ ds) p q f g e =
    let k = f.0 in let l = g.0 in
    let cut = cut_at c.rows d.rows (rows_of (c2 ∷ cs)) (rows_of (d2 ∷ ds)) (omega (arith, k, l)) e in
    let here : c ≡ d = one_file_stripe options s at c d cut.0 p.0 q.0 in
    let later = subst (λ (m : ℕ). AreWrittenStripes options s (at + m) (c2 ∷ cs)) (ap (λ (x : WrittenStripe). length x.bytes) here) p.1 in
    let rest = one_list options s (at + length d.bytes) (c2 ∷ cs) (d2 ∷ ds) later q.1 f.1 g.1 cut.1 in
    ap (λ (x : WrittenStripe). x ∷ c2 ∷ cs) here ∙ ap (λ (xs : List WrittenStripe). d ∷ xs) rest

-- ---- files

pub one_written : (options : Options) (s : Shape) (t u : Tail) (a b : List ℕ) (rows : List Cell) → IsWrittenFile options s t a rows → IsWrittenFile options s u b rows → (t ≡ u) × (a ≡ b)
one_written options s t u a b rows p q =
    let same = one_list options s 3 p.stripes_written q.stripes_written p.are q.are p.filled q.filled (sym p.rows_are ∙ q.rows_are) in
    let tails : t ≡ u = p.tail_is ∙ ap (λ (cs : List WrittenStripe). written_tail options s (infos_of cs) (stats_of cs)) same ∙ sym q.tail_is in (
      tails,
      p.bytes_are
          ∙ ap (λ (cs : List WrittenStripe). (magic ++ written_bytes cs) ++ tail_text t) same
          ∙ ap (λ (x : Tail). (magic ++ written_bytes q.stripes_written) ++ tail_text x) tails
          ∙ sym q.bytes_are,
    )
