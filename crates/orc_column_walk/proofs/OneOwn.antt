-- The streams of a column spell at most one list of so many cells by themselves, and so do all columns down a schema.
use Rattle.std.proofs.Common.{◌≡◌, ℕ, zero, suc, ◌+◌, ◌-◌, ◌<◌, pos, List, map, length, replicate, sym, ap, ◌∙◌, subst, arith, inl, inr}
use Rattle.std.proofs.lemmas.Bool.{cases_lt}
use Rattle.orc_rle.specs.declared.sign.Sign.TheVariants.{Unsigned}
use Rattle.orc_rle.proofs.StreamLemmas.{one_stream}
use Rattle.orc_values.specs.Cells.{Cell, values}
use Rattle.orc_values.specs.Shapes.{Shape, scalar, list_of, map_of, struct_of, Fields, no_field, field, width, widths}
use Rattle.orc_column_reader.specs.Numbers.{is_run}
use Rattle.orc_column_reader.specs.Stripe.{Streams, version, Marks}
use Rattle.orc_column_reader.proofs.NumbersLemmas.{laws_of}
use Rattle.orc_column_reader.proofs.OneRows.{One, one_cells, one_marks, one_nullable}
use Rattle.orc_values.specs.Childless.{list_of_size, map_of_size, childless_struct}
use Rattle.orc_column_walk.specs.OwnColumns.{SpellsSizes, IsOwnColumn, AreOwnColumns, AreOwnFields, elements_together, pairs_together}
use Rattle.orc_values.proofs.Lists.{pos_same}

-- ---- one column

one_sizes : (sized : ℕ → Cell) (x : Streams) → One (SpellsSizes sized x)
one_sizes sized x a b p q l =
    let laws = laws_of (version x) Unsigned in
    let e = one_stream (is_run (version x) Unsigned) laws.one laws.some (x.stream 2) (map pos p.0) (map pos q.0) p.1 q.1 in
    p.2 ∙ ap (map sized) (pos_same p.0 q.0 e) ∙ sym q.2

one_structs : One {X = Cell} (λ vs. vs ≡ replicate (length vs) childless_struct)
one_structs a b p q l = p ∙ ap (λ n. replicate n childless_struct) l ∙ sym q

pub one_column : (s : Shape) (x : Streams) (n : ℕ) (a b : List Cell) → IsOwnColumn s x n a → IsOwnColumn s x n b → a ≡ b
one_column (scalar k o) x n a b p q = one_cells (scalar k o) (λ c. x) a b p.spelled q.spelled (p.counted ∙ sym q.counted)
one_column (list_of s o) x n a b p q =
    one_nullable (Marks (x.stream 0)) (SpellsSizes list_of_size x) (one_marks (x.stream 0)) (one_sizes list_of_size x) a b p.spelled q.spelled (p.counted ∙ sym q.counted)
one_column (map_of k v o) x n a b p q =
    one_nullable (Marks (x.stream 0)) (SpellsSizes map_of_size x) (one_marks (x.stream 0)) (one_sizes map_of_size x) a b p.spelled q.spelled (p.counted ∙ sym q.counted)
one_column (struct_of fs o) x n a b p q =
    one_nullable (Marks (x.stream 0)) (λ vs. vs ≡ replicate (length vs) childless_struct) (one_marks (x.stream 0)) one_structs a b p.spelled q.spelled (p.counted ∙ sym q.counted)

-- ---- all columns

mutual
  pub one_own : (s : Shape) (x : ℕ → Streams) (n : ℕ) (a b : ℕ → List Cell) → AreOwnColumns s x a n → AreOwnColumns s x b n → (c : ℕ) → c < width s → a c ≡ b c
  one_own (scalar k o) x n a b p q zero lt = one_column (scalar k o) (x 0) n (a 0) (b 0) p q
  one_own (scalar k o) x n a b p q (suc c) lt = absurd (omega (arith, lt))
  one_own (list_of s o) x n a b p q zero lt = one_column (list_of s o) (x 0) n (a 0) (b 0) p.0 q.0
  one_own (list_of s o) x n a b p q (suc c) lt =
      let e = one_column (list_of s o) (x 0) n (a 0) (b 0) p.0 q.0 in
      let r = subst (AreOwnColumns s (λ d. x (suc d)) (λ d. b (suc d))) (ap elements_together (sym e)) q.1 in
      one_own s (λ d. x (suc d)) (elements_together (a 0)) (λ d. a (suc d)) (λ d. b (suc d)) p.1 r c (omega (arith, lt))
  one_own (map_of k v o) x n a b p q zero lt = one_column (map_of k v o) (x 0) n (a 0) (b 0) p.0 q.0
  one_own (map_of k v o) x n a b p q (suc c) lt =
      let e = one_column (map_of k v o) (x 0) n (a 0) (b 0) p.0 q.0 in
      let many = ap pairs_together (sym e) in
      elim (cases_lt c (width k)) [
        | inl below ↦
            one_own k (λ d. x (suc d)) (pairs_together (a 0)) (λ d. a (suc d)) (λ d. b (suc d)) p.1 (subst (AreOwnColumns k (λ d. x (suc d)) (λ d. b (suc d))) many q.1) c below
        | inr past ↦
            let there : suc (width k + (c - width k)) ≡ suc c = omega (arith, past) in
            let r = subst (AreOwnColumns v (λ d. x (suc (width k + d))) (λ d. b (suc (width k + d)))) many q.2 in
            subst (λ (d : ℕ). a d ≡ b d) there
            (one_own v (λ d. x (suc (width k + d))) (pairs_together (a 0)) (λ d. a (suc (width k + d))) (λ d. b (suc (width k + d))) p.2 r (c - width k) (omega (arith, past, lt)))
      ]
  one_own (struct_of fs o) x n a b p q zero lt = one_column (struct_of fs o) (x 0) n (a 0) (b 0) p.0 q.0
  one_own (struct_of fs o) x n a b p q (suc c) lt =
      let e = one_column (struct_of fs o) (x 0) n (a 0) (b 0) p.0 q.0 in
      let r = subst (AreOwnFields fs (λ d. x (suc d)) (λ d. b (suc d))) (ap (λ cs. length (values cs)) (sym e)) q.1 in
      one_fields fs (λ d. x (suc d)) (length (values (a 0))) (λ d. a (suc d)) (λ d. b (suc d)) p.1 r c (omega (arith, lt))

  pub one_fields : (fs : Fields) (x : ℕ → Streams) (n : ℕ) (a b : ℕ → List Cell) → AreOwnFields fs x a n → AreOwnFields fs x b n → (c : ℕ) → c < widths fs → a c ≡ b c
  one_fields no_field x n a b p q c lt = absurd (omega (arith, lt))
  one_fields (field name s fs) x n a b p q c lt =
      elim (cases_lt c (width s)) [
        | inl below ↦ one_own s x n a b p.0 q.0 c below
        | inr past ↦
            let there : width s + (c - width s) ≡ c = omega (arith, past) in
            subst (λ (d : ℕ). a d ≡ b d) there
            (one_fields fs (λ d. x (width s + d)) n (λ d. a (width s + d)) (λ d. b (width s + d)) p.1 q.1 (c - width s) (omega (arith, past, lt)))
      ]

-- what is said of the schema's columns is said of their cells alone
mutual
  pub own_same : (s : Shape) (x : ℕ → Streams) (n : ℕ) (a b : ℕ → List Cell) → ((c : ℕ) → c < width s → a c ≡ b c) → AreOwnColumns s x a n → AreOwnColumns s x b n
  own_same (scalar k o) x n a b e h = subst (IsOwnColumn (scalar k o) (x 0) n) (e 0 (omega arith)) h
  own_same (list_of s o) x n a b e h =
      let first = e 0 (omega arith) in
      let below = own_same s (λ d. x (suc d)) (elements_together (a 0)) (λ d. a (suc d)) (λ d. b (suc d)) (λ c lt. e (suc c) (omega (arith, lt))) h.1 in
      (subst (IsOwnColumn (list_of s o) (x 0) n) first h.0, subst (AreOwnColumns s (λ d. x (suc d)) (λ d. b (suc d))) (ap elements_together first) below)
  own_same (map_of k v o) x n a b e h =
      let first = e 0 (omega arith) in
      let many = ap pairs_together first in
      let keys = own_same k (λ d. x (suc d)) (pairs_together (a 0)) (λ d. a (suc d)) (λ d. b (suc d)) (λ c lt. e (suc c) (omega (arith, lt))) h.1 in
      let seconds = own_same v (λ d. x (suc (width k + d))) (pairs_together (a 0)) (λ d. a (suc (width k + d))) (λ d. b (suc (width k + d))) (λ c lt. e (suc (width k + c)) (omega (arith, lt))) h.2 in
      (subst (IsOwnColumn (map_of k v o) (x 0) n) first h.0, subst (AreOwnColumns k (λ d. x (suc d)) (λ d. b (suc d))) many keys, subst (AreOwnColumns v (λ d. x (suc (width k + d))) (λ d. b (suc (width k + d)))) many seconds)
  own_same (struct_of fs o) x n a b e h =
      let first = e 0 (omega arith) in
      let below = fields_same fs (λ d. x (suc d)) (length (values (a 0))) (λ d. a (suc d)) (λ d. b (suc d)) (λ c lt. e (suc c) (omega (arith, lt))) h.1 in
      (subst (IsOwnColumn (struct_of fs o) (x 0) n) first h.0, subst (AreOwnFields fs (λ d. x (suc d)) (λ d. b (suc d))) (ap (λ cs. length (values cs)) first) below)

  pub fields_same : (fs : Fields) (x : ℕ → Streams) (n : ℕ) (a b : ℕ → List Cell) → ((c : ℕ) → c < widths fs → a c ≡ b c) → AreOwnFields fs x a n → AreOwnFields fs x b n
  fields_same no_field x n a b e h = tt
  fields_same (field name s fs) x n a b e h = (
    own_same s x n a b (λ c lt. e c (omega (arith, lt))) h.0,
    fields_same fs (λ d. x (width s + d)) n (λ d. a (width s + d)) (λ d. b (width s + d)) (λ c lt. e (width s + c) (omega (arith, lt))) h.1,
  )
