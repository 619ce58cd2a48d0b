-- A column that is refused, or one below it, is a fault of the stripe's columns, and there are no rows then.
use Rattle.std.proofs.Common.{◌≡◌, ℕ, suc, ◌+◌, pos, Bool, true, false, List, [], ◌∷◌, length, map, sum, refl, sym, ap, ◌∙◌, subst, inl, inr, ◌⊎◌, arith, append-nil}
use Rattle.std.proofs.lemmas.List.{length-map}
use Rattle.std.specs.List.{flat_map}
use Rattle.orc_rle.specs.ByteRun.{IsByteRun}
use Rattle.orc_rle.specs.Stream.{IsStream}
use Rattle.orc_rle.specs.declared.sign.Sign.TheVariants.{Unsigned}
use Rattle.orc_values.specs.Cells.{Cell, is_value, parts, pairs_in, values}
use Rattle.orc_values.specs.Shapes.{Shape, scalar, list_of, map_of, struct_of, Fields, no_field, field, width}
use Rattle.orc_column_reader.specs.Faults.{FaultBelow, FaultWithin, FaultDown, RowsFault, lengths_of}
use Rattle.orc_column_reader.specs.Needs.{MarksBegin, ValuesNeeded, ElementsNeeded}
use Rattle.orc_column_reader.specs.Numbers.{is_run}
use Rattle.orc_column_reader.specs.RunFaults.{Needed, IntegersFirst}
use Rattle.orc_column_reader.specs.Runs.{RunsBegin}
use Rattle.orc_column_reader.specs.Stripe.{Streams, version, Marks}
use Rattle.orc_directory.specs.declared.fault.StripeFault.{StripeFault}
use Rattle.orc_column_reader.proofs.BitsLemmas.{held_bits, no_digit}
use Rattle.orc_column_reader.proofs.Fronts.{length-values}
use Rattle.orc_bits.specs.Packed.{digits}
use Rattle.orc_values.specs.Columns.{cells}
use Rattle.orc_values.specs.Childless.{childless, list_of_size, map_of_size}
use Rattle.orc_column_walk.specs.OwnColumns.{IsOwnColumn, AreOwnColumns, AreOwnFields, SpellsSizes, elements_together, pairs_together}
use Rattle.orc_column_walk.specs.OwnFaults.{OwnFault, RefusedBelow, RefusedWithin, RefusedDown}
use Rattle.orc_column_walk.proofs.OneOwn.{one_column}
use Rattle.orc_column_walk.proofs.OwnRows.{own_rows}
use Rattle.orc_column_walk.proofs.RowsOf.{From, from_start, next_from, later_from, own_first, elements_sum, pairs_sum}

-- ---- what is spelled comes first

whole_begins : {A : Type 0} (is_run : List ℕ → List A → Type 0) (bytes : List ℕ) (all : List A) → IsStream is_run bytes all → RunsBegin is_run bytes all
whole_begins is_run bytes all h = (bytes, [], [], sym (append-nil bytes), subst (IsStream is_run bytes) (sym (append-nil all)) h)

pub marks_first : (bytes : List ℕ) (marks : List Bool) → Marks bytes marks → MarksBegin bytes marks
marks_first [] marks h = h
marks_first (b ∷ bs) marks h =
    let k = held_bits h.packed 0 0 marks refl h.held in
    record { packed = h.packed; runs = whole_begins IsByteRun (b ∷ bs) h.packed h.runs; more = k.spare; digits_are = sym (no_digit 0 0 (digits 8 h.packed) refl) ∙ k.digits_are }

needed_all : (all : Bool) (n : ℕ) → Needed all n n
needed_all true n = refl
needed_all false n = omega arith

pub needed_is : (all : Bool) (m n : ℕ) → m ≡ n → Needed all m n
needed_is all m n e = subst (λ (k : ℕ). Needed all m k) e (needed_all all m)

values_needed : (s : Shape) (x : Streams) (all : Bool) (n : ℕ) (own : List Cell) → IsOwnColumn s x n own → ValuesNeeded all n (MarksBegin (x.stream 0)) (length (values own))
values_needed s x all n own h = record {
  marks = map is_value own;
  come_first = marks_first (x.stream 0) (map is_value own) h.spelled.0;
  known = needed_is all (length (map is_value own)) n (length-map own is_value ∙ h.counted);
  counted = length-values own;
}

sizes_needed : (sized : ℕ → Cell) (x : Streams) (all : Bool) (vs : List Cell) (e : ℕ) (h : SpellsSizes sized x vs) → e ≡ sum h.0 → ElementsNeeded all (length vs) (IntegersFirst (lengths_of x)) e
sizes_needed sized x all vs e h is = record {
  lengths = h.0;
  come_first = whole_begins (is_run (version x) Unsigned) (x.stream 2) (map pos h.0) h.1;
  known = needed_is all (length h.0) (length vs) (sym (ap length h.2 ∙ length-map h.0 sized));
  counted = is;
}

-- ---- the fault

fault_from : (s : Shape) (columns : ℕ → Streams) (c : ℕ) (all : Bool) (n : ℕ) (f : StripeFault)
    → ((own : List Cell) → IsOwnColumn s (columns c) n own → RefusedBelow s columns c own all f → FaultBelow s columns c all (length (values own)) f)
    → RefusedDown s columns c all n f → FaultDown s columns c all n f
fault_from s columns c all n f below (inl h) = here h.fault
  where
    here : OwnFault s (columns c) c all n f → FaultDown s columns c all n f
    here (inl m) = inl m
    here (inr (inl w)) = inr (inl w)
    here (inr (inr v)) = inr (inr (v.0, v.1, inl v.2))
fault_from s columns c all n f below (inr h) =
    inr (inr (length (values h.0), values_needed s (columns c) all n h.0 h.1, inr (below h.0 h.1 h.2)))

either : {A B C D : Type 0} → (A → C) → (B → D) → A ⊎ B → C ⊎ D
either f g (inl a) = inl (f a)
either f g (inr b) = inr (g b)

neither : {A B : Type 0} → (A → ⊥) → (B → ⊥) → A ⊎ B → ⊥
neither f g (inl a) = f a
neither f g (inr b) = g b

mutual
  fault_below : (s : Shape) (columns : ℕ → Streams) (c : ℕ) (all : Bool) (n : ℕ) (f : StripeFault) (own : List Cell) → IsOwnColumn s (columns c) n own → RefusedBelow s columns c own all f → FaultBelow s columns c all (length (values own)) f
  fault_below (scalar k o) columns c all n f own is h = absurd h
  fault_below (list_of s o) columns c all n f own is h =
      let sizes = is.spelled.1 in
      let e = elements_together own in
      let many : e ≡ sum sizes.0 = ap (λ vs. length (flat_map parts vs)) sizes.2 ∙ elements_sum sizes.0 in
      (e, sizes_needed list_of_size (columns c) all (values own) e sizes many, fault_from s columns (suc c) all e f (λ a b k. fault_below s columns (suc c) all e f a b k) h)
  fault_below (map_of k v o) columns c all n f own is h =
      let sizes = is.spelled.1 in
      let e = pairs_together own in
      let many : e ≡ sum sizes.0 = ap (λ vs. length (flat_map pairs_in vs)) sizes.2 ∙ pairs_sum sizes.0 in (
        e,
        sizes_needed map_of_size (columns c) all (values own) e sizes many,
        either
            (λ r. fault_from k columns (suc c) all e f (λ a b t. fault_below k columns (suc c) all e f a b t) r)
            (λ r. fault_from v columns (suc c + width k) all e f (λ a b t. fault_below v columns (suc c + width k) all e f a b t) r) h,
      )
  fault_below (struct_of fs o) columns c all n f own is h = fault_within fs columns (suc c) all (length (values own)) f h

  fault_within : (fs : Fields) (columns : ℕ → Streams) (c : ℕ) (all : Bool) (n : ℕ) (f : StripeFault) → RefusedWithin fs columns c all n f → FaultWithin fs columns c all n f
  fault_within no_field columns c all n f h = absurd h
  fault_within (field name s fs) columns c all n f (inl h) = inl (fault_from s columns c all n f (λ a b t. fault_below s columns c all n f a b t) h)
  fault_within (field name s fs) columns c all n f (inr h) = inr (fault_within fs columns (c + width s) all n f h)

fault_down : (s : Shape) (columns : ℕ → Streams) (c : ℕ) (all : Bool) (n : ℕ) (f : StripeFault) → RefusedDown s columns c all n f → FaultDown s columns c all n f
fault_down s columns c all n f h = fault_from s columns c all n f (λ a b t. fault_below s columns c all n f a b t) h

-- ---- no rows

mutual
  none_down : (s : Shape) (x columns : ℕ → Streams) (c : ℕ) (all : Bool) (n : ℕ) (f : StripeFault) (own : ℕ → List Cell) → From x columns c → RefusedDown s columns c all n f → AreOwnColumns s x own n → ⊥
  none_down (scalar k o) x columns c all n f own e (inl r) h = r.none (own 0) (own_first (scalar k o) x columns c n (own 0) e h)
  none_down (scalar k o) x columns c all n f own e (inr r) h = absurd r.2
  none_down (list_of s o) x columns c all n f own e (inl r) h = r.none (own 0) (own_first (list_of s o) x columns c n (own 0) e h.0)
  none_down (list_of s o) x columns c all n f own e (inr r) h =
      let same = one_column (list_of s o) (columns c) n (own 0) r.0 (own_first (list_of s o) x columns c n (own 0) e h.0) r.1 in
      none_down s (λ d. x (suc d)) columns (suc c) all (elements_together r.0) f (λ d. own (suc d)) (next_from x columns c e) r.2 (subst (AreOwnColumns s (λ d. x (suc d)) (λ d. own (suc d))) (ap elements_together same) h.1)
  none_down (map_of k v o) x columns c all n f own e (inl r) h = r.none (own 0) (own_first (map_of k v o) x columns c n (own 0) e h.0)
  none_down (map_of k v o) x columns c all n f own e (inr r) h =
      let same = one_column (map_of k v o) (columns c) n (own 0) r.0 (own_first (map_of k v o) x columns c n (own 0) e h.0) r.1 in
      let many = ap pairs_together same in
      let p = subst (AreOwnColumns k (λ d. x (suc d)) (λ d. own (suc d))) many h.1 in
      let q = subst (AreOwnColumns v (λ d. x (suc (width k + d))) (λ d. own (suc (width k + d)))) many h.2 in
      neither (λ t. none_down k (λ d. x (suc d)) columns (suc c) all (pairs_together r.0) f (λ d. own (suc d)) (next_from x columns c e) t p)
      (λ t. none_down v (λ d. x (suc (width k + d))) columns (suc c + width k) all (pairs_together r.0) f (λ d. own (suc (width k + d))) (later_from (λ d. x (suc d)) columns (suc c) (width k) (next_from x columns c e)) t q) r.2
  none_down (struct_of fs o) x columns c all n f own e (inl r) h = r.none (own 0) (own_first (struct_of fs o) x columns c n (own 0) e h.0)
  none_down (struct_of fs o) x columns c all n f own e (inr r) h =
      let same = one_column (struct_of fs o) (columns c) n (own 0) r.0 (own_first (struct_of fs o) x columns c n (own 0) e h.0) r.1 in
      none_within fs (λ d. x (suc d)) columns (suc c) all (length (values r.0)) f (λ d. own (suc d)) (next_from x columns c e) r.2 (subst (AreOwnFields fs (λ d. x (suc d)) (λ d. own (suc d))) (ap (λ cs. length (values cs)) same) h.1)

  none_within : (fs : Fields) (x columns : ℕ → Streams) (c : ℕ) (all : Bool) (n : ℕ) (f : StripeFault) (own : ℕ → List Cell) → From x columns c → RefusedWithin fs columns c all n f → AreOwnFields fs x own n → ⊥
  none_within no_field x columns c all n f own e r h = absurd r
  none_within (field name s fs) x columns c all n f own e (inl r) h = none_down s x columns c all n f own e r h.0
  none_within (field name s fs) x columns c all n f own e (inr r) h =
      none_within fs (λ d. x (width s + d)) columns (c + width s) all n f (λ d. own (width s + d)) (later_from x columns c (width s) e) r h.1

-- ---- the law

pub refused_rows : (s : Shape) (columns : ℕ → Streams) (all : Bool) (n : ℕ) (f : StripeFault) → RefusedDown s columns 0 all n f → RowsFault s columns n f
refused_rows s columns all n f h = record {
  none = λ rows r. none_down s columns columns 0 all n f (λ c. map childless (cells s c rows)) (from_start columns) h (own_rows s columns n rows r);
  reason = inr (all, fault_down s columns 0 all n f h);
}
