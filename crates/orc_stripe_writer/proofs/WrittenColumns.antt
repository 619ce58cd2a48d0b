-- The columns of a stripe as they are written one after the other, and their statistics.
use Rattle.std.proofs.Common.{◌≡◌, ℕ, zero, suc, ◌+◌, ◌<◌, Bool, true, false, Some, List, [], ◌∷◌, ◌++◌, map, length, slice_get, refl, sym, ap, ◌∙◌, subst, arith, inl, inr, length-append}
use Rattle.std.specs.List.{AllByRecursion}
use Rattle.std.proofs.lemmas.Bool.{cases_lt}
use Rattle.std.proofs.lemmas.List.{map-append}
use Rattle.orc_rle.specs.declared.sign.Rle.{Rle}
use Rattle.orc_rle.specs.declared.sign.Rle.TheVariants.{One, Two}
use Rattle.orc_wire.specs.declared.encoding.Encoding.{Encoding}
use Rattle.orc_wire.specs.declared.stripe_footer.StreamMsg.{StreamMsg}
use Rattle.orc_wire.specs.EncodingKinds.{is_dictionary}
use Rattle.orc_values.specs.declared.kind.Scalar.{Scalar}
use Rattle.orc_values.specs.declared.kind.Scalar.TheVariants as kind
use Rattle.orc_values.specs.Shapes.{Shape, scalar, list_of, map_of, struct_of, shape_at}
use Rattle.orc_values.specs.Cells.{Cell, values}
use Rattle.orc_values.specs.Columns.{cells}
use Rattle.orc_stats.specs.declared.stat.Stat.{Stat}
use Rattle.orc_stripe_writer.specs.declared.body.Body.{Body}
use Rattle.orc_stripe_writer.specs.Dictionary.{is_worth}
use Rattle.orc_stripe_writer.specs.WrittenColumn.{Written, direct, dictionary, HasTextsIf, WritesScalar, WritesValues, IsWrittenColumn}
use Rattle.orc_stripe_writer.specs.WrittenStripe.{column_bytes, column_lines, lines_from, AreWrittenColumns, HasColumns, HaveStats}
use Rattle.orc_stats.specs.ColumnStatistics.{column_stat}
use Rattle.orc_stripe_writer.specs.Adding.{AddsColumn}
use Rattle.orc_stripe_writer.proofs.WrittenDirectory.{from_zero, lines-append, columns-append}

-- ---- what is written can be read back from the footer

-- a dictionary's size is 0 where there is none
abbrev pub IsSized : Encoding → Type 0
IsSized e = is_dictionary e.kind ≡ false → e.dictionary_size ≡ 0

direct_sized : (rle : Rle) → IsSized (direct rle)
direct_sized One h = refl
direct_sized Two h = refl

dictionary_sized : (rle : Rle) (n : ℕ) → IsSized (dictionary rle n)
dictionary_sized One n h = cc
dictionary_sized Two n h = cc

sized : (e f : Encoding) → e ≡ f → IsSized f → IsSized e
sized e f p h = subst IsSized (sym p) h

others_sized : (rle : Rle) (w v : Written) → w ≡ v → v.encoding ≡ direct rle → IsSized w.encoding
others_sized rle w v e k = sized w.encoding (direct rle) (ap (λ (u : Written). u.encoding) e ∙ k) (direct_sized rle)

texts_sized : (t : Bool) (rle : Rle) (w : Written) (entries texts : List (List ℕ)) → HasTextsIf t rle w entries texts → IsSized w.encoding
texts_sized true rle w entries texts h = sized w.encoding (dictionary rle (length entries)) h.encoded (dictionary_sized rle (length entries))
texts_sized false rle w entries texts h = others_sized rle w _ h.others refl

scalar_sized : (rle : Rle) (k : Scalar) (w : Written) (vs : List Cell) → WritesScalar rle w k vs → IsSized w.encoding
scalar_sized rle kind.Boolean w vs h = others_sized One w _ h.2.others refl
scalar_sized rle kind.Byte w vs h = others_sized One w _ h.2.others refl
scalar_sized rle kind.Short w vs h = others_sized rle w _ h.2.others refl
scalar_sized rle kind.Int w vs h = others_sized rle w _ h.2.others refl
scalar_sized rle kind.Long w vs h = others_sized rle w _ h.2.others refl
scalar_sized rle kind.Date w vs h = others_sized rle w _ h.2.others refl
scalar_sized rle kind.String w vs h = texts_sized (is_worth (length h.2.entries) (length h.0)) rle w h.2.entries h.0 h.2.written
scalar_sized rle kind.Binary w vs h = others_sized rle w _ h.2.others refl

values_sized : (rle : Rle) (s : Shape) (w : Written) (vs : List Cell) → WritesValues rle w s vs → IsSized w.encoding
values_sized rle (scalar k o) w vs h = scalar_sized rle k w vs h
values_sized rle (list_of s o) w vs h = others_sized rle w _ h.others refl
values_sized rle (map_of k v o) w vs h = others_sized rle w _ h.others refl
values_sized rle (struct_of fs o) w vs h = others_sized One w _ h refl

columns_sized : (rle : Rle) (s : Shape) (rows : List Cell) (b : ℕ) (ws : List Written) → AreWrittenColumns rle s rows b ws → AllByRecursion IsSized (map (λ (w : Written). w.encoding) ws)
columns_sized rle s rows b [] h = tt
columns_sized rle s rows b (w ∷ ws) h = (values_sized rle (shape_at s b) w (values (cells s b rows)) h.0.written, columns_sized rle s rows (suc b) ws h.1)

pub encodings_sized : (rle : Rle) (s : Shape) (rows : List Cell) (n : ℕ) (streams : List ℕ) (directory : List StreamMsg) (encodings : List Encoding) → HasColumns rle s rows n streams directory encodings
    → AllByRecursion IsSized encodings
encodings_sized rle s rows n streams directory encodings h = subst (AllByRecursion IsSized) (sym h.encoded) (columns_sized rle s rows 0 h.columns h.are)

-- ---- one more column

pub more_are : (rle : Rle) (s : Shape) (rows : List Cell) (b : ℕ) (ws : List Written) (w : Written) (c : ℕ) → AreWrittenColumns rle s rows b ws → b + length ws ≡ c
    → IsWrittenColumn rle (shape_at s c) (cells s c rows) w → AreWrittenColumns rle s rows b (ws ++ w ∷ [])
more_are rle s rows b [] w c h e i = let at : c ≡ b = omega arith in (subst (λ n. IsWrittenColumn rle (shape_at s n) (cells s n rows) w) at i, tt)
more_are rle s rows b (v ∷ vs) w c h e i = (h.0, more_are rle s rows (suc b) vs w c h.1 (omega arith) i)

abbrev pub more_columns : (rle : Rle) (s : Shape) (rows : List Cell) (n : ℕ) (old new : Body) (encodings : List Encoding) (e : Encoding) → HasColumns rle s rows n old.bytes.items old.directory.items encodings
    → AddsColumn rle (shape_at s n) (cells s n rows) n old new e → HasColumns rle s rows (n + 1) new.bytes.items new.directory.items (encodings ++ e ∷ [])
more_columns rle s rows n old new encodings e h a =
    let w = a.written in
    record {
      columns = h.columns ++ w ∷ [];
      counted = length-append h.columns (w ∷ []) ∙ ap (λ k. k + 1) h.counted;
      are = more_are rle s rows 0 h.columns w n h.are (from_zero (length h.columns) ∙ h.counted) a.is;
      joined = a.bytes ∙ ap (λ bytes. bytes ++ column_bytes w) h.joined ∙ sym (columns-append h.columns w);
      listed = a.directory ∙ ap (λ ms. ms ++ column_lines n w) h.listed ∙ ap (λ k. lines_from 0 h.columns ++ column_lines k w) (sym (from_zero n)) ∙ sym (lines-append 0 h.columns w n h.counted);
      encoded = ap (λ es. es ++ e ∷ []) h.encoded ∙ ap (λ x. map (λ (u : Written). u.encoding) h.columns ++ x ∷ []) a.encoded ∙ sym (map-append (λ (u : Written). u.encoding) h.columns (w ∷ []));
    }

-- ---- one more statistic

get_front : {X : Type 0} (xs : List X) (x : X) (c : ℕ) → c < length xs → slice_get (xs ++ x ∷ []) c ≡ slice_get xs c
get_front [] x c h = absurd (omega (arith, h))
get_front (y ∷ xs) x zero h = refl
get_front (y ∷ xs) x (suc c) h = get_front xs x c (omega (arith, h))

get_last : {X : Type 0} (xs : List X) (x : X) (c : ℕ) → length xs ≡ c → slice_get (xs ++ x ∷ []) c ≡ Some x
get_last [] x zero h = refl
get_last [] x (suc c) h = absurd (omega (arith, h))
get_last (y ∷ xs) x zero h = absurd (omega (arith, h))
get_last (y ∷ xs) x (suc c) h = get_last xs x c (omega (arith, h))

pub more_stats : (s : Shape) (rows : List Cell) (n : ℕ) (stats : List Stat) (x : Stat) → HaveStats s rows n stats → x ≡ column_stat s rows n → HaveStats s rows (n + 1) (stats ++ x ∷ [])
more_stats s rows n stats x h e = record {
  counted = length-append stats (x ∷ []) ∙ ap (λ k. k + 1) h.counted;
  each = λ c lt. elim (cases_lt c n) [
    | inl less ↦ get_front stats x c (omega (arith, less, h.counted)) ∙ h.each c less
    | inr ge ↦ let same : n ≡ c = omega (arith, lt, ge) in get_last stats x c (h.counted ∙ same) ∙ ap Some (e ∙ ap (column_stat s rows) same)
  ];
}
