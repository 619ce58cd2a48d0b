-- Readers that are made from the footer, in the columns' order.
use Rattle.std.proofs.Common.{◌≡◌, ℕ, suc, ◌+◌, Bool, true, false, List, [], ◌∷◌, ◌++◌, map, length, take, drop, sym, ap, ◌∙◌, subst, arith, append_assoc, append-nil, length-append}
use Rattle.std.proofs.Math.Path.{fun_ext}
use Rattle.std.proofs.Math.Seq.{take-append_seam, drop-append_seam}
use Rattle.orc_values.specs.Cells.{Cell, values}
use Rattle.orc_values.specs.Shapes.{Shape, scalar, list_of, map_of, struct_of, Fields, no_field, field, width, widths}
use Rattle.orc_values.specs.declared.kind.Scalar.{Scalar}
use Rattle.orc_values.specs.declared.kind.Scalar.TheVariants as kind
use Rattle.orc_wire.specs.declared.stripe_footer.StripeFooter.{StripeFooter}
use Rattle.orc_column_reader.specs.declared.column.ColumnReader.{ColumnReader}
use Rattle.orc_column_reader.specs.Stripe.{Streams, columns_of, columns_from, has_dictionary, SpellsScalar, SpellsTexts, SpellsCells, SpellsFields}
use Rattle.orc_column_reader.specs.Spellings.{concatenated}
use Rattle.orc_column_reader.specs.Starting.{OwnStart, TreeStart, FieldsStart, LacksEntries, ScalarLacks, HasNoDictionary, IsOf, AreOf, AreFieldReaders, PutsReaders, PutsFields}

-- ---- the columns from one on

from_first : (f : StripeFooter) (b : List ℕ) (n : ℕ) → columns_from f b n 0 ≡ columns_of f b n
from_first f b n = let e : n + 0 ≡ n = omega arith in ap (columns_of f b) e

from_more : (f : StripeFooter) (b : List ℕ) (n w m : ℕ) → m ≡ n + w → (λ c. columns_from f b n (w + c)) ≡ columns_from f b m
from_more f b n w m is = fun_ext (λ c. let e : n + (w + c) ≡ m + c = omega (arith, is) in ap (columns_of f b) e)

-- those behind a column and w columns more
from_behind : (f : StripeFooter) (b : List ℕ) (n w m : ℕ) → m ≡ n + 1 + w → (λ c. columns_from f b n (suc (w + c))) ≡ columns_from f b m
from_behind f b n w m is = fun_ext (λ c. let e : n + suc (w + c) ≡ m + c = omega (arith, is) in ap (columns_of f b) e)

from_next : (f : StripeFooter) (b : List ℕ) (n m : ℕ) → m ≡ n + 1 → (λ c. columns_from f b n (suc c)) ≡ columns_from f b m
from_next f b n m is = fun_ext (λ c. let e : n + suc c ≡ m + c = omega (arith, is) in ap (columns_of f b) e)

own_first : (f : StripeFooter) (b : List ℕ) (n : ℕ) (s : Shape) (own : ColumnReader) → OwnStart s (columns_of f b n) own → OwnStart s (columns_from f b n 0) own
own_first f b n s own h = subst (λ x. OwnStart s x own) (sym (from_first f b n)) h

pub pushed : (old : List ColumnReader) (own : ColumnReader) (mid : List ColumnReader) → mid ≡ old ++ own ∷ [] → length mid ≡ length old + 1
pushed old own mid e = ap length e ∙ length-append old (own ∷ [])

behind_own : (old : List ColumnReader) (own : ColumnReader) (mid more new : List ColumnReader) → mid ≡ old ++ own ∷ [] → new ≡ mid ++ more → new ≡ old ++ own ∷ more
behind_own old own mid more new e n = n ∙ ap (λ t. t ++ more) e ∙ append_assoc old (own ∷ []) more

-- ---- what the readers are of

are_scalar : (s : Shape) (k : Scalar) (o : List ℕ) (columns : ℕ → Streams) (n : ℕ) (own : ColumnReader) → s ≡ scalar k o → IsOf s columns n own → AreOf s columns n (own ∷ [])
are_scalar s k o columns n own is i =
    let j : IsOf (scalar k o) columns n own = subst (λ t. IsOf t columns n own) is i in
    subst (λ t. AreOf t columns n (own ∷ [])) (sym is) (j, tt)

are_list : (s e : Shape) (o : List ℕ) (columns : ℕ → Streams) (n m : ℕ) (own : ColumnReader) (more : List ColumnReader) → s ≡ list_of e o → m ≡ n + 1 → IsOf s columns n own → AreOf e columns m more → AreOf s columns n (own ∷ more)
are_list s e o columns n m own more is next i a =
    let j : IsOf (list_of e o) columns n own = subst (λ t. IsOf t columns n own) is i in
    let g : m ≡ suc n = omega (arith, next) in
    subst (λ t. AreOf t columns n (own ∷ more)) (sym is) (j, subst (λ k. AreOf e columns k more) g a)

are_map : (s k v : Shape) (o : List ℕ) (columns : ℕ → Streams) (n m l : ℕ) (own : ColumnReader) (a b : List ColumnReader) → s ≡ map_of k v o → m ≡ n + 1 → l ≡ m + width k → length a ≡ width k
    → IsOf s columns n own → AreOf k columns m a → AreOf v columns l b → AreOf s columns n (own ∷ (a ++ b))
are_map s k v o columns n m l own a b is next behind counted i first second =
    let j : IsOf (map_of k v o) columns n own = subst (λ t. IsOf t columns n own) is i in
    let g : m ≡ suc n = omega (arith, next) in
    let h : l ≡ suc n + width k = omega (arith, next, behind) in
    let t : take (width k) (a ++ b) ≡ a = ap (λ m. take m (a ++ b)) (sym counted) ∙ take-append_seam a b in
    let d : drop (width k) (a ++ b) ≡ b = ap (λ m. drop m (a ++ b)) (sym counted) ∙ drop-append_seam a b in
    subst (λ z. AreOf z columns n (own ∷ (a ++ b))) (sym is) (
      j,
      (
        subst (λ rs. AreOf k columns (suc n) rs) (sym t) (subst (λ m. AreOf k columns m a) g first),
        subst (λ rs. AreOf v columns (suc n + width k) rs) (sym d) (subst (λ m. AreOf v columns m b) h second),
      ),
    )

are_struct : (s : Shape) (fs : Fields) (o : List ℕ) (columns : ℕ → Streams) (n m : ℕ) (own : ColumnReader) (more : List ColumnReader) → s ≡ struct_of fs o → m ≡ n + 1 → IsOf s columns n own → AreFieldReaders fs columns m more
    → AreOf s columns n (own ∷ more)
are_struct s fs o columns n m own more is next i a =
    let j : IsOf (struct_of fs o) columns n own = subst (λ t. IsOf t columns n own) is i in
    let g : m ≡ suc n = omega (arith, next) in
    subst (λ t. AreOf t columns n (own ∷ more)) (sym is) (j, subst (λ k. AreFieldReaders fs columns k more) g a)

are_none : (fs : Fields) (columns : ℕ → Streams) (n : ℕ) (more : List ColumnReader) → fs ≡ no_field → AreFieldReaders fs columns n more
are_none fs columns n more is = subst (λ t. AreFieldReaders t columns n more) (sym is) tt

are_more : (all : Fields) (name : List ℕ) (s : Shape) (fs : Fields) (columns : ℕ → Streams) (n m : ℕ) (a b : List ColumnReader) → all ≡ field name s fs → m ≡ n + width s → length a ≡ width s
    → AreOf s columns n a → AreFieldReaders fs columns m b → AreFieldReaders all columns n (a ++ b)
are_more all name s fs columns n m a b is next counted first others =
    let t : take (width s) (a ++ b) ≡ a = ap (λ k. take k (a ++ b)) (sym counted) ∙ take-append_seam a b in
    let d : drop (width s) (a ++ b) ≡ b = ap (λ k. drop k (a ++ b)) (sym counted) ∙ drop-append_seam a b in
    subst (λ z. AreFieldReaders z columns n (a ++ b)) (sym is)
    (subst (λ rs. AreOf s columns n rs) (sym t) first, subst (λ rs. AreFieldReaders fs columns (n + width s) rs) (sym d) (subst (λ k. AreFieldReaders fs columns k b) next others))

pub put_scalar : (f : StripeFooter) (b : List ℕ) (s : Shape) (k : Scalar) (o : List ℕ) (old new : List ColumnReader) (own : ColumnReader) → s ≡ scalar k o → new ≡ old ++ own ∷ [] → OwnStart s (columns_of f b (length old)) own → IsOf s (columns_of f b) (length old) own → PutsReaders f b s old new
put_scalar f b s k o old new own is e h i = record {
  more = own ∷ [];
  parts = e;
  counted = sym (ap width is);
  start = rw is (own_first f b (length old) (scalar k o) own (subst (λ t. OwnStart t (columns_of f b (length old)) own) is h));
  origins = are_scalar s k o (columns_of f b) (length old) own is i;
}

pub put_list : (f : StripeFooter) (b : List ℕ) (s e : Shape) (o : List ℕ) (old mid new : List ColumnReader) (own : ColumnReader) → s ≡ list_of e o → mid ≡ old ++ own ∷ [] → OwnStart s (columns_of f b (length old)) own → IsOf s (columns_of f b) (length old) own → PutsReaders f b e mid new → PutsReaders f b s old new
put_list f b s e o old mid new own is m h i p = record {
  more = own ∷ p.more;
  parts = behind_own old own mid p.more new m p.parts;
  counted = let n : width s ≡ 1 + width e = ap width is in omega (arith, p.counted, n);
  start = rw is (
    own_first f b (length old) (list_of e o) own (subst (λ t. OwnStart t (columns_of f b (length old)) own) is h),
    subst (λ x. TreeStart e x p.more) (sym (from_next f b (length old) (length mid) (pushed old own mid m))) p.start,
  );
  origins = are_list s e o (columns_of f b) (length old) (length mid) own p.more is (pushed old own mid m) i p.origins;
}

-- how many readers there are behind those of a column
pub counted_behind : (f : StripeFooter) (b : List ℕ) (s : Shape) (old mid : List ColumnReader) → PutsReaders f b s old mid → length mid ≡ length old + width s
counted_behind f b s old mid p = ap length p.parts ∙ length-append old p.more ∙ ap (λ k. length old + k) p.counted

pub put_map : (f : StripeFooter) (b : List ℕ) (s k v : Shape) (o : List ℕ) (old mid keys new : List ColumnReader) (own : ColumnReader) → s ≡ map_of k v o → mid ≡ old ++ own ∷ [] → OwnStart s (columns_of f b (length old)) own → IsOf s (columns_of f b) (length old) own
    → PutsReaders f b k mid keys → PutsReaders f b v keys new → PutsReaders f b s old new
put_map f b s k v o old mid keys new own is m h i p q =
    let t : take (width k) (p.more ++ q.more) ≡ p.more = ap (λ n. take n (p.more ++ q.more)) (sym p.counted) ∙ take-append_seam p.more q.more in
    let d : drop (width k) (p.more ++ q.more) ≡ q.more = ap (λ n. drop n (p.more ++ q.more)) (sym p.counted) ∙ drop-append_seam p.more q.more in
    let l : length keys ≡ length mid + width k = counted_behind f b k mid keys p in
    let one : length mid ≡ length old + 1 = pushed old own mid m in
    let all : length keys ≡ length old + 1 + width k = omega (arith, l, one) in
    record {
      more = own ∷ (p.more ++ q.more);
      parts = behind_own old own mid (p.more ++ q.more) new m (q.parts ∙ ap (λ t. t ++ q.more) p.parts ∙ append_assoc mid p.more q.more);
      counted = let n : width s ≡ 1 + (width k + width v) = ap width is in omega (arith, length-append p.more q.more, p.counted, q.counted, n);
      start = rw is (
        own_first f b (length old) (map_of k v o) own (subst (λ t. OwnStart t (columns_of f b (length old)) own) is h),
        subst (λ rs. TreeStart k (λ c. columns_from f b (length old) (suc c)) rs) (sym t)
            (subst (λ x. TreeStart k x p.more) (sym (from_next f b (length old) (length mid) one)) p.start),
        subst (λ rs. TreeStart v (λ c. columns_from f b (length old) (suc (width k + c))) rs) (sym d)
            (subst (λ x. TreeStart v x q.more) (sym (from_behind f b (length old) (width k) (length keys) all)) q.start),
      );
      origins = are_map s k v o (columns_of f b) (length old) (length mid) (length keys) own p.more q.more is one l p.counted i p.origins q.origins;
    }

pub put_struct : (f : StripeFooter) (b : List ℕ) (s : Shape) (fs : Fields) (o : List ℕ) (old mid new : List ColumnReader) (own : ColumnReader) → s ≡ struct_of fs o → mid ≡ old ++ own ∷ [] → OwnStart s (columns_of f b (length old)) own → IsOf s (columns_of f b) (length old) own → PutsFields f b fs mid new
    → PutsReaders f b s old new
put_struct f b s fs o old mid new own is m h i p = record {
  more = own ∷ p.more;
  parts = behind_own old own mid p.more new m p.parts;
  counted = let n : width s ≡ 1 + widths fs = ap width is in omega (arith, p.counted, n);
  start = rw is (
    own_first f b (length old) (struct_of fs o) own (subst (λ t. OwnStart t (columns_of f b (length old)) own) is h),
    subst (λ x. FieldsStart fs x p.more) (sym (from_next f b (length old) (length mid) (pushed old own mid m))) p.start,
  );
  origins = are_struct s fs o (columns_of f b) (length old) (length mid) own p.more is (pushed old own mid m) i p.origins;
}

pub put_none : (f : StripeFooter) (b : List ℕ) (fs : Fields) (old : List ColumnReader) → fs ≡ no_field → PutsFields f b fs old old
put_none f b fs old is = record { more = []; parts = sym (append-nil old); counted = sym (ap widths is); start = rw is tt; origins = are_none fs (columns_of f b) (length old) [] is }

pub put_more : (f : StripeFooter) (b : List ℕ) (all : Fields) (name : List ℕ) (s : Shape) (fs : Fields) (old mid new : List ColumnReader) → all ≡ field name s fs → PutsReaders f b s old mid → PutsFields f b fs mid new → PutsFields f b all old new
put_more f b all name s fs old mid new is p q =
    let t : take (width s) (p.more ++ q.more) ≡ p.more = ap (λ k. take k (p.more ++ q.more)) (sym p.counted) ∙ take-append_seam p.more q.more in
    let d : drop (width s) (p.more ++ q.more) ≡ q.more = ap (λ k. drop k (p.more ++ q.more)) (sym p.counted) ∙ drop-append_seam p.more q.more in
    let l : length mid ≡ length old + width s = counted_behind f b s old mid p in
    record {
      more = p.more ++ q.more;
      parts = q.parts ∙ ap (λ t. t ++ q.more) p.parts ∙ append_assoc old p.more q.more;
      counted = length-append p.more q.more ∙ ap (λ k. k + length q.more) p.counted ∙ ap (λ k. width s + k) q.counted ∙ sym (ap widths is);
      start = rw is (
        subst (λ rs. TreeStart s (columns_from f b (length old)) rs) (sym t) p.start,
        subst (λ rs. FieldsStart fs (λ c. columns_from f b (length old) (width s + c)) rs) (sym d)
            (subst (λ x. FieldsStart fs x q.more) (sym (from_more f b (length old) (width s) (length mid) l)) q.start),
      );
      origins = are_more all name s fs (columns_of f b) (length old) (length mid) p.more q.more is l p.counted p.origins q.origins;
    }

-- ---- no readers, no cells

lacks_texts : (d : Bool) (x : Streams) (vs : List Cell) → LacksEntries d x → SpellsTexts x d vs → ⊥
lacks_texts true x vs h t = h t.0 t.1
lacks_texts false x vs h t = h

lacks_scalar : (k : Scalar) (x : Streams) (vs : List Cell) → ScalarLacks k x → SpellsScalar k x vs → ⊥
lacks_scalar kind.Boolean x vs h t = h
lacks_scalar kind.Byte x vs h t = h
lacks_scalar kind.Short x vs h t = h
lacks_scalar kind.Int x vs h t = h
lacks_scalar kind.Long x vs h t = h
lacks_scalar kind.Date x vs h t = h
lacks_scalar kind.Binary x vs h t = h
lacks_scalar kind.String x vs h t = lacks_texts (has_dictionary x) x vs h t

lacks_own : (s : Shape) (cols : ℕ → Streams) (cells : List Cell) → HasNoDictionary s (cols 0) → SpellsCells s cols cells → ⊥
lacks_own (scalar k o) cols cells h t = lacks_scalar k (cols 0) (values cells) h t.1
lacks_own (list_of s o) cols cells h t = h
lacks_own (map_of k v o) cols cells h t = h
lacks_own (struct_of fs o) cols cells h t = h

pub no_own : (f : StripeFooter) (b : List ℕ) (n : ℕ) (s : Shape) (cells : List Cell) → HasNoDictionary s (columns_of f b n) → SpellsCells s (columns_from f b n) cells → ⊥
no_own f b n s cells h t = lacks_own s (columns_from f b n) cells (subst (λ x. HasNoDictionary s x) (sym (from_first f b n)) h) t

pub no_element : (f : StripeFooter) (b : List ℕ) (s e : Shape) (o : List ℕ) (old mid : List ColumnReader) (own : ColumnReader) (cells : List Cell) → s ≡ list_of e o → mid ≡ old ++ own ∷ []
    → ((inner : List Cell) → SpellsCells e (columns_from f b (length mid)) inner → ⊥) → SpellsCells s (columns_from f b (length old)) cells → ⊥
no_element f b s e o old mid own cells is m none t =
    let k = (subst (λ z. SpellsCells z (columns_from f b (length old)) cells) is t).1 in
    none (concatenated k.0) (subst (λ x. SpellsCells e x (concatenated k.0)) (from_next f b (length old) (length mid) (pushed old own mid m)) k.2.1.1)

pub no_key : (f : StripeFooter) (b : List ℕ) (s k v : Shape) (o : List ℕ) (old mid : List ColumnReader) (own : ColumnReader) (cells : List Cell) → s ≡ map_of k v o → mid ≡ old ++ own ∷ []
    → ((inner : List Cell) → SpellsCells k (columns_from f b (length mid)) inner → ⊥) → SpellsCells s (columns_from f b (length old)) cells → ⊥
no_key f b s k v o old mid own cells is m none t =
    let r = (subst (λ z. SpellsCells z (columns_from f b (length old)) cells) is t).1 in
    let keys : List Cell = map (λ (p : Cell × Cell). p.0) (concatenated r.0) in
    none keys (subst (λ x. SpellsCells k x keys) (from_next f b (length old) (length mid) (pushed old own mid m)) r.2.1.1.0)

pub no_value : (f : StripeFooter) (b : List ℕ) (s k v : Shape) (o : List ℕ) (old mid keys : List ColumnReader) (own : ColumnReader) (cells : List Cell) → s ≡ map_of k v o → mid ≡ old ++ own ∷ [] → PutsReaders f b k mid keys
    → ((inner : List Cell) → SpellsCells v (columns_from f b (length keys)) inner → ⊥) → SpellsCells s (columns_from f b (length old)) cells → ⊥
no_value f b s k v o old mid keys own cells is m p none t =
    let r = (subst (λ z. SpellsCells z (columns_from f b (length old)) cells) is t).1 in
    let seconds : List Cell = map (λ (p : Cell × Cell). p.1) (concatenated r.0) in
    let all : length keys ≡ length old + 1 + width k = omega (arith, counted_behind f b k mid keys p, pushed old own mid m) in
    none seconds (subst (λ x. SpellsCells v x seconds) (from_behind f b (length old) (width k) (length keys) all) r.2.1.1.1)

pub no_struct : (f : StripeFooter) (b : List ℕ) (s : Shape) (fs : Fields) (o : List ℕ) (old mid : List ColumnReader) (own : ColumnReader) (cells : List Cell) → s ≡ struct_of fs o → mid ≡ old ++ own ∷ []
    → ((inner : List (List Cell)) → SpellsFields fs (columns_from f b (length mid)) inner → ⊥) → SpellsCells s (columns_from f b (length old)) cells → ⊥
no_struct f b s fs o old mid own cells is m none t =
    let k = (subst (λ z. SpellsCells z (columns_from f b (length old)) cells) is t).1 in
    none k.0 (subst (λ x. SpellsFields fs x k.0) (from_next f b (length old) (length mid) (pushed old own mid m)) k.2)

pub no_first : (f : StripeFooter) (b : List ℕ) (all : Fields) (name : List ℕ) (s : Shape) (fs : Fields) (n : ℕ) (structs : List (List Cell)) → all ≡ field name s fs
    → ((inner : List Cell) → SpellsCells s (columns_from f b n) inner → ⊥) → SpellsFields all (columns_from f b n) structs → ⊥
no_first f b all name s fs n structs is none t =
    let k = subst (λ z. SpellsFields z (columns_from f b n) structs) is t in
    none k.heads k.first_spelled

pub no_others : (f : StripeFooter) (b : List ℕ) (all : Fields) (name : List ℕ) (s : Shape) (fs : Fields) (old mid : List ColumnReader) (structs : List (List Cell)) → all ≡ field name s fs → PutsReaders f b s old mid
    → ((inner : List (List Cell)) → SpellsFields fs (columns_from f b (length mid)) inner → ⊥) → SpellsFields all (columns_from f b (length old)) structs → ⊥
no_others f b all name s fs old mid structs is p none t =
    let k = subst (λ z. SpellsFields z (columns_from f b (length old)) structs) is t in
    let l : length mid ≡ length old + width s = counted_behind f b s old mid p in
    none k.tails (subst (λ x. SpellsFields fs x k.tails) (from_more f b (length old) (width s) (length mid) l) k.others_spelled)

-- ---- the readers of a whole stripe

from_start : (f : StripeFooter) (b : List ℕ) → columns_from f b 0 ≡ columns_of f b
from_start f b = fun_ext (λ c. let e : 0 + c ≡ c = omega arith in ap (columns_of f b) e)

pub all_put : (f : StripeFooter) (b : List ℕ) (s : Shape) (old new : List ColumnReader) → old ≡ [] → PutsReaders f b s old new → TreeStart s (columns_of f b) new
all_put f b s old new none p =
    let e : p.more ≡ new = sym (p.parts ∙ ap (λ t. t ++ p.more) none) in
    let h = subst (λ rs. TreeStart s (columns_from f b (length old)) rs) e p.start in
    let k = subst (λ t. TreeStart s (columns_from f b (length t)) new) none h in
    subst (λ x. TreeStart s x new) (from_start f b) k

pub all_counted : (f : StripeFooter) (b : List ℕ) (s : Shape) (old new : List ColumnReader) → old ≡ [] → PutsReaders f b s old new → length new ≡ width s
all_counted f b s old new none p = ap length (p.parts ∙ ap (λ t. t ++ p.more) none) ∙ p.counted

pub none_put : (f : StripeFooter) (b : List ℕ) (s : Shape) (old : List ColumnReader) (cells : List Cell) → old ≡ [] → SpellsCells s (columns_of f b) cells → SpellsCells s (columns_from f b (length old)) cells
none_put f b s old cells none h =
    let k = subst (λ x. SpellsCells s x cells) (sym (from_start f b)) h in
    subst (λ t. SpellsCells s (columns_from f b (length t)) cells) (sym none) k

pub all_origins : (f : StripeFooter) (b : List ℕ) (s : Shape) (old new : List ColumnReader) → old ≡ [] → PutsReaders f b s old new → AreOf s (columns_of f b) 0 new
all_origins f b s old new none p =
    let e : p.more ≡ new = sym (p.parts ∙ ap (λ t. t ++ p.more) none) in
    let h = subst (λ rs. AreOf s (columns_of f b) (length old) rs) e p.origins in
    subst (λ t. AreOf s (columns_of f b) (length t) new) none h
