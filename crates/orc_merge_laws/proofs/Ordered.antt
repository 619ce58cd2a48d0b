-- The inputs in any order: the merged file is there as well, with the same statistics of the file.
use Rattle.std.proofs.Common.{◌≡◌, ℕ, zero, suc, List, [], ◌∷◌, ◌++◌, length, take, drop, refl, sym, ap, ◌∙◌, subst, arith, append_assoc}
use Rattle.std.specs.Prelude.{IsPermutation, sum_by}
use Rattle.std.specs.List.{AllByRecursion, concat, flat_map}
use Rattle.std.proofs.lemmas.List.Sorted.{IsPermutation-refl, IsPermutation-trans, IsPermutation-sym, IsPermutation-append, IsPermutation-append_comm}
use Rattle.std.proofs.lemmas.List.Sorted.{All-permutation, Contains-permutation, length_permutation, sum_by-IsPermutation}
use Rattle.std.proofs.lemmas.List.Elements.{All-from_recursion, recursion_from_All}
use Rattle.orc_wire.specs.declared.stripe_info.StripeInfo.{StripeInfo}
use Rattle.orc_values.specs.Shapes.{Shape, width}
use Rattle.orc_stats.specs.declared.stat.Stat.{Stat}
use Rattle.orc_stats.specs.Joining.{joined}
use Rattle.orc_stats.proofs.Shuffled.{joined-shuffled}
use Rattle.orc_tail.specs.Stripes.{stripes_length}
use Rattle.orc_tail.specs.Statistics.{kind_at, column_stats, of_columns, file_stats}
use Rattle.orc_tail.specs.Images.{image, IsWithinLimits}
use Rattle.orc_tail.specs.declared.tail.Tail.{Tail}
use Rattle.orc_merger.specs.Merging.{Agree, all_stripes, all_stats, all_pairs, merged, IsLike, CanMerge, Merged}
use Rattle.orc_merger.specs.Merging.{AreOpened, bodies, IsMerge}
use Rattle.orc_merge_laws.proofs.Reordered.{Reordered, nil, cons, first_two, trans, of_permutation}
use Rattle.orc_merger.proofs.Limits.{Counted, HasRoom, room_of, limits_of}
use Rattle.orc_merge_laws.proofs.Opened.{all_sound, one_opened}
use Rattle.orc_merge_laws.proofs.Refusing.{alike_from}
use Rattle.orc_merge_laws.proofs.Rows.{accepted}

-- ---- what is made of lists in another order

pub flat_permuted : {X A : Type 0} (f : X → List A) {xs ys : List X} → Reordered xs ys → IsPermutation (flat_map f xs) (flat_map f ys)
flat_permuted f nil = IsPermutation-refl []
flat_permuted f (cons x xs ys r) = IsPermutation-append (f x) (f x) (flat_map f xs) (flat_map f ys) (IsPermutation-refl (f x)) (flat_permuted f r)
flat_permuted {X} {A} f (first_two x y xs) =
    subst (λ (l : List A). IsPermutation l (f y ++ (f x ++ flat_map f xs))) (append_assoc (f x) (f y) (flat_map f xs)) (
    subst (λ (l : List A). IsPermutation (f x ++ f y ++ flat_map f xs) l) (append_assoc (f y) (f x) (flat_map f xs)) (
    IsPermutation-append (f x ++ f y) (f y ++ f x) (flat_map f xs) (flat_map f xs) (IsPermutation-append_comm (f x) (f y))
    (IsPermutation-refl (flat_map f xs))))
flat_permuted f (trans xs ys zs r s) = IsPermutation-trans (flat_map f xs) (flat_map f ys) (flat_map f zs) (flat_permuted f r) (flat_permuted f s)

pub flat_map-permutation : {X A : Type 0} (f : X → List A) (xs ys : List X) → IsPermutation xs ys → IsPermutation (flat_map f xs) (flat_map f ys)
flat_map-permutation f xs ys p = flat_permuted f (of_permutation xs ys p)

bytes_permuted : {xs ys : List StripeInfo} → Reordered xs ys → stripes_length xs ≡ stripes_length ys
bytes_permuted nil = refl
bytes_permuted (cons x xs ys r) = omega (arith, bytes_permuted r)
bytes_permuted (first_two x y xs) = omega arith
bytes_permuted (trans xs ys zs r s) = bytes_permuted r ∙ bytes_permuted s

columns_same : (s : Shape) (c n : ℕ) (xs ys : List (List Stat)) → IsPermutation xs ys
    → of_columns (λ d. joined (kind_at s d) (column_stats d xs)) c n ≡ of_columns (λ d. joined (kind_at s d) (column_stats d ys)) c n
columns_same s c zero xs ys p = refl
columns_same s c (suc n) xs ys p =
    let one : joined (kind_at s c) (column_stats c ys) ≡ joined (kind_at s c) (column_stats c xs)
    = joined-shuffled (kind_at s c) (column_stats c xs) (column_stats c ys) (flat_map-permutation (λ (t : List Stat). take 1 (drop c t)) xs ys p) in
    ap (λ (x : Stat). x ∷ of_columns (λ d. joined (kind_at s d) (column_stats d xs)) (suc c) n) (sym one)
    ∙ ap (λ (r : List Stat). joined (kind_at s c) (column_stats c ys) ∷ r) (columns_same s (suc c) n xs ys p)

stats_permuted : (xs ys : List Tail) → IsPermutation xs ys → IsPermutation (all_stats xs) (all_stats ys)
stats_permuted xs ys p = flat_map-permutation (λ (t : Tail). t.stripe_stats) xs ys p

file_stats_same : (s : Shape) (xs ys : List Tail) → IsPermutation xs ys → file_stats s (all_stats xs) ≡ file_stats s (all_stats ys)
file_stats_same s xs ys p = columns_same s 0 (width s) (all_stats xs) (all_stats ys) (stats_permuted xs ys p)

alike_any : (first : Tail) (xs ys : List Tail) → IsPermutation xs ys → AllByRecursion (IsLike first) xs → AllByRecursion (IsLike first) ys
alike_any first xs ys p a = recursion_from_All (IsLike first) ys (All-permutation (IsLike first) xs ys p (All-from_recursion (IsLike first) xs a))

agree_any : (xs ys : List Tail) → IsPermutation xs ys → Agree (all_pairs xs) → Agree (all_pairs ys)
agree_any xs ys p a =
    let back : IsPermutation (all_pairs ys) (all_pairs xs) = IsPermutation-sym (all_pairs xs) (all_pairs ys)
    (flat_map-permutation (λ (t : Tail). t.user) xs ys p) in
    λ q r c d. a q r (Contains-permutation (all_pairs ys) (all_pairs xs) q back c) (Contains-permutation (all_pairs ys) (all_pairs xs) r back d)

room_any : (x y : Tail) (xs ys : List Tail) → IsPermutation xs ys → y.schema ≡ x.schema → HasRoom x xs → HasRoom y ys
room_any x y xs ys p e l =
    let rows : Tail → ℕ = λ t. t.rows in
    let stripes : IsPermutation (all_stripes xs) (all_stripes ys) = flat_map-permutation (λ (t : Tail). t.stripes) xs ys p in
    let n : length (all_stripes ys) ≡ length (all_stripes xs) = length_permutation (all_stripes xs) (all_stripes ys) stripes in
    let b : stripes_length (all_stripes xs) ≡ stripes_length (all_stripes ys) = bytes_permuted (of_permutation (all_stripes xs) (all_stripes ys) stripes) in
    let r : sum_by rows ys ≡ sum_by rows xs = sum_by-IsPermutation rows xs ys p in
    let c : file_stats x.schema (all_stats xs) ≡ file_stats y.schema (all_stats ys) = file_stats_same x.schema xs ys p
    ∙ ap (λ (s : Shape). file_stats s (all_stats ys)) (sym e) in
    let few = l.stripes in let bytes = l.bytes in let all = l.rows in
    record {
      stripes = omega (arith, n, few);
      bytes = omega (arith, b, bytes);
      rows = omega (arith, r, all);
      counts = subst Counted c l.counts;
    }

-- ---- files in another order

opened_any : {xs ys : List (List ℕ)} → Reordered xs ys → (ts : List Tail) → AreOpened xs ts → (us : List Tail) × AreOpened ys us × Reordered ts us
opened_any nil [] o = ([], tt, nil)
opened_any nil (t ∷ ts) o = absurd o
opened_any (cons x xs ys r) [] o = absurd o
opened_any (cons x xs ys r) (t ∷ ts) o = let rest = opened_any r ts o.1 in (t ∷ rest.0, (o.0, rest.1), cons t ts rest.0 rest.2)
opened_any (first_two x y xs) [] o = absurd o
opened_any (first_two x y xs) (t ∷ []) o = absurd o.1
opened_any (first_two x y xs) (t ∷ (u ∷ ts)) o = (u ∷ (t ∷ ts), (o.1.0, (o.0, o.1.1)), first_two t u ts)
opened_any (trans xs ys zs r s) ts o =
    let one = opened_any r ts o in
    let two = opened_any s one.0 one.1 in
    (two.0, two.1, trans ts one.0 two.0 one.2 two.2)

permuted : {X : Type 0} {xs ys : List X} → Reordered xs ys → IsPermutation xs ys
permuted {X} nil = IsPermutation-refl []
permuted {X} (cons x xs ys r) = IsPermutation-append (x ∷ []) (x ∷ []) xs ys (IsPermutation-refl (x ∷ [])) (permuted r)
permuted {X} (first_two x y xs) = IsPermutation-append (x ∷ (y ∷ [])) (y ∷ (x ∷ [])) xs xs (IsPermutation-append_comm (x ∷ []) (y ∷ []))
    (IsPermutation-refl xs)
permuted {X} (trans xs ys zs r s) = IsPermutation-trans xs ys zs (permuted r) (permuted s)

can_any : (x : Tail) (xs us : List Tail) → Reordered (x ∷ xs) us → CanMerge x (x ∷ xs) → AllByRecursion IsWithinLimits us → (tail : Tail) × Merged us tail
can_any x xs [] r c sound = absurd (omega (arith, length_permutation (x ∷ xs) [] (permuted r)))
can_any x xs (y ∷ ys) r c sound =
    let p : IsPermutation (x ∷ xs) (y ∷ ys) = permuted r in
    let like : AllByRecursion (IsLike x) (y ∷ ys) = alike_any x (x ∷ xs) (y ∷ ys) p c.alike in
    let like_y : AllByRecursion (IsLike y) (y ∷ ys) = alike_from x y like.0 (y ∷ ys) like in (
      merged y (y ∷ ys),
      (
        record {
          alike = like_y;
          agree = agree_any (x ∷ xs) (y ∷ ys) p c.agree;
          limits = limits_of y (y ∷ ys) sound.0 sound like_y (room_any x y (x ∷ xs) (y ∷ ys) p like.0.schema (room_of x (x ∷ xs) c.limits));
        },
        refl,
      ),
    )

-- a merged file is there in any order
pub any_order : (xs ys : List (List ℕ)) (tail : Tail) (out : List ℕ) → IsPermutation xs ys → IsMerge xs tail out
    → (other : Tail) × (bytes : List ℕ) × IsMerge ys other bytes
any_order xs ys tail out p m =
    let l = accepted xs tail out m in
    let o = opened_any (of_permutation xs ys p) (l.first ∷ l.rest) l.opened in
    let t = can_any l.first l.rest o.0 o.2 l.can (all_sound ys o.0 o.1) in
    (t.0, image (concat (bodies ys o.0)) t.0, record { tails = o.0; opened = o.1; merged = t.1; written = refl })

same_stats : (xs ys : List Tail) (t u : Tail) → IsPermutation xs ys → Merged xs t → Merged ys u → t.file_stats ≡ u.file_stats
same_stats [] ys t u p m n = absurd m
same_stats (x ∷ xs) [] t u p m n = absurd n
same_stats (x ∷ xs) (y ∷ ys) t u p m n =
    let like : AllByRecursion (IsLike x) (y ∷ ys) = alike_any x (x ∷ xs) (y ∷ ys) p m.0.alike in
    ap (λ (t : Tail). t.file_stats) m.1 ∙ file_stats_same x.schema (x ∷ xs) (y ∷ ys) p
    ∙ ap (λ (s : Shape). file_stats s (all_stats (y ∷ ys))) (sym like.0.schema) ∙ sym (ap (λ (t : Tail). t.file_stats) n.1)

-- with the same statistics of the file
pub order_same : (xs ys : List (List ℕ)) (tail other : Tail) (out bytes : List ℕ) → IsPermutation xs ys → IsMerge xs tail out → IsMerge ys other bytes
    → tail.file_stats ≡ other.file_stats
order_same xs ys tail other out bytes p m n =
    let o = opened_any (of_permutation xs ys p) m.tails m.opened in
    let same : n.tails ≡ o.0 = one_opened ys n.tails o.0 n.opened o.1 in
    same_stats m.tails o.0 tail other (permuted o.2) m.merged (subst (λ (ts : List Tail). Merged ts other) same n.merged)
