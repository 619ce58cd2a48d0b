-- Lists of tails that merge to the same.
use Rattle.std.proofs.Common.{◌≡◌, ℕ, ◌+◌, inl, inr, List, [], ◌∷◌, ◌++◌, Option, refl, sym, ap, ◌∙◌, subst, zero-add}
use Rattle.std.specs.Prelude.{Contains, sum_by}
use Rattle.std.specs.List.{AllByRecursion}
use Rattle.std.proofs.lemmas.List.{map-append, append-nil}
use Rattle.std.proofs.lemmas.List.Concat.{flat_map-append}
use Rattle.std.proofs.lemmas.List.Sums.{sum_by-append}
use Rattle.std.proofs.lemmas.List.Elements.{Contains-append_left, Contains-append_right, Contains-append_cases}
use Rattle.orc_wire.specs.declared.stripe_info.StripeInfo.{StripeInfo}
use Rattle.orc_wire.specs.declared.footer.UserMetadataItem.{UserMetadataItem}
use Rattle.orc_stats.specs.declared.stat.Stat.{Stat}
use Rattle.orc_tail.specs.declared.tail.Tail.{Tail}
use Rattle.orc_values.specs.Shapes.{Shape}
use Rattle.orc_tail.specs.Images.{IsWithinLimits}
use Rattle.orc_tail.specs.Statistics.{file_stats}
use Rattle.orc_merger.specs.Merging.{placed, distinct, Agree, HasStatistics, all_stripes, all_stats, all_pairs, merged, IsLike, CanMerge}
use Rattle.orc_merge_laws.proofs.Placing.{unplaced, unplaced-placed, placed_same}
use Rattle.orc_merger.proofs.Limits.{room_of, limits_of}
use Rattle.orc_merge_laws.proofs.Limits.{room_both}
use Rattle.orc_merger.proofs.Names.{in_distinct, into_distinct}
use Rattle.orc_merge_laws.proofs.Names.{distinct_together, distinct-distinct}

-- ---- what a merged tail takes of its inputs, and nothing else of them

pub record Same (us ts : List Tail) : Type 0 where
  pub stripes : unplaced (all_stripes us) ≡ unplaced (all_stripes ts)
  pub stats : all_stats us ≡ all_stats ts
  pub rows : sum_by (λ t. t.rows) us ≡ sum_by (λ t. t.rows) ts
  pub names : distinct (all_pairs us) ≡ distinct (all_pairs ts)
  pub into : (p : UserMetadataItem) → Contains (all_pairs us) p → Contains (all_pairs ts) p
  pub back : (p : UserMetadataItem) → Contains (all_pairs ts) p → Contains (all_pairs us) p

pub Same-refl : (ts : List Tail) → Same ts ts
Same-refl ts = record { stripes = refl; stats = refl; rows = refl; names = refl; into = λ p h. h; back = λ p h. h }

either : (a b c d : List UserMetadataItem) (p : UserMetadataItem) → (Contains a p → Contains c p) → (Contains b p → Contains d p) → Contains (a ++ b) p
    → Contains (c ++ d) p
either a b c d p f g h = elim (Contains-append_cases a b p h) [ inl x ↦ Contains-append_left c d p (f x) | inr x ↦ Contains-append_right c d p (g x) ]

pairs-append : (xs ys : List Tail) → all_pairs (xs ++ ys) ≡ all_pairs xs ++ all_pairs ys
pairs-append xs ys = flat_map-append (λ (t : Tail). t.user) xs ys

pub stripes-append : (xs ys : List Tail) → all_stripes (xs ++ ys) ≡ all_stripes xs ++ all_stripes ys
stripes-append xs ys = flat_map-append (λ (t : Tail). t.stripes) xs ys

pub stats-append : (xs ys : List Tail) → all_stats (xs ++ ys) ≡ all_stats xs ++ all_stats ys
stats-append xs ys = flat_map-append (λ (t : Tail). t.stripe_stats) xs ys

unplaced-append : (xs ys : List Tail) → unplaced (all_stripes (xs ++ ys)) ≡ unplaced (all_stripes xs) ++ unplaced (all_stripes ys)
unplaced-append xs ys = ap unplaced (stripes-append xs ys) ∙ map-append (λ (s : StripeInfo). record s { offset = 0 }) (all_stripes xs) (all_stripes ys)

two : {X : Type 0} (a b c d : List X) → a ≡ c → b ≡ d → a ++ b ≡ c ++ d
two a b c d e f = rw (e, f) refl

pub Same-append : (us vs ts ws : List Tail) → Same us ts → Same vs ws → Same (us ++ vs) (ts ++ ws)
Same-append us vs ts ws s t = record {
  stripes = unplaced-append us vs ∙ two _ _ _ _ s.stripes t.stripes ∙ sym (unplaced-append ts ws);
  stats = stats-append us vs ∙ two _ _ _ _ s.stats t.stats ∙ sym (stats-append ts ws);
  rows = sum_by-append (λ (t : Tail). t.rows) us vs ∙ ap (λ n. n + sum_by (λ (t : Tail). t.rows) vs) s.rows
      ∙ ap (λ n. sum_by (λ (t : Tail). t.rows) ts + n) t.rows ∙ sym (sum_by-append (λ (t : Tail). t.rows) ts ws);
  names = ap distinct (pairs-append us vs) ∙ distinct_together _ _ _ _ s.names t.names ∙ ap distinct (sym (pairs-append ts ws));
  into = λ p h. subst (λ (x : List UserMetadataItem). Contains x p) (sym (pairs-append ts ws))
      (either _ _ _ _ p (s.into p) (t.into p) (subst (λ (x : List UserMetadataItem). Contains x p) (pairs-append us vs) h));
  back = λ p h. subst (λ (x : List UserMetadataItem). Contains x p) (sym (pairs-append us vs))
      (either _ _ _ _ p (s.back p) (t.back p) (subst (λ (x : List UserMetadataItem). Contains x p) (pairs-append ts ws) h));
}

pub Same-trans : (us vs ws : List Tail) → Same us vs → Same vs ws → Same us ws
Same-trans us vs ws s t = record {
  stripes = s.stripes ∙ t.stripes;
  stats = s.stats ∙ t.stats;
  rows = s.rows ∙ t.rows;
  names = s.names ∙ t.names;
  into = λ p h. t.into p (s.into p h);
  back = λ p h. s.back p (t.back p h);
}

-- a merged tail stands for its inputs
pub Same-merged : (first : Tail) (ts : List Tail) → Agree (all_pairs ts) → Same (merged first ts ∷ []) ts
Same-merged first ts agree = record {
  stripes = ap unplaced (append-nil (placed 3 (all_stripes ts))) ∙ unplaced-placed 3 (all_stripes ts);
  stats = append-nil (all_stats ts);
  rows = zero-add (sum_by (λ (t : Tail). t.rows) ts);
  names = ap distinct (append-nil (distinct (all_pairs ts))) ∙ distinct-distinct (all_pairs ts);
  into = λ p h. in_distinct (all_pairs ts) p (subst (λ (x : List UserMetadataItem). Contains x p) (append-nil (distinct (all_pairs ts))) h);
  back = λ p h. subst (λ (x : List UserMetadataItem). Contains x p) (sym (append-nil (distinct (all_pairs ts)))) (into_distinct (all_pairs ts) p agree h);
}

pub Agree-same : (us ts : List Tail) → Same us ts → Agree (all_pairs ts) → Agree (all_pairs us)
Agree-same us ts s a = λ p q c d. a p q (s.into p c) (s.into q d)

pub Agree-back : (us ts : List Tail) → Same us ts → Agree (all_pairs us) → Agree (all_pairs ts)
Agree-back us ts s a = λ p q c d. a p q (s.back p c) (s.back q d)

-- ---- what it takes of the first alone

abbrev pub bare : Tail → Tail
bare t = record t { stripes = []; stripe_stats = []; file_stats = []; user = []; rows = 0 }

abbrev filled : Tail → List StripeInfo → List (List Stat) → List UserMetadataItem → ℕ → Tail
filled b ss stats user n = record b { stripes = ss; stripe_stats = stats; file_stats = file_stats b.schema stats; user = user; rows = n }

pub merged_same : (u t : Tail) (us ts : List Tail) → bare u ≡ bare t → Same us ts → merged u us ≡ merged t ts
merged_same u t us ts e s =
    let rows : List Tail → ℕ = λ xs. sum_by (λ (t : Tail). t.rows) xs in
    ap (λ (b : Tail). filled b (placed 3 (all_stripes us)) (all_stats us) (distinct (all_pairs us)) (rows us)) e
    ∙ ap (λ (x : List StripeInfo). filled (bare t) x (all_stats us) (distinct (all_pairs us)) (rows us)) (placed_same 3 _ _ s.stripes)
    ∙ ap (λ (x : List (List Stat)). filled (bare t) (placed 3 (all_stripes ts)) x (distinct (all_pairs us)) (rows us)) s.stats
    ∙ ap (λ (x : List UserMetadataItem). filled (bare t) (placed 3 (all_stripes ts)) (all_stats ts) x (rows us)) s.names
    ∙ ap (λ (x : ℕ). filled (bare t) (placed 3 (all_stripes ts)) (all_stats ts) (distinct (all_pairs ts)) x) s.rows

abbrev plain : List ℕ → Option ℕ → Option ℕ → Shape → ℕ → List ℕ → Tail
plain v w x s n o = record {
  version = v;
  writer = w;
  writer_version = x;
  schema = s;
  stripes = [];
  stripe_stats = [];
  file_stats = [];
  user = [];
  stride =
      n;
  rows = 0;
  other = o;
}

pub bare_of_like : (first t : Tail) → IsLike first t → bare t ≡ bare first
bare_of_like first t l =
    ap (λ (v : List ℕ). plain v t.writer t.writer_version t.schema t.stride t.other) l.version.version
    ∙ ap (λ (w : Option ℕ). plain first.version w t.writer_version t.schema t.stride t.other) l.version.writer
    ∙ ap (λ (w : Option ℕ). plain first.version first.writer w t.schema t.stride t.other) l.version.writer_version
    ∙ ap (λ (s : Shape). plain first.version first.writer first.writer_version s t.stride t.other) l.schema
    ∙ ap (λ (n : ℕ). plain first.version first.writer first.writer_version first.schema n t.other) l.stride
    ∙ ap (λ (o : List ℕ). plain first.version first.writer first.writer_version first.schema first.stride o) l.other

pub like_of_bare : (first t : Tail) → bare t ≡ bare first → HasStatistics t → IsLike first t
like_of_bare first t e h = record {
  schema = ap (λ (t : Tail). t.schema) e;
  version = record {
    version = ap (λ (t : Tail). t.version) e;
    writer = ap (λ (t : Tail). t.writer) e;
    writer_version = ap
        (λ (t : Tail). t.writer_version) e;
  };
  stride = ap (λ (t : Tail). t.stride) e;
  other = ap (λ (t : Tail). t.other) e;
  statistics = h;
}

-- ---- fewer inputs pass no limit that more do not pass

pub limits_both : (first : Tail) (xs ys : List Tail) → IsWithinLimits first → AllByRecursion IsWithinLimits xs → AllByRecursion IsWithinLimits ys
    → AllByRecursion (IsLike first) xs → AllByRecursion (IsLike first) ys → IsWithinLimits (merged first (xs ++ ys))
    → IsWithinLimits (merged first xs) × IsWithinLimits (merged first ys)
limits_both first xs ys f a b l m h =
    let room = room_both first xs ys (room_of first (xs ++ ys) h) in
    (limits_of first xs f a l room.0, limits_of first ys f b m room.1)

alike_both : (first : Tail) (xs ys : List Tail) → AllByRecursion (IsLike first) (xs ++ ys)
    → AllByRecursion (IsLike first) xs × AllByRecursion (IsLike first) ys
alike_both first [] ys all = (tt, all)
alike_both first (x ∷ xs) ys all = let rest = alike_both first xs ys all.1 in ((all.0, rest.0), rest.1)

-- tails that are within the limits, as those of files are
pub record AreSound (first : Tail) (ts : List Tail) : Type 0 where
  pub kind : IsWithinLimits first
  pub each : AllByRecursion IsWithinLimits ts

pub can_left : (first : Tail) (xs ys : List Tail) → AreSound first xs → AreSound first ys → CanMerge first (xs ++ ys) → CanMerge first xs
can_left first xs ys a b c = let like = alike_both first xs ys c.alike in record {
  alike = like.0;
  agree = λ p q d e. c.agree p q (subst (λ (x : List UserMetadataItem). Contains x p) (sym (pairs-append xs ys)) (Contains-append_left _ _ p d))
      (subst (λ (x : List UserMetadataItem). Contains x q) (sym (pairs-append xs ys)) (Contains-append_left _ _ q e));
  limits = (limits_both first xs ys a.kind a.each b.each like.0 like.1 c.limits).0;
}

pub can_right : (first : Tail) (xs ys : List Tail) → AreSound first xs → AreSound first ys → CanMerge first (xs ++ ys) → CanMerge first ys
can_right first xs ys a b c = let like = alike_both first xs ys c.alike in record {
  alike = like.1;
  agree = λ p q d e. c.agree p q (subst (λ (x : List UserMetadataItem). Contains x p) (sym (pairs-append xs ys)) (Contains-append_right _ _ p d))
      (subst (λ (x : List UserMetadataItem). Contains x q) (sym (pairs-append xs ys)) (Contains-append_right _ _ q e));
  limits = (limits_both first xs ys a.kind a.each b.each like.0 like.1 c.limits).1;
}
