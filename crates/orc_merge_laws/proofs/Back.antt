-- From a grouping that gave a file to the merge at once.
use Rattle.std.proofs.Common.{◌≡◌, ℕ, ◌<◌, List, [], ◌∷◌, ◌++◌, length, Option, refl, sym, ap, ◌∙◌, subst}
use Rattle.std.specs.List.{AllByRecursion}
use Rattle.orc_io.specs.Devices.{appended}
use Rattle.orc_tail.specs.Tails.{IsTail, tail_tests}
use Rattle.orc_tail.specs.Images.{IsWithinLimits}
use Rattle.orc_tail.specs.declared.tail.Tail.{Tail}
use Rattle.orc_merger.specs.Merging.{merged, IsLike, CanMerge, AreOpened, bodies, IsMerge}
use Rattle.orc_merge_laws.specs.Grouping.{Group, Groups, input, merge, one, and, leaves, all_leaves, Gives, AllGive, AreShort, AllShort, Wrote, AllWrote}
use Rattle.orc_merger.specs.Outcomes.{WroteMerge}
use Rattle.orc_merge_laws.proofs.Same.{Same-refl, bare, bare_of_like, like_of_bare, merged_same}
use Rattle.orc_merge_laws.proofs.Opened.{one_opened}
use Rattle.orc_merge_laws.proofs.Standing.{stands}
use Rattle.orc_merge_laws.proofs.Steps.{file_of, IsFellow, Given, AllGiven, given_step, given_input, all_given_one, all_given_and, step_only, same_file, Flat, flat_of}
use Rattle.orc_merge_laws.proofs.Refusing.{alike_from, at_once}
use Rattle.orc_merge_laws.proofs.OneFault.{one_merge}
use Rattle.orc_values.proofs.Lists.{all_append}

-- ---- a group gives one file

mutual
  pub one_given : (g : Group) (out other : List ℕ) → Gives g out → Gives g other → other ≡ out
  one_given (input bytes) out other a b = b ∙ sym a
  one_given (merge gs) out other a b =
      let same : b.0 ≡ a.0 = all_one_given gs a.0 b.0 a.2 b.2 in
      (one_merge a.0 a.1 b.1 out other a.3 (subst (λ (x : List (List ℕ)). IsMerge x b.1 other) same b.3)).1

  pub all_one_given : (gs : Groups) (files others : List (List ℕ)) → AllGive gs files → AllGive gs others → others ≡ files
  all_one_given (one g) files others a b = b.2 ∙ ap (λ (x : List ℕ). x ∷ []) (one_given g a.0 b.0 a.1 b.1) ∙ sym a.2
  all_one_given (and g gs) files others a b =
      b.4 ∙ ap (λ (x : List ℕ). x ∷ b.1) (one_given g a.0 b.0 a.2 b.2) ∙ ap (λ (xs : List (List ℕ)). a.0 ∷ xs) (all_one_given gs a.1 b.1 a.3 b.3)
      ∙ sym a.4

-- ---- what groups gave has inputs of one kind

-- the inputs' tails, and the file that they give
record Backed (first : Tail) (g : Group) : Type 0 where
  head : Tail
  rest : List Tail
  opened : AreOpened (leaves g) (head ∷ rest)
  alike : AllByRecursion (IsLike first) (head ∷ rest)
  given : Given first g (head ∷ rest)

record AllBacked (first : Tail) (gs : Groups) : Type 0 where
  head : Tail
  rest : List Tail
  opened : AreOpened (all_leaves gs) (head ∷ rest)
  alike : AllByRecursion (IsLike first) (head ∷ rest)
  given : AllGiven first gs (head ∷ rest)

opened_append : (xs ys : List (List ℕ)) (us vs : List Tail) → AreOpened xs us → AreOpened ys vs → AreOpened (xs ++ ys) (us ++ vs)
opened_append [] ys [] vs o p = p
opened_append [] ys (u ∷ us) vs o p = absurd o
opened_append (x ∷ xs) ys [] vs o p = absurd o
opened_append (x ∷ xs) ys (u ∷ us) vs o p = (o.0, opened_append xs ys us vs o.1 p)

fellows_of : (first h : Tail) (ts : List Tail) → bare h ≡ bare first → AllByRecursion (IsLike h) ts → AllByRecursion (IsFellow first) ts
fellows_of first h [] e a = tt
fellows_of first h (t ∷ ts) e a = (record { bare = bare_of_like h t a.0 ∙ e; statistics = a.0.statistics }, fellows_of first h ts e a.1)

-- the files that were merged are those that the groups give
can_of : (first : Tail) (gs : Groups) (ts : List Tail) (a : AllGiven first gs ts) (files : List (List ℕ)) (h : Tail) (r : List Tail) → AllGive gs files
    → AreOpened files (h ∷ r) → CanMerge h (h ∷ r) → CanMerge a.head (a.head ∷ a.rest)
can_of first gs ts a files h r gives o can =
    let opened : AreOpened a.files (h ∷ r) = subst (λ (x : List (List ℕ)). AreOpened x (h ∷ r)) (a.only files gives) o in
    let same : h ∷ r ≡ a.head ∷ a.rest = one_opened a.files (h ∷ r) (a.head ∷ a.rest) opened a.opened in
    let first_same : h ≡ a.head = cc in
    let rest_same : r ≡ a.rest = cc in
    subst (λ (x : Tail). CanMerge x (x ∷ a.rest)) first_same (subst (λ (x : List Tail). CanMerge h (h ∷ x)) rest_same can)

-- a file that was merged of others has the first one's kind
bare_of_flat : (files : List (List ℕ)) (tail u : Tail) (out : List ℕ) (l : Flat files tail out) → length out < 18446744073709551616 → IsTail out u
    → bare u ≡ bare l.first
bare_of_flat files tail u out l short is =
    let stood : IsTail out (merged l.first (l.first ∷ l.rest)) = subst (λ (b : List ℕ). IsTail b (merged l.first (l.first ∷ l.rest))) (sym l.out_is)
    (stands files l.first l.rest l.opened l.can (subst (λ (b : List ℕ). length b < 18446744073709551616) l.out_is short)) in
    ap bare ((tail_tests out).one u (merged l.first (l.first ∷ l.rest)) is stood)

mutual
  back_one : (first : Tail) (g : Group) (out : List ℕ) (u : Tail) → Gives g out → AreShort g → IsTail out u → IsFellow first u → Backed first g
  back_one first (input bytes) out u gives s is fellow =
      let opens : IsTail bytes u = subst (λ (b : List ℕ). IsTail b u) gives is in
      let like : IsLike first u = like_of_bare first u fellow.bare fellow.statistics in
      record { head = u; rest = []; opened = (opens, tt); alike = (like, tt); given = given_input first bytes (u ∷ []) (opens, tt) (like, tt) }
  back_one first (merge gs) out u gives s is fellow =
      let l : Flat gives.0 gives.1 out = flat_of gives.0 gives.1 out gives.3 in
      let e : bare l.first ≡ bare first = sym (bare_of_flat gives.0 gives.1 u out l (s.0 out gives) is) ∙ fellow.bare in
      let b : AllBacked first gs = back_all first gs gives.0 (l.first ∷ l.rest) gives.2 s.1 l.opened
      (fellows_of first l.first (l.first ∷ l.rest) e l.can.alike) in
      record {
        head = b.head;
        rest = b.rest;
        opened = b.opened;
        alike = b.alike;
        given = given_step first gs (b.head ∷ b.rest) b.given
            (can_of first gs (b.head ∷ b.rest) b.given gives.0 l.first l.rest gives.2 l.opened l.can) s.0;
      }

  back_all : (first : Tail) (gs : Groups) (files : List (List ℕ)) (us : List Tail) → AllGive gs files → AllShort gs → AreOpened files us
      → AllByRecursion (IsFellow first) us → AllBacked first gs
  back_all first (one g) files [] gives s o f = absurd (subst (λ (x : List (List ℕ)). AreOpened x []) gives.2 o)
  back_all first (one g) files (u ∷ us) gives s o f =
      let opened : AreOpened (gives.0 ∷ []) (u ∷ us) = subst (λ (x : List (List ℕ)). AreOpened x (u ∷ us)) gives.2 o in
      let a : Backed first g = back_one first g gives.0 u gives.1 s opened.0 f.0 in
      record { head = a.head; rest = a.rest; opened = a.opened; alike = a.alike; given = all_given_one first g (a.head ∷ a.rest) a.given }
  back_all first (and g gs) files [] gives s o f = absurd (subst (λ (x : List (List ℕ)). AreOpened x []) gives.4 o)
  back_all first (and g gs) files (u ∷ us) gives s o f =
      let opened : AreOpened (gives.0 ∷ gives.1) (u ∷ us) = subst (λ (x : List (List ℕ)). AreOpened x (u ∷ us)) gives.4 o in
      let a : Backed first g = back_one first g gives.0 u gives.2 s.0 opened.0 f.0 in
      let b : AllBacked first gs = back_all first gs gives.1 us gives.3 s.1 opened.1 f.1 in
      record {
        head = a.head;
        rest = a.rest ++ b.head ∷ b.rest;
        opened = opened_append (leaves g) (all_leaves gs) (a.head ∷ a.rest) (b.head ∷ b.rest) a.opened b.opened;
        alike = all_append (IsLike first) (a.head ∷ a.rest) (b.head ∷ b.rest) a.alike b.alike;
        given = all_given_and first g gs (a.head ∷ a.rest) (b.head ∷ b.rest) a.opened a.given b.given;
      }

-- ---- and can be merged at once

-- which of tails of one kind is the first one makes no difference
pub merged_from : (inputs : List (List ℕ)) (first t : Tail) (ts : List Tail) (out : List ℕ) → AreOpened inputs (t ∷ ts) → CanMerge first (t ∷ ts)
    → out ≡ file_of (merged first (t ∷ ts)) (bodies inputs (t ∷ ts)) → IsMerge inputs (merged t (t ∷ ts)) out
merged_from inputs first t ts out o can w =
    let same : merged first (t ∷ ts) ≡ merged t (t ∷ ts) = sym (merged_same t first (t ∷ ts) (t ∷ ts) (bare_of_like first t can.alike.0) (Same-refl (t ∷ ts))) in
    record {
      tails = t ∷ ts;
      opened = o;
      merged = (
        record {
          alike = alike_from first t can.alike.0 (t ∷ ts) can.alike;
          agree = can.agree;
          limits = subst IsWithinLimits same can.limits;
        },
        refl,
      );
      written = w ∙ ap (λ (x : Tail). file_of x (bodies inputs (t ∷ ts))) same;
    }

pub grouping_back : (gs : Groups) (out : List ℕ) → AllShort gs → Gives (merge gs) out → (tail : Tail) × IsMerge (all_leaves gs) tail out
grouping_back gs out s gives =
    let l : Flat gives.0 gives.1 out = flat_of gives.0 gives.1 out gives.3 in
    let b : AllBacked l.first gs = back_all l.first gs gives.0 (l.first ∷ l.rest) gives.2 s l.opened
    (fellows_of l.first l.first (l.first ∷ l.rest) refl l.can.alike) in
    let last = can_of l.first gs (b.head ∷ b.rest) b.given gives.0 l.first l.rest gives.2 l.opened l.can in (
      merged b.head (b.head ∷ b.rest),
      merged_from (all_leaves gs) l.first b.head b.rest out b.opened (at_once l.first gs (b.head ∷ b.rest) b.given b.alike last)
          (step_only l.first gs (b.head ∷ b.rest) b.given out gives ∙ same_file l.first gs (b.head ∷ b.rest) b.given),
    )

-- ---- what the steps wrote

mutual
  wrote_gives : (g : Group) (out : List ℕ) → Wrote g out → Gives g out
  wrote_gives (input bytes) out w = w
  wrote_gives (merge gs) out w = (w.0, w.1, all_wrote_give gs w.0 w.2, w.3)

  all_wrote_give : (gs : Groups) (files : List (List ℕ)) → AllWrote gs files → AllGive gs files
  all_wrote_give (one g) files w = (w.0, wrote_gives g w.0 w.1, w.2)
  all_wrote_give (and g gs) files w = (w.0, w.1, wrote_gives g w.0 w.2, all_wrote_give gs w.1 w.3, w.4)

-- what is given is what was written, so it is short
mutual
  wrote_short : (g : Group) (out : List ℕ) → Wrote g out → AreShort g
  wrote_short (input bytes) out w = tt
  wrote_short (merge gs) out w = (
    λ other gives. subst (λ (b : List ℕ). length b < 18446744073709551616)
        (sym (one_given (merge gs) out other (w.0, w.1, all_wrote_give gs w.0 w.2, w.3) gives)) w.4,
    all_wrote_short gs w.0 w.2,
  )

  all_wrote_short : (gs : Groups) (files : List (List ℕ)) → AllWrote gs files → AllShort gs
  all_wrote_short (one g) files w = wrote_short g w.0 w.1
  all_wrote_short (and g gs) files w = (wrote_short g w.0 w.2, all_wrote_short gs w.1 w.3)

-- a step that `merge` wrote is a step of a grouping
pub grouping_step : (gs : Groups) (files : List (List ℕ)) (tail : Tail) (old new : Option (List ℕ)) → AllWrote gs files → WroteMerge files tail old new
    → (out : List ℕ) × Wrote (merge gs) out × (new ≡ appended old out)
grouping_step gs files tail old new a w = (w.bytes, (files, tail, a, w.merge, w.few), w.told_is)

pub grouping_wrote : (gs : Groups) (out : List ℕ) → Wrote (merge gs) out → AllShort gs × Gives (merge gs) out
grouping_wrote gs out w = (all_wrote_short gs w.0 w.2, wrote_gives (merge gs) out w)

pub grouping_alike : (gs others : Groups) (out other : List ℕ) → all_leaves others ≡ all_leaves gs → Wrote (merge gs) out → Wrote (merge others) other → other ≡ out
grouping_alike gs others out other same w v =
    let a = grouping_wrote gs out w in
    let b = grouping_wrote others other v in
    let m = grouping_back gs out a.0 a.1 in
    let n = grouping_back others other b.0 b.1 in
    (one_merge (all_leaves gs) m.0 n.0 out other m.1 (subst (λ (x : List (List ℕ)). IsMerge x n.0 other) same n.1)).1
