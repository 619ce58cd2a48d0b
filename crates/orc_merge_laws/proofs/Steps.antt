-- Every step of a grouping gives a file that stands for its inputs.
use Rattle.std.proofs.Common.{◌≡◌, ℕ, ◌<◌, List, [], ◌∷◌, ◌++◌, length, refl, sym, ap, ◌∙◌, subst}
use Rattle.std.specs.List.{concat, AllByRecursion}
use Rattle.std.proofs.lemmas.List.{append-nil}
use Rattle.orc_tail.specs.Tails.{IsTail}
use Rattle.orc_tail.specs.Images.{image, IsWithinLimits}
use Rattle.orc_tail.specs.declared.tail.Tail.{Tail}
use Rattle.orc_merger.specs.Merging.{HasStatistics, merged, IsLike, CanMerge, Merged, stripes_of, AreOpened, bodies, IsMerge}
use Rattle.orc_merge_laws.specs.Grouping.{Group, Groups, input, merge, one, and, leaves, all_leaves, Gives, AllGive, AreShort, AllShort}
use Rattle.orc_merge_laws.proofs.Same.{Same, Same-refl, Same-append, Same-trans, Same-merged, Agree-same, AreSound, bare, merged_same, bare_of_like}
use Rattle.orc_merge_laws.proofs.Same.{like_of_bare, can_left, can_right}
use Rattle.orc_merger.proofs.Limits.{statistics_of_merged}
use Rattle.orc_merge_laws.proofs.Opened.{opened_split, bodies-append, one_opened, all_sound}
use Rattle.orc_merge_laws.proofs.Standing.{stands, stripes_of_image}

-- a file with this tail behind these stripes
abbrev pub file_of : Tail → List (List ℕ) → List ℕ
file_of tail stripes = image (concat stripes) tail

-- of one kind with the first, and with statistics
pub record IsFellow (first t : Tail) : Type 0 where
  pub bare : bare t ≡ bare first
  pub statistics : HasStatistics t

-- the file that a group gives, and its tail
pub record Given (first : Tail) (g : Group) (ts : List Tail) : Type 0 where
  pub out : List ℕ
  pub tail : Tail
  pub gives : Gives g out
  pub only : (other : List ℕ) → Gives g other → other ≡ out
  pub opens : IsTail out tail
  pub same : Same (tail ∷ []) ts
  pub stripes : stripes_of out tail ≡ bodies (leaves g) ts
  pub fellow : IsFellow first tail

-- those that groups give
pub record AllGiven (first : Tail) (gs : Groups) (ts : List Tail) : Type 0 where
  pub files : List (List ℕ)
  pub head : Tail
  pub rest : List Tail
  pub gives : AllGive gs files
  pub only : (others : List (List ℕ)) → AllGive gs others → others ≡ files
  pub opened : AreOpened files (head ∷ rest)
  pub same : Same (head ∷ rest) ts
  pub stripes : bodies files (head ∷ rest) ≡ bodies (all_leaves gs) ts
  pub fellows : AllByRecursion (IsFellow first) (head ∷ rest)

pub alike_of_fellows : (first u : Tail) (us : List Tail) → bare u ≡ bare first → AllByRecursion (IsFellow first) us → AllByRecursion (IsLike u) us
alike_of_fellows first u [] e a = tt
alike_of_fellows first u (t ∷ us) e a = (like_of_bare u t (a.0.bare ∙ sym e) a.0.statistics, alike_of_fellows first u us e a.1)

-- what can be merged at once can be merged in this step
pub can_step : (first : Tail) (gs : Groups) (ts : List Tail) (a : AllGiven first gs ts) → CanMerge first ts → CanMerge a.head (a.head ∷ a.rest)
can_step first gs ts a c = record {
  alike = alike_of_fellows first a.head (a.head ∷ a.rest) a.fellows.0.bare a.fellows;
  agree = Agree-same (a.head ∷ a.rest) ts a.same c.agree;
  limits = subst IsWithinLimits (sym (merged_same a.head first (a.head ∷ a.rest) ts a.fellows.0.bare a.same)) c.limits;
}

abbrev tail_of_step : {first : Tail} {gs : Groups} {ts : List Tail} → AllGiven first gs ts → Tail
tail_of_step a = merged a.head (a.head ∷ a.rest)

abbrev file_of_step : {first : Tail} {gs : Groups} {ts : List Tail} → AllGiven first gs ts → List ℕ
file_of_step a = file_of (merged a.head (a.head ∷ a.rest)) (bodies a.files (a.head ∷ a.rest))

pub step_gives : (first : Tail) (gs : Groups) (ts : List Tail) (a : AllGiven first gs ts) → CanMerge a.head (a.head ∷ a.rest)
    → Gives (merge gs) (file_of_step a)
step_gives first gs ts a can =
    (a.files, tail_of_step a, a.gives, record { tails = a.head ∷ a.rest; opened = a.opened; merged = (can, refl); written = refl })

only_merged : (u t : Tail) (us : List Tail) → Merged (u ∷ us) t → t ≡ merged u (u ∷ us)
only_merged u t us m = m.1

pub step_only : (first : Tail) (gs : Groups) (ts : List Tail) (a : AllGiven first gs ts) (other : List ℕ) → Gives (merge gs) other → other ≡ file_of_step a
step_only first gs ts a other g =
    let files : g.0 ≡ a.files = a.only g.0 g.2 in
    let m = g.3 in
    let opened : AreOpened a.files m.tails = subst (λ (x : List (List ℕ)). AreOpened x m.tails) files m.opened in
    let tails : m.tails ≡ a.head ∷ a.rest = one_opened a.files m.tails (a.head ∷ a.rest) opened a.opened in
    let tail : g.1 ≡ merged a.head (a.head ∷ a.rest) = only_merged a.head g.1 a.rest (subst (λ (x : List Tail). Merged x g.1) tails m.merged) in
    m.written ∙ ap (λ (t : Tail). file_of t (bodies g.0 m.tails)) tail ∙ ap (λ (x : List (List ℕ)). file_of (tail_of_step a) (bodies x m.tails)) files
    ∙ ap (λ (x : List Tail). file_of (tail_of_step a) (bodies a.files x)) tails

pub given_step : (first : Tail) (gs : Groups) (ts : List Tail) (a : AllGiven first gs ts) → CanMerge a.head (a.head ∷ a.rest)
    → ((out : List ℕ) → Gives (merge gs) out → length out < 18446744073709551616) → Given first (merge gs) ts
given_step first gs ts a can short =
    let gives : Gives (merge gs) (file_of_step a) = step_gives first gs ts a can in record {
      out = file_of_step a;
      tail = tail_of_step a;
      gives = gives;
      only = step_only first gs ts a;
      opens = stands a.files a.head a.rest a.opened can (short (file_of_step a) gives);
      same = Same-trans _ _ _ (Same-merged a.head (a.head ∷ a.rest) can.agree) a.same;
      stripes = stripes_of_image a.files a.head a.rest a.opened ∙ a.stripes;
      fellow = record { bare = a.fellows.0.bare; statistics = statistics_of_merged a.head (a.head ∷ a.rest) can.alike };
    }

pub given_input : (first : Tail) (bytes : List ℕ) (ts : List Tail) → AreOpened (bytes ∷ []) ts → AllByRecursion (IsLike first) ts
    → Given first (input bytes) ts
given_input first bytes [] o c = absurd o
given_input first bytes (t ∷ (u ∷ us)) o c = absurd o.1
given_input first bytes (t ∷ []) o c = record {
  out = bytes;
  tail = t;
  gives = refl;
  only = λ other e. e;
  opens = o.0;
  same = Same-refl (t ∷ []);
  stripes = sym (append-nil (stripes_of bytes t));
  fellow = record { bare = bare_of_like first t c.0; statistics = c.0.statistics };
}

pub all_given_one : (first : Tail) (g : Group) (ts : List Tail) → Given first g ts → AllGiven first (one g) ts
all_given_one first g ts a = record {
  files = a.out ∷ [];
  head = a.tail;
  rest = [];
  gives = (a.out, a.gives, refl);
  only = λ others h. h.2 ∙ ap (λ (x : List ℕ). x ∷ []) (a.only h.0 h.1);
  opened = (a.opens, tt);
  same = a.same;
  stripes = append-nil (stripes_of a.out a.tail) ∙ a.stripes;
  fellows = (a.fellow, tt);
}

pub all_given_and : (first : Tail) (g : Group) (gs : Groups) (us bs : List Tail) → AreOpened (leaves g) us → Given first g us → AllGiven first gs bs
    → AllGiven first (and g gs) (us ++ bs)
all_given_and first g gs us bs o a b = record {
  files = a.out ∷ b.files;
  head = a.tail;
  rest = b.head ∷ b.rest;
  gives = (a.out, b.files, a.gives, b.gives, refl);
  only = λ others h. h.4 ∙ ap (λ (x : List ℕ). x ∷ h.1) (a.only h.0 h.2) ∙ ap (λ (xs : List (List ℕ)). a.out ∷ xs) (b.only h.1 h.3);
  opened = (a.opens, b.opened);
  same = Same-append (a.tail ∷ []) (b.head ∷ b.rest) us bs a.same b.same;
  stripes = ap (λ (x : List (List ℕ)). x ++ bodies b.files (b.head ∷ b.rest)) a.stripes ∙ ap (λ (x : List (List ℕ)). bodies (leaves g) us ++ x) b.stripes
      ∙ sym (bodies-append (leaves g) (all_leaves gs) us bs o);
  fellows = (a.fellow, b.fellows);
}

pub sound_of : (first : Tail) (xs : List (List ℕ)) (ts : List Tail) → IsWithinLimits first → AreOpened xs ts → AreSound first ts
sound_of first xs ts f o = record { kind = f; each = all_sound xs ts o }

mutual
  pub given : (first : Tail) (g : Group) (ts : List Tail) → IsWithinLimits first → AreOpened (leaves g) ts → CanMerge first ts → AreShort g → Given first g ts
  given first (input bytes) ts f o c s = given_input first bytes ts o c.alike
  given first (merge gs) ts f o c s =
      let a = all_given first gs ts f o c s.1 in given_step first gs ts a (can_step first gs ts a c) s.0

  pub all_given : (first : Tail) (gs : Groups) (ts : List Tail) → IsWithinLimits first → AreOpened (all_leaves gs) ts → CanMerge first ts → AllShort gs
      → AllGiven first gs ts
  all_given first (one g) ts f o c s = all_given_one first g ts (given first g ts f o c s)
  all_given first (and g gs) ts f o c s =
      let cut = opened_split (leaves g) (all_leaves gs) ts o in
      let can : CanMerge first (cut.0 ++ cut.1) = subst (CanMerge first) cut.4 c in
      let here = sound_of first (leaves g) cut.0 f cut.2 in
      let rest = sound_of first (all_leaves gs) cut.1 f cut.3 in
      subst (AllGiven first (and g gs)) (sym cut.4) (
      all_given_and first g gs cut.0 cut.1 cut.2 (given first g cut.0 f cut.2 (can_left first cut.0 cut.1 here rest can) s.0)
      (all_given first gs cut.1 f cut.3 (can_right first cut.0 cut.1 here rest can) s.1))

-- the file that the last step gives is the one that the flat merge gives
pub same_file : (first : Tail) (gs : Groups) (ts : List Tail) (a : AllGiven first gs ts)
    → file_of_step a ≡ file_of (merged first ts) (bodies (all_leaves gs) ts)
same_file first gs ts a =
    ap (λ (t : Tail). file_of t (bodies a.files (a.head ∷ a.rest))) (merged_same a.head first (a.head ∷ a.rest) ts a.fellows.0.bare a.same)
    ∙ ap (λ (x : List (List ℕ)). file_of (merged first ts) x) a.stripes

-- ---- the flat merge, and any grouping of it

pub record Flat (inputs : List (List ℕ)) (tail : Tail) (out : List ℕ) : Type 0 where
  pub first : Tail
  pub rest : List Tail
  pub opened : AreOpened inputs (first ∷ rest)
  pub can : CanMerge first (first ∷ rest)
  pub tail_is : tail ≡ merged first (first ∷ rest)
  pub out_is : out ≡ file_of (merged first (first ∷ rest)) (bodies inputs (first ∷ rest))

flat_by : (inputs : List (List ℕ)) (tail : Tail) (out : List ℕ) (ts : List Tail) → AreOpened inputs ts → Merged ts tail
    → out ≡ file_of tail (bodies inputs ts) → Flat inputs tail out
flat_by inputs tail out [] o m w = absurd m
flat_by inputs tail out (t ∷ ts) o m w = record {
  first = t;
  rest = ts;
  opened = o;
  can = m.0;
  tail_is = m.1;
  out_is = w ∙ ap (λ (x : Tail). file_of x (bodies inputs (t ∷ ts))) m.1;
}

pub flat_of : (inputs : List (List ℕ)) (tail : Tail) (out : List ℕ) → IsMerge inputs tail out → Flat inputs tail out
flat_of inputs tail out m = flat_by inputs tail out m.tails m.opened m.merged m.written

pub grouping_same : (gs : Groups) (tail : Tail) (out : List ℕ) → AllShort gs → IsMerge (all_leaves gs) tail out → Gives (merge gs) out
grouping_same gs tail out s m =
    let l = flat_of (all_leaves gs) tail out m in
    let a = all_given l.first gs (l.first ∷ l.rest) (all_sound (all_leaves gs) (l.first ∷ l.rest) l.opened).0 l.opened l.can s in
    subst (Gives (merge gs)) (same_file l.first gs (l.first ∷ l.rest) a ∙ sym l.out_is)
    (step_gives l.first gs (l.first ∷ l.rest) a (can_step l.first gs (l.first ∷ l.rest) a l.can))

pub grouping_one : (gs : Groups) (tail : Tail) (out other : List ℕ) → AllShort gs → IsMerge (all_leaves gs) tail out → Gives (merge gs) other → other ≡ out
grouping_one gs tail out other s m g =
    let l = flat_of (all_leaves gs) tail out m in
    let a = all_given l.first gs (l.first ∷ l.rest) (all_sound (all_leaves gs) (l.first ∷ l.rest) l.opened).0 l.opened l.can s in
    step_only l.first gs (l.first ∷ l.rest) a other g ∙ same_file l.first gs (l.first ∷ l.rest) a ∙ sym l.out_is
