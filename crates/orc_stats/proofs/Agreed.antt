-- What agrees.
use Rattle.std.proofs.Common.{◌≡◌, refl, ◌∙◌, ap, ℕ, Bool, true, false, List, [], ◌∷◌, Option, Some, None, ◌↔◌}
use Rattle.orc_stats.specs.declared.kind.StatKind.{StatKind}
use Rattle.orc_stats.specs.declared.kind.StatKind.TheVariants as kind
use Rattle.orc_stats.specs.declared.stat.Stat.{Stat}
use Rattle.orc_stats.specs.declared.stat.Body.{Body}
use Rattle.orc_stats.specs.declared.stat.Body.TheVariants as body
use Rattle.orc_stats.specs.Kinds.{body_is_of}
use Rattle.orc_stats.specs.Joining.{least_children, greatest_children, total_children}
use Rattle.orc_stats.specs.Known.{where_known, known_in, known_as, IsPart, Agrees}
use Rattle.orc_stats.specs.Measures.{no_measure}
use Rattle.orc_stats.specs.laws.TallyLaws.{stat_is}
use Rattle.orc_stats.specs.laws.TallyKinds.{children_is}

itself : (p : Option ℕ) → p ≡ where_known (p ∷ []) p
itself None = refl
itself (Some n) = refl

body_itself : (b : Body) → b ≡ known_in (b ∷ []) b
body_itself body.Plain = refl
body_itself (body.Ints l g s) = refl
body_itself (body.Bools t) = refl
body_itself (body.Dates l g) = refl
body_itself (body.Texts l g s) = refl
body_itself (body.Bins s) = refl
body_itself (body.Children l g t) = children_is (itself l) (itself g) (itself t)

pub same_agrees : (s : Stat) → Agrees s s
same_agrees s = stat_is no_measure refl refl (body_itself s.body)

once : (p q : Option ℕ) → where_known (p ∷ []) q ≡ where_known (where_known (p ∷ []) q ∷ []) q
once None q = refl
once (Some n) None = refl
once (Some n) (Some m) = refl

body_once : (o b : Body) → known_in (o ∷ []) b ≡ known_in (known_in (o ∷ []) b ∷ []) b
body_once o body.Plain = refl
body_once o (body.Ints l g s) = refl
body_once o (body.Bools t) = refl
body_once o (body.Dates l g) = refl
body_once o (body.Texts l g s) = refl
body_once o (body.Bins s) = refl
body_once o (body.Children l g t) = children_is (once (least_children o) l) (once (greatest_children o) g) (once (total_children o) t)

pub less_agrees : (o : Body) (s : Stat) → Agrees (known_as o s) s
less_agrees o s = stat_is no_measure refl refl (body_once o s.body)

part_of : (p q : Option ℕ) → p ≡ where_known (p ∷ []) q → IsPart p q
part_of None q e = tt
part_of (Some n) q e = e

of_part : (p q : Option ℕ) → IsPart p q → p ≡ where_known (p ∷ []) q
of_part None q h = refl
of_part (Some n) q h = h

pub parts_agree : (n c : ℕ) (a b : Option Bool) (l g t m h u : Option ℕ)
    → (let x : Stat = record { count = n; nulls = a; body = body.Children l g t } in
    let y : Stat = record { count = c; nulls = b; body = body.Children m h u } in
    Agrees x y ↔ ((n ≡ c) × (a ≡ b) × IsPart l m × IsPart g h × IsPart t u))
parts_agree n c a b l g t m h u = (
  λ e. (
    ap (λ (s : Stat). s.count) e,
    ap (λ (s : Stat). s.nulls) e,
    part_of l m (ap (λ (s : Stat). least_children s.body) e),
    part_of g h (ap (λ (s : Stat). greatest_children s.body) e),
    part_of t u (ap (λ (s : Stat). total_children s.body) e),
  ),
  λ p. stat_is no_measure p.0 p.1 (children_is (of_part l m p.2) (of_part g h p.3) (of_part t u p.4)),
)

-- of other kinds nothing is left out
pub stays : (k : StatKind) (bs : List Body) (b : Body) → body_is_of k b ≡ true → (k ≡ kind.Children → ⊥) → known_in bs b ≡ b
stays k bs body.Plain e n = refl
stays k bs (body.Ints l g s) e n = refl
stays k bs (body.Bools t) e n = refl
stays k bs (body.Dates l g) e n = refl
stays k bs (body.Texts l g s) e n = refl
stays k bs (body.Bins s) e n = refl
stays kind.Plain bs (body.Children l g t) e n = cc
stays kind.Ints bs (body.Children l g t) e n = cc
stays kind.Bools bs (body.Children l g t) e n = cc
stays kind.Dates bs (body.Children l g t) e n = cc
stays kind.Texts bs (body.Children l g t) e n = cc
stays kind.Bins bs (body.Children l g t) e n = cc
stays kind.Children bs (body.Children l g t) e n = absurd (n refl)

pub others_agree : (k : StatKind) (x y : Stat) → body_is_of k y.body ≡ true → (k ≡ kind.Children → ⊥) → Agrees x y → x ≡ y
others_agree k x y e n h = h ∙ stat_is no_measure refl refl (stays k (x.body ∷ []) y.body e n)

pub none_agrees : (let none : Stat = record { count = 1; nulls = Some false; body = body.Children None None None } in
    let empty : Stat = record { count = 1; nulls = Some false; body = body.Children (Some 0) (Some 0) (Some 0) } in
    Agrees none empty × (Agrees empty none → ⊥))
none_agrees = (refl, λ e. some_none (ap (λ (s : Stat). least_children s.body) e))
  where
    some_none : ◌≡◌ {A = Option ℕ} (Some 0) None → ⊥
    some_none e = cc
