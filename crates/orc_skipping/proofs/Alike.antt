-- Statistics that a rule takes alike: the sums, and what is known of children, have no part in it.
use Rattle.std.proofs.Common.{◌≡◌, refl, sym, ap, ◌∙◌, subst, ℕ, nat_lt, true, false, Option, Some, None, List, [], ◌∷◌}
use Rattle.std.specs.Prelude.{IfSome, Bool}
use Rattle.orc_values.specs.Cells.{Atom, Cell, null, leaf, list, struct, pairs}
use Rattle.orc_stats.specs.declared.stat.Stat.{Stat}
use Rattle.orc_stats.specs.declared.stat.Body.{Body}
use Rattle.orc_stats.specs.declared.stat.Body.TheVariants as body
use Rattle.orc_stats.specs.Known.{known_in, Agrees}
use Rattle.orc_stats.specs.Whole.{without_sum}
use Rattle.orc_stats.specs.Joining.{has_values}
use Rattle.orc_skipping.specs.Rules.{least_in, greatest_in, lacks_bound, taken_boldly}
use Rattle.orc_skipping.specs.Right.{IsUpTo, Admits}

pub record IsAlike (x y : Stat) : Type 0 where
  pub count : x.count ≡ y.count
  pub nulls : x.nulls ≡ y.nulls
  pub least : (n : ℕ) → least_in n x.body ≡ least_in n y.body
  pub greatest : greatest_in x.body ≡ greatest_in y.body
  pub lacks : lacks_bound x.body ≡ lacks_bound y.body

pub admits_alike : (x y : Stat) → IsAlike x y → (c : Cell) → Admits y c → Admits x c
admits_alike x y e null h = λ f. h (sym e.nulls ∙ f)
admits_alike x y e (leaf v) h = (
  ap (nat_lt 0) e.count ∙ h.0,
  subst (λ (o : Option Atom). IfSome o (λ l. IsUpTo l v)) (sym (e.least x.count ∙ ap (λ n. least_in n y.body) e.count)) h.1,
  subst (λ (o : Option Atom). IfSome o (λ g. IsUpTo v g)) (sym e.greatest) h.2,
)
admits_alike x y e (list cs) h = ap (nat_lt 0) e.count ∙ h
admits_alike x y e (struct cs) h = ap (nat_lt 0) e.count ∙ h
admits_alike x y e (pairs ps) h = ap (nat_lt 0) e.count ∙ h

-- ---- what is left out
record IsSameBody (a b : Body) : Type 0 where
  least : (n : ℕ) → least_in n a ≡ least_in n b
  greatest : greatest_in a ≡ greatest_in b
  lacks : lacks_bound a ≡ lacks_bound b

less_known : (bs : List Body) (b : Body) → IsSameBody (known_in bs b) b
less_known bs body.Plain = record { least = λ n. refl; greatest = refl; lacks = refl }
less_known bs (body.Ints l g s) = record { least = λ n. refl; greatest = refl; lacks = refl }
less_known bs (body.Bools t) = record { least = λ n. refl; greatest = refl; lacks = refl }
less_known bs (body.Dates l g) = record { least = λ n. refl; greatest = refl; lacks = refl }
less_known bs (body.Texts l g s) = record { least = λ n. refl; greatest = refl; lacks = refl }
less_known bs (body.Bins s) = record { least = λ n. refl; greatest = refl; lacks = refl }
less_known bs (body.Children l g t) = record { least = λ n. refl; greatest = refl; lacks = refl }

less_sum : (b : Body) → IsSameBody (without_sum b) b
less_sum body.Plain = record { least = λ n. refl; greatest = refl; lacks = refl }
less_sum (body.Ints l g s) = record { least = λ n. refl; greatest = refl; lacks = refl }
less_sum (body.Bools t) = record { least = λ n. refl; greatest = refl; lacks = refl }
less_sum (body.Dates l g) = record { least = λ n. refl; greatest = refl; lacks = refl }
less_sum (body.Texts l g s) = record { least = λ n. refl; greatest = refl; lacks = refl }
less_sum (body.Bins s) = record { least = λ n. refl; greatest = refl; lacks = refl }
less_sum (body.Children l g t) = record { least = λ n. refl; greatest = refl; lacks = refl }

pub agrees_alike : (x y : Stat) → Agrees x y → IsAlike x y
agrees_alike x y e =
    let b = less_known (x.body ∷ []) y.body in record {
      count = ap (λ (s : Stat). s.count) e;
      nulls = ap (λ (s : Stat). s.nulls) e;
      least = λ n. ap (λ (s : Stat). least_in n s.body) e ∙ b.least n;
      greatest = ap (λ (s : Stat). greatest_in s.body) e ∙ b.greatest;
      lacks = ap (λ (s : Stat). lacks_bound s.body) e ∙ b.lacks;
    }

pub less_known_alike : (bs : List Body) (y : Stat) → (let x : Stat = record y { body = known_in bs y.body } in IsAlike x y)
less_known_alike bs y = let b = less_known bs y.body in record { count = refl; nulls = refl; least = b.least; greatest = b.greatest; lacks = b.lacks }

pub less_sum_alike : (y : Stat) → (let x : Stat = record y { body = without_sum y.body } in IsAlike x y)
less_sum_alike y = let b = less_sum y.body in record { count = refl; nulls = refl; least = b.least; greatest = b.greatest; lacks = b.lacks }

pub alike_then : (x y z : Stat) → IsAlike x y → IsAlike y z → IsAlike x z
alike_then x y z e f = record {
  count = e.count ∙ f.count;
  nulls = e.nulls ∙ f.nulls;
  least = λ n. e.least n ∙ f.least n;
  greatest = e.greatest ∙ f.greatest;
  lacks = e.lacks ∙ f.lacks;
}

pub itself_alike : (x : Stat) → IsAlike x x
itself_alike x = record { count = refl; nulls = refl; least = λ n. refl; greatest = refl; lacks = refl }
