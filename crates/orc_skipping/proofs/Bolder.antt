-- What the cautious rule skips, the bold one skips.
use Rattle.std.proofs.Common.{◌≡◌, refl, ℕ, Bool, true, false, not, ◌&&◌, ◌||◌, if◌then◌else◌, Option, Some, None}
use Rattle.std.specs.Option.{option_map, option_map_or}
use Rattle.std.specs.declared.cmp.Ordering.{Ordering}
use Rattle.orc_values.specs.Cells.{Atom}
use Rattle.orc_stats.specs.declared.stat.Stat.{Stat}
use Rattle.orc_stats.specs.declared.stat.Body.{Body}
use Rattle.orc_stats.specs.Joining.{has_values}
use Rattle.orc_skipping.specs.Predicates.{Predicate, compare, is_null, negate, both, either}
use Rattle.orc_skipping.specs.Rules.{lacks_bound, taken_boldly, may_compare, may_be_null, may_be}

less_values : (l : Bool) (n : ℕ) (m o : Option Bool) (b : Body)
    → (let x : Stat = record { count = n; nulls = m; body = b } in has_values x ≡ false)
    → (let y : Stat = record { count = if l then 0 else n; nulls = o; body = b } in has_values y ≡ false)
less_values true n m o b h = refl
less_values false n m o b h = h

less_compare : (takes : Ordering → Bool) (a : Atom) (v : Bool) (l : Bool) (n : ℕ) (m o : Option Bool) (b : Body)
    → (let x : Stat = record { count = n; nulls = m; body = b } in may_compare takes a v x ≡ false)
    → (let y : Stat = record { count = if l then 0 else n; nulls = o; body = b } in may_compare takes a v y ≡ false)
less_compare takes a v true n m o b h = refl
less_compare takes a v false n m o b h = h

less_null : (m : Option Bool) → option_map_or (λ n. n) m true ≡ false → option_map_or (λ n. n) m false ≡ false
less_null None h = refl
less_null (Some n) h = h

less_be_null : (v : Bool) (s : Stat) → may_be_null v s ≡ false → may_be_null v (taken_boldly s) ≡ false
less_be_null true s h = less_null s.nulls h
less_be_null false s h = less_values (lacks_bound s.body) s.count s.nulls (Some (option_map_or (λ n. n) s.nulls false)) s.body h

of_column : (f : Stat → Bool) (o : Option Stat) → ((s : Stat) → f s ≡ false → f (taken_boldly s) ≡ false)
    → option_map_or f o true ≡ false → option_map_or f (option_map taken_boldly o) true ≡ false
of_column f None each h = cc
of_column f (Some s) each h = each s h

and_false : (a b c d : Bool) → (a ≡ false → c ≡ false) → (b ≡ false → d ≡ false) → (a && b) ≡ false → (c && d) ≡ false
and_false false b c d f g h = let e = f refl in cc
and_false true b true d f g h = g h
and_false true b false d f g h = refl

or_false : (a b c d : Bool) → (a ≡ false → c ≡ false) → (b ≡ false → d ≡ false) → (a || b) ≡ false → (c || d) ≡ false
or_false true b c d f g h = cc
or_false false b c d f g h = let e = f refl in let k = g h in cc

pub bolder : (told : ℕ → Option Stat) (p : Predicate) (b : Bool) → may_be told p b ≡ false → may_be (λ c. option_map taken_boldly (told c)) p b ≡ false
bolder told (compare c takes a) b h =
    of_column (may_compare takes a b) (told c)
    (λ s. less_compare takes a b (lacks_bound s.body) s.count s.nulls (Some (option_map_or (λ n. n) s.nulls false)) s.body) h
bolder told (is_null c) b h = of_column (may_be_null b) (told c) (less_be_null b) h
bolder told (negate p) b h = bolder told p (not b) h
bolder told (both p q) true h = and_false _ _ _ _ (bolder told p true) (bolder told q true) h
bolder told (both p q) false h = or_false _ _ _ _ (bolder told p false) (bolder told q false) h
bolder told (either p q) true h = or_false _ _ _ _ (bolder told p true) (bolder told q true) h
bolder told (either p q) false h = and_false _ _ _ _ (bolder told p false) (bolder told q false) h
