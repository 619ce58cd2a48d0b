-- The bold rule needs the least value.
use Rattle.std.proofs.Common.{◌≡◌, refl, ap, ℕ, true, false, Option, Some, None, List, [], ◌∷◌}
use Rattle.std.specs.Option.{option_map}
use Rattle.std.specs.Ordering.{is_eq}
use Rattle.std.proofs.lemmas.Cmp.{nat_list_cmp_total, tied_itself}
use Rattle.orc_values.specs.Cells.{text, Cell, leaf}
use Rattle.orc_stats.specs.declared.kind.StatKind.TheVariants as kind
use Rattle.orc_stats.specs.declared.stat.Stat.{Stat}
use Rattle.orc_stats.specs.declared.stat.Body.TheVariants as body
use Rattle.orc_stats.specs.Statistics.{stat, total, lengths, text_cmp}
use Rattle.orc_skipping.specs.Predicates.{Predicate, compare, truth}
use Rattle.orc_skipping.specs.Rules.{cautious, bold}
use Rattle.orc_skipping.specs.Right.{Admits}

pub why : (t : List ℕ) → (
    let x : Cell = leaf (text t) in
    let told : Stat = record (stat kind.Texts (x ∷ [])) { body = body.Texts None None (total (lengths (t ∷ []))) } in
    let p : Predicate = compare 0 is_eq (text t) in
    Admits told x
    × (truth (λ c. Some x) p ≡ Some true)
    × (cautious (λ c. Some told) p ≡ true)
    × (bold (λ c. Some told) p ≡ false))
why t = ((refl, tt, tt), ap (λ o. option_map is_eq (Some o)) (tied_itself nat_list_cmp_total t), refl, refl)
