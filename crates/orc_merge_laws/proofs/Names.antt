-- Pairs of user metadata that were joined before they are joined again.
use Rattle.std.proofs.Common.{◌≡◌, List, [], ◌∷◌, ◌++◌, Bool, refl, sym, ap, ◌∙◌}
use Rattle.std.specs.Prelude.{not}
use Rattle.std.proofs.lemmas.List.Elements.{filter-append}
use Rattle.orc_wire.specs.declared.footer.UserMetadataItem.{UserMetadataItem}
use Rattle.orc_merger.specs.Merging.{same_name, without, distinct}
use Rattle.orc_merger.proofs.Names.{distinct-without, without_twice}

pub distinct-append_left : (xs ys : List UserMetadataItem) → distinct (distinct xs ++ ys) ≡ distinct (xs ++ ys)
distinct-append_left [] ys = refl
distinct-append_left (p ∷ xs) ys =
    let t : UserMetadataItem → Bool = λ q. not (same_name p q) in
    ap (λ (r : List UserMetadataItem). p ∷ r) (
    sym (distinct-without p (without p (distinct xs) ++ ys))
    ∙ ap distinct (filter-append t (without p (distinct xs)) ys ∙ ap (λ (r : List UserMetadataItem). r ++ without p ys) (without_twice p (distinct xs))
    ∙ sym (filter-append t (distinct xs) ys))
    ∙ distinct-without p (distinct xs ++ ys)
    ∙ ap (without p) (distinct-append_left xs ys))

pub distinct-distinct : (xs : List UserMetadataItem) → distinct (distinct xs) ≡ distinct xs
distinct-distinct [] = refl
distinct-distinct (p ∷ xs) =
    ap (λ (r : List UserMetadataItem). p ∷ r) (ap (without p) (distinct-without p (distinct xs)) ∙ without_twice p (distinct (distinct xs))
    ∙ ap (without p) (distinct-distinct xs))

pub distinct-append_right : (xs ys : List UserMetadataItem) → distinct (xs ++ distinct ys) ≡ distinct (xs ++ ys)
distinct-append_right [] ys = distinct-distinct ys
distinct-append_right (p ∷ xs) ys = ap (λ (r : List UserMetadataItem). p ∷ without p r) (distinct-append_right xs ys)

-- what is new in two lists is told by what is new in each
pub distinct_together : (xs ys us vs : List UserMetadataItem) → distinct xs ≡ distinct us → distinct ys ≡ distinct vs
    → distinct (xs ++ ys) ≡ distinct (us ++ vs)
distinct_together xs ys us vs e f =
    let A : List UserMetadataItem → List UserMetadataItem → List UserMetadataItem = λ a b. distinct (a ++ b) in
    sym (distinct-append_left xs ys) ∙ sym (distinct-append_right (distinct xs) ys)
    ∙ ap (λ (a : List UserMetadataItem). distinct (a ++ distinct ys)) e ∙ ap (λ (b : List UserMetadataItem). distinct (distinct us ++ b)) f
    ∙ distinct-append_right (distinct us) vs ∙ distinct-append_left us vs
