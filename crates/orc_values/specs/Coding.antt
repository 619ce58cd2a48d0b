-- A code of a schema's tree (for its model). Its parts come in postfix order, each after the parts that it contains.
use Rattle.std.specs.Prelude.{ℕ, ◌≡◌, refl, List, [], ◌∷◌, ◌⊎◌}
use Rattle.std.specs.Coded.{Coded, code_by, coded×, coded⊎, coded_ℕ, coded_list}
use Rattle.std.proofs.Common.{inl, inr, ap, ◌∙◌}
use Rattle.std.specs.Option.{unwrap_or}
use Rattle.orc_values.specs.declared.kind.Scalar.{Scalar}
use Rattle.orc_values.specs.declared.kind.Scalar.TheVariants as kind
use Rattle.orc_values.specs.Kinds.{number, scalar_of}
use Rattle.orc_values.specs.Shapes.{Shape, scalar, list_of, map_of, struct_of, Fields, no_field, field}

-- a leaf; the kept bytes of a list or a struct; the end of the fields; a field's name; the kept bytes of a map
abbrev pub Token : Type 0
Token = (ℕ × List ℕ) ⊎ (List ℕ ⊎ (List ℕ ⊎ (ℕ ⊎ (List ℕ ⊎ List ℕ))))

abbrev mutual
  pub post : Shape → List Token → List Token
  post (scalar k o) rest = inl (number k, o) ∷ rest
  post (list_of s o) rest = post s (inr (inl o) ∷ rest)
  post (map_of k v o) rest = post k (post v (inr (inr (inr (inr (inr o)))) ∷ rest))
  post (struct_of fs o) rest = posts fs (inr (inr (inl o)) ∷ rest)

  pub posts : Fields → List Token → List Token
  posts no_field rest = inr (inr (inr (inl 0))) ∷ rest
  posts (field name s fs) rest = posts fs (post s (inr (inr (inr (inr (inl name)))) ∷ rest))

-- the kind with a number, or the first kind if no kind has it
abbrev pub scalar_or_first : ℕ → Scalar
scalar_or_first n = unwrap_or (scalar_of n) kind.Boolean

-- the shape on top of a stack
abbrev pub top : List Shape → Shape
top [] = scalar kind.Boolean []
top (s ∷ ss) = s

-- the shapes below the one on top
abbrev pub below : List Shape → List Shape
below [] = []
below (s ∷ ss) = ss

-- the fields on top of a stack
abbrev pub top_fields : List Fields → Fields
top_fields [] = no_field
top_fields (f ∷ fs) = f

-- the fields below those on top
abbrev pub below_fields : List Fields → List Fields
below_fields [] = []
below_fields (f ∷ fs) = fs

-- the tree that the rest of a code gives, with the shapes and fields that were read and aren't used yet
abbrev pub run : List Token → List Shape → List Fields → Shape
run [] ss fs = top ss
run (inl p ∷ ts) ss fs = run ts (scalar (scalar_or_first p.0) p.1 ∷ ss) fs
run (inr (inl o) ∷ ts) ss fs = run ts (list_of (top ss) o ∷ below ss) fs
run (inr (inr (inr (inr (inr o)))) ∷ ts) ss fs = run ts (map_of (top (below ss)) (top ss) o ∷ below (below ss)) fs
run (inr (inr (inl o)) ∷ ts) ss fs = run ts (struct_of (top_fields fs) o ∷ ss) (below_fields fs)
run (inr (inr (inr (inl n))) ∷ ts) ss fs = run ts ss (no_field ∷ fs)
run (inr (inr (inr (inr (inl name)))) ∷ ts) ss fs =
    run ts (below ss) (field name (top ss) (top_fields fs) ∷ below_fields fs)

number_back : (k : Scalar) → scalar_or_first (number k) ≡ k
number_back kind.Boolean = refl
number_back kind.Byte = refl
number_back kind.Short = refl
number_back kind.Int = refl
number_back kind.Long = refl
number_back kind.String = refl
number_back kind.Binary = refl
number_back kind.Date = refl

mutual
  pub run-post : (s : Shape) (rest : List Token) (ss : List Shape) (fs : List Fields)
      → run (post s rest) ss fs ≡ run rest (s ∷ ss) fs
  run-post (scalar k o) rest ss fs = ap (λ (j : Scalar). run rest (scalar j o ∷ ss) fs) (number_back k)
  run-post (list_of s o) rest ss fs = run-post s (inr (inl o) ∷ rest) ss fs
  run-post (map_of k v o) rest ss fs =
      run-post k (post v (inr (inr (inr (inr (inr o)))) ∷ rest)) ss fs
      ∙ run-post v (inr (inr (inr (inr (inr o)))) ∷ rest) (k ∷ ss) fs
  run-post (struct_of gs o) rest ss fs = run-posts gs (inr (inr (inl o)) ∷ rest) ss fs

  pub run-posts : (gs : Fields) (rest : List Token) (ss : List Shape) (fs : List Fields)
      → run (posts gs rest) ss fs ≡ run rest ss (gs ∷ fs)
  run-posts no_field rest ss fs = refl
  run-posts (field name s gs) rest ss fs =
      run-posts gs (post s (inr (inr (inr (inr (inl name)))) ∷ rest)) ss fs
      ∙ run-post s (inr (inr (inr (inr (inl name)))) ∷ rest) ss (gs ∷ fs)

-- each shape has a code that gives the shape back
abbrev pub coded_shape : Coded Shape
coded_shape =
    code_by (List Token) (coded_list (coded⊎ (coded× coded_ℕ (coded_list coded_ℕ))
    (coded⊎ (coded_list coded_ℕ) (coded⊎ (coded_list coded_ℕ)
    (coded⊎ coded_ℕ (coded⊎ (coded_list coded_ℕ) (coded_list coded_ℕ)))))))
    (λ s. post s []) (λ ts. run ts [] []) (λ s. run-post s [] [] [])
