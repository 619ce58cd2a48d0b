-- All inputs are gathered: what the merged tail and the pieces are then.
use Rattle.std.proofs.Common.{◌≡◌, ℕ, ◌+◌, ◌<◌, ◌≤◌, true, List, ◌∷◌, ◌++◌, length, map, take, Option, Some, Result, Ok, Err, sym, ap, ◌∙◌, subst, arith}
use Rattle.std.specs.Prelude.{All, slice_index, IfOk, IfErr}
use Rattle.std.proofs.lemmas.List.{take_all, length-map}
use Rattle.orc_values.specs.Shapes.{Shape}
use Rattle.orc_stats.specs.declared.stat.Stat.{Stat}
use Rattle.orc_stats.specs.Kinds.{body_is_of}
use Rattle.orc_tail.specs.Layout.{magic}
use Rattle.orc_tail.specs.Stripes.{IsLaid}
use Rattle.orc_tail.specs.Statistics.{kind_at, column_stats}
use Rattle.orc_tail.specs.Images.{IsWithinLimits, tail_text}
use Rattle.orc_tail.specs.declared.tail.Tail.{Tail}
use Rattle.orc_merger.specs.declared.copying.Piece.{Piece}
use Rattle.orc_merger.specs.declared.gathered.Gathered.{Gathered}
use Rattle.orc_merger.specs.Merging.{AreOpened, IsMerge, all_stripes, merged}
use Rattle.orc_merger.specs.Copies.{pieces_bytes}
use Rattle.orc_merger.specs.Gathering.{pieces_of}
use Rattle.orc_merger.specs.Inputs.{IsGatheredOf}
use Rattle.orc_merger.proofs.Placing.{laid-placed}
use Rattle.orc_merger.proofs.PiecesOf.{pieces_are, pieces_within, pieces_inputs}
use Rattle.orc_merger.proofs.NextTests.{merged_kinds}

-- ---- results

pub ok_gives : {T E : Type 0} (r : Result T E) (P Q R : T → Type 0) → IfOk r P → IfOk r Q → ((x : T) → P x → Q x → R x) → IfOk r R
ok_gives (Ok x) P Q R p q f = f x p q
ok_gives (Err e) P Q R p q f = tt

pub err_gives : {T E : Type 0} (r : Result T E) (P Q : E → Type 0) → IfErr r P → ((e : E) → P e → Q e) → IfErr r Q
err_gives (Ok x) P Q p f = tt
err_gives (Err e) P Q p f = f e p

-- ---- statistics

pub gathered_kinds : (told : List (Option (List ℕ))) (sizes : List ℕ) (n : ℕ) (g : Gathered) → IsGatheredOf told sizes n g → (c : ℕ)
    → All (λ (x : Stat). body_is_of (kind_at g.first.schema c) x.body ≡ true) (column_stats c g.stripe_stats.items)
gathered_kinds told sizes n g s c =
    let schema : g.first.schema ≡ s.first.schema = ap (λ (t : Tail). t.schema) s.gathered.first_is in
    subst (λ (k : Shape). All (λ (x : Stat). body_is_of (kind_at k c) x.body ≡ true) (column_stats c g.stripe_stats.items)) (sym schema)
    (subst (λ (stats : List (List Stat)). All (λ (x : Stat). body_is_of (kind_at s.first.schema c) x.body ≡ true) (column_stats c stats))
    (sym s.gathered.stripe_stats) (merged_kinds s.first (s.first ∷ s.rest) c s.merges))

-- ---- the merged file

pub merged_file : (told : List (Option (List ℕ))) (sizes : List ℕ) (n : ℕ) (g : Gathered) (s : IsGatheredOf told sizes n g) (tail : Tail) (pieces : List Piece)
    → length told ≡ n → tail ≡ merged s.first (s.first ∷ s.rest) → pieces ≡ pieces_of 0 (s.first ∷ s.rest)
    → (files : List (List ℕ)) → told ≡ map Some files → IsMerge files tail (magic ++ (pieces_bytes files pieces ++ tail_text tail))
merged_file told sizes n g s tail pieces many is are files same =
    let ts : List Tail = s.first ∷ s.rest in
    let number : length files ≡ n = sym (length-map files Some) ∙ sym (ap length same) ∙ many in
    let whole : take n files ≡ files = take_all n files (omega (arith, number)) in
    let opened : AreOpened files (s.first ∷ s.rest) = subst (λ (z : List (List ℕ)). AreOpened z (s.first ∷ s.rest)) whole (s.tails_are.opened files same) in
    record {
      tails = s.first ∷ s.rest;
      opened = opened;
      merged = (s.merges, is);
      written = ap (λ (b : List ℕ). magic ++ (b ++ tail_text tail)) (ap (pieces_bytes files) are ∙ pieces_are files (s.first ∷ s.rest) opened);
    }

pub merged_limits : (told : List (Option (List ℕ))) (sizes : List ℕ) (n : ℕ) (g : Gathered) (s : IsGatheredOf told sizes n g) (tail : Tail)
    → tail ≡ merged s.first (s.first ∷ s.rest) → IsWithinLimits tail
merged_limits told sizes n g s tail is = subst IsWithinLimits (sym is) s.merges.limits

pub merged_laid : (told : List (Option (List ℕ))) (sizes : List ℕ) (n : ℕ) (g : Gathered) (s : IsGatheredOf told sizes n g) (tail : Tail)
    → tail ≡ merged s.first (s.first ∷ s.rest) → IsLaid 3 tail.stripes
merged_laid told sizes n g s tail is = subst (λ (t : Tail). IsLaid 3 t.stripes) (sym is) (laid-placed 3 (all_stripes (s.first ∷ s.rest)))

pub gathered_inputs : (told : List (Option (List ℕ))) (sizes : List ℕ) (n : ℕ) (g : Gathered) (s : IsGatheredOf told sizes n g) (pieces : List Piece) (m : ℕ)
    → n ≤ m → pieces ≡ pieces_of 0 (s.first ∷ s.rest) → All (λ (p : Piece). p.input < m) pieces
gathered_inputs told sizes n g s pieces m le are =
    let many : length (s.first ∷ s.rest) ≡ n = s.tails_are.many in
    subst (All (λ (p : Piece). p.input < m)) (sym are) (pieces_inputs m (s.first ∷ s.rest) (omega (arith, many, le)))

pub gathered_within : (told : List (Option (List ℕ))) (sizes : List ℕ) (n : ℕ) (g : Gathered) (s : IsGatheredOf told sizes n g) (pieces : List Piece)
    → pieces ≡ pieces_of 0 (s.first ∷ s.rest) → All (λ (p : Piece). p.offset + p.len ≤ slice_index sizes p.input) pieces
gathered_within told sizes n g s pieces are =
    subst (All (λ (p : Piece). p.offset + p.len ≤ slice_index sizes p.input)) (sym are) (pieces_within sizes (s.first ∷ s.rest) s.tails_are.within)
