-- A column is refused where one of its streams is.
use Rattle.std.proofs.Common.{◌≡◌, ℕ, ◌+◌, Option, Some, None, List, length, drop, sym, ap, ◌∙◌, subst, inl, inr}
use Rattle.orc_rle.specs.declared.fault.RunFault.{RunFault}
use Rattle.orc_values.specs.Shapes.{Shape}
use Rattle.orc_column_reader.specs.Stripe.{Streams, has_dictionary}
use Rattle.orc_directory.specs.declared.fault.StreamKind.{StreamKind}
use Rattle.orc_directory.specs.declared.fault.StripeFault.{StripeFault}
use Rattle.orc_row_index.specs.Positions.{octets_size, position_size}
use Rattle.orc_row_index.specs.RunStreams.{RunStream, value_bytes, kind_of_values}
use Rattle.orc_row_index.specs.Walking.{runs, lent_bytes, ArePlaced}
use Rattle.orc_row_index.specs.declared.placed.PlacedStreams.{PlacedStreams}
use Rattle.orc_group_reader.specs.Columns.{CutsOctets}
use Rattle.orc_group_reader.specs.Refusals.{EnteredStreamFails, IsEnteringFault, OwnRefused, present_size, positions_size, ColumnRefused}

-- ---- the streams beside PRESENT

cut_rest : (content : Option (List ℕ)) (ps rest last : List ℕ) → CutsOctets content ps rest last → last ≡ drop (octets_size content) ps
cut_rest None ps rest last h = h
cut_rest (Some b) ps rest last h = sym (ap (drop 1) h.1)

pub runs_refused : (s : Shape) (x : Streams) (placed : PlacedStreams) (c : ℕ) (ps rest last : List ℕ) (k : StreamKind) (cause : RunFault) (f : StripeFault) → ArePlaced s x placed → k ≡ kind_of_values s (has_dictionary x)
    → CutsOctets (lent_bytes placed.content) ps rest last → EnteredStreamFails (runs placed.own) last cause → IsEnteringFault c k cause f → OwnRefused s x c ps f
runs_refused s x placed c ps rest last k cause f are e cut fails named =
    let behind = cut_rest (value_bytes s x) ps rest last (subst (λ (o : Option (List ℕ)). CutsOctets o ps rest last) are.content_is cut) in
    let own = subst (λ (r : RunStream). EnteredStreamFails r (drop (octets_size (value_bytes s x)) ps) cause) are.own_is (subst (λ (t : List ℕ). EnteredStreamFails (runs placed.own) t cause) behind fails) in
    inr (inl (cause, own, subst (λ (j : StreamKind). IsEnteringFault c j cause f) e named))

-- ---- the column

pub size_of : (s : Shape) (x : Streams) (placed : PlacedStreams) → ArePlaced s x placed → position_size (runs placed.present) + (octets_size (lent_bytes placed.content) + position_size (runs placed.own)) ≡ positions_size s x
size_of s x placed are i = position_size (are.present_is i) + (octets_size (are.content_is i) + position_size (are.own_is i))

pub own_refused : (s : Shape) (x : Streams) (placed : PlacedStreams) (c : ℕ) (ps last : List ℕ) (all size : ℕ) (f : StripeFault) → ArePlaced s x placed
    → all ≡ position_size (runs placed.present) + (octets_size (lent_bytes placed.content) + position_size (runs placed.own)) → length ps ≡ all → size ≡ position_size (runs placed.present) → last ≡ drop size ps
    → OwnRefused s x c last f → ColumnRefused s x c ps f
own_refused s x placed c ps last all size f are e long es cut h =
    let k : size ≡ present_size x = es ∙ ap position_size are.present_is in
    inr (long ∙ e ∙ size_of s x placed are, inr (subst (λ (t : List ℕ). OwnRefused s x c t f) (cut ∙ ap (λ (n : ℕ). drop n ps) k) h))
