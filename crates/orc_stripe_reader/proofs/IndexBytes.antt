-- Looking for a column's index in the directory.
use Rattle.std.proofs.Common.{◌≡◌, ℕ, ◌-◌, Bool, true, false, ◌||◌, nat_le, if◌then◌else◌, List, [], ◌∷◌, length, take, drop, refl, sym, ap, ◌∙◌, subst, length-drop}
use Rattle.orc_wire.specs.declared.stripe_footer.StreamMsg.{StreamMsg}
use Rattle.orc_directory.specs.Directory.{is_stream_of, has_stream, have_room, slice}
use Rattle.std.proofs.lemmas.Bool.{and_parts}

-- what is sought stands among the streams that are left
pub record Looking (column : ℕ) (streams left : List StreamMsg) (bytes rest : List ℕ) : Type 0 where
  pub room : have_room (length rest) left ≡ true
  pub there : has_stream column 6 left ≡ has_stream column 6 streams
  pub same : slice column 6 left rest ≡ slice column 6 streams bytes

pub looking_starts : (column : ℕ) (streams : List StreamMsg) (bytes : List ℕ) → have_room (length bytes) streams ≡ true → Looking column streams streams bytes bytes
looking_starts column streams bytes room = record { room = room; there = refl; same = refl }

pub looking_room : (column : ℕ) (streams : List StreamMsg) (s : StreamMsg) (left : List StreamMsg) (bytes rest : List ℕ) → Looking column streams (s ∷ left) bytes rest → nat_le s.length (length rest) ≡ true
looking_room column streams s left bytes rest h = (and_parts (nat_le s.length (length rest)) (have_room (length rest - s.length) left) h.room).0

pub looking_goes : (column : ℕ) (streams : List StreamMsg) (s : StreamMsg) (left : List StreamMsg) (bytes rest more : List ℕ) → is_stream_of column 6 s ≡ false → more ≡ drop s.length rest → Looking column streams (s ∷ left) bytes rest
    → Looking column streams left bytes more
looking_goes column streams s left bytes rest more e is h =
    let k = and_parts (nat_le s.length (length rest)) (have_room (length rest - s.length) left) h.room in
    subst (λ (t : List ℕ). Looking column streams left bytes t) (sym is) (record {
      room = ap (λ n. have_room n left) (length-drop s.length rest) ∙ k.1;
      there = sym (here (is_stream_of column 6 s) (has_stream column 6 left) e) ∙ h.there;
      same = sym (ap (λ (b : Bool). if b then take s.length rest else slice column 6 left (drop s.length rest)) e) ∙ h.same;
    })
  where
    here : (a b : Bool) → a ≡ false → a || b ≡ b
    here true b e = absurd cc
    here false b e = refl

pub looking_found : (column : ℕ) (streams : List StreamMsg) (s : StreamMsg) (left : List StreamMsg) (bytes rest front : List ℕ) → is_stream_of column 6 s ≡ true → front ≡ take s.length rest → Looking column streams (s ∷ left) bytes rest
    → (has_stream column 6 streams ≡ true) × (front ≡ slice column 6 streams bytes)
looking_found column streams s left bytes rest front e is h = (
  sym h.there ∙ ap (λ (b : Bool). b || has_stream column 6 left) e,
  is ∙ sym (ap (λ (b : Bool). if b then take s.length rest else slice column 6 left (drop s.length rest)) e) ∙ h.same,
)

pub looking_ends : (column : ℕ) (streams : List StreamMsg) (bytes rest : List ℕ) → Looking column streams [] bytes rest → has_stream column 6 streams ≡ false
looking_ends column streams bytes rest h = sym h.there
