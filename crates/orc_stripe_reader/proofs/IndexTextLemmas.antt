-- Looking for the row indexes of all columns in the directory.
use Rattle.std.proofs.Common.{◌≡◌, ℕ, zero, suc, ◌-◌, ◌<◌, Bool, true, false, ◌||◌, nat_le, if◌then◌else◌, Option, Some, None, List, [], ◌∷◌, length, take, drop, replicate, refl, sym, ap, ◌∙◌, arith, length-drop}
use Rattle.std.proofs.lemmas.Bool.{and_parts}
use Rattle.std.proofs.lemmas.List.{length-replicate}
use Rattle.orc_wire.specs.declared.stripe_footer.StreamMsg.{StreamMsg}
use Rattle.orc_directory.specs.Directory.{is_stream_of, has_stream, have_room, slice}
use Rattle.orc_stripe_reader.specs.IndexTexts.{index_at, or_else, listed, AreIndexTexts}
use Rattle.orc_stripe_reader.specs.declared.view.index_texts.IndexText.{IndexText}

-- of each column an index is found, or is among the streams that are left, or there is none
pub record LooksFor (columns : ℕ) (streams left : List StreamMsg) (bytes rest : List ℕ) (texts : List IndexText) : Type 0 where
  pub room : have_room (length rest) left ≡ true
  pub len : length texts ≡ columns
  pub coming : (c : ℕ) → c < columns → or_else (index_at texts c) (listed c left rest) ≡ listed c streams bytes

none_at : (n c : ℕ) → index_at (replicate n (record { bytes = None })) c ≡ None
none_at zero c = refl
none_at (suc n) zero = refl
none_at (suc n) (suc c) = none_at n c

pub texts_start : (columns : ℕ) (streams : List StreamMsg) (bytes : List ℕ) (texts : List IndexText) → have_room (length bytes) streams ≡ true
    → texts ≡ replicate columns (record { bytes = None }) → LooksFor columns streams streams bytes bytes texts
texts_start columns streams bytes texts room is = record {
  room = room;
  len = ap length is ∙ length-replicate columns (record { bytes = None });
  coming = λ c lt. ap (λ (ts : List IndexText). or_else (index_at ts c) (listed c streams bytes)) is ∙ ap (λ (t : Option (List ℕ)). or_else t (listed c streams bytes)) (none_at columns c);
}

next_listed : (found : Option (List ℕ)) (here later : Bool) (front other : List ℕ)
    → or_else (or_else found (if here then Some front else None)) (if later then Some other else None) ≡ or_else found (if here || later then Some (if here then front else other) else None)
next_listed (Some x) here later front other = refl
next_listed None true later front other = refl
next_listed None false later front other = refl

pub texts_go_on : (columns : ℕ) (streams : List StreamMsg) (s : StreamMsg) (left : List StreamMsg) (bytes rest front more : List ℕ) (old new : List IndexText) → front ≡ take s.length rest → more ≡ drop s.length rest
    → length new ≡ length old → ((c : ℕ) → c < length old → index_at new c ≡ or_else (index_at old c) (if is_stream_of c 6 s then Some front else None))
    → LooksFor columns streams (s ∷ left) bytes rest old → LooksFor columns streams left bytes more new
texts_go_on columns streams s left bytes rest front more old new first there len kept h =
    let fits = and_parts (nat_le s.length (length rest)) (have_room (length rest - s.length) left) h.room in
    record {
      room = ap (λ (t : List ℕ). have_room (length t) left) there ∙ ap (λ n. have_room n left) (length-drop s.length rest) ∙ fits.1;
      len = len ∙ h.len;
      coming = λ c lt.
          let here = is_stream_of c 6 s in
          let later = has_stream c 6 left in
          ap (λ (t : Option (List ℕ)). or_else t (listed c left more)) (kept c (omega (arith, lt, h.len)))
          ∙ ap (λ (t : List ℕ). or_else (or_else (index_at old c) (if here then Some front else None)) (listed c left t)) there
          ∙ ap (λ (t : List ℕ). or_else (or_else (index_at old c) (if here then Some t else None)) (listed c left (drop s.length rest))) first
          ∙ next_listed (index_at old c) here later (take s.length rest) (slice c 6 left (drop s.length rest)) ∙ h.coming c lt;
    }

or_none : (t : Option (List ℕ)) → or_else t None ≡ t
or_none (Some x) = refl
or_none None = refl

pub texts_end : (columns : ℕ) (streams : List StreamMsg) (bytes rest : List ℕ) (texts : List IndexText) → LooksFor columns streams [] bytes rest texts → AreIndexTexts columns streams bytes texts
texts_end columns streams bytes rest texts h = record { counted = h.len; are = λ c lt. sym (or_none (index_at texts c)) ∙ h.coming c lt }

pub room_here : (columns : ℕ) (streams : List StreamMsg) (s : StreamMsg) (left : List StreamMsg) (bytes rest : List ℕ) (texts : List IndexText) → LooksFor columns streams (s ∷ left) bytes rest texts → nat_le s.length (length rest) ≡ true
room_here columns streams s left bytes rest texts h = (and_parts (nat_le s.length (length rest)) (have_room (length rest - s.length) left) h.room).0
