-- Pieces of files go out one after another.
use Rattle.std.proofs.Common.{◌≡◌, ℕ, ◌+◌, ◌≤◌, ◌<◌, List, [], ◌∷◌, ◌++◌, length, get_or, set, map, take, drop, Option, Some, None, refl, sym, ap, ◌∙◌, subst, min, arith}
use Rattle.std.specs.Prelude.{slice_index, slice_index_or}
use Rattle.std.proofs.Math.Seq.{take-add}
use Rattle.std.proofs.lemmas.List.{take_more, drop_more, take-append-drop, take-append-le, take_min, take_at, drop_at, take_all, take-take, map-set, get_or-map, get_or-set_same, length-map, append-nil}
use Rattle.std.proofs.lemmas.List.Concat.{flat_map-append}
use Rattle.orc_merger.specs.declared.copying.Piece.{Piece}
use Rattle.orc_io.specs.Devices.{appended, bytes_at}
use Rattle.orc_io.proofs.Appended.{appended-appended}
use Rattle.orc_merger.specs.Copies.{Copied, CopiedSome, WroteSome, piece_at, piece_bytes, pieces_bytes}

-- ---- fronts

-- a part of what comes first is a part of all
pub some_of_more : (old new : Option (List ℕ)) (xs ys : List ℕ) → WroteSome old new xs → WroteSome old new (xs ++ ys)
some_of_more old new xs ys w =
    let n : ℕ = min w.0 (length xs) in
    let le : n ≤ length xs = omega arith in
    (n, w.1 ∙ ap (appended old) (sym (take_min w.0 xs) ∙ sym (take-append-le n xs ys le)))

take_behind : (xs ys : List ℕ) (k : ℕ) → take (length xs + k) (xs ++ ys) ≡ xs ++ take k ys
take_behind xs ys k =
    take-add (length xs) k (xs ++ ys) ∙ ap (λ (r : List ℕ). r ++ take k (drop (length xs) (xs ++ ys))) (take_at xs ys (length xs) refl)
    ∙ ap (λ (r : List ℕ). xs ++ take k r) (drop_at xs ys (length xs) refl)

-- what comes first, and a part of what follows
pub whole_then_some : (old mid new : Option (List ℕ)) (xs ys : List ℕ) → mid ≡ appended old xs → WroteSome mid new ys → WroteSome old new (xs ++ ys)
whole_then_some old mid new xs ys e w = (
  length xs + w.0,
  w.1 ∙ ap (λ (o : Option (List ℕ)). appended o (take w.0 ys)) e ∙ appended-appended old xs (take w.0 ys) ∙ ap (appended old) (sym (take_behind xs ys w.0)),
)

pub all_is_some : (old new : Option (List ℕ)) (xs : List ℕ) → new ≡ appended old xs → WroteSome old new xs
all_is_some old new xs e = (length xs, e ∙ ap (appended old) (sym (take_all (length xs) xs (omega arith))))

-- ---- pieces

abbrev no_piece : Piece
no_piece = record { input = 0; offset = 0; len = 0 }

pieces_more : (files : List (List ℕ)) (pieces : List Piece) (i : ℕ) → i < length pieces
    → pieces_bytes files (take (i + 1) pieces) ≡ pieces_bytes files (take i pieces) ++ piece_bytes files (piece_at pieces i)
pieces_more files pieces i lt =
    ap (pieces_bytes files) (take_more pieces i no_piece lt) ∙ flat_map-append (piece_bytes files) (take i pieces) (piece_at pieces i ∷ [])
    ∙ ap (λ (r : List ℕ). pieces_bytes files (take i pieces) ++ r) (append-nil (piece_bytes files (piece_at pieces i)))

pieces_all : (files : List (List ℕ)) (pieces : List Piece) (i : ℕ) → i < length pieces
    → pieces_bytes files (take i pieces) ++ (piece_bytes files (piece_at pieces i) ++ pieces_bytes files (drop (i + 1) pieces)) ≡ pieces_bytes files pieces
pieces_all files pieces i lt =
    ap (λ (ps : List Piece). pieces_bytes files (take i pieces) ++ pieces_bytes files ps) (sym (drop_more pieces i no_piece lt))
    ∙ sym (flat_map-append (piece_bytes files) (take i pieces) (drop i pieces)) ∙ ap (pieces_bytes files) (take-append-drop i pieces)

-- what a source among these tells
pub told_at : {A : Type 0} (told : A → Option (List ℕ)) (inputs : List A) (j : ℕ) (d : A) (files : List (List ℕ)) → j < length inputs → map told inputs ≡ map Some files
    → told (get_or inputs j d) ≡ Some (slice_index_or files j [])
told_at told inputs j d files in_range same =
    let lengths : length inputs ≡ length files = sym (length-map inputs told) ∙ ap length same ∙ length-map files Some in
    let short : j < length files = omega (arith, lengths, in_range) in
    sym (get_or-map told inputs j d None in_range) ∙ ap (λ (os : List (Option (List ℕ))). get_or os j None) same ∙ get_or-map Some files j [] None short

copied_is : (told : Option (List ℕ)) (bytes : List ℕ) (at n : ℕ) (mid new : Option (List ℕ)) → told ≡ Some bytes → Copied told at n mid new → new ≡ appended mid (bytes_at at n bytes)
copied_is None bytes at n mid new e c = cc
copied_is (Some b) bytes at n mid new e c = let same : b ≡ bytes = cc in c ∙ ap (λ (x : List ℕ). appended mid (bytes_at at n x)) same

copied_some : (told : Option (List ℕ)) (bytes : List ℕ) (at n : ℕ) (mid new : Option (List ℕ)) → told ≡ Some bytes → CopiedSome told at n mid new → WroteSome mid new (bytes_at at n bytes)
copied_some None bytes at n mid new e c = cc
copied_some (Some b) bytes at n mid new e c =
    let same : b ≡ bytes = cc in
    (c.0, c.2 ∙ ap (λ (x : List ℕ). appended mid (bytes_at at c.0 x)) same ∙ ap (appended mid) (sym (take-take c.0 n (drop at bytes) c.1)))

-- what was copied of a piece's input are the piece's bytes
pub copied_piece : {A : Type 0} (told : A → Option (List ℕ)) (inputs : List A) (d : A) (files : List (List ℕ)) (p : Piece) (mid new : Option (List ℕ))
    → p.input < length inputs → map told inputs ≡ map Some files
    → Copied (told (get_or inputs p.input d)) p.offset p.len mid new → new ≡ appended mid (piece_bytes files p)
copied_piece told inputs d files p mid new in_range same c =
    copied_is (told (get_or inputs p.input d)) (slice_index_or files p.input []) p.offset p.len mid new (told_at told inputs p.input d files in_range same) c

pub some_piece : {A : Type 0} (told : A → Option (List ℕ)) (inputs : List A) (d : A) (files : List (List ℕ)) (p : Piece) (mid new : Option (List ℕ))
    → p.input < length inputs → map told inputs ≡ map Some files
    → CopiedSome (told (get_or inputs p.input d)) p.offset p.len mid new → WroteSome mid new (piece_bytes files p)
some_piece told inputs d files p mid new in_range same c =
    copied_some (told (get_or inputs p.input d)) (slice_index_or files p.input []) p.offset p.len mid new (told_at told inputs p.input d files in_range same) c

pub copied_more : (files : List (List ℕ)) (pieces : List Piece) (i : ℕ) (first mid new : Option (List ℕ)) → i < length pieces
    → new ≡ appended mid (piece_bytes files (piece_at pieces i))
    → mid ≡ appended first (pieces_bytes files (take i pieces)) → new ≡ appended first (pieces_bytes files (take (i + 1) pieces))
copied_more files pieces i first mid new lt c e =
    c ∙ ap (λ (o : Option (List ℕ)). appended o (piece_bytes files (piece_at pieces i))) e
    ∙ appended-appended first (pieces_bytes files (take i pieces)) (piece_bytes files (piece_at pieces i))
    ∙ ap (appended first) (sym (pieces_more files pieces i lt))

pub some_more : (files : List (List ℕ)) (pieces : List Piece) (i : ℕ) (first mid new : Option (List ℕ)) → i < length pieces
    → WroteSome mid new (piece_bytes files (piece_at pieces i))
    → mid ≡ appended first (pieces_bytes files (take i pieces)) → WroteSome first new (pieces_bytes files pieces)
some_more files pieces i first mid new lt here e =
    let more : List ℕ = pieces_bytes files (drop (i + 1) pieces) in
    let all : WroteSome first new (pieces_bytes files (take i pieces) ++ (piece_bytes files (piece_at pieces i) ++ more)) =
    whole_then_some first mid new (pieces_bytes files (take i pieces)) (piece_bytes files (piece_at pieces i) ++ more) e
    (some_of_more mid new (piece_bytes files (piece_at pieces i)) more here) in
    subst (λ (x : List ℕ). WroteSome first new x) (pieces_all files pieces i lt) all

pub all_pieces : (files : List (List ℕ)) (pieces : List Piece) (i : ℕ) (first new : Option (List ℕ)) → length pieces ≤ i → new ≡ appended first (pieces_bytes files (take i pieces))
    → WroteSome first new (pieces_bytes files pieces)
all_pieces files pieces i first new le e = all_is_some first new (pieces_bytes files pieces) (e ∙ ap (λ (ps : List Piece). appended first (pieces_bytes files ps)) (take_all i pieces le))

-- the number of the element that changed rose
pub index_rose : {A : Type 0} (f : A → ℕ) (xs : List A) (i : ℕ) (d y : A) → i < length xs → f (get_or xs i d) < f y
    → slice_index (map f xs) i < slice_index (map f (set xs i y)) i
index_rose f xs i d y in_range rose =
    let old : slice_index (map f xs) i ≡ f (get_or xs i d) = get_or-map f xs i d 0 in_range in
    let short : i < length (map f xs) = rw length-map in_range in
    let new : slice_index (map f (set xs i y)) i ≡ f y = rw map-set (get_or-set_same (map f xs) i (f y) 0 short) in
    omega (arith, rose, old, new)
