-- Texts of cells, one after the other, and by layouts.
use Rattle.std.proofs.Common.{rules, ◌≡◌, ℕ, List, [], ◌∷◌, ◌++◌, Bool, true, false, Vec, Box, Global, refl, sym, ap, ◌∙◌, append_assoc, append-nil}
use Rattle.serde_json.specs.Written.{comma_if}
use Rattle.orc_values.specs.Cells.{Cell, null, list, struct, pairs, cells_of, pairs_of}
use Rattle.orc_values.proofs.Views.{list_of_cells-cells_of, list_of_pairs-pairs_of}
use Rattle.orc_json_printer.specs.Layouts.{LaidMember, PairTexts, text_by, member_parts, layout_step, null_text, elements_text, parts_text, pair_text, pair_texts, pairs_text}
use Rattle.orc_json_printer.specs.declared.layout.Layout.{Layout, List as ListOf, Map as MapLayout, Struct}
use Rattle.orc_json_printer.specs.declared.layout.Layout.TheFolds.{the_lemmas}
use Rattle.orc_json_printer.specs.declared.layout.Layout.TheOpen.{Layout-F}
use Rattle.orc_json_printer.specs.declared.layout.Member.{Member}
use Rattle.orc_json_printer.specs.declared.layout.FieldColumns.{FieldColumns}
use Rattle.orc_json_printer.specs.declared.layout.PairLayout.{PairLayout}
use Rattle.orc_json_printer.proofs.Layouts.{text_by-List, text_by-Map, text_by-Struct}
use Rattle.orc_column_text.specs.Texts.{comma_texts}

-- ---- null

null_step : (x : Layout-F (Cell → List ℕ) LaidMember PairTexts) → layout_step x null ≡ null_text
null_step Layout-F.Leaf = refl
null_step (Layout-F.List f) = refl
null_step (Layout-F.Map t) = refl
null_step (Layout-F.Struct ps xs) = refl

pub null_text_by : (l : Layout) → text_by l null ≡ null_text
null_text_by l = search (rules, the_lemmas, null_step)

-- ---- one more

-- whether something stands before what comes next
abbrev pub follows : {X : Type 0} → Bool → List X → Bool
follows later [] = later
follows later (x ∷ xs) = true

follows_on : {X : Type 0} (xs : List X) → follows true xs ≡ true
follows_on [] = refl
follows_on (x ∷ xs) = refl

pub follows-snoc : {X : Type 0} (later : Bool) (xs : List X) (x : X) → follows later (xs ++ x ∷ []) ≡ true
follows-snoc later [] x = refl
follows-snoc later (y ∷ xs) x = refl

pub texts-snoc : {X : Type 0} (f : X → List ℕ) (later : Bool) (xs : List X) (x : X) → comma_texts f later (xs ++ x ∷ []) ≡ comma_texts f later xs ++ (comma_if (follows later xs) ++ f x)
texts-snoc f later [] x = ap (λ (t : List ℕ). comma_if later ++ t) (append-nil (f x))
texts-snoc f later (y ∷ xs) x =
    let rest = texts-snoc f true xs x ∙ ap (λ (b : Bool). comma_texts f true xs ++ (comma_if b ++ f x)) (follows_on xs) in
    ap (λ (t : List ℕ). comma_if later ++ (f y ++ t)) rest
    ∙ ap (λ (t : List ℕ). comma_if later ++ t) (sym (append_assoc (f y) (comma_texts f true xs) (comma_if true ++ f x)))
    ∙ sym (append_assoc (comma_if later) (f y ++ comma_texts f true xs) (comma_if true ++ f x))

-- ---- the text of a list

pub elements-texts : (f : Cell → List ℕ) (later : Bool) (cs : List Cell) → elements_text f later cs ≡ comma_texts f later cs ++ 93 ∷ []
elements-texts f later [] = refl
elements-texts f later (c ∷ cs) =
    ap (λ (t : List ℕ). comma_if later ++ (f c ++ t)) (elements-texts f true cs)
    ∙ ap (λ (t : List ℕ). comma_if later ++ t) (sym (append_assoc (f c) (comma_texts f true cs) (93 ∷ [])))
    ∙ sym (append_assoc (comma_if later) (f c ++ comma_texts f true cs) (93 ∷ []))

pub list_printed : (l : Layout) (b : Box Layout Global) (cs : List Cell) → l ≡ ListOf b → text_by l (list (cells_of cs)) ≡ 91 ∷ (comma_texts (text_by b.value) false cs ++ 93 ∷ [])
list_printed l b cs is =
    rw (is, text_by-List b)
    (ap (λ (ds : List Cell). 91 ∷ elements_text (text_by b.value) false ds) (list_of_cells-cells_of cs) ∙ ap (λ (t : List ℕ). 91 ∷ t) (elements-texts (text_by b.value) false cs))

-- ---- the text of a map

pub pairs-texts : (t : PairTexts) (later : Bool) (ps : List (Cell × Cell)) → pairs_text t later ps ≡ comma_texts (pair_text t) later ps ++ 93 ∷ []
pairs-texts t later [] = refl
pairs-texts t later (p ∷ ps) =
    ap (λ (x : List ℕ). comma_if later ++ (pair_text t p ++ x)) (pairs-texts t true ps)
    ∙ ap (λ (x : List ℕ). comma_if later ++ x) (sym (append_assoc (pair_text t p) (comma_texts (pair_text t) true ps) (93 ∷ [])))
    ∙ sym (append_assoc (comma_if later) (pair_text t p ++ comma_texts (pair_text t) true ps) (93 ∷ []))

pub map_printed : (l : Layout) (b : Box PairLayout Global) (ps : List (Cell × Cell)) → l ≡ MapLayout b → text_by l (pairs (pairs_of ps)) ≡ 91 ∷ (comma_texts (pair_text (pair_texts b.value)) false ps ++ 93 ∷ [])
map_printed l b ps is =
    rw (is, text_by-Map b)
    (ap (λ (qs : List (Cell × Cell)). 91 ∷ pairs_text (pair_texts b.value) false qs) (list_of_pairs-pairs_of ps) ∙ ap (λ (t : List ℕ). 91 ∷ t) (pairs-texts (pair_texts b.value) false ps))

-- ---- the text of a struct

pub struct_printed : (l : Layout) (ms : Vec Member Global) (xs : Vec FieldColumns Global) (cs : List Cell) → l ≡ Struct ms xs → text_by l (struct (cells_of cs)) ≡ 123 ∷ parts_text (member_parts ms.items) cs
struct_printed l ms xs cs is =
    rw (is, text_by-Struct ms xs) (ap (λ (ds : List Cell). 123 ∷ parts_text (member_parts ms.items) ds) (list_of_cells-cells_of cs))
