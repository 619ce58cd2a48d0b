-- Rows that are pushed, and what is read of what was written of them.
use Rattle.std.proofs.Common.{◌≡◌, ◌∙◌, ℕ, zero, suc, ◌+◌, ◌<◌, List, [], ◌∷◌, ◌++◌, length, map, get_or, take, drop, Option, Some, refl, sym, ap, subst, append_assoc}
use Rattle.std.proofs.lemmas.List.{drop_more}
use Rattle.orc_values.specs.Cells.{Cell}
use Rattle.orc_values.specs.Shapes.{Shape}
use Rattle.orc_row_batch.specs.declared.options.Options.{Options}
use Rattle.orc_file_reader.specs.FileRows.{FileIs}
use Rattle.orc_file_writer.specs.Writing.{WroteWholeFile, IsSomeFile, IsCutOff}
use Rattle.orc_tail.specs.Tails.{IsTail}
use Rattle.orc_tail.specs.declared.tail.Tail.{Tail}
use Rattle.orc_check.specs.Findings.{Findings}
use Rattle.orc_check.specs.declared.finding.Finding.{Finding}
use Rattle.orc_theorems.specs.Inputs.{AreFound}
use Rattle.orc_theorems.proofs.Told.{bytes_are}

-- one row more, of those that are left
pub pushed_more : {X : Type 0} (view : X → Cell) (rows : List X) (i : ℕ) (row : X) (done : List Cell) → i < length rows → row ≡ get_or rows i row
    → done ++ map view (drop i rows) ≡ map view rows → (done ++ view row ∷ []) ++ map view (drop (i + 1) rows) ≡ map view rows
pushed_more {X} view rows i row done lt is all =
    let next : drop i rows ≡ row ∷ drop (i + 1) rows = drop_more rows i row lt ∙ ap (λ (r : X). r ∷ drop (i + 1) rows) (sym is) in
    append_assoc done (view row ∷ []) (map view (drop (i + 1) rows)) ∙ ap (λ (rs : List X). done ++ map view rs) (sym next) ∙ all

-- the rows before one, that one, and those after it are all
pub all_of : {X : Type 0} (view : X → Cell) (before done : List Cell) (rows : List X) (i : ℕ) (row : X) → i < length rows → row ≡ get_or rows i row
    → done ++ map view (drop i rows) ≡ map view rows → (before ++ done) ++ view row ∷ map view (drop (i + 1) rows) ≡ before ++ map view rows
all_of {X} view before done rows i row lt is all =
    let more : List Cell = map view (drop (i + 1) rows) in
    append_assoc before done (view row ∷ more) ∙ ap (λ (l : List Cell). before ++ l) (sym (append_assoc done (view row ∷ []) more) ∙ pushed_more view rows i row done lt is all)

-- some of the first rows are among those of more rows
front_of : (count : ℕ) (rows more : List Cell) → (n : ℕ) × (take n (rows ++ more) ≡ take count rows)
front_of zero rows more = (0, refl)
front_of (suc count) [] more = (0, refl)
front_of (suc count) (row ∷ rows) more = let rest = front_of count rows more in (suc rest.0, ap (λ (l : List Cell). row ∷ l) rest.1)

-- so what was cut off before all rows were pushed was cut off of these
pub cut_longer : (options : Options) (schema : Shape) (first told : Option (List ℕ)) (rows more : List Cell) → IsCutOff options schema first told rows → IsCutOff options schema first told (rows ++ more)
cut_longer options schema first told rows more cut =
    let n = front_of cut.count rows more in
    record {
      mine = cut.mine;
      rest = cut.rest;
      count = n.0;
      told_is = cut.told_is;
      schema = cut.schema;
      file = subst (λ (l : List Cell). IsSomeFile options schema (cut.mine ++ cut.rest) l) (sym n.1) cut.file;
    }

pub same_cut : (options o : Options) (schema s : Shape) (first told : Option (List ℕ)) (rows : List Cell) → o ≡ options → s ≡ schema → IsCutOff o s first told rows
    → IsCutOff options schema first told rows
same_cut options o schema s first told rows of_options of_schema cut =
    subst (λ (x : Options). IsCutOff x schema first told rows) of_options (subst (λ (x : Shape). IsCutOff o x first told rows) of_schema cut)

pub cut_of_all : {X : Type 0} (view : X → Cell) (options o : Options) (schema s : Shape) (first told : Option (List ℕ)) (before done : List Cell) (rows : List X) (i : ℕ) (row : X)
    → o ≡ options → s ≡ schema → i < length rows → row ≡ get_or rows i row → done ++ map view (drop i rows) ≡ map view rows
    → IsCutOff o s first told ((before ++ done) ++ view row ∷ []) → IsCutOff options schema first told (before ++ map view rows)
cut_of_all {X} view options o schema s first told before done rows i row of_options of_schema lt is all cut =
    let more : List Cell = map view (drop (i + 1) rows) in
    let pushed : List Cell = (before ++ done) ++ view row ∷ [] in
    let whole : pushed ++ more ≡ before ++ map view rows = ap (λ (l : List Cell). l ++ more) (append_assoc before done (view row ∷ []))
    ∙ append_assoc before (done ++ view row ∷ []) more ∙ ap (λ (l : List Cell). before ++ l) (pushed_more view rows i row done lt is all) in
    subst (λ (l : List Cell). IsCutOff options schema first told l) whole
    (same_cut options o schema s first told (pushed ++ more) of_options of_schema (cut_longer o s first told pushed more cut))

-- what the theorem says of reading and of checking
abbrev pub ReadLaw : Type 0
ReadLaw = (options : Options) (schema : Shape) (tail : Tail) (first told : Option (List ℕ)) (rows : List Cell) (opened : Tail) (found : List Cell)
    → (wrote : WroteWholeFile options schema tail first told rows) → FileIs wrote.bytes opened found → (opened ≡ tail) × (found ≡ rows)

abbrev pub CheckedLaw : Type 0
CheckedLaw = (options : Options) (schema : Shape) (tail : Tail) (first told : Option (List ℕ)) (rows : List Cell) (found : List Finding)
    → (wrote : WroteWholeFile options schema tail first told rows) → Findings wrote.bytes tail rows found → found ≡ []

-- where these are the bytes of what was written, their rows are those that were written
pub read_back : ReadLaw → (options : Options) (schema : Shape) (tail : Tail) (bytes there : List ℕ) (rows : List Cell) (opened : Tail) (found : List Cell)
    → WroteWholeFile options schema tail (Some []) (Some bytes) rows → there ≡ bytes → FileIs there opened found → (opened ≡ tail) × (found ≡ rows)
read_back read options schema tail bytes there rows opened found wrote same is =
    let mine : wrote.bytes ≡ bytes = bytes_are (Some []) (Some bytes) bytes wrote.bytes refl refl wrote.told_is in
    read options schema tail (Some []) (Some bytes) rows opened found wrote (subst (λ (b : List ℕ). FileIs b opened found) (same ∙ sym mine) is)

-- what the theorem says of opening
abbrev pub OpenedLaw : Type 0
OpenedLaw = (options : Options) (schema : Shape) (tail : Tail) (first told : Option (List ℕ)) (rows : List Cell) (opened : Tail)
    → (wrote : WroteWholeFile options schema tail first told rows) → IsTail wrote.bytes opened → opened ≡ tail

-- their tail is the one that was answered
pub opened_back : OpenedLaw → (options : Options) (schema : Shape) (tail : Tail) (bytes there : List ℕ) (rows : List Cell) (opened : Tail)
    → WroteWholeFile options schema tail (Some []) (Some bytes) rows → there ≡ bytes → IsTail there opened → opened ≡ tail
opened_back law options schema tail bytes there rows opened wrote same is =
    let mine : wrote.bytes ≡ bytes = bytes_are (Some []) (Some bytes) bytes wrote.bytes refl refl wrote.told_is in
    law options schema tail (Some []) (Some bytes) rows opened wrote (subst (λ (b : List ℕ). IsTail b opened) (same ∙ sym mine) is)

-- they are a file with the tail that was answered
pub file_back : ReadLaw → (options : Options) (schema : Shape) (tail : Tail) (bytes there : List ℕ) (rows : List Cell) (opened : Tail) (found : List Cell)
    → WroteWholeFile options schema tail (Some []) (Some bytes) rows → there ≡ bytes → FileIs there opened found → FileIs bytes tail found
file_back read options schema tail bytes there rows opened found wrote same is =
    let back = read_back read options schema tail bytes there rows opened found wrote same is in
    subst (λ (t : Tail). FileIs bytes t found) back.0 (subst (λ (b : List ℕ). FileIs b opened found) same is)

-- and nothing is found of them
pub nothing_back : ReadLaw → CheckedLaw → (options : Options) (schema : Shape) (tail : Tail) (bytes there : List ℕ) (rows : List Cell) (found : List Finding)
    → WroteWholeFile options schema tail (Some []) (Some bytes) rows → there ≡ bytes → AreFound there found → found ≡ []
nothing_back read checked options schema tail bytes there rows found wrote same h =
    let mine : wrote.bytes ≡ bytes = bytes_are (Some []) (Some bytes) bytes wrote.bytes refl refl wrote.told_is in
    let back = read_back read options schema tail bytes there rows h.0 h.1 wrote same h.2 in
    let findings : Findings wrote.bytes tail rows found = subst (λ (rs : List Cell). Findings wrote.bytes tail rs found) back.1
    (subst (λ (t : Tail). Findings wrote.bytes t h.1 found) back.0 (subst (λ (b : List ℕ). Findings b h.0 h.1 found) (same ∙ sym mine) h.3)) in
    checked options schema tail (Some []) (Some bytes) rows found wrote findings
