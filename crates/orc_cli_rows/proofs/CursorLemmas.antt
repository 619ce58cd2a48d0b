-- Lines that are put as a cursor gives its rows.
use Rattle.std.proofs.Common.{◌≡◌, ℕ, List, [], ◌∷◌, ◌++◌, true, false, refl, sym, ap, ◌∙◌, subst, append_assoc, append-nil}
use Rattle.std.proofs.lemmas.List.Concat.{flat_map-append}
use Rattle.orc_values.specs.Cells.{Cell}
use Rattle.orc_values.specs.Shapes.{Shape}
use Rattle.orc_values.specs.Fits.{RowsFit}
use Rattle.orc_json_printer.specs.Texts.{Prints}
use Rattle.orc_column_text.specs.Taken.{GaveText, GivesText}
use Rattle.orc_stripe_reader.specs.Cursors.{IsGoing, HasRefused, StandsFor}
use Rattle.orc_stripe_reader.specs.declared.cursor.RowCursor.{RowCursor}
use Rattle.orc_cli_rows.specs.Rows.{row_line, row_lines}
use Rattle.orc_json_printer.specs.Outputs.{Puts}
use Rattle.orc_json_printer.proofs.Outputs.{puts_then, puts_is, puts_none}
use Rattle.orc_cli_rows.specs.Pieces.{text_line, text_lines, PutsAll, PutsFront}

-- lines of rows that stand behind others
pub both_lines : (text : Cell → List ℕ) (all front rest : List Cell) → all ≡ front ++ rest → text_lines text front ++ text_lines text rest ≡ text_lines text all
both_lines text all front rest e = sym (flat_map-append (text_line text) front rest) ∙ ap (text_lines text) (sym e)

module _ {T : Type 0} (holds : T → List ℕ → Type 0) (text : Cell → List ℕ) where
  -- the rows that a cursor gave so far, whose lines are put, and what it stands for behind them
  pub record Filling (start now : RowCursor) (old out : T) : Type 0 where
    pub rows : List Cell
    pub stood : (rest : List Cell) → StandsFor now rest → StandsFor start (rows ++ rest)
    pub put : Puts holds old out (text_lines text rows)
    pub given : (all : List Cell) → StandsFor start all → PutsFront holds text all now old out

  pub filling_first : (start : RowCursor) (out : T) → Filling start start out out
  filling_first start out = record {
    rows = [];
    stood = λ rest h. h;
    put = puts_none holds out;
    given = λ all h. record { front = []; rest = all; all_are = refl; stands = h; put = puts_none holds out };
  }

  -- one row more
  more_put : (rows : List Cell) (row : Cell) (old out mid new : T) → Puts holds old out (text_lines text rows) → Puts holds out mid (text row) → Puts holds mid new (10 ∷ [])
      → Puts holds old new (text_lines text (rows ++ row ∷ []))
  more_put rows row old out mid new before own end =
      let all = text_lines text rows in
      let whole = puts_then holds old mid new (all ++ text row) (10 ∷ []) (puts_then holds old out mid all (text row) before own) end in
      puts_is holds old new ((all ++ text row) ++ 10 ∷ []) (text_lines text (rows ++ row ∷ []))
      (append_assoc all (text row) (10 ∷ []) ∙ ap (λ (t : List ℕ). all ++ t) (sym (append-nil (text_line text row))) ∙ sym (flat_map-append (text_line text) rows (row ∷ []))) whole

  given_row : (all : List Cell) (before after : RowCursor) (old out mid new : T) (g : PutsFront holds text all before old out) (rest : List Cell) → g.rest ≡ rest
      → GivesText holds rest (StandsFor after) text out mid true → Puts holds mid new (10 ∷ []) → PutsFront holds text all after old new
  given_row all before after old out mid new g [] same h end = absurd h
  given_row all before after old out mid new g (row ∷ rest) same h end = record {
    front = g.front ++ row ∷ [];
    rest = rest;
    all_are = g.all_are ∙ (ap (λ (t : List Cell). g.front ++ t) same ∙ sym (append_assoc g.front (row ∷ []) rest));
    stands = h.1;
    put = more_put g.front row old out mid new g.put h.0 end;
  }

  pub filling_next : (start before after : RowCursor) (old out mid new : T) → Filling start before old out
      → GaveText holds (StandsFor before) (StandsFor after) text out mid true → ((rest : List Cell) → StandsFor before rest → GivesText holds rest (StandsFor after) text out mid true)
      → Puts holds mid new (10 ∷ []) → Filling start after old new
  filling_next start before after old out mid new f gave next end = record {
    rows = f.rows ++ gave.0 ∷ [];
    stood = λ rest h. subst (λ (t : List Cell). StandsFor start t) (sym (append_assoc f.rows (gave.0 ∷ []) rest)) (f.stood (gave.0 ∷ rest) (gave.2 rest h));
    put = more_put f.rows gave.0 old out mid new f.put gave.1 end;
    given = λ all h. (let g = f.given all h in given_row all before after old out mid new g g.rest refl (next g.rest g.stands) end);
  }

  -- at the end of the rows
  pub all_filled : (start before : RowCursor) (old out last : T) → Filling start before old out → last ≡ out → StandsFor before [] → PutsAll holds text start old last
  all_filled start before old out last f same none = record {
    rows = f.rows;
    stands = subst (λ (t : List Cell). StandsFor start t) (append-nil f.rows) (f.stood [] none);
    put = subst (λ (t : T). Puts holds old t (text_lines text f.rows)) (sym same) f.put;
  }

  given_none : (all : List Cell) (before after : RowCursor) (old out last : T) (g : PutsFront holds text all before old out) (rest : List Cell) → g.rest ≡ rest
      → GivesText holds rest (StandsFor after) text out last false → Puts holds old last (text_lines text all)
  given_none all before after old out last g [] same h =
      let whole = g.all_are ∙ (ap (λ (t : List Cell). g.front ++ t) same ∙ append-nil g.front) in
      subst (λ (t : List Cell). Puts holds old last (text_lines text t)) (sym whole) (subst (λ (t : T). Puts holds old t (text_lines text g.front)) (sym h.0) g.put)
  given_none all before after old out last g (row ∷ rest) same h = absurd h

  pub given_all : (all : List Cell) (before after : RowCursor) (old out last : T) → PutsFront holds text all before old out
      → ((rest : List Cell) → StandsFor before rest → GivesText holds rest (StandsFor after) text out last false) → Puts holds old last (text_lines text all)
  given_all all before after old out last g next = given_none all before after old out last g g.rest refl (next g.rest g.stands)

  -- on a device that has failed
  pub given_dropped : (all : List Cell) (now : RowCursor) (old out : T) → PutsFront holds text all now old out → ((before more : List ℕ) → holds out before → holds out (before ++ more))
      → Puts holds old out (text_lines text all)
  given_dropped all now old out g dropped = λ before h.
      let front = text_lines text g.front in
      let rest = text_lines text g.rest in
      let whole = append_assoc before front rest ∙ ap (λ (t : List ℕ). before ++ t) (both_lines text all g.front g.rest g.all_are) in
      subst (λ (t : List ℕ). holds out t) whole (dropped (before ++ front) rest (g.put before h))

-- ---- rows of a schema

pub lines_of_rows : (text : Cell → List ℕ) (s : Shape) (rows : List Cell) → Prints text s → RowsFit s rows → text_lines text rows ≡ row_lines s rows
lines_of_rows text s [] prints fit = refl
lines_of_rows text s (row ∷ rows) prints fit =
    ap (λ (t : List ℕ). (t ++ 10 ∷ []) ++ text_lines text rows) (prints row fit.0)
    ∙ ap (λ (t : List ℕ). row_line s row ++ t) (lines_of_rows text s rows prints fit.1)

-- ---- refusals

-- a cursor that hasn't refused yet
pub never_refused : (cursor : RowCursor) → IsGoing cursor → HasRefused cursor → ⊥
never_refused cursor going refused = cc
