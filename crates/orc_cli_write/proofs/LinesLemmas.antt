-- Lines of a text, taken off its front one by one, and where they stop.
use Rattle.std.proofs.Common.{◌≡◌, ℕ, ◌+◌, ◌<◌, ◌≤◌, Bool, true, false, List, [], ◌∷◌, ◌++◌, length, take, drop, get_or, refl, sym, ap, ◌∙◌, subst, append_assoc, append-nil, arith, inl, inr, add-one, drop-cons, length-drop}
use Rattle.std.specs.Prelude.{◌==◌, ◌≢◌}
use Rattle.std.specs.List.{flat_map}
use Rattle.std.proofs.lemmas.Bool.{eqb-true, eqb-false}
use Rattle.std.proofs.lemmas.List.{take_all, take-append-drop, get_or-drop}
use Rattle.std.proofs.Math.ListN.{drop_of_length-le}
use Rattle.orc_values.specs.Shapes.{Shape}
use Rattle.orc_values.specs.Cells.{Cell}
use Rattle.orc_values.proofs.Lists.{drop_twice}
use Rattle.orc_cli_write.specs.Lines.{IsLine, AreLines, LinesSpell, LineSpellsRows, AreRowsOfLines}
use Rattle.orc_cli_write.specs.Writes.{EndsAtLine, StopsAtLine, EndsInLines}
use Rattle.orc_cli_write.specs.Reads.{TakesLine, BeginWith}
use Rattle.orc_cli_output.specs.declared.fault.CliFault.{CliFault}
use Rattle.orc_cli_write.proofs.WriteLemmas.{spell_more, rows_more, rows_last, rows_none, lines_more}

-- ---- every text has lines

record HasLines (bytes : List ℕ) : Type 0 where
  ended : List (List ℕ)
  last : List ℕ
  lines : AreLines bytes ended last

longer : (b : ℕ) (bs : List ℕ) (ended : List (List ℕ)) (last : List ℕ) → b ≢ 10 → AreLines bs ended last → HasLines (b ∷ bs)
longer b bs [] last ne l = record { ended = []; last = b ∷ last; lines = record { plain = tt; plain_last = (ne, l.plain_last); joined = ap (λ (t : List ℕ). b ∷ t) l.joined } }
longer b bs (x ∷ xs) last ne l = record { ended = (b ∷ x) ∷ xs; last = last; lines = record { plain = ((ne, l.plain.0), l.plain.1); plain_last = l.plain_last; joined = ap (λ (t : List ℕ). b ∷ t) l.joined } }

one_more : (b : ℕ) (bs : List ℕ) (end : Bool) → (b == 10) ≡ end → HasLines bs → HasLines (b ∷ bs)
one_more b bs true e p = subst (λ (t : ℕ). HasLines (t ∷ bs)) (sym (eqb-true b 10 e)) (record { ended = [] ∷ p.ended; last = p.last; lines = lines_more [] bs p.ended p.last tt p.lines })
one_more b bs false e p = longer b bs p.ended p.last (eqb-false b 10 e) p.lines

has_lines : (bytes : List ℕ) → HasLines bytes
has_lines [] = record { ended = []; last = []; lines = record { plain = tt; plain_last = tt; joined = refl } }
has_lines (b ∷ bs) = one_more b bs (b == 10) refl (has_lines bs)

-- ---- a line that isn't pushed

stops_last : (s : Shape) (line : List ℕ) → IsLine line → (line ≡ [] → ⊥) → StopsAtLine s line [] line
stops_last s line is some = record {
  ended = [];
  last = line;
  lines = record { plain = tt; plain_last = is; joined = refl };
  before = [];
  after = [];
  lines_are = refl;
  spell = refl;
  some = some;
}

stops_ended : (s : Shape) (line rest : List ℕ) → IsLine line → (line ≡ [] → ⊥) → StopsAtLine s (line ++ 10 ∷ rest) [] line
stops_ended s line rest is some =
    let p = has_lines rest in
    record {
      ended = line ∷ p.ended;
      last = p.last;
      lines = lines_more line rest p.ended p.last is p.lines;
      before = [];
      after = p.ended ++ p.last ∷ [];
      lines_are = refl;
      spell = refl;
      some = some;
    }

stops_before : (s : Shape) (line rest : List ℕ) → IsLine line → (line ≡ [] → ⊥) → (0 < length rest → get_or rest 0 0 ≡ 10) → StopsAtLine s (line ++ rest) [] line
stops_before s line [] is some end = subst (λ (t : List ℕ). StopsAtLine s t [] line) (sym (append-nil line)) (stops_last s line is some)
stops_before s line (b ∷ bs) is some end =
    let e : b ≡ 10 = end (omega arith) in
    subst (λ (t : ℕ). StopsAtLine s (line ++ t ∷ bs) [] line) (sym e) (stops_ended s line bs is some)

pub stops_here : (s : Shape) (rest : List ℕ) (len : ℕ) → IsLine (take len rest) → (take len rest ≡ [] → ⊥) → (len < length rest → get_or rest len 0 ≡ 10) → StopsAtLine s rest [] (take len rest)
stops_here s rest len is some end =
    let l = length-drop len rest in
    let place : len + 0 ≡ len = omega arith in
    let first : get_or (drop len rest) 0 0 ≡ get_or rest len 0 = get_or-drop len rest 0 0 ∙ ap (λ (m : ℕ). get_or rest m 0) place in
    subst (λ (t : List ℕ). StopsAtLine s t [] (take len rest)) (take-append-drop len rest) (stops_before s (take len rest) (drop len rest) is some (λ some. first ∙ end (omega (arith, l, some))))

stops_more : (s : Shape) (line rest : List ℕ) (own more : List Cell) (other : List ℕ) → IsLine line → LineSpellsRows s line own → StopsAtLine s rest more other → StopsAtLine s (line ++ 10 ∷ rest) (own ++ more) other
stops_more s line rest own more other is spells p = record {
  ended = line ∷ p.ended;
  last = p.last;
  lines = lines_more line rest p.ended p.last is p.lines;
  before = line ∷ p.before;
  after = p.after;
  lines_are = ap (λ (t : List (List ℕ)). line ∷ t) p.lines_are;
  spell = spell_more s line own more p.before spells p.spell;
  some = p.some;
}

-- no bytes have no line but an empty one
only_empty : (ended : List (List ℕ)) (last : List ℕ) (before after : List (List ℕ)) (line : List ℕ) → [] ≡ flat_map (λ (l : List ℕ). l ++ 10 ∷ []) ended ++ last → ended ++ last ∷ [] ≡ before ++ line ∷ after → line ≡ []
only_empty [] [] [] after line e p = cc
only_empty [] [] (x ∷ []) after line e p = absurd (cc)
only_empty [] [] (x ∷ y ∷ ys) after line e p = absurd (cc)
only_empty [] (b ∷ bs) before after line e p = absurd (cc)
only_empty ([] ∷ ls) last before after line e p = absurd (cc)
only_empty ((x ∷ xs) ∷ ls) last before after line e p = absurd (cc)

-- ---- the first lines

begins_more : (s : Shape) (line rest : List ℕ) (own more : List Cell) → IsLine line → LineSpellsRows s line own → BeginWith s rest more → BeginWith s (line ++ 10 ∷ rest) (own ++ more)
begins_more s line rest own more is spells p = record {
  ended = line ∷ p.ended;
  last = p.last;
  lines = lines_more line rest p.ended p.last is p.lines;
  before = line ∷ p.before;
  after = p.after;
  lines_are = ap (λ (t : List (List ℕ)). line ∷ t) p.lines_are;
  spell = spell_more s line own more p.before spells p.spell;
}

begin_none : (s : Shape) (ended : List (List ℕ)) (last : List ℕ) (before after : List (List ℕ)) (more : List Cell) → [] ≡ flat_map (λ (l : List ℕ). l ++ 10 ∷ []) ended ++ last
    → ended ++ last ∷ [] ≡ before ++ after → LinesSpell s before more → more ≡ []
begin_none s [] [] [] after more e p h = h
begin_none s [] [] ([] ∷ []) after more e p h = h
begin_none s [] [] ([] ∷ y ∷ ys) after more e p h = absurd (cc)
begin_none s [] [] ((b ∷ bs) ∷ xs) after more e p h = absurd (cc)
begin_none s [] (b ∷ bs) before after more e p h = absurd (cc)
begin_none s ([] ∷ ls) last before after more e p h = absurd (cc)
begin_none s ((x ∷ xs) ∷ ls) last before after more e p h = absurd (cc)

begins_last : (s : Shape) (line : List ℕ) (own more : List Cell) → IsLine line → LineSpellsRows s line own → BeginWith s [] more → BeginWith s line (own ++ more)
begins_last s line own more is spells p =
    let none = begin_none s p.ended p.last p.before p.after more p.lines.joined p.lines_are p.spell in
    record {
      ended = [];
      last = line;
      lines = record { plain = tt; plain_last = is; joined = refl };
      before = line ∷ [];
      after = [];
      lines_are = refl;
      spell = subst (λ (t : List Cell). LinesSpell s (line ∷ []) t) (sym (ap (λ (t : List Cell). own ++ t) none ∙ append-nil own)) spells;
    }

begin_here : (s : Shape) (rest : List ℕ) → BeginWith s rest []
begin_here s rest =
    let p = has_lines rest in
    record { ended = p.ended; last = p.last; lines = p.lines; before = []; after = p.ended ++ p.last ∷ []; lines_are = refl; spell = refl }

-- ---- what the front of a text leads to: with whatever the rest spells

pub record Leads (s : Shape) (bytes rest : List ℕ) (own : List Cell) : Type 0 where
  pub rows : (more : List Cell) → AreRowsOfLines s rest more → AreRowsOfLines s bytes (own ++ more)
  pub stops : (more : List Cell) (line : List ℕ) → StopsAtLine s rest more line → StopsAtLine s bytes (own ++ more) line
  pub begins : (more : List Cell) → BeginWith s rest more → BeginWith s bytes (own ++ more)

pub leads_none : (s : Shape) (bytes : List ℕ) → Leads s bytes bytes []
leads_none s bytes = record { rows = λ more h. h; stops = λ more line h. h; begins = λ more h. h }

pub leads_both : (s : Shape) (a b c : List ℕ) (own more : List Cell) → Leads s a b own → Leads s b c more → Leads s a c (own ++ more)
leads_both s a b c own more p q = record {
  rows = λ rest h. subst (λ (t : List Cell). AreRowsOfLines s a t) (sym (append_assoc own more rest)) (p.rows (more ++ rest) (q.rows rest h));
  stops = λ rest line h. subst (λ (t : List Cell). StopsAtLine s a t line) (sym (append_assoc own more rest)) (p.stops (more ++ rest) line (q.stops rest line h));
  begins = λ rest h. subst (λ (t : List Cell). BeginWith s a t) (sym (append_assoc own more rest)) (p.begins (more ++ rest) (q.begins rest h));
}

leads_line : (s : Shape) (line rest : List ℕ) (own : List Cell) → IsLine line → LineSpellsRows s line own → Leads s (line ++ 10 ∷ rest) rest own
leads_line s line rest own is spells = record {
  rows = λ more h. rows_more s line rest own more is spells h;
  stops = λ more other h. stops_more s line rest own more other is spells h;
  begins = λ more h. begins_more s line rest own more is spells h;
}

leads_last : (s : Shape) (line : List ℕ) (own : List Cell) → IsLine line → LineSpellsRows s line own → Leads s line [] own
leads_last s line own is spells = record {
  rows = λ more h. rows_last s line own more is spells h;
  stops = λ more other h. absurd (h.some (only_empty h.ended h.last h.before h.after other h.lines.joined h.lines_are));
  begins = λ more h. begins_last s line own more is spells h;
}

-- ---- the line at a place

ended_at : (input : List ℕ) (at len : ℕ) → at + len < length input → get_or (drop at input) len 0 ≡ 10 → take len (drop at input) ++ 10 ∷ drop (at + len + 1) input ≡ drop at input
ended_at input at len lt e =
    let r = drop at input in
    let l = length-drop at input in
    let n : len < length r = omega (arith, lt, l) in
    let first : drop len r ≡ get_or r len 0 ∷ drop (len + 1) r = rw add-one (drop-cons r len 0 n) in
    let k : at + (len + 1) ≡ at + len + 1 = omega arith in
    let behind : drop (len + 1) r ≡ drop (at + len + 1) input = drop_twice at (len + 1) input ∙ ap (λ (m : ℕ). drop m input) k in
    let all : drop len r ≡ 10 ∷ drop (at + len + 1) input = first ∙ (ap (λ (b : ℕ). b ∷ drop (len + 1) r) e ∙ ap (λ (t : List ℕ). 10 ∷ t) behind) in
    ap (λ (t : List ℕ). take len r ++ t) (sym all) ∙ take-append-drop len r

pub leads_ended : (s : Shape) (input : List ℕ) (at len : ℕ) (own : List Cell) → at + len < length input → (len < length (drop at input) → get_or (drop at input) len 0 ≡ 10)
    → IsLine (take len (drop at input)) → LineSpellsRows s (take len (drop at input)) own → Leads s (drop at input) (drop (at + len + 1) input) own
leads_ended s input at len own lt end is spells =
    let l = length-drop at input in
    subst (λ (t : List ℕ). Leads s t (drop (at + len + 1) input) own) (ended_at input at len lt (end (omega (arith, lt, l)))) (leads_line s (take len (drop at input)) (drop (at + len + 1) input) own is spells)

pub leads_rest : (s : Shape) (input : List ℕ) (at len : ℕ) (own : List Cell) → length input ≤ at + len → IsLine (take len (drop at input)) → LineSpellsRows s (take len (drop at input)) own
    → Leads s (drop at input) (drop (at + len) input) own
leads_rest s input at len own past is spells =
    let l = length-drop at input in
    let whole : take len (drop at input) ≡ drop at input = take_all len (drop at input) (omega (arith, past, l)) in
    let none : drop (at + len) input ≡ [] = drop_of_length-le input past in
    subst (λ (t : List ℕ). Leads s (drop at input) t own) (sym none) (subst (λ (t : List ℕ). Leads s t [] own) whole (leads_last s (take len (drop at input)) own is spells))

-- ---- the end

pub all_led : (s : Shape) (input : List ℕ) (at : ℕ) (own : List Cell) → length input ≤ at → Leads s input (drop at input) own → AreRowsOfLines s input own
all_led s input at own past h =
    let none : drop at input ≡ [] = drop_of_length-le input past in
    subst (λ (t : List Cell). AreRowsOfLines s input t) (append-nil own) (h.rows [] (subst (λ (t : List ℕ). AreRowsOfLines s t []) (sym none) (rows_none s)))

pub ends_behind : (s : Shape) (input rest : List ℕ) (len : ℕ) (own more : List Cell) (fault : CliFault) → Leads s input rest own → IsLine (take len rest) → (len < length rest → get_or rest len 0 ≡ 10)
    → (take len rest ≡ [] → ⊥) → EndsAtLine s (take len rest) fault more → EndsInLines s input fault (own ++ more)
ends_behind s input rest len own more fault h is end some ends = record {
  line = take len rest;
  before = own;
  own = more;
  stops = subst (λ (t : List Cell). StopsAtLine s input t (take len rest)) (append-nil own) (h.stops [] (take len rest) (stops_here s rest len is some end));
  ends = ends;
  rows_are = refl;
}

-- ---- a line that was read

pub leads_read : (s : Shape) (bytes line rest : List ℕ) (own : List Cell) → IsLine line → TakesLine bytes line rest → LineSpellsRows s line own → Leads s bytes rest own
leads_read s bytes line rest own is (inl e) spells = subst (λ (t : List ℕ). Leads s t rest own) (sym e) (leads_line s line rest own is spells)
leads_read s bytes line rest own is (inr e) spells =
    subst (λ (t : List ℕ). Leads s bytes t own) (sym e.2) (subst (λ (t : List ℕ). Leads s t [] own) (sym e.0) (leads_last s line own is spells))

stops_read : (s : Shape) (bytes line rest : List ℕ) → IsLine line → (line ≡ [] → ⊥) → TakesLine bytes line rest → StopsAtLine s bytes [] line
stops_read s bytes line rest is some (inl e) = subst (λ (t : List ℕ). StopsAtLine s t [] line) (sym e) (stops_ended s line rest is some)
stops_read s bytes line rest is some (inr e) = subst (λ (t : List ℕ). StopsAtLine s t [] line) (sym e.0) (stops_last s line is some)

pub ends_read : (s : Shape) (input bytes line rest : List ℕ) (own more : List Cell) (fault : CliFault) → Leads s input bytes own → IsLine line → (line ≡ [] → ⊥) → TakesLine bytes line rest
    → EndsAtLine s line fault more → EndsInLines s input fault (own ++ more)
ends_read s input bytes line rest own more fault h is some takes ends = record {
  line = line;
  before = own;
  own = more;
  stops = subst (λ (t : List Cell). StopsAtLine s input t line) (append-nil own) (h.stops [] line (stops_read s bytes line rest is some takes));
  ends = ends;
  rows_are = refl;
}

pub all_read : (s : Shape) (input : List ℕ) (own : List Cell) → Leads s input [] own → AreRowsOfLines s input own
all_read s input own h = subst (λ (t : List Cell). AreRowsOfLines s input t) (append-nil own) (h.rows [] (rows_none s))

pub begun_read : (s : Shape) (input rest : List ℕ) (own : List Cell) → Leads s input rest own → BeginWith s input own
begun_read s input rest own h = subst (λ (t : List Cell). BeginWith s input t) (append-nil own) (h.begins [] (begin_here s rest))

-- ---- the same of an equal schema and an equal line

pub spells_same : (s other : Shape) (line text : List ℕ) (own : List Cell) → other ≡ s → text ≡ line → LineSpellsRows other text own → LineSpellsRows s line own
spells_same s other line text own e f h = subst (λ (l : List ℕ). LineSpellsRows s l own) f (subst (λ (t : Shape). LineSpellsRows t text own) e h)

pub ends_same : (s other : Shape) (line text : List ℕ) (fault : CliFault) (own : List Cell) → other ≡ s → text ≡ line → EndsAtLine other text fault own → EndsAtLine s line fault own
ends_same s other line text fault own e f h = subst (λ (l : List ℕ). EndsAtLine s l fault own) f (subst (λ (t : Shape). EndsAtLine t text fault own) e h)

pub some_same : (line text : List ℕ) → text ≡ line → (text ≡ [] → ⊥) → line ≡ [] → ⊥
some_same line text f h e = h (f ∙ e)
