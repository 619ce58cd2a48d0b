-- The rows of one stripe, all of them or those from a group on: what is out of their lines, and why no more.
use Rattle.std.proofs.Common.{◌≡◌, ◌≢◌, ◌∙◌, ℕ, ◌*◌, ◌⊎◌, inl, inr, List, [], drop, Option, Some, None, true, Result, Ok, Err, refl, sym, ap, subst, append-nil}
use Rattle.std.specs.Option.{IfSome}
use Rattle.std.specs.Prelude.{IfOk, IfErr, OnOk, OnErr, MatchResult}
use Rattle.std.specs.Io.KnownBytes.{Appends, Keeps}
use Rattle.orc_wire.specs.declared.stripe_footer.StripeFooter.{StripeFooter}
use Rattle.orc_values.specs.Cells.{Cell}
use Rattle.orc_values.specs.Fits.{RowsFit}
use Rattle.orc_json_rows.specs.FieldNames.{is_distinct}
use Rattle.orc_json_printer.specs.Texts.{Prints}
use Rattle.orc_column_reader.specs.Faults.{RowsFault}
use Rattle.orc_column_reader.specs.Stripe.{Streams, HasFooter, SpellRows, columns_of}
use Rattle.orc_directory.specs.declared.fault.StripeFault.{StripeFault}
use Rattle.orc_directory.specs.declared.fault.StripeFault.TheVariants as stripe
use Rattle.orc_stripe_reader.specs.Opened.{Opened}
use Rattle.orc_stripe_reader.specs.Opening.{StripeOpenFault}
use Rattle.orc_stripe_reader.specs.Cursors.{IsGoing, HasRefused, StandsFor, MeetsFault}
use Rattle.orc_stripe_reader.specs.GroupCursors.{HasGroup, HasEntries, StartsGroup, SpellsFrom, MeetsFrom, GroupFault}
use Rattle.orc_stripe_reader.specs.declared.cursor.RowCursor.{RowCursor}
use Rattle.orc_stripe_reader.proofs.OneStripe.{one_footer}
use Rattle.orc_stripe_reader.proofs.SpelledBehind.{one_behind, fits_behind}
use Rattle.orc_tail.specs.Stripes.{stripe_at, stripe_bytes}
use Rattle.orc_tail.specs.declared.fault.FileFault.{FileFault}
use Rattle.orc_tail.specs.declared.fault.FileFault.TheVariants as file
use Rattle.orc_tail.specs.declared.tail.Tail.{Tail}
use Rattle.orc_file_reader.specs.FileRows.{opened_stripe, IsNoStripe}
use Rattle.orc_cli_output.specs.Output.{write_failed, AppendsPart, IsWantOfMemory}
use Rattle.orc_cli_output.specs.declared.fault.CliFault.{CliFault}
use Rattle.orc_cli_output.specs.declared.fault.CliFault.TheVariants.{File}
use Rattle.orc_cli_rows.specs.Rows.{AreOfStripe, HasNoJson}
use Rattle.orc_cli_rows.specs.FromGroup.{AreRowsFrom, AreFromGroup, StopsFrom, StopsAtGroup}
use Rattle.orc_cli_rows.specs.Pieces.{text_lines}
use Rattle.orc_cli_rows.specs.OneStripe.{IsOpened, AreRowsOf, HasNoRows, AreLinesOf, IsPrinted, HasNoLines, EndsWithin, AreLinesAt, EndsAtStripe}
use Rattle.orc_cli_rows.proofs.CursorLemmas.{lines_of_rows, never_refused}
use Rattle.orc_cli_rows.proofs.RowsLemmas.{appends_none}
use Rattle.orc_io.proofs.Told.{keeps_itself}

-- ---- rows

-- why a stripe whose footer is read has no rows
pub no_stripe : (view : Opened) (why : StripeFault) → IsOpened view → RowsFault view.schema (columns_of view.footer view.bytes) view.info.number_of_rows why → IsNoStripe view.schema view.info view.bytes why
no_stripe view why has fault = record {
  none = λ rows is.
      fault.none rows (subst (λ (f : StripeFooter). SpellRows view.schema (columns_of f view.bytes) view.info.number_of_rows rows)
      (one_footer view.schema view.info view.bytes is.footer view.footer is.has_footer has) is.spelled);
  reason = inr (view.footer, has, fault);
}

-- rows that stand behind a group's positions
pub rows_behind : (view : Opened) (group : ℕ) (rows : List Cell) → HasGroup view group → HasEntries view group → SpellsFrom view group rows
    → ((x : ℕ → Streams) (all : List Cell) → StartsGroup view x all group → SpellsFrom view group (drop (group * view.stride) all)) → AreRowsFrom view group rows
rows_behind view group rows has entries spelled starts = record {
  has_group = has;
  has_entries = entries;
  fit = fits_behind view group rows spelled;
  spelled = spelled;
  rows_are = λ x all s. one_behind view group rows (drop (group * view.stride) all) spelled (starts x all s);
}

-- a cursor that is there, and one that isn't
pub cursor_found : (answer : Result RowCursor StripeFault) (view : Opened) (group : ℕ) → IfOk answer (λ _. HasGroup view group × HasEntries view group) → IfOk answer (λ cursor. (rows : List Cell) → StandsFor cursor rows → SpellsFrom view group rows)
    → ((x : ℕ → Streams) (all : List Cell) → StartsGroup view x all group → MatchResult answer (λ cursor. StandsFor cursor (drop (group * view.stride) all)) (λ f. f ≡ stripe.OutOfMemory))
    → IfOk answer (λ cursor. (rows : List Cell) → StandsFor cursor rows → AreRowsFrom view group rows)
cursor_found (Ok cursor) view group there found starts = λ rows stands.
    rows_behind view group rows there.0 there.1 (found rows stands) (λ x all s. found (drop (group * view.stride) all) (starts x all s))
cursor_found (Err f) view group there found starts = tt

pub cursor_stops : (answer : Result RowCursor StripeFault) (view : Opened) (group : ℕ)
    → ((x : ℕ → Streams) (all : List Cell) → StartsGroup view x all group → MatchResult answer (λ cursor. StandsFor cursor (drop (group * view.stride) all)) (λ f. f ≡ stripe.OutOfMemory))
    → IfErr answer (λ f. f ≢ stripe.OutOfMemory → GroupFault view group f) → IfErr answer (λ f. f ≢ stripe.OutOfMemory → StopsFrom view group f)
cursor_stops (Ok cursor) view group starts fault = tt
cursor_stops (Err f) view group starts fault = λ other. record { none = λ x all s. other (starts x all s); reason = inl (fault other) }

-- what a cursor at a group refuses later
pub stops_behind : {A : Type 0} (answer : Result A StripeFault) (view : Opened) (group : ℕ) (cursor : RowCursor) → HasGroup view group → HasEntries view group → ((f : StripeFault) → MeetsFault cursor f → MeetsFrom view group f)
    → ((x : ℕ → Streams) (all : List Cell) → StartsGroup view x all group → StandsFor cursor (drop (group * view.stride) all)) → ((rows : List Cell) → StandsFor cursor rows → IfErr answer (λ f. f ≡ stripe.OutOfMemory))
    → IfErr answer (λ f. f ≢ stripe.OutOfMemory → (f ≢ stripe.Failed) × MeetsFault cursor f) → IfErr answer (λ f. f ≢ stripe.OutOfMemory → StopsFrom view group f)
stops_behind (Ok a) view group cursor has entries meets starts only fault = tt
stops_behind (Err f) view group cursor has entries meets starts only fault = λ other.
    let met = fault other in
    record {
      none = λ x all s. other (only (drop (group * view.stride) all) (starts x all s));
      reason = inr (record { has_group = has; has_entries = entries; first = met.0; meets = meets f met.1 });
    }

pub rest_met : {A : Type 0} (answer : Result A StripeFault) (cursor : RowCursor) → IsGoing cursor → IfErr answer (λ f. f ≢ stripe.OutOfMemory → f ≢ stripe.Failed → MeetsFault cursor f) → IfErr answer (λ f. f ≡ stripe.Failed → HasRefused cursor)
    → IfErr answer (λ f. f ≢ stripe.OutOfMemory → (f ≢ stripe.Failed) × MeetsFault cursor f)
rest_met (Ok a) cursor going fault first = tt
rest_met (Err f) cursor going fault first = λ other. (let never : f ≢ stripe.Failed = λ e. never_refused cursor going (first e) in (never, fault other never))

pub err_part : {A E : Type 0} (answer : Result A E) (P : A → Type 0) (Q R : E → Type 0) → ((e : E) → Q e → R e) → MatchResult answer P Q → IfErr answer R
err_part (Ok a) P Q R so h = tt
err_part (Err e) P Q R so h = so e h

fit_of : (view : Opened) (from : Option ℕ) (rows : List Cell) → AreRowsOf view from rows → RowsFit view.schema rows
fit_of view None rows are = are.spelled.fit
fit_of view (Some group) rows are = are.fit

-- ---- their lines, where they are printed by a layout

module _ (text : Cell → List ℕ) (view : Opened) (from : Option ℕ) (n : ℕ) (distinct : is_distinct view.schema ≡ true) (prints : Prints text view.schema) where
  of_rows : (rows : List Cell) → AreRowsOf view from rows → AreLinesOf view from (text_lines text rows)
  of_rows rows are = record { rows = rows; are = are; have_json = inr distinct; lines_are = lines_of_rows text view.schema rows prints (fit_of view from rows are) }

  pub all_answered : (answer : Result (Unit {0}) CliFault) (rows : List Cell) (lines : List ℕ) (old new : Option (List ℕ)) → AreRowsOf view from rows → lines ≡ text_lines text rows
      → OnOk answer (Appends old new lines) → OnOk answer (IsPrinted view from old new)
  all_answered (Ok _) rows lines old new are e out = (lines, subst (λ (t : List ℕ). AreLinesOf view from t) (sym e) (of_rows rows are), out)
  all_answered (Err fault) rows lines old new are e out = tt

  pub all_refused : (answer : Result (Unit {0}) CliFault) (rows : List Cell) (lines : List ℕ) (old new : Option (List ℕ)) → AreRowsOf view from rows → lines ≡ text_lines text rows
      → IfErr answer (λ fault. fault ≡ write_failed) → OnErr answer (AppendsPart old new lines) → IfErr answer (EndsWithin view from n old new)
  all_refused (Ok _) rows lines old new are e failed part = tt
  all_refused (Err fault) rows lines old new are e failed part = inr (failed, (lines, subst (λ (t : List ℕ). AreLinesOf view from t) (sym e) (of_rows rows are), part))

-- where there are no rows there are no lines, whatever the schema
pub none_printed : (view : Opened) (from : Option ℕ) (out : Option (List ℕ)) → AreRowsOf view from [] → IsPrinted view from out out
none_printed view from out are = ([], record { rows = []; are = are; have_json = inl refl; lines_are = refl }, appends_none out)

pub none_out : (view : Opened) (from : Option ℕ) (n : ℕ) (out : Option (List ℕ)) (fault : CliFault) → HasNoLines view from n fault → EndsWithin view from n out out fault
none_out view from n out fault h = inl (h, appends_none out)

-- the fault of a stripe, or want of memory
pub no_rows : (view : Opened) (from : Option ℕ) (n : ℕ) (why : StripeFault) (fault : FileFault)
    → ((why ≡ stripe.OutOfMemory) × (fault ≡ file.OutOfMemory)) ⊎ ((why ≢ stripe.OutOfMemory) × (fault ≡ file.Stripe n why)) → (why ≢ stripe.OutOfMemory → HasNoRows view from why)
    → HasNoLines view from n (File fault)
no_rows view from n why fault (inl h) so = inl (inl (ap File h.1))
no_rows view from n why fault (inr h) so = inr (inl (why, ap File h.1, h.0, so h.0))

-- ---- the stripe of a file

-- the view is of the stripe with this number
abbrev pub IsViewOf : Tail → ℕ → List ℕ → Opened → Type 0
IsViewOf tail n bytes view = (view.schema ≡ tail.schema) × (view.info ≡ stripe_at tail.stripes n) × (view.stride ≡ tail.stride) × (view.bytes ≡ bytes)

keeps_of : (old new : Option (List ℕ)) → Appends old new [] → Keeps old new
keeps_of None new h = tt
keeps_of (Some xs) None h = h
keeps_of (Some xs) (Some ys) h = h ∙ append-nil xs

module _ (tail : Tail) (n : ℕ) (bytes : List ℕ) (view : Opened) (is : IsViewOf tail n bytes view) (has : HasFooter tail.schema (stripe_at tail.stripes n) bytes view.footer) where
  abbrev own : Opened
  own = opened_stripe tail n bytes view.footer

  view_is : view ≡ own
  view_is = λ i. record { schema = is.0 i; info = is.1 i; stride = is.2 i; bytes = is.3 i; footer = view.footer }

  lines_at : (from : Option ℕ) (lines : List ℕ) → AreLinesOf own from lines → AreLinesAt tail n bytes from lines
  lines_at None lines h = record { rows = h.rows; stripe = h.are; have_json = h.have_json; lines_are = h.lines_are }
  lines_at (Some group) lines h =
      record { rows = h.rows; are = record { footer = view.footer; has_footer = has; are = h.are }; have_json = h.have_json; lines_are = h.lines_are }

  stops_at : (group : ℕ) (why : StripeFault) → StopsFrom own group why → StopsAtGroup tail n bytes group why
  stops_at group why h = record {
    none = λ footer x all other starts.
        h.none x all (subst (λ (f : StripeFooter). StartsGroup (opened_stripe tail n bytes f) x all group) (one_footer tail.schema (stripe_at tail.stripes n) bytes footer view.footer other has) starts);
    reason = inr (view.footer, has, h);
  }

  -- the bytes are those of the stripe in the file
  ends_at : (all : List ℕ) (from : Option ℕ) (old new : Option (List ℕ)) (fault : CliFault) → bytes ≡ stripe_bytes (stripe_at tail.stripes n) all → EndsWithin own from n old new fault
      → EndsAtStripe all tail n from old new fault
  ends_at all None old new fault same (inl (inl memory, out)) = inl (inr (inr memory), out)
  ends_at all None old new fault same (inl (inr (inl h), out)) =
      inl (inl (inl (file.Stripe n h.0, h.1, (h.0, refl, h.2, subst (λ (b : List ℕ). IsNoStripe tail.schema (stripe_at tail.stripes n) b h.0) same h.3))), out)
  ends_at all None old new fault same (inl (inr (inr h), out)) =
      let none : HasNoJson tail.schema (stripe_at tail.stripes n) bytes = record { rows = h.1.rows; stripe = h.1.are; some = h.1.some; twice = h.1.twice } in
      inl (inl (inr (h.0, subst (λ (b : List ℕ). HasNoJson tail.schema (stripe_at tail.stripes n) b) same none)), out)
  ends_at all None old new fault same (inr h) =
      inr (h.0, (h.1.0, subst (λ (b : List ℕ). AreOfStripe tail.schema (stripe_at tail.stripes n) b h.1.0) same (lines_at None h.1.0 h.1.1), h.1.2))
  ends_at all (Some group) old new fault same (inl (inl memory, out)) = inl (inr (inr memory), keeps_of old new out)
  ends_at all (Some group) old new fault same (inl (inr (inl h), out)) =
      inl (inl (inl (h.0, h.1, h.2, subst (λ (b : List ℕ). StopsAtGroup tail n b group h.0) same (stops_at group h.0 h.3))), keeps_of old new out)
  ends_at all (Some group) old new fault same (inl (inr (inr h), out)) =
      let are : AreFromGroup tail n bytes group h.1.rows = record { footer = view.footer; has_footer = has; are = h.1.are } in
      inl (inl (inr (h.0, h.1.twice, h.1.rows, subst (λ (b : List ℕ). AreFromGroup tail n b group h.1.rows) same are, h.1.some)), keeps_of old new out)
  ends_at all (Some group) old new fault same (inr h) =
      inr (h.0, record { lines = h.1.0; are = subst (λ (b : List ℕ). AreLinesAt tail n b (Some group) h.1.0) same (lines_at (Some group) h.1.0 h.1.1); part = h.1.2 })

  -- where they are told
  pub view_printed : {A : Type 0} (answer : Result A CliFault) (told : Option (List ℕ)) (from : Option ℕ) (old new : Option (List ℕ)) → IfSome told (λ all. bytes ≡ stripe_bytes (stripe_at tail.stripes n) all)
      → OnOk answer (IsPrinted view from old new) → OnOk answer (IfSome told (λ all. (lines : List ℕ) × AreLinesAt tail n (stripe_bytes (stripe_at tail.stripes n) all) from lines × Appends old new lines))
  view_printed (Err fault) told from old new same h = tt
  view_printed (Ok a) None from old new same h = tt
  view_printed (Ok a) (Some all) from old new same h =
      let lines = lines_at from h.0 (subst (λ (v : Opened). AreLinesOf v from h.0) view_is h.1) in
      (h.0, subst (λ (b : List ℕ). AreLinesAt tail n b from h.0) same lines, h.2)

  pub view_ends : {A : Type 0} (answer : Result A CliFault) (told : Option (List ℕ)) (from : Option ℕ) (old new : Option (List ℕ)) → IfSome told (λ all. bytes ≡ stripe_bytes (stripe_at tail.stripes n) all)
      → IfErr answer (EndsWithin view from n old new) → IfErr answer (λ fault. IfSome told (λ all. EndsAtStripe all tail n from old new fault))
  view_ends (Ok a) told from old new same h = tt
  view_ends (Err fault) None from old new same h = tt
  view_ends (Err fault) (Some all) from old new same h = ends_at all from old new fault same (subst (λ (v : Opened). EndsWithin v from n old new fault) view_is h)

-- ---- a stripe that isn't opened

unopened_at : (all : List ℕ) (tail : Tail) (n : ℕ) (bytes : List ℕ) (from : Option ℕ) (known : Option (List ℕ)) (why : StripeFault) (fault : CliFault) → bytes ≡ stripe_bytes (stripe_at tail.stripes n) all
    → fault ≡ File (file.Stripe n why) → why ≢ stripe.OutOfMemory → ((footer : StripeFooter) → HasFooter tail.schema (stripe_at tail.stripes n) bytes footer → ⊥)
    → StripeOpenFault tail.schema (stripe_at tail.stripes n) bytes why → EndsAtStripe all tail n from known known fault
unopened_at all tail n bytes None known why fault same e other never bad =
    let none : IsNoStripe tail.schema (stripe_at tail.stripes n) bytes why = record { none = λ rows is. never is.footer is.has_footer; reason = inl bad } in
    inl (inl (inl (file.Stripe n why, e, (why, refl, other, subst (λ (b : List ℕ). IsNoStripe tail.schema (stripe_at tail.stripes n) b why) same none))), appends_none known)
unopened_at all tail n bytes (Some group) known why fault same e other never bad =
    let stops : StopsAtGroup tail n bytes group why = record { none = λ footer x rows has starts. never footer has; reason = inl bad } in
    inl (inl (inl (why, e, other, subst (λ (b : List ℕ). StopsAtGroup tail n b group why) same stops)), keeps_itself known)

-- no memory, whatever is asked for
pub memory_ends : (told : Option (List ℕ)) (tail : Tail) (n : ℕ) (from : Option ℕ) (known : Option (List ℕ)) (fault : CliFault) → IsWantOfMemory fault → IfSome told (λ all. EndsAtStripe all tail n from known known fault)
memory_ends None tail n from known fault want = tt
memory_ends (Some all) tail n None known fault want = inl (inr (inr want), appends_none known)
memory_ends (Some all) tail n (Some group) known fault want = inl (inr (inr want), keeps_itself known)

pub unopened_ends : (told : Option (List ℕ)) (tail : Tail) (n : ℕ) (bytes : List ℕ) (from : Option ℕ) (known : Option (List ℕ)) (fault : FileFault) → IfSome told (λ all. bytes ≡ stripe_bytes (stripe_at tail.stripes n) all)
    → ((footer : StripeFooter) → HasFooter tail.schema (stripe_at tail.stripes n) bytes footer → fault ≡ file.OutOfMemory)
    → (fault ≡ file.OutOfMemory) ⊎ ((why : StripeFault) × (fault ≡ file.Stripe n why) × (why ≢ stripe.OutOfMemory) × StripeOpenFault tail.schema (stripe_at tail.stripes n) bytes why)
    → IfSome told (λ all. EndsAtStripe all tail n from known known (File fault))
unopened_ends told tail n bytes from known fault same only (inl memory) = memory_ends told tail n from known (File fault) (inl (ap File memory))
unopened_ends None tail n bytes from known fault same only (inr h) = tt
unopened_ends (Some all) tail n bytes from known fault same only (inr h) =
    let never : (footer : StripeFooter) → HasFooter tail.schema (stripe_at tail.stripes n) bytes footer → ⊥ = λ footer has. (let memory : file.Stripe n h.0 ≡ file.OutOfMemory = sym h.1 ∙ only footer has in absurd (cc)) in
    unopened_at all tail n bytes from known h.0 (File fault) same (ap File h.1) h.2 never h.3
