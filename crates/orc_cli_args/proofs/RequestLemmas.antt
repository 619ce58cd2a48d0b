-- What the words behind a command's name ask for.
use Rattle.std.proofs.Common.{◌≡◌, ℕ, List, Option, Some, None, IsSome, IfSome, IfNone, find, option_map, option_and_then, codes, get_or, sym, ap, subst, ◌∙◌, arith, true, false, inl, inr, refl}
use Rattle.std.specs.Str.{bytes_eq}
use Rattle.clap.specs.Facts.{Entry}
use Rattle.clap.specs.Matches.{first_value, matched_of, subcommand_name_of}
use Rattle.clap.specs.Simple.{subcommand_rows_of}
use Rattle.clap.specs.Walk.{Text, Row, first_of, row_of, rows_of}
use Rattle.clap.specs.declared.parser.matches.ArgMatches.{ArgMatches}
use Rattle.clap.specs.declared.parser.matches.Found.{Found}
use Rattle.clap.specs.declared.parser.matches.MatchedArg.{MatchedArg}
use Rattle.clap.specs.declared.parser.matches.ValueSource.{ValueSource}
use Rattle.clap.proofs.WalkLemmas.{find_row, first_value-rows}
use Rattle.orc_rle.specs.declared.sign.Rle.{Rle}
use Rattle.orc_rle.specs.declared.sign.Sign.{Sign}
use Rattle.orc_row_batch.specs.declared.options.Options.{Options}
use Rattle.orc_cli_args.specs.declared.request.Request.{Request}
use Rattle.orc_cli_args.specs.Requests.{Asks, HasInts, HasWrite, IsUnderstood, ints, rows, show, check, write, merge, IsNotUnderstood, command_rows, origin_of, IsNoNumber, IsUnread, TakesNumber}

-- Who knows the words that were found names them.
pub asks_some : (P : Found → Type 0) (found : Found) (asked : Option Request) → P found → IfSome asked (Asks found) → IfSome asked (λ request. (x : Found) × P x × Asks x request)
asks_some P found None here asks = tt
asks_some P found (Some request) here asks = (found, here, asks)

-- ---- one command's words are no other's

-- the first byte of a name
abbrev front : List ℕ → ℕ
front name = get_or name 0 0

pub understood_ints : (name : List ℕ) (found : Found) (P : Type 0) → name ≡ codes "ints"
    → ((rle : Rle) (sign : Sign) (hex : List ℕ) → HasInts found rle sign hex → P) → IsUnderstood name found → P
understood_ints name found P e so (ints rle sign hex other h) = so rle sign hex h
understood_ints name found P e so (rows file other h) = let d : ◌≡◌ {A = ℕ} 105 114 = ap front (sym e ∙ other) in absurd (omega (arith, d))
understood_ints name found P e so (show file other h) = let d : ◌≡◌ {A = ℕ} 105 115 = ap front (sym e ∙ other) in absurd (omega (arith, d))
understood_ints name found P e so (check file other h) = let d : ◌≡◌ {A = ℕ} 105 99 = ap front (sym e ∙ other) in absurd (omega (arith, d))
understood_ints name found P e so (write schema options input output other h) = let d : ◌≡◌ {A = ℕ} 105 119 = ap front (sym e ∙ other) in absurd (omega (arith, d))
understood_ints name found P e so (merge output other h) = let d : ◌≡◌ {A = ℕ} 105 109 = ap front (sym e ∙ other) in absurd (omega (arith, d))

pub understood_rows : (name : List ℕ) (found : Found) (P : Type 0) → name ≡ codes "rows"
    → ((file : List ℕ) → first_value found (codes "file") ≡ Some file → P) → IsUnderstood name found → P
understood_rows name found P e so (ints rle sign hex other h) = let d : ◌≡◌ {A = ℕ} 114 105 = ap front (sym e ∙ other) in absurd (omega (arith, d))
understood_rows name found P e so (rows file other h) = so file h
understood_rows name found P e so (show file other h) = let d : ◌≡◌ {A = ℕ} 114 115 = ap front (sym e ∙ other) in absurd (omega (arith, d))
understood_rows name found P e so (check file other h) = let d : ◌≡◌ {A = ℕ} 114 99 = ap front (sym e ∙ other) in absurd (omega (arith, d))
understood_rows name found P e so (write schema options input output other h) = let d : ◌≡◌ {A = ℕ} 114 119 = ap front (sym e ∙ other) in absurd (omega (arith, d))
understood_rows name found P e so (merge output other h) = let d : ◌≡◌ {A = ℕ} 114 109 = ap front (sym e ∙ other) in absurd (omega (arith, d))

pub understood_show : (name : List ℕ) (found : Found) (P : Type 0) → name ≡ codes "show"
    → ((file : List ℕ) → first_value found (codes "file") ≡ Some file → P) → IsUnderstood name found → P
understood_show name found P e so (ints rle sign hex other h) = let d : ◌≡◌ {A = ℕ} 115 105 = ap front (sym e ∙ other) in absurd (omega (arith, d))
understood_show name found P e so (rows file other h) = let d : ◌≡◌ {A = ℕ} 115 114 = ap front (sym e ∙ other) in absurd (omega (arith, d))
understood_show name found P e so (show file other h) = so file h
understood_show name found P e so (check file other h) = let d : ◌≡◌ {A = ℕ} 115 99 = ap front (sym e ∙ other) in absurd (omega (arith, d))
understood_show name found P e so (write schema options input output other h) = let d : ◌≡◌ {A = ℕ} 115 119 = ap front (sym e ∙ other) in absurd (omega (arith, d))
understood_show name found P e so (merge output other h) = let d : ◌≡◌ {A = ℕ} 115 109 = ap front (sym e ∙ other) in absurd (omega (arith, d))

pub understood_check : (name : List ℕ) (found : Found) (P : Type 0) → name ≡ codes "check"
    → ((file : List ℕ) → first_value found (codes "file") ≡ Some file → P) → IsUnderstood name found → P
understood_check name found P e so (ints rle sign hex other h) = let d : ◌≡◌ {A = ℕ} 99 105 = ap front (sym e ∙ other) in absurd (omega (arith, d))
understood_check name found P e so (rows file other h) = let d : ◌≡◌ {A = ℕ} 99 114 = ap front (sym e ∙ other) in absurd (omega (arith, d))
understood_check name found P e so (show file other h) = let d : ◌≡◌ {A = ℕ} 99 115 = ap front (sym e ∙ other) in absurd (omega (arith, d))
understood_check name found P e so (check file other h) = so file h
understood_check name found P e so (write schema options input output other h) = let d : ◌≡◌ {A = ℕ} 99 119 = ap front (sym e ∙ other) in absurd (omega (arith, d))
understood_check name found P e so (merge output other h) = let d : ◌≡◌ {A = ℕ} 99 109 = ap front (sym e ∙ other) in absurd (omega (arith, d))

pub understood_write : (name : List ℕ) (found : Found) (P : Type 0) → name ≡ codes "write"
    → ((schema : List ℕ) (options : Options) (input output : List ℕ) → HasWrite found schema options input output → P) → IsUnderstood name found → P
understood_write name found P e so (ints rle sign hex other h) = let d : ◌≡◌ {A = ℕ} 119 105 = ap front (sym e ∙ other) in absurd (omega (arith, d))
understood_write name found P e so (rows file other h) = let d : ◌≡◌ {A = ℕ} 119 114 = ap front (sym e ∙ other) in absurd (omega (arith, d))
understood_write name found P e so (show file other h) = let d : ◌≡◌ {A = ℕ} 119 115 = ap front (sym e ∙ other) in absurd (omega (arith, d))
understood_write name found P e so (check file other h) = let d : ◌≡◌ {A = ℕ} 119 99 = ap front (sym e ∙ other) in absurd (omega (arith, d))
understood_write name found P e so (write schema options input output other h) = so schema options input output h
understood_write name found P e so (merge output other h) = let d : ◌≡◌ {A = ℕ} 119 109 = ap front (sym e ∙ other) in absurd (omega (arith, d))

pub understood_merge : (name : List ℕ) (found : Found) (P : Type 0) → name ≡ codes "merge"
    → ((output : List ℕ) → first_value found (codes "out") ≡ Some output → P) → IsUnderstood name found → P
understood_merge name found P e so (ints rle sign hex other h) = let d : ◌≡◌ {A = ℕ} 109 105 = ap front (sym e ∙ other) in absurd (omega (arith, d))
understood_merge name found P e so (rows file other h) = let d : ◌≡◌ {A = ℕ} 109 114 = ap front (sym e ∙ other) in absurd (omega (arith, d))
understood_merge name found P e so (show file other h) = let d : ◌≡◌ {A = ℕ} 109 115 = ap front (sym e ∙ other) in absurd (omega (arith, d))
understood_merge name found P e so (check file other h) = let d : ◌≡◌ {A = ℕ} 109 99 = ap front (sym e ∙ other) in absurd (omega (arith, d))
understood_merge name found P e so (write schema options input output other h) = let d : ◌≡◌ {A = ℕ} 109 119 = ap front (sym e ∙ other) in absurd (omega (arith, d))
understood_merge name found P e so (merge output other h) = so output h

pub understood_other : (name : List ℕ) (found : Found) (P : Type 0) → (name ≡ codes "ints" → ⊥) → (name ≡ codes "rows" → ⊥) → (name ≡ codes "show" → ⊥) → (name ≡ codes "check" → ⊥) → (name ≡ codes "write" → ⊥) → (name ≡ codes "merge" → ⊥) → IsUnderstood name found → P
understood_other name found P not_ints not_rows not_show not_check not_write not_merge (ints rle sign hex other h) = absurd (not_ints other)
understood_other name found P not_ints not_rows not_show not_check not_write not_merge (rows file other h) = absurd (not_rows other)
understood_other name found P not_ints not_rows not_show not_check not_write not_merge (show file other h) = absurd (not_show other)
understood_other name found P not_ints not_rows not_show not_check not_write not_merge (check file other h) = absurd (not_check other)
understood_other name found P not_ints not_rows not_show not_check not_write not_merge (write schema options input output other h) = absurd (not_write other)
understood_other name found P not_ints not_rows not_show not_check not_write not_merge (merge output other h) = absurd (not_merge other)

-- Who answers nothing to words that would be answered has met words that aren't understood.
pub none_understood : (m : ArgMatches) (name : List ℕ) (found : Found) (asked : Option Request) → subcommand_name_of m ≡ Some name
    → option_map (λ (p : Text × List Row). p.1) (subcommand_rows_of m) ≡ Some (rows_of found) → (IsUnderstood name found → IsSome asked) → IfNone asked (IsNotUnderstood m)
none_understood m name found None named here so = inr (name, found, named, here, (λ understood. let e : false ≡ true = so understood in cc))
none_understood m name found (Some request) named here so = tt

-- ---- what was found of one option or flag is what the command's words have of it

-- where a value comes from, by the entries and by the rows
pub source-rows : (found : Found) (name : Text) → option_and_then (λ (a : MatchedArg). a.source) (matched_of found name) ≡ origin_of name (rows_of found)
source-rows found name = go (find (λ (e : Entry). bytes_eq e.0.now name) found.entries.items)
    ∙ ap (option_and_then (λ (row : Row). row.source)) (sym (find_row found.entries.items name))
  where
    go : (o : Option Entry) → option_and_then (λ (a : MatchedArg). a.source) (option_map (λ (e : Entry). e.1) o) ≡ option_and_then (λ (row : Row). row.source) (option_map row_of o)
    go None = refl
    go (Some e) = refl

module _ (m : ArgMatches) (found : Found) (name : Text) (here : Some (rows_of found) ≡ command_rows m) where
  pub origin_there : origin_of name (rows_of found) ≡ option_and_then (origin_of name) (command_rows m)
  origin_there = ap (option_and_then (origin_of name)) here

  value_there : first_value found name ≡ option_and_then (first_of name) (command_rows m)
  value_there = first_value-rows found name ∙ ap (option_and_then (first_of name)) here

  pub unread_there : IsNoNumber (first_value found name) → IsUnread m name
  unread_there unread = subst IsNoNumber value_there unread

  pub unread_found : IsUnread m name → IsNoNumber (first_value found name)
  unread_found unread = subst IsNoNumber (sym value_there) unread

-- Where no command is named there is nothing of either.
module _ (m : ArgMatches) (name : Text) (none : None ≡ command_rows m) where
  pub nothing_unread : IsUnread m name → ⊥
  nothing_unread unread = let P : Option (List Row) → Type 0 = λ rows. IsNoNumber (option_and_then (first_of name) rows) in subst P (sym none) unread

  pub nothing_given : (of : ValueSource) → option_and_then (origin_of name) (command_rows m) ≡ Some of → ⊥
  nothing_given of given = let e : None ≡ Some of = ap (option_and_then (origin_of name)) none ∙ given in cc

-- No option that takes a number is unread, if none of the two is.
pub none_unread : (m : ArgMatches) → (IsUnread m (codes "stride") → ⊥) → (IsUnread m (codes "stripe-rows") → ⊥)
    → (option : List ℕ) → TakesNumber option → IsUnread m option → ⊥
none_unread m not_stride not_rows option (inl stride) unread = not_stride (subst (IsUnread m) stride unread)
none_unread m not_stride not_rows option (inr stripe_rows) unread = not_rows (subst (IsUnread m) stripe_rows unread)
