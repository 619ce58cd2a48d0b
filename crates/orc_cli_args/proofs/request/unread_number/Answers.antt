use Rattle.std.proofs.Common.{◌≡◌, ◌∙◌, true, false, inl, inr, refl, sym, codes}
use Rattle.clap.specs.Matches.{found_of}
use Rattle.orc_cli_args.specs.Requests.{IsUnread}
use Rattle.orc_cli_args.proofs.RequestLemmas.{unread_there, unread_found, none_unread}
use Rattle.orc_cli_args.proofs.request.unread_number.Goals as goal

pub returns-then-is_unread-clause-found : goal.returns-then-is_unread-clause-found
returns-then-is_unread-clause-found c =
    (inl refl, unread_there c.args.matches.now (found_of c.in_ok-found.found.now) (codes "stride") c.in_ok-found.ensures.rows (c.is_unread.ensures.0 c.if-is_unread.true))

pub returns-then-is_unread-2-clause-found : goal.returns-then-is_unread-2-clause-found
returns-then-is_unread-2-clause-found c =
    (inr refl, unread_there c.args.matches.now (found_of c.in_ok-found.found.now) (codes "stripe-rows") c.in_ok-found.ensures.rows (c.is_unread-else-is_unread.ensures.0 c.if-is_unread-2.true))

pub returns-then-is_unread-2-clause-first : goal.returns-then-is_unread-2-clause-first
returns-then-is_unread-2-clause-first c = λ unread.
    let yes = c.is_unread.ensures.1 (unread_found c.args.matches.now (found_of c.in_ok-found.found.now) (codes "stride") c.in_ok-found.ensures.rows unread) in
    let no : true ≡ false = sym yes ∙ c.if-is_unread.false in cc

pub returns-else-is_unread-2-clause-only : goal.returns-else-is_unread-2-clause-only
returns-else-is_unread-2-clause-only c = λ option takes unread.
    let m = c.args.matches.now in
    let found = found_of c.in_ok-found.found.now in
    let here = c.in_ok-found.ensures.rows in
    let not_stride : IsUnread m (codes "stride") → ⊥ = λ is. let yes = c.is_unread.ensures.1 (unread_found m found (codes "stride") here is) in
    let no : true ≡ false = sym yes ∙ c.if-is_unread.false in cc in
    let not_rows : IsUnread m (codes "stripe-rows") → ⊥ = λ is. let yes = c.is_unread-else-is_unread.ensures.1 (unread_found m found (codes "stripe-rows") here is) in
    let no : true ≡ false = sym yes ∙ c.if-is_unread-2.false in cc in
    absurd (none_unread m not_stride not_rows option takes unread)

pub returns-else-is_unread-2-clause-first : goal.returns-else-is_unread-2-clause-first
returns-else-is_unread-2-clause-first c = λ unread.
    let yes = c.is_unread.ensures.1 (unread_found c.args.matches.now (found_of c.in_ok-found.found.now) (codes "stride") c.in_ok-found.ensures.rows unread) in
    let no : true ≡ false = sym yes ∙ c.if-is_unread.false in cc
