use Rattle.std.proofs.Common.{◌≡◌, ℕ, ◌-◌, List, [], ◌∷◌, ◌++◌, drop, length, sym, ap, ◌∙◌, length-drop, rules}
use Rattle.orc_wire.specs.declared.stripe_footer.StreamMsg.{StreamMsg}
use Rattle.orc_stripe_writer.specs.WrittenStripe.{line}
use Rattle.orc_stripe_writer.proofs.body.Body.list.Goals as goal

one_line : (c k n : ℕ) (bytes : List ℕ) → length bytes ≡ n → (n ≡ 0 → ⊥) → (record { kind = k; column = c; length = n }) ∷ [] ≡ line c k bytes
one_line c k n [] e h = absurd (h (sym e))
one_line c k n (b ∷ bs) e h = ap (λ (m : ℕ). let s : StreamMsg = record { kind = k; column = c; length = m } in s ∷ []) (sym e)

pub returns-clause-directory : goal.returns-clause-directory
returns-clause-directory c =
    let v : length c.args.self.now.bytes.items ≡ c.len.result = search rules in
    let some : c.len.result - c.args.start ≡ 0 → ⊥ = search rules in
    let n = length-drop c.args.start c.args.self.now.bytes.items in
    c.in_ok-push.ensures.items ∙ ap (λ es. c.args.self.now.directory.items ++ es) (one_line c.args.column c.args.kind (c.len.result - c.args.start) (drop c.args.start c.args.self.now.bytes.items) (n ∙ ap (λ m. m - c.args.start) v) some)
