use Rattle.std.proofs.Common.{◌≡◌, ℕ, ◌-◌, [], ◌∷◌, ◌++◌, length, ap, ◌∙◌, rules, arith, length-append}
use Rattle.orc_stripe_writer.proofs.indexes.put_column_index.Goals as goal

pub returns-clause-index : goal.returns-clause-index
returns-clause-index c = λ cells has x are.
    let old = c.args.out.now in
    let added = c.in_ok-found.ensures.index cells has x are in
    let place : c.in-Ok.column ≡ length old.directory.items = search rules in
    let end : c.len-2.result ≡ length c.put_index.new.out.items = omega (arith, c.len-2.ensures) in
    let start : c.len-start.result ≡ length old.bytes.items = omega (arith, c.len-start.ensures) in
    let size : c.len-2.result - c.len-start.result ≡ length added.0 = omega (arith, end, start, ap length added.2, length-append old.bytes.items added.0) in
    record {
      text = added.0;
      is = added.1;
      bytes = added.2;
      directory = c.in_ok-push.ensures.items ∙ ap (λ (k : ℕ). old.directory.items ++ record { kind = 6; column = k; length = c.len-2.result - c.len-start.result } ∷ []) place
          ∙ ap (λ (k : ℕ). old.directory.items ++ record { kind = 6; column = length old.directory.items; length = k } ∷ []) size;
    }
