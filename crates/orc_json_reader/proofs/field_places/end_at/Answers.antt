use Rattle.std.proofs.Common.{◌≡◌, ℕ, length, sym, ap, ◌∙◌, arith}
use Rattle.orc_json_reader.specs.Frontier.{read_up_to}
use Rattle.orc_json_reader.proofs.FrontierLemmas.{read_up_to-all}
use Rattle.orc_json_reader.proofs.field_places.end_at.Goals as goal

pub returns : goal.returns
returns c =
    let all : c.len-count.result ≡ length c.set_null.new.rows.items = omega (arith, c.set_null.ensures.len) in
    sym (read_up_to-all c.set_null.new.rows.items) ∙ ap (λ (n : ℕ). read_up_to n c.set_null.new.rows.items) (sym all) ∙ c.set_null.ensures.rows
