use Rattle.std.proofs.Common.{◌≡◌, ◌++◌, ◌∷◌, [], ℕ, List, get_or, ap, sym, ◌∙◌}
use Rattle.std.specs.Prelude.{string_bytes, decimal}
use Rattle.orc_cli_output.proofs.Joined.{joined_more, joined_first}
use Rattle.orc_cli_show.proofs.show.version_of.Goals as goal
use Rattle.orc_cli_show.proofs.show.version_of.Goals.{then-i-gt0+in_ok-push_str, else-i-gt0}

pub loop-i-preserved : goal.loop-i-preserved
loop-i-preserved c =
    let digits = decimal (get_or c.args.version.now c.loop-i.i 0) in
    let lt = c.loop-i-test.true in
    elim c.if-i-gt0.branch [
      | then-i-gt0+in_ok-push_str w ↦
          let before : string_bytes c.if-i-gt0.text ≡ _ = ap string_bytes w.text-is ∙ (w.in_ok-push_str.ensures.bytes ∙ ap (λ (t : List ℕ). t ++ 46 ∷ []) c.loop-i.invariant) in
          c.in_ok-write.ensures.bytes ∙ (ap (λ (t : List ℕ). t ++ digits) before ∙ sym (joined_more 46 decimal 0 c.args.version.now c.loop-i.i lt w.if-i-gt0.true))
      | else-i-gt0 w ↦
          let before : string_bytes c.if-i-gt0.text ≡ _ = ap string_bytes w.text-is ∙ c.loop-i.invariant in
          c.in_ok-write.ensures.bytes ∙ (ap (λ (t : List ℕ). t ++ digits) before ∙ sym (joined_first 46 decimal 0 c.args.version.now c.loop-i.i w.if-i-gt0.false lt))
    ]
