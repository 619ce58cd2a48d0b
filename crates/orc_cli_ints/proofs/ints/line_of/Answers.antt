use Rattle.std.proofs.Common.{◌≡◌, ◌++◌, ◌∷◌, [], ℕ, List, pos, get_or, ap, sym, ◌∙◌}
use Rattle.std.specs.Prelude.{string_bytes}
use Rattle.std.specs.Fmt.{signed_decimal}
use Rattle.orc_cli_output.proofs.Joined.{joined_more, joined_first}
use Rattle.orc_cli_ints.proofs.ints.line_of.Goals as goal
use Rattle.orc_cli_ints.proofs.ints.line_of.Goals.{then-i-gt0+in_ok-push_str, else-i-gt0}

pub loop-i-preserved : goal.loop-i-preserved
loop-i-preserved c =
    let digits = signed_decimal (get_or c.args.values.now c.loop-i.i (pos 0)) in
    let lt = c.loop-i-test.true in
    elim c.if-i-gt0.branch [
      | then-i-gt0+in_ok-push_str w ↦
          let before : string_bytes c.if-i-gt0.line ≡ _ = ap string_bytes w.line-is ∙ (w.in_ok-push_str.ensures.bytes ∙ ap (λ (t : List ℕ). t ++ 32 ∷ []) c.loop-i.invariant) in
          c.in_ok-write.ensures.bytes ∙ (ap (λ (t : List ℕ). t ++ digits) before ∙ sym (joined_more 32 signed_decimal (pos 0) c.args.values.now c.loop-i.i lt w.if-i-gt0.true))
      | else-i-gt0 w ↦
          let before : string_bytes c.if-i-gt0.line ≡ _ = ap string_bytes w.line-is ∙ c.loop-i.invariant in
          c.in_ok-write.ensures.bytes ∙ (ap (λ (t : List ℕ). t ++ digits) before ∙ sym (joined_first 32 signed_decimal (pos 0) c.args.values.now c.loop-i.i w.if-i-gt0.false lt))
    ]
