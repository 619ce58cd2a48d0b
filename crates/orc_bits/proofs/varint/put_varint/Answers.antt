use Rattle.std.proofs.Common.{arith, ◌≡◌, ◌+◌, ◌++◌, take, ◌%◌, [], ◌∷◌, refl, set, ap, ◌∙◌, List, ℕ, length, ◌<◌, ◌^◌}
use Rattle.std.proofs.lemmas.List.{take_more_set, length-set}
use Rattle.orc_bits.specs.Varint.{varint_text}
use Rattle.orc_bits.proofs.VarintLemmas.{IsText, few_bytes, grows, text_more, varint_text-is, text_is}
use Rattle.orc_bits.proofs.varint.put_varint.Goals as goal

pub loop-rest-preserved : goal.loop-rest-preserved
loop-rest-preserved c =
    let few = few_bytes c.loop-rest.len c.loop-rest.rest c.args.n c.loop-rest.invariant.grows c.loop-rest-test.true (omega arith) in
    record {
      room = simp length-set c.loop-rest.invariant.room;
      few = omega (arith, few);
      grows = grows c.loop-rest.len c.loop-rest.rest c.args.n c.loop-rest.invariant.grows;
      completes = rw (take_more_set c.loop-rest.text c.loop-rest.len (c.loop-rest.rest % 128 + 128) (omega arith)) (text_more _ c.loop-rest.rest c.args.n c.loop-rest-test.true c.loop-rest.invariant.completes);
    }

-- what was written is the shortest varint
written : (text : List ℕ) (len rest n : ℕ) → len < length text → n < 2 ^ 64 → rest < 128 → ((tail : List ℕ) → IsText tail rest → IsText (take len text ++ tail) n)
    → take (len + 1) (set text len rest) ≡ varint_text n
written text len rest n room fits small completes =
    let e : take (len + 1) (set text len rest) ≡ take len text ++ rest ∷ [] = take_more_set text len rest room in
    text_is _ n fits (rw e (completes (rest ∷ []) (small, refl)))

pub returns-in-Ok-clause-text : goal.returns-in-Ok-clause-text
returns-in-Ok-clause-text c =
    let is = written c.loop-rest.text c.loop-rest.len c.loop-rest.rest c.args.n (omega arith) (omega arith) c.loop-rest-test.false c.loop-rest.invariant.completes in
    c.in-Ok.ensures.items ∙ ap (λ (t : List ℕ). c.args.out.now.items ++ t) is

pub returns-in-Ok-clause-shortest : goal.returns-in-Ok-clause-shortest
returns-in-Ok-clause-shortest c = varint_text-is c.args.n (omega arith)

pub returns-in-Err-clause-full : goal.returns-in-Err-clause-full
returns-in-Err-clause-full c =
    let is = written c.loop-rest.text c.loop-rest.len c.loop-rest.rest c.args.n (omega arith) (omega arith) c.loop-rest-test.false c.loop-rest.invariant.completes in
    rw (← is) (c.in-Err.ensures.full)
