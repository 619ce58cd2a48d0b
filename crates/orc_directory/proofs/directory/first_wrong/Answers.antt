use Rattle.std.proofs.Common.{◌≡◌, ℕ, ◌<◌, ◌≤◌, Some, List, [], ◌∷◌, length, drop, refl, sym, ap, ◌∙◌, subst, arith, length-drop}
use Rattle.std.proofs.lemmas.List.{drop_all}
use Rattle.orc_wire.specs.declared.encoding.Encoding.{Encoding}
use Rattle.orc_wire.specs.declared.type_msg.TypeMsg.{TypeMsg}
use Rattle.orc_directory.specs.Directory as spec
use Rattle.orc_directory.proofs.directory.first_wrong.Goals as goal

some_left : (n : ℕ) (es : List Encoding) → 0 < length es → spec.first_wrong n [] es ≡ Some n
some_left n [] h = absurd (omega (arith, h))
some_left n (e ∷ es) h = refl

too_many : (n : ℕ) (ts : List TypeMsg) (es : List Encoding) (i : ℕ) → length ts ≤ i → i < length es → spec.first_wrong n (drop i ts) (drop i es) ≡ Some n
too_many n ts es i h l = subst (λ t. spec.first_wrong n t (drop i es) ≡ Some n) (sym (drop_all i ts h)) (some_left n (drop i es) (omega (arith, l, length-drop i es)))

pub returns-then-encodings-types : goal.returns-then-encodings-types
returns-then-encodings-types c =
    let e : length c.args.types.now ≡ c.loop-i.i = omega (arith, c.loop-i-test.false, c.loop-i.auto.i-end) in
    ap Some e ∙ sym (too_many c.loop-i.i c.args.types.now c.args.encodings.now c.loop-i.i c.loop-i-test.false (omega (arith, e, c.if-encodings-types.true))) ∙ c.loop-i.invariant
