use Rattle.std.proofs.Common.{◌≡◌, ℕ, ◌-◌, ◌++◌, List, length, length-append, refl, ap, ◌∙◌, arith}
use Rattle.orc_wire.specs.CanonicalMessages.{metadata_text, footer_text, post_script_text}
use Rattle.orc_tail.specs.Images.{metadata_of, footer_of, postscript_of}
use Rattle.orc_tail.proofs.TailText.{metadata_is, parts_are, bits_are}
use Rattle.orc_tail.proofs.ShortPostscript.{postscript_short}
use Rattle.orc_tail.proofs.tail.writing.put_parts.Goals as goal

pub put_postscript-requires-clause-metadata : goal.put_postscript-requires-clause-metadata
put_postscript-requires-clause-metadata c =
    let tail = c.args.tail.now in
    let text = rw c.as_slice.ensures at c.in_ok-put_metadata.ensures.text in
    let whole = text ∙ ap (λ (t : List ℕ). c.args.out.now.items ++ t) (metadata_is tail) in
    omega (arith, c.len-footer_at.ensures, c.put_metadata.new.out.ok.0, c.len-metadata_at.ensures, c.args.out.now.ok.0, ap length whole, length-append c.args.out.now.items (metadata_text.text (metadata_of tail)))

pub overflow_cast-len : goal.overflow_cast-len
overflow_cast-len c =
    let postscript = postscript_of c.args.tail.now in
    let short = postscript_short postscript c.requires.limits.version refl c.in_ok-put_postscript.ensures.bounded in
    omega (arith, c.len.ensures, c.put_postscript.new.out.ok.0, c.len-postscript_at.ensures, c.put_footer.new.out.ok.0, ap length c.in_ok-put_postscript.ensures.text, length-append c.put_footer.new.out.items (post_script_text.text postscript), short)

pub returns-clause-text : goal.returns-clause-text
returns-clause-text c =
    let tail = c.args.tail.now in
    let postscript = postscript_of tail in
    let text = rw c.as_slice.ensures at c.in_ok-put_metadata.ensures.text in
    let n : c.len.result - c.len-postscript_at.result ≡ length (post_script_text.text postscript) =
    omega (arith, c.len.ensures, c.put_postscript.new.out.ok.0, c.len-postscript_at.ensures, c.put_footer.new.out.ok.0, ap length c.in_ok-put_postscript.ensures.text, length-append c.put_footer.new.out.items (post_script_text.text postscript)) in
    parts_are c.args.out.now.items c.put_metadata.new.out.items c.put_footer.new.out.items c.put_postscript.new.out.items c.push.new.self.items
    (metadata_text.text (metadata_of tail)) (footer_text.text (footer_of tail)) (post_script_text.text postscript) (c.len.result - c.len-postscript_at.result)
    (text ∙ ap (λ (t : List ℕ). c.args.out.now.items ++ t) (metadata_is tail)) c.in_ok-put_footer.ensures.text c.in_ok-put_postscript.ensures.text c.in_ok-push.ensures.items n

pub returns-clause-bits : goal.returns-clause-bits
returns-clause-bits c =
    bits_are c.args.tail.now (rw c.as_slice.ensures at c.in_ok-put_metadata.ensures.bounded) c.in_ok-put_footer.ensures.bounded c.in_ok-put_postscript.ensures.bounded
