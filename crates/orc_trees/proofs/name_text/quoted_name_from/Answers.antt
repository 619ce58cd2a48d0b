use Rattle.std.proofs.Common.{rules, string_bytes}
use Rattle.std.proofs.lemmas.Str.{IsUtf8-string_bytes}
use Rattle.orc_trees.proofs.NameFronts.{text_begins, text_more, end_later, no_end, char_shorter}
use Rattle.orc_trees.proofs.name_text.quoted_name_from.Goals as goal

pub loop-rest-init : goal.loop-rest-init
loop-rest-init c = (c.utf8.text, text_begins (string_bytes c.new-name.result) c.args.text.now c.new-name.ensures.bytes, λ none. none)

pub returns-in_default-char_from-clause-none : goal.returns-in_default-char_from-clause-none
returns-in_default-char_from-clause-none c =
    c.loop-rest.invariant.2 (no_end c.loop-rest.left.now (c.in_default.ensures) (c.in_default-char_from.ensures.none))

pub loop-rest-smaller : goal.loop-rest-smaller
loop-rest-smaller c = char_shorter c.loop-rest.left.now c.in-Some-char_from.rest.now c.in-Some-char_from.c c.in-Some-char_from.ensures.found

pub loop-rest-preserved : goal.loop-rest-preserved
loop-rest-preserved c = (
  search rules,
  rw c.in_ok-push.ensures.bytes (text_more c.args.text.now (string_bytes c.loop-rest.name) c.loop-rest.left.now c.in-Some-char_from.rest.now c.in-Some-char_from.c (IsUtf8-string_bytes c.loop-rest.name) (search rules) c.loop-rest.invariant.1 c.in-Some-char_from.ensures.found),
  λ none. c.loop-rest.invariant.2 (end_later c.loop-rest.left.now c.in-Some-char_from.rest.now c.in-Some-char_from.c (c.in_default.ensures) c.in-Some-char_from.ensures.found none),
)
