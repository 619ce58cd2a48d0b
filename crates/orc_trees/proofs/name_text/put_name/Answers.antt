use Rattle.std.proofs.Common.{◌≡◌, sym, ◌∙◌, ◌++◌, string_bytes, append-nil, codes}
use Rattle.std.proofs.lemmas.Iterator.{YieldsList-from_chars}
use Rattle.std.proofs.lemmas.Iterator.Consumers.{YieldsList-end}
use Rattle.orc_trees.specs.SchemaText.{name_text}
use Rattle.orc_trees.proofs.NameTexts.{plain_text}
use Rattle.orc_trees.proofs.NameFronts.{put_more, put_all}
use Rattle.orc_trees.proofs.name_text.put_name.Goals as goal

pub returns-then-is_plain : goal.returns-then-is_plain
returns-then-is_plain c =
    let same : name_text c.args.name.now ≡ c.args.name.now = plain_text c.args.name.now (sym c.is_plain.ensures ∙ c.if-is_plain.true) in
    rw same c.add.ensures

pub loop-c-init : goal.loop-c-init
loop-c-init c = sym (append-nil (string_bytes c.add-2.new.text))

pub loop-c-preserved : goal.loop-c-preserved
loop-c-preserved c = put_more (string_bytes c.loop-c.text) (string_bytes c.put_char.new.text) (string_bytes c.add-2.new.text) c.loop-c.yielded c.in-Some.c c.loop-c.invariant c.in_ok-put_char.ensures

pub returns : goal.returns
returns c =
    let all = YieldsList-end (YieldsList-from_chars c.args.name.now c.utf8.name cc) c.loop-c.yielded _ c.loop-c.yielded_by _ _ c.in-None.is c.next.ensures.steps in
    let e : string_bytes c.args.text.now ++ name_text c.args.name.now ≡ string_bytes c.loop-c.text ++ codes "`" =
    put_all (string_bytes c.args.text.now) (string_bytes c.add-2.new.text) (string_bytes c.loop-c.text) c.args.name.now c.loop-c.yielded (sym c.is_plain.ensures ∙ c.if-is_plain.false) c.in_ok-add.ensures c.loop-c.invariant all.0 in
    rw e c.add-3.ensures
