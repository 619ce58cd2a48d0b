use Rattle.std.proofs.Common.{sym, length, ◌≡◌, true, subst}
use Rattle.orc_directory.specs.Directory.{have_room, names_once}
use Rattle.orc_directory.proofs.LocatedLemmas.{search_starts}
use Rattle.orc_directory.proofs.located.locate.Goals as goal

pub loop-stream-init : goal.loop-stream-init
loop-stream-init c =
    let streams = c.as_slice-stream-items.result.now in
    let is = sym c.as_slice-stream-items.ensures in
    search_starts (length c.as_slice-columns.result.now) streams c.args.bytes.now (record { bytes = c.split_at.result.0 }) c.in_ok-slices.slices.items
    (subst (λ ss. have_room (length c.args.bytes.now) ss ≡ true) is c.requires.room) (subst (λ ss. names_once ss ≡ true) is c.requires.once) c.split_at.ensures.front
    (c.in_ok-slices.ensures.items_if_clones_equal (λ y e. e))
