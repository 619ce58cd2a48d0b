-- A row index has no more entries than bytes.
use Rattle.std.specs.Option.{option_to_list}
use Rattle.std.proofs.Common.{◌≡◌, ◌∙◌, ℕ, ◌+◌, ◌<◌, ◌≤◌, Bool, if◌then◌else◌, Option, Some, None, List, [], ◌∷◌, ◌++◌, length, sym, ap, subst, arith, length-append}
use Rattle.orc_wire.specs.Fields.{Item, IsFields}
use Rattle.orc_wire.specs.Kinds as kinds
use Rattle.orc_wire.specs.Members.{Joined}
use Rattle.orc_wire.specs.Messages.{row_index, row_index_entry}
use Rattle.orc_wire.specs.Spells.{Spells}
use Rattle.orc_wire.specs.laws.SpellsLaws.{text_some}
use Rattle.orc_wire.specs.declared.row_index.RowIndexMsg.{RowIndexMsg}
use Rattle.orc_directory.specs.Directory.{slice}
use Rattle.orc_stripe_reader.specs.Opened.{Opened}
use Rattle.orc_stripe_reader.specs.RowIndexes.{HasIndex, HasEachGroup}
use Rattle.orc_row_groups.specs.Groups.{group_count}
use Rattle.orc_check.specs.Needed.{HasRoom, MayBeWhole}

one_at_most : {V : Type 0} (p : Option V) → length (option_to_list p) ≤ 1
one_at_most None = omega arith
one_at_most (Some v) = omega arith

-- a field gives one value at most, and has a byte or more
values_few : {V : Type 0} (gives : Item → Option V → Type 0) (base : ℕ) (fields : List Item) (bytes : List ℕ) (vs : List V) → IsFields base fields bytes
    → Joined [] (λ (old : List V) (p : Option V) (v : List V). v ≡ old ++ option_to_list p) gives fields vs → length vs ≤ length bytes
values_few {V} gives base [] bytes vs are says = let none : length vs ≡ 0 = ap length says in omega (arith, none)
values_few {V} gives base (item ∷ before) bytes vs are says =
    let fewer : length says.0 ≤ length are.0 = values_few gives base before are.0 says.0 are.2 says.2 in
    let long : length vs ≡ length says.0 + length (option_to_list says.1) = ap length says.4 ∙ length-append says.0 (option_to_list says.1) in
    let all : length bytes ≡ length are.0 + length item.text = ap length are.1 ∙ length-append are.0 item.text in
    omega (arith, fewer, long, all, one_at_most says.1, text_some (base + length are.0) item are.3)

pub entries_few : (bytes : List ℕ) (message : RowIndexMsg) → Spells row_index 0 0 bytes message → length message.entries ≤ length bytes
entries_few bytes message h = values_few (kinds.message row_index_entry 0 1).gives 0 h.fields bytes message.entries h.are h.says

-- an index with an entry for each group has bytes for them
pub whole_has_room : (view : Opened) (c rows : ℕ) (message : RowIndexMsg) → 0 < view.stride → rows ≡ view.info.number_of_rows → HasIndex view.footer view.bytes c message → HasEachGroup view rows message → MayBeWhole view c
whole_has_room view c rows message some all has whole =
    let few = entries_few (slice c 6 view.footer.streams view.bytes) message has.1 in
    let groups : group_count view.stride view.info.number_of_rows ≡ length message.entries = ap (group_count view.stride) (sym all) ∙ sym whole in
    let enough : group_count view.stride view.info.number_of_rows ≤ length (slice c 6 view.footer.streams view.bytes) = omega (arith, few, groups) in (
      some,
      subst (λ (b : Bool). HasRoom (group_count view.stride view.info.number_of_rows) (if b then Some (slice c 6 view.footer.streams view.bytes) else None)) (sym has.0) enough,
    )
