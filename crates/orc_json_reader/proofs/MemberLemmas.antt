-- Members that were read, before those that are left.
use Rattle.std.proofs.Common.{◌≡◌, ℕ, ◌-◌, ◌<◌, ◌≤◌, List, length, Option, Some, None, option_and_then, refl, ap, ◌∙◌, arith}
use Rattle.json.specs.Token.{Token}
use Rattle.json.specs.Json as json
use Rattle.json.specs.Json.{parse_map, read_key}
use Rattle.json.proofs.Grammar.{members_more, members_end}
use Rattle.serde_json.specs.Data.{Data, Members, no_members, put}
use Rattle.serde_json.specs.Read.{of_members}
use Rattle.orc_json_reader.specs.Fronts.{ValueFront, MembersFront}

-- whatever the members that are left make of those that were found, all of them make of none
pub record MembersGo (depth : ℕ) (start now : List Token) (found : Members) : Type 0 where
  pub turns : ℕ
  pub enough : length now ≤ turns
  pub fewer : length now ≤ length start
  pub goes : (ms : json.Members) (all : Members) (new : List Token) → json.members (json.value depth) turns now ≡ Some (ms, new) → of_members ms found ≡ Some all
      → MembersFront (λ m. m ≡ all) depth start new

pub members_first : (depth : ℕ) (start : List Token) → MembersGo depth start start no_members
members_first depth start =
    record {
      turns = length start;
      enough = omega arith;
      fewer = omega arith;
      goes = λ ms all new read means. record { text = ms; members = all; read = read; means = means; are = refl };
    }

pub members_next : (Is : Data → Type 0) (depth : ℕ) (start now s r : List Token) (k : List ℕ) (found : Members) → read_key now ≡ Some (Some k, s) → (f : ValueFront Is depth s r) → length s < length now
    → length r < length s → MembersGo depth start now found → MembersGo depth start r (put k f.value found)
members_next Is depth start now s r k found key f less lesser w =
    let some : 0 < w.turns = omega (arith, w.enough) in
    record {
      turns = w.turns - 1;
      enough = omega (arith, w.enough);
      fewer = omega (arith, w.fewer);
      goes = λ ms all new read means.
          w.goes (json.member k f.text ms) all new (members_more (json.value depth) w.turns k now s r f.text some key f.read ∙ ap (parse_map (json.member k f.text)) read)
          (ap (λ (o : Option Data). option_and_then (λ x. of_members ms (put k x found)) o) f.means ∙ means);
    }

pub members_last : (depth : ℕ) (start now r : List Token) (found : Members) → read_key now ≡ Some (None, r) → MembersGo depth start now found → MembersFront (λ m. m ≡ found) depth start r
members_last depth start now r found e w = w.goes json.no_members found r (members_end (json.value depth) w.turns now r w.enough e) refl
