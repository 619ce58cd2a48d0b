-- Each kind of member says what the table of messages says.
use Rattle.std.specs.Prelude.{◌≡◌, ◌↔◌, ℕ, zero, suc, ◌+◌, ◌*◌, ◌/◌, ◌%◌, ◌^◌, ◌<◌, ℤ, pos, negsuc, List, [], ◌∷◌, ◌++◌, Option, Some, None, Bool, not, ◌==◌, cond, nat_le, refl, ⊤}
use Rattle.std.specs.Option.{unwrap_or, option_or, option_map, option_to_list, IfSome}
use Rattle.std.specs.List.{AllByRecursion}
use Rattle.std.proofs.Common.{sym, ◌∙◌, ap, subst, arith}
use Rattle.std.proofs.lemmas.List.{append-nil}
use Rattle.orc_bits.specs.Zigzag.{zig}
use Rattle.orc_wire.specs.Fields.{Item}
use Rattle.orc_wire.specs.Members.{Member, Joined}
use Rattle.orc_wire.specs.Spells.{number_in, bytes_of_field, Spells}
use Rattle.orc_wire.specs.Parts.{inside, MessageIn, JoinsOnly}
use Rattle.orc_wire.specs.Kinds.{FieldPart, number_part, small, signed, small_signed, flag, bytes_part, kept_from, same_signed, last, known, every_value, each, only}
use Rattle.orc_wire.specs.CanonicalFields.{signed_fits, all_top}
use Rattle.orc_wire.specs.Table.{newest, in_order, kept_texts, AreSmall, joined_parts, some_parts, GivesParts, JoinsParts, JoinsSome, with_field_bytes, IsOnly, OnlyMessage}

or_unwrap : {V : Type 0} (p q : Option V) (d : V) → unwrap_or p (unwrap_or q d) ≡ unwrap_or (option_or p q) d
or_unwrap None q d = refl
or_unwrap (Some v) q d = refl

map_or : {V W : Type 0} (f : V → W) (p q : Option V) → option_map f (option_or p q) ≡ option_or (option_map f p) (option_map f q)
map_or f None q = refl
map_or f (Some v) q = refl

module _ {V : Type 0} (f : Item → Option V) (part : FieldPart (Option V)) (is : (item : Item) (p : Option V) → part.gives item p → p ≡ f item) where
  pub last_is : (default : V) (fields : List Item) (v : V) → (last default part).says fields v → v ≡ unwrap_or (newest f fields) default
  last_is default [] v e = e
  last_is default (item ∷ before) v h =
      let old = last_is default before h.0 h.2 in
      let p = is item h.1 h.3 in
      h.4 ∙ (ap (λ (q : Option V). unwrap_or q h.0) p ∙ (ap (unwrap_or (f item)) old ∙ or_unwrap (f item) (newest f before) default))

  pub known_is : (fields : List Item) (v : Option V) → (known part).says fields v → v ≡ newest f fields
  known_is [] v e = e
  known_is (item ∷ before) v h =
      let old = known_is before h.0 h.2 in
      let p = is item h.1 h.3 in
      h.4 ∙ (ap (λ (q : Option V). option_or q h.0) p ∙ ap (option_or (f item)) old)

  pub each_is : (fields : List Item) (v : List V) → (each part).says fields v → v ≡ in_order f fields
  each_is [] v e = e
  each_is (item ∷ before) v h =
      let old = each_is before h.0 h.2 in
      let p = is item h.1 h.3 in
      h.4 ∙ (ap (λ (t : List V). t ++ option_to_list h.1) old ∙ ap (λ (q : Option V). in_order f before ++ option_to_list q) p)

-- the other way: what the table says, the fields say
module _ {V : Type 0} (f : Item → Option V) (part : FieldPart (Option V)) (Q : Item → Type 0) (gives : (item : Item) → Q item → part.gives item (f item)) where
  pub last_says : (default : V) (fields : List Item) (v : V) → AllByRecursion Q fields → v ≡ unwrap_or (newest f fields) default → (last default part).says fields v
  last_says default [] v all e = e
  last_says default (item ∷ before) v all e =
      let old = unwrap_or (newest f before) default in
      (old, f item, last_says default before old all.1 refl, gives item all.0, e ∙ sym (or_unwrap (f item) (newest f before) default))

  pub known_says : (fields : List Item) (v : Option V) → AllByRecursion Q fields → v ≡ newest f fields → (known part).says fields v
  known_says [] v all e = e
  known_says (item ∷ before) v all e = (newest f before, f item, known_says before (newest f before) all.1 refl, gives item all.0, e)

  pub each_says : (fields : List Item) (v : List V) → AllByRecursion Q fields → v ≡ in_order f fields → (each part).says fields v
  each_says [] v all e = e
  each_says (item ∷ before) v all e = (in_order f before, f item, each_says before (in_order f before) all.1 refl, gives item all.0, e)

-- what holds of each field that gives something
joined_all : {V P : Type 0} (start : V) (join : V → P → V → Type 0) (gives : Item → P → Type 0) (Q : Item → Type 0) → ((item : Item) (p : P) → gives item p → Q item)
    → (fields : List Item) (v : V) → Joined start join gives fields v → AllByRecursion Q fields
joined_all start join gives Q is [] v h = tt
joined_all start join gives Q is (item ∷ before) v h = (is item h.1 h.3, joined_all start join gives Q is before h.0 h.2)

map_newest : {V W : Type 0} (g : V → W) (f : Item → Option V) (fields : List Item) → newest (λ item. option_map g (f item)) fields ≡ option_map g (newest f fields)
map_newest g f [] = refl
map_newest {V} {W} g f (item ∷ before) =
    ap (λ (q : Option W). option_or (option_map g (f item)) q) (map_newest g f before) ∙ sym (map_or g (f item) (newest f before))

pub number_last : (n default : ℕ) (fields : List Item) (v : ℕ) → (last default (number_part n)).says fields v ↔ (v ≡ unwrap_or (newest (number_in n) fields) default)
number_last n default fields v = (
  last_is (number_in n) (number_part n) (λ item p e. e) default fields v,
  λ e. last_says (number_in n) (number_part n) (λ item. ⊤) (λ item q. refl) default fields v (all_top fields) e,
)

is_small : (n : ℕ) (item : Item) (p : Option ℕ) → (small n).gives item p → IfSome (number_in n item) (λ m. m < 2 ^ 32)
is_small n item p gives = subst (λ (t : Option ℕ). IfSome t (λ m. m < 2 ^ 32)) gives.0 gives.1

pub small_last : (n default : ℕ) (fields : List Item) (v : ℕ) → (last default (small n)).says fields v ↔ ((v ≡ unwrap_or (newest (number_in n) fields) default) × AreSmall n fields)
small_last n default fields v = (
  λ h. (last_is (number_in n) (small n) (λ item p e. e.0) default fields v h, joined_all default (λ old p w. w ≡ unwrap_or p old) (small n).gives _ (is_small n) fields v h),
  λ h. last_says (number_in n) (small n) (λ item. IfSome (number_in n item) (λ m. m < 2 ^ 32)) (λ item q. (refl, q)) default fields v h.1 h.0,
)

pub text_last : (n : ℕ) (default : List ℕ) (fields : List Item) (v : List ℕ) → (last default (bytes_part n)).says fields v ↔ (v ≡ unwrap_or (newest (bytes_of_field n) fields) default)
text_last n default fields v = (
  last_is (bytes_of_field n) (bytes_part n) (λ item p e. e) default fields v,
  λ e. last_says (bytes_of_field n) (bytes_part n) (λ item. ⊤) (λ item q. refl) default fields v (all_top fields) e,
)

pub number_known : (n : ℕ) (fields : List Item) (v : Option ℕ) → (known (number_part n)).says fields v ↔ (v ≡ newest (number_in n) fields)
number_known n fields v = (
  known_is (number_in n) (number_part n) (λ item p e. e) fields v,
  λ e. known_says (number_in n) (number_part n) (λ item. ⊤) (λ item q. refl) fields v (all_top fields) e,
)

pub small_known : (n : ℕ) (fields : List Item) (v : Option ℕ) → (known (small n)).says fields v ↔ ((v ≡ newest (number_in n) fields) × AreSmall n fields)
small_known n fields v = (
  λ h. (known_is (number_in n) (small n) (λ item p e. e.0) fields v h, joined_all None (λ old p w. w ≡ option_or p old) (small n).gives _ (is_small n) fields v h),
  λ h. known_says (number_in n) (small n) (λ item. IfSome (number_in n item) (λ m. m < 2 ^ 32)) (λ item q. (refl, q)) fields v h.1 h.0,
)

pub text_known : (n : ℕ) (fields : List Item) (v : Option (List ℕ)) → (known (bytes_part n)).says fields v ↔ (v ≡ newest (bytes_of_field n) fields)
text_known n fields v = (
  known_is (bytes_of_field n) (bytes_part n) (λ item p e. e) fields v,
  λ e. known_says (bytes_of_field n) (bytes_part n) (λ item. ⊤) (λ item q. refl) fields v (all_top fields) e,
)

pub text_each : (n : ℕ) (fields : List Item) (v : List (List ℕ)) → (each (bytes_part n)).says fields v ↔ (v ≡ in_order (bytes_of_field n) fields)
text_each n fields v = (
  each_is (bytes_of_field n) (bytes_part n) (λ item p e. e) fields v,
  λ e. each_says (bytes_of_field n) (bytes_part n) (λ item. ⊤) (λ item q. refl) fields v (all_top fields) e,
)

zig_small : (p : Option ℤ) → IfSome p (λ z. zig z < 2 ^ 32) → IfSome (option_map zig p) (λ m. m < 2 ^ 32)
zig_small None h = tt
zig_small (Some z) h = h

-- a value that stands for its number
module _ {V W : Type 0} (code : W → V) (f : Item → Option V) (part : FieldPart (Option W)) (is : (item : Item) (p : Option W) → part.gives item p → option_map code p ≡ f item) where
  pub coded_known : (fields : List Item) (v : Option W) → (known part).says fields v → option_map code v ≡ newest f fields
  coded_known [] v e = ap (option_map code) e
  coded_known (item ∷ before) v h =
      let old = coded_known before h.0 h.2 in
      let p = is item h.1 h.3 in
      ap (option_map code) h.4 ∙ (map_or code h.1 h.0 ∙ (ap (λ (q : Option V). option_or q (option_map code h.0)) p ∙ ap (option_or (f item)) old))

-- the signed number of a zigzag number
abbrev unzig : ℕ → ℕ → ℤ
unzig half zero = pos half
unzig half (suc odd) = negsuc half

zig_unzig : (n half odd : ℕ) → n ≡ 2 * half + odd → odd < 2 → zig (unzig half odd) ≡ n
zig_unzig n half zero e lt = omega (arith, e)
zig_unzig n half (suc odd) e lt = omega (arith, e, lt)

signed_of : ℕ → ℤ
signed_of n = unzig (n / 2) (n % 2)

zig_signed : (n : ℕ) → zig (signed_of n) ≡ n
unfolding signed_of
zig_signed n = zig_unzig n (n / 2) (n % 2) (omega arith) (omega arith)

zig_back : (o : Option ℕ) → option_map zig (option_map signed_of o) ≡ o
zig_back None = refl
zig_back (Some n) = ap (λ (m : ℕ). Some m) (zig_signed n)

-- what stands for the newest number is the newest of what stands for the numbers
newest_signed : (n : ℕ) (fields : List Item) (v : Option ℤ) → option_map zig v ≡ newest (number_in n) fields → v ≡ newest (λ item. option_map signed_of (number_in n item)) fields
newest_signed n fields v e =
    let f : Item → Option ℤ = λ item. option_map signed_of (number_in n item) in
    same_signed v (newest f fields) (newest (number_in n) fields) e
    (ap (option_map zig) (map_newest signed_of (number_in n) fields) ∙ zig_back (newest (number_in n) fields))

pub signed_known : (n : ℕ) (fields : List Item) (v : Option ℤ) → (known (signed n)).says fields v ↔ (option_map zig v ≡ newest (number_in n) fields)
signed_known n fields v = (
  coded_known zig (number_in n) (signed n) (λ item p e. e) fields v,
  λ e. known_says (λ item. option_map signed_of (number_in n item)) (signed n) (λ item. ⊤) (λ item q. zig_back (number_in n item)) fields v (all_top fields) (newest_signed n fields v e),
)

is_small_signed : (n : ℕ) (item : Item) (p : Option ℤ) → (small_signed n).gives item p → IfSome (number_in n item) (λ m. m < 2 ^ 32)
is_small_signed n item p gives = subst (λ (t : Option ℕ). IfSome t (λ m. m < 2 ^ 32)) gives.0 (zig_small p gives.1)

pub small_signed_known : (n : ℕ) (fields : List Item) (v : Option ℤ) → (known (small_signed n)).says fields v ↔ ((option_map zig v ≡ newest (number_in n) fields) × AreSmall n fields)
small_signed_known n fields v = (
  λ h. (
    coded_known zig (number_in n) (small_signed n) (λ item p e. e.0) fields v h,
    joined_all None (λ old p w. w ≡ option_or p old) (small_signed n).gives _ (is_small_signed n) fields v h,
  ),
  λ h. known_says (λ item. option_map signed_of (number_in n item)) (small_signed n) (λ item. IfSome (number_in n item) (λ m. m < 2 ^ 32))
      (λ item q. (zig_back (number_in n item), signed_fits (2 ^ 32) (option_map signed_of (number_in n item)) (number_in n item) (zig_back (number_in n item)) q)) fields v h.1
      (newest_signed n fields v h.0),
)

flag_is : (n : ℕ) (fields : List Item) (v : Option Bool) → (known (flag n)).says fields v → v ≡ option_map (λ k. not (k == 0)) (newest (number_in n) fields)
flag_is n fields v h =
    let f : ℕ → Bool = λ k. not (k == 0) in
    known_is (λ item. option_map f (number_in n item)) (flag n) (λ item p e. e) fields v h ∙ map_newest f (number_in n) fields

pub flag_known : (n : ℕ) (fields : List Item) (v : Option Bool) → (known (flag n)).says fields v ↔ (v ≡ option_map (λ k. not (k == 0)) (newest (number_in n) fields))
flag_known n fields v = (
  flag_is n fields v,
  λ e.
      let f : ℕ → Bool = λ k. not (k == 0) in
      known_says (λ item. option_map f (number_in n item)) (flag n) (λ item. ⊤) (λ item q. refl) fields v (all_top fields) (e ∙ sym (map_newest f (number_in n) fields)),
)

all_joins : {V : Type 0} (part : FieldPart (List V)) (fields : List Item) (v : List V) → (every_value part).says fields v → JoinsParts part.gives fields v
all_joins part [] v e = record { parts = []; are = tt; joined = e }
all_joins {V} part (item ∷ before) v h =
    let old = all_joins part before h.0 h.2 in
    record { parts = h.1 ∷ old.parts; are = (h.3, old.are); joined = h.4 ∙ ap (λ (t : List V). t ++ h.1) old.joined }

all_said : {V : Type 0} (part : FieldPart (List V)) (fields : List Item) (parts : List (List V)) (v : List V) → GivesParts part.gives fields parts → v ≡ joined_parts parts → (every_value part).says fields v
all_said part [] [] v are e = e
all_said part [] (p ∷ ps) v are e = absurd are
all_said part (item ∷ before) [] v are e = absurd are
all_said part (item ∷ before) (p ∷ ps) v are e = (joined_parts ps, p, all_said part before ps (joined_parts ps) are.1 refl, are.0, e)

pub all_parts : {V : Type 0} (part : FieldPart (List V)) (fields : List Item) (v : List V) → (every_value part).says fields v ↔ JoinsParts part.gives fields v
all_parts part fields v = (all_joins part fields v, λ j. all_said part fields j.parts v j.are j.joined)

each_joins : {V : Type 0} (part : FieldPart (Option V)) (fields : List Item) (v : List V) → (each part).says fields v → JoinsSome part.gives fields v
each_joins part [] v e = record { parts = []; are = tt; joined = e }
each_joins {V} part (item ∷ before) v h =
    let old = each_joins part before h.0 h.2 in
    record { parts = h.1 ∷ old.parts; are = (h.3, old.are); joined = h.4 ∙ ap (λ (t : List V). t ++ option_to_list h.1) old.joined }

each_said : {V : Type 0} (part : FieldPart (Option V)) (fields : List Item) (parts : List (Option V)) (v : List V) → GivesParts part.gives fields parts → v ≡ some_parts parts → (each part).says fields v
each_said part [] [] v are e = e
each_said part [] (p ∷ ps) v are e = absurd are
each_said part (item ∷ before) [] v are e = absurd are
each_said part (item ∷ before) (p ∷ ps) v are e = (some_parts ps, p, each_said part before ps (some_parts ps) are.1 refl, are.0, e)

pub each_parts : {V : Type 0} (part : FieldPart (Option V)) (fields : List Item) (v : List V) → (each part).says fields v ↔ JoinsSome part.gives fields v
each_parts part fields v = (each_joins part fields v, λ j. each_said part fields j.parts v j.are j.joined)

kept_is : (n : ℕ) (fields : List Item) (v : List ℕ) → (every_value (kept_from n)).says fields v → v ≡ kept_texts n fields
kept_is n [] v e = e
kept_is n (item ∷ before) v h =
    let old = kept_is n before h.0 h.2 in
    h.4 ∙ (ap (λ (t : List ℕ). t ++ h.1) old ∙ ap (λ (t : List ℕ). kept_texts n before ++ t) h.3)

kept_said : (n : ℕ) (fields : List Item) (v : List ℕ) → v ≡ kept_texts n fields → (every_value (kept_from n)).says fields v
kept_said n [] v e = e
kept_said n (item ∷ before) v e = (kept_texts n before, cond (nat_le n item.number) item.text [], kept_said n before (kept_texts n before) refl, refl, e)

pub kept_parts : (n : ℕ) (fields : List Item) (v : List ℕ) → (every_value (kept_from n)).says fields v ↔ (v ≡ kept_texts n fields)
kept_parts n fields v = (kept_is n fields v, kept_said n fields v)

-- ---- the one message

push_some : {A : Type 0} (xs : List A) (x : A) → xs ++ x ∷ [] ≡ [] → ⊥
push_some [] x e = cc
push_some (y ∷ xs) x e = cc

push_one : {A : Type 0} (xs : List A) (x y : A) → xs ++ x ∷ [] ≡ y ∷ [] → (xs ≡ []) × (x ≡ y)
push_one [] x y e = (refl, cc)
push_one {A} (z ∷ xs) x y e = let h : xs ++ x ∷ [] ≡ [] = cc in absurd (push_some xs x h)

module _ {C : Type 0} (members : Member C) (required n : ℕ) where
  abbrev found : List Item → List (Item × List ℕ)
  found fields = in_order (with_field_bytes n) fields

  -- one more field, by the bytes that it holds
  next_found : (item : Item) (before : List Item) (o : Option (List ℕ)) → bytes_of_field n item ≡ o → found (item ∷ before) ≡ found before ++ option_to_list (option_map (λ b. (item, b)) o)
  next_found item before o e = ap (λ (t : Option (List ℕ)). found before ++ option_to_list (option_map (λ b. (item, b)) t)) e

  only_next : (item : Item) (before : List Item) (o : Option (List ℕ)) (old part v : Option C) → bytes_of_field n item ≡ o → OnlyMessage members required n before old → MessageIn members required n item o part
      → JoinsOnly old part v → OnlyMessage members required n (item ∷ before) v
  only_next item before None None part v e says gives join =
      let none : v ≡ None = join ∙ gives in
      subst (λ (t : Option C). OnlyMessage members required n (item ∷ before) t) (sym none)
      (next_found item before None e ∙ (append-nil (found before) ∙ says))
  only_next item before (Some b) None part v e says gives join =
      let some : v ≡ Some gives.0 = join ∙ gives.1 in
      subst (λ (t : Option C). OnlyMessage members required n (item ∷ before) t) (sym some)
      (record { item = item; bytes = b; one = next_found item before (Some b) e ∙ ap (λ (t : List (Item × List ℕ)). t ++ (item, b) ∷ []) says; spells = gives.2 })
  only_next item before None (Some c) part v e says gives join =
      subst (λ (t : Option C). OnlyMessage members required n (item ∷ before) t) (sym join.1)
      (record { item = says.item; bytes = says.bytes; one = next_found item before None e ∙ (append-nil (found before) ∙ says.one); spells = says.spells })
  only_next item before (Some b) (Some c) part v e says gives join = let h : None ≡ Some gives.0 = sym join.0 ∙ gives.1 in absurd cc

  only_is : (fields : List Item) (v : Option C) → (only members required n).says fields v → OnlyMessage members required n fields v
  only_is [] v e = subst (λ (t : Option C). OnlyMessage members required n [] t) (sym e) refl
  only_is (item ∷ before) v h = only_next item before (bytes_of_field n item) h.0 h.1 v refl (only_is before h.0 h.2) h.3 h.4

  gives_by : (item : Item) (o : Option (List ℕ)) (p : Option C) → bytes_of_field n item ≡ o → MessageIn members required n item o p → MessageIn members required n item (bytes_of_field n item) p
  gives_by item o p e h = subst (λ (t : Option (List ℕ)). MessageIn members required n item t p) (sym e) h

  only_back : (item : Item) (before : List Item) (o : Option (List ℕ)) (v : Option C) → bytes_of_field n item ≡ o → ((w : Option C) → OnlyMessage members required n before w → (only members required n).says before w)
      → OnlyMessage members required n (item ∷ before) v → (only members required n).says (item ∷ before) v
  only_back item before None None e said h =
      (None, None, said None (sym (append-nil (found before)) ∙ (sym (next_found item before None e) ∙ h)), gives_by item None None e refl, refl)
  only_back item before None (Some c) e said h =
      let old : IsOnly members required n before c = record { item = h.item; bytes = h.bytes; one = sym (append-nil (found before)) ∙ (sym (next_found item before None e) ∙ h.one); spells = h.spells } in
      (Some c, None, said (Some c) old, gives_by item None None e refl, (refl, refl))
  only_back item before (Some b) None e said h = absurd (push_some (found before) (item, b) (sym (next_found item before (Some b) e) ∙ h))
  only_back item before (Some b) (Some c) e said h =
      let one = push_one (found before) (item, b) (h.item, h.bytes) (sym (next_found item before (Some b) e) ∙ h.one) in
      let spells = subst (λ (t : Item × List ℕ). Spells members required (inside t.0 t.1) t.1 c) (sym one.1) h.spells in
      (None, Some c, said None one.0, gives_by item (Some b) (Some c) e (c, refl, spells), refl)

  only_said : (fields : List Item) (v : Option C) → OnlyMessage members required n fields v → (only members required n).says fields v
  only_said [] None h = refl
  only_said [] (Some c) h = let e = h.one in absurd cc
  only_said (item ∷ before) v h = only_back item before (bytes_of_field n item) v refl (λ w k. only_said before w k) h

  pub only_parts : (fields : List Item) (v : Option C) → (only members required n).says fields v ↔ OnlyMessage members required n fields v
  only_parts fields v = (only_is fields v, only_said fields v)
