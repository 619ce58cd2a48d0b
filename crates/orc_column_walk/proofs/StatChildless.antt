-- The statistic of a column's cells is that of what they keep without their children.
use Rattle.std.proofs.Common.{◌≡◌, Option, Some, List, [], ◌∷◌, map, length, refl, ap, ◌∙◌}
use Rattle.std.specs.List.{filter_map, cons_option}
use Rattle.std.proofs.lemmas.List.{length-map}
use Rattle.orc_values.specs.Cells.{Cell, null, leaf, list, struct, pairs, values}
use Rattle.orc_stats.specs.declared.kind.StatKind.{StatKind}
use Rattle.orc_stats.specs.declared.kind.StatKind.TheVariants as kind
use Rattle.orc_stats.specs.Statistics.{int_of, date_of, bool_of, text_of, bytes_of, children_of, values_body, has_null, stat}
use Rattle.orc_values.specs.Childless.{childless}
use Rattle.orc_stats.specs.laws.OwnCells.{many_childless}
use Rattle.orc_values.proofs.Childless.{values_childless}
use Rattle.orc_stats.proofs.Childless.{bool_childless}

picked_childless : {A : Type 0} (pick : Cell → Option A) → ((c : Cell) → pick (childless c) ≡ pick c) → (cs : List Cell) → filter_map pick (map childless cs) ≡ filter_map pick cs
picked_childless pick one [] = refl
picked_childless pick one (c ∷ cs) = let r = picked_childless pick one cs in λ i. cons_option (one c i) (r i)

int_childless : (c : Cell) → int_of (childless c) ≡ int_of c
int_childless null = refl
int_childless (leaf a) = refl
int_childless (list x) = refl
int_childless (struct x) = refl
int_childless (pairs x) = refl

date_childless : (c : Cell) → date_of (childless c) ≡ date_of c
date_childless null = refl
date_childless (leaf a) = refl
date_childless (list x) = refl
date_childless (struct x) = refl
date_childless (pairs x) = refl

text_childless : (c : Cell) → text_of (childless c) ≡ text_of c
text_childless null = refl
text_childless (leaf a) = refl
text_childless (list x) = refl
text_childless (struct x) = refl
text_childless (pairs x) = refl

bytes_childless : (c : Cell) → bytes_of (childless c) ≡ bytes_of c
bytes_childless null = refl
bytes_childless (leaf a) = refl
bytes_childless (list x) = refl
bytes_childless (struct x) = refl
bytes_childless (pairs x) = refl

body_childless : (k : StatKind) (cs : List Cell) → values_body k (map childless cs) ≡ values_body k cs
body_childless kind.Plain cs = refl
body_childless kind.Ints cs = let e = picked_childless int_of int_childless cs in rw e refl
body_childless kind.Bools cs = let e = picked_childless bool_of bool_childless cs in rw e refl
body_childless kind.Dates cs = let e = picked_childless date_of date_childless cs in rw e refl
body_childless kind.Texts cs = let e = picked_childless text_of text_childless cs in rw e refl
body_childless kind.Bins cs = let e = picked_childless bytes_of bytes_childless cs in rw e refl
body_childless kind.Children cs = let e = picked_childless children_of many_childless cs in rw e refl

null_childless : (cs : List Cell) → has_null (map childless cs) ≡ has_null cs
null_childless [] = refl
null_childless (null ∷ cs) = refl
null_childless (leaf a ∷ cs) = null_childless cs
null_childless (list x ∷ cs) = null_childless cs
null_childless (struct x ∷ cs) = null_childless cs
null_childless (pairs x ∷ cs) = null_childless cs

pub stat_childless : (k : StatKind) (cs : List Cell) → stat k (map childless cs) ≡ stat k cs
stat_childless k cs =
    let many : length (values (map childless cs)) ≡ length (values cs) = ap length (values_childless cs) ∙ length-map (values cs) childless in
    let nulls = null_childless cs in
    let body = body_childless k cs in
    λ i. record { count = many i; nulls = Some (nulls i); body = body i }
