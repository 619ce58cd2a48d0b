-- A statistic that was put reads back.
use Rattle.std.proofs.Common.{◌≡◌, refl, sym, ℕ, ◌==◌, Bool, true, false, if◌then◌else◌, Option, Some, None, ℤ, List, eqb-true}
use Rattle.orc_stats.specs.declared.kind.StatKind.{StatKind}
use Rattle.orc_stats.specs.declared.kind.StatKind.TheVariants as kind
use Rattle.orc_stats.specs.declared.stat.Stat.{Stat}
use Rattle.orc_stats.specs.declared.stat.Body.{Body}
use Rattle.orc_stats.specs.declared.stat.Body.TheVariants as body
use Rattle.orc_stats.specs.Kinds.{body_is_of}
use Rattle.orc_stats.specs.Messages.{unknown, ints_body, ints_record, dates_body, dates_record, texts_body, texts_record, bins_body, bins_record, bools_body, bools_record, children_body, children_record, body_read, stat_read, message_of, IsStat}
use Rattle.orc_stats.specs.laws.TallyLaws.{stat_is}
use Rattle.orc_stats.specs.Measures.{no_measure}

ints_back : (l g s : Option ℤ) → ints_body (ints_record l g s) ≡ body.Ints l g s
ints_back (Some l) g s = refl
ints_back None (Some g) s = refl
ints_back None None (Some s) = refl
ints_back None None None = refl

dates_back : (l g : Option ℤ) → dates_body (dates_record l g) ≡ body.Dates l g
dates_back (Some l) g = refl
dates_back None (Some g) = refl
dates_back None None = refl

texts_back : (l g : Option (List ℕ)) (s : Option ℤ) → texts_body (texts_record l g s) ≡ body.Texts l g s
texts_back (Some l) g s = refl
texts_back None (Some g) s = refl
texts_back None None (Some s) = refl
texts_back None None None = refl

bins_back : (s : Option ℤ) → bins_body (bins_record s) ≡ body.Bins s
bins_back (Some s) = refl
bins_back None = refl

children_back : (l g t : Option ℕ) → children_body (children_record l g t) ≡ body.Children l g t
children_back (Some l) g t = refl
children_back None (Some g) t = refl
children_back None None (Some t) = refl
children_back None None None = refl

trues_back : (t : Option ℕ) → bools_body (bools_record t) ≡ body.Bools t
trues_back (Some t) = refl
trues_back None = refl

body_back : (k : StatKind) (n : ℕ) (o : Option Bool) (b : Body) → body_is_of k b ≡ true
    → body_read k (message_of (record { count = n; nulls = o; body = b })) ≡ b
body_back kind.Plain n o body.Plain e = refl
body_back kind.Plain n o _ e = cc
body_back kind.Ints n o (body.Ints l g s) e = ints_back l g s
body_back kind.Ints n o _ e = cc
body_back kind.Bools n o (body.Bools t) e = trues_back t
body_back kind.Bools n o _ e = cc
body_back kind.Dates n o (body.Dates l g) e = dates_back l g
body_back kind.Dates n o _ e = cc
body_back kind.Texts n o (body.Texts l g s) e = texts_back l g s
body_back kind.Texts n o _ e = cc
body_back kind.Bins n o (body.Bins s) e = bins_back s
body_back kind.Bins n o _ e = cc
body_back kind.Children n o (body.Children l g t) e = children_back l g t
body_back kind.Children n o _ e = cc

by_count : (b : Bool) (n : ℕ) (x y z : Body) → (n == 0) ≡ b → (n ≡ 0 → z ≡ x) → y ≡ z → (if b then x else y) ≡ z
by_count true n x y z e empty back = sym (empty (eqb-true n 0 e))
by_count false n x y z e empty back = back

pub reads_back : (k : StatKind) (s : Stat) → IsStat k s → stat_read k (message_of s) ≡ s
reads_back k s is = stat_is no_measure refl refl (by_count (s.count == 0) s.count (unknown k) (body_read k (message_of s)) s.body refl is.empty (body_back k s.count s.nulls s.body is.kind))
