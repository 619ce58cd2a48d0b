-- The same streams have the same runs and the same bytes.
use Rattle.std.proofs.Common.{◌≡◌, Bool, true, false, refl, ap, Some}
use Rattle.orc_rle.specs.declared.sign.Sign.TheVariants.{Signed, Unsigned}
use Rattle.orc_wire.specs.declared.encoding.Encoding.{Encoding}
use Rattle.orc_wire.specs.EncodingKinds.{is_dictionary}
use Rattle.orc_values.specs.Shapes.{Shape, scalar, list_of, map_of, struct_of}
use Rattle.orc_values.specs.declared.kind.Scalar.TheVariants as kind
use Rattle.orc_column_reader.specs.Stripe.{Streams, version_at}
use Rattle.orc_row_index.specs.RunStreams.{bit_runs, byte_runs, number_runs, text_runs, value_runs, text_octets, value_bytes}

texts_same : (p q : Bool) (x y : Streams) → p ≡ q → x.encoding ≡ y.encoding → x.stream 1 ≡ y.stream 1 → x.stream 2 ≡ y.stream 2 → text_runs p x ≡ text_runs q y
texts_same true true x y t e a b = λ i. number_runs (version_at (e i).kind) Unsigned (a i)
texts_same true false x y t e a b = cc
texts_same false true x y t e a b = cc
texts_same false false x y t e a b = λ i. number_runs (version_at (e i).kind) Unsigned (b i)

-- positions are those of the same streams
pub own_same : (s : Shape) (x y : Streams) → x.encoding ≡ y.encoding → x.stream 1 ≡ y.stream 1 → x.stream 2 ≡ y.stream 2 → value_runs s x ≡ value_runs s y
own_same (list_of s o) x y e a b = λ i. number_runs (version_at (e i).kind) Unsigned (b i)
own_same (map_of k v o) x y e a b = λ i. number_runs (version_at (e i).kind) Unsigned (b i)
own_same (struct_of fs o) x y e a b = refl
own_same (scalar kind.Boolean o) x y e a b = ap bit_runs a
own_same (scalar kind.Byte o) x y e a b = ap byte_runs a
own_same (scalar kind.Short o) x y e a b = λ i. number_runs (version_at (e i).kind) Signed (a i)
own_same (scalar kind.Int o) x y e a b = λ i. number_runs (version_at (e i).kind) Signed (a i)
own_same (scalar kind.Long o) x y e a b = λ i. number_runs (version_at (e i).kind) Signed (a i)
own_same (scalar kind.Date o) x y e a b = λ i. number_runs (version_at (e i).kind) Signed (a i)
own_same (scalar kind.Binary o) x y e a b = λ i. number_runs (version_at (e i).kind) Unsigned (b i)
own_same (scalar kind.String o) x y e a b = texts_same (is_dictionary x.encoding.kind) (is_dictionary y.encoding.kind) x y (ap (λ (k : Encoding). is_dictionary k.kind) e) e a b

contents_same : (p q : Bool) (x y : Streams) → p ≡ q → x.stream 1 ≡ y.stream 1 → text_octets p x ≡ text_octets q y
contents_same true true x y t a = refl
contents_same true false x y t a = cc
contents_same false true x y t a = cc
contents_same false false x y t a = ap Some a

pub octets_same : (s : Shape) (x y : Streams) → x.encoding ≡ y.encoding → x.stream 1 ≡ y.stream 1 → value_bytes s x ≡ value_bytes s y
octets_same (list_of s o) x y e a = refl
octets_same (map_of k v o) x y e a = refl
octets_same (struct_of fs o) x y e a = refl
octets_same (scalar kind.Boolean o) x y e a = refl
octets_same (scalar kind.Byte o) x y e a = refl
octets_same (scalar kind.Short o) x y e a = refl
octets_same (scalar kind.Int o) x y e a = refl
octets_same (scalar kind.Long o) x y e a = refl
octets_same (scalar kind.Date o) x y e a = refl
octets_same (scalar kind.Binary o) x y e a = ap Some a
octets_same (scalar kind.String o) x y e a = contents_same (is_dictionary x.encoding.kind) (is_dictionary y.encoding.kind) x y (ap (λ (k : Encoding). is_dictionary k.kind) e) a
