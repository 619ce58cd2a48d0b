-- Streams that are added one after the other.
use Rattle.std.proofs.Common.{◌≡◌, ℕ, ℤ, Bool, List, [], ◌++◌, map, length, refl, sym, ap, ◌∙◌, subst, append_assoc, append-nil}
use Rattle.orc_rle.specs.declared.sign.Rle.{Rle}
use Rattle.orc_rle.specs.declared.sign.Sign.TheVariants.{Signed, Unsigned}
use Rattle.orc_rle.specs.Cut.{IsWritten}
use Rattle.orc_rle.specs.ByteRun.{byte_rule}
use Rattle.orc_rle.specs.BitStream.{IsBitText}
use Rattle.orc_wire.specs.declared.encoding.Encoding.{Encoding}
use Rattle.orc_values.specs.Shapes.{Shape}
use Rattle.orc_values.specs.Cells.{Cell, is_value, values}
use Rattle.orc_stripe_writer.specs.declared.body.Body.{Body}
use Rattle.orc_column_reader.specs.Spellings.{size, concatenated}
use Rattle.orc_column_reader.specs.Stripe.{plain}
use Rattle.orc_stripe_writer.specs.Dictionary.{AreDistinct, AreNamed, is_worth}
use Rattle.orc_stripe_writer.specs.WrittenStreams.{AreWrittenInts, AreWrittenMarks}
use Rattle.orc_stripe_writer.specs.WrittenColumn.{Written, direct, dictionary, WritesBooleans, HasBytes, HasNumbers, HasStrings, HasDictionary, HasTextsIf, HasTexts, HasSizes, HasNothing, WritesValues}
use Rattle.orc_stripe_writer.specs.WrittenStripe.{line}
use Rattle.orc_stripe_writer.specs.Adding.{AddsStream, AddsValues, AddsColumn}

abbrev pub IsNothing : List ℕ → Type 0
IsNothing text = text ≡ []

-- a stream without bytes
pub nothing : (c k : ℕ) (a : Body) → AddsStream IsNothing c k a a
nothing c k a = record { text = []; is = refl; bytes = sym (append-nil a.bytes.items); directory = sym (append-nil a.directory.items) }

three : {A : Type 0} (o a b d x y z : List A) → a ≡ o ++ x → b ≡ a ++ y → d ≡ b ++ z → d ≡ o ++ (x ++ (y ++ z))
three o a b d x y z p q r = r ∙ ap (λ l. l ++ z) (q ∙ ap (λ l. l ++ y) p) ∙ append_assoc (o ++ x) y z ∙ append_assoc o x (y ++ z)

two : {A : Type 0} (o a d x y : List A) → a ≡ o ++ x → d ≡ a ++ y → d ≡ o ++ (x ++ y)
two o a d x y p q = q ∙ ap (λ l. l ++ y) p ∙ append_assoc o x y

-- the streams of values, one after the other
pub adds_streams : (P Q R : List ℕ → Type 0) (S : Written → Type 0) (c : ℕ) (e : Encoding) (o a b d : Body) → AddsStream P c 1 o a → AddsStream Q c 2 a b → AddsStream R c 3 b d
    → ((marks content lengths dictionary_data : List ℕ) → P content → Q lengths → R dictionary_data → S (record { encoding = e; marks = marks; content = content; lengths = lengths; dictionary_data = dictionary_data }))
    → AddsValues S c o d e
adds_streams P Q R S c e o a b d p q r s = record {
  content = p.text;
  lengths = q.text;
  dictionary_data = r.text;
  is = λ marks. s marks p.text q.text r.text p.is q.is r.is;
  bytes = three o.bytes.items a.bytes.items b.bytes.items d.bytes.items p.text q.text r.text p.bytes q.bytes r.bytes;
  directory = three o.directory.items a.directory.items b.directory.items d.directory.items (line c 1 p.text) (line c 2 q.text) (line c 3 r.text) p.directory q.directory r.directory;
}

-- the same streams, said in other words
pub adds_weaker : (P Q : Written → Type 0) (c : ℕ) (e : Encoding) (o d : Body) → ((w : Written) → P w → Q w) → AddsValues P c o d e → AddsValues Q c o d e
adds_weaker P Q c e o d f h = record { content = h.content; lengths = h.lengths; dictionary_data = h.dictionary_data; is = λ marks. f _ (h.is marks); bytes = h.bytes; directory = h.directory }

-- PRESENT first, then the streams of the values
pub adds_column : (rle : Rle) (s : Shape) (column : List Cell) (c : ℕ) (e : Encoding) (o a d : Body) → AddsStream (AreWrittenMarks (map is_value column)) c 0 o a
    → AddsValues (λ w. WritesValues rle w s (values column)) c a d e → AddsColumn rle s column c o d e
adds_column rle s column c e o a d m v = record {
  written = record { encoding = e; marks = m.text; content = v.content; lengths = v.lengths; dictionary_data = v.dictionary_data };
  is = record { marks = m.is; written = v.is m.text };
  encoded = refl;
  bytes = two o.bytes.items a.bytes.items d.bytes.items m.text (v.content ++ (v.lengths ++ v.dictionary_data)) m.bytes v.bytes;
  directory = two o.directory.items a.directory.items d.directory.items (line c 0 m.text) (line c 1 v.content ++ (line c 2 v.lengths ++ line c 3 v.dictionary_data)) m.directory v.directory;
}

-- DATA alone
content_added : (P : List ℕ → Type 0) (S : Written → Type 0) (c : ℕ) (e k : Encoding) (o d : Body) → e ≡ k → AddsStream P c 1 o d
    → ((w : Written) → P w.content → w ≡ record { encoding = k; marks = w.marks; content = w.content; lengths = []; dictionary_data = [] } → S w) → AddsValues S c o d e
content_added P S c e k o d is h s =
    adds_streams P IsNothing IsNothing S c e o d d d h (nothing c 2 d) (nothing c 3 d)
    (λ marks content lengths dictionary_data p l r. s _ p (λ i. record { encoding = is i; marks = marks; content = content; lengths = l i; dictionary_data = r i }))

pub bits_added : (c : ℕ) (o d : Body) (e : Encoding) (bs cs : List Bool) → e ≡ plain → bs ≡ cs → AddsStream (IsBitText bs) c 1 o d → AddsValues (λ w. WritesBooleans w cs) c o d e
bits_added c o d e bs cs k q h =
    content_added (IsBitText bs) (λ w. WritesBooleans w cs) c e plain o d k h (λ w p others. record { content_is = subst (λ xs. IsBitText xs w.content) q p; others = others })

pub bytes_added : (c : ℕ) (o d : Body) (e : Encoding) (bs cs : List ℕ) → e ≡ plain → bs ≡ cs → AddsStream (IsWritten byte_rule bs) c 1 o d → AddsValues (λ w. HasBytes w cs) c o d e
bytes_added c o d e bs cs k q h =
    content_added (IsWritten byte_rule bs) (λ w. HasBytes w cs) c e plain o d k h (λ w p others. record { content_is = subst (λ xs. IsWritten byte_rule xs w.content) q p; others = others })

pub numbers_added : (rle : Rle) (c : ℕ) (o d : Body) (e : Encoding) (ns ms : List ℤ) → e ≡ direct rle → ns ≡ ms → AddsStream (AreWrittenInts rle Signed ns) c 1 o d → AddsValues (λ w. HasNumbers rle w ms) c o d e
numbers_added rle c o d e ns ms k q h =
    content_added (AreWrittenInts rle Signed ns) (λ w. HasNumbers rle w ms) c e (direct rle) o d k h (λ w p others. record { content_is = subst (λ xs. AreWrittenInts rle Signed xs w.content) q p; others = others })

pub sizes_added : (rle : Rle) (c : ℕ) (o d : Body) (e : Encoding) (ns ms : List ℤ) → e ≡ direct rle → ns ≡ ms → AddsStream (AreWrittenInts rle Unsigned ns) c 2 o d → AddsValues (λ w. HasSizes rle w ms) c o d e
sizes_added rle c o d e ns ms k q h =
    adds_streams IsNothing (AreWrittenInts rle Unsigned ns) IsNothing (λ w. HasSizes rle w ms) c e o o d d (nothing c 1 o) h (nothing c 3 d)
    (λ marks content lengths dictionary_data n p r. record {
      lengths_are = subst (λ xs. AreWrittenInts rle Unsigned xs lengths) q p;
      others = λ i. record { encoding = k i; marks = marks; content = n i; lengths = lengths; dictionary_data = r i };
    })

pub groups_added : (rle : Rle) (c : ℕ) (o a d : Body) (e : Encoding) (ns : List ℤ) (ps : List (List ℕ)) → e ≡ direct rle → ns ≡ map size ps
    → AddsStream (λ text. text ≡ concatenated ps) c 1 o a → AddsStream (AreWrittenInts rle Unsigned ns) c 2 a d → AddsValues (λ w. HasStrings rle w ps) c o d e
groups_added rle c o a d e ns ps k q g h =
    adds_streams (λ text. text ≡ concatenated ps) (AreWrittenInts rle Unsigned ns) IsNothing (λ w. HasStrings rle w ps) c e o a d d g h (nothing c 3 d)
    (λ marks content lengths dictionary_data n p r. record {
      content_is = n;
      lengths_are = subst (λ xs. AreWrittenInts rle Unsigned xs lengths) q p;
      others = λ i. record { encoding = k i; marks = marks; content = content; lengths = lengths; dictionary_data = r i };
    })

-- a struct has no stream of its own
pub struct_added : (c : ℕ) (o : Body) (e : Encoding) → e ≡ plain → AddsValues HasNothing c o o e
struct_added c o e k =
    adds_streams IsNothing IsNothing IsNothing HasNothing c e o o o o (nothing c 1 o) (nothing c 2 o) (nothing c 3 o)
    (λ marks content lengths dictionary_data n l r. λ i. record { encoding = k i; marks = marks; content = n i; lengths = l i; dictionary_data = r i })

-- places in a dictionary, and the dictionary
pub words_added : (rle : Rle) (c : ℕ) (o a b d : Body) (e : Encoding) (places others ls : List ℤ) (entries texts : List (List ℕ)) → e ≡ dictionary rle (length entries) → others ≡ places → ls ≡ map size entries → AreNamed entries places texts
    → AddsStream (AreWrittenInts rle Unsigned others) c 1 o a → AddsStream (AreWrittenInts rle Unsigned ls) c 2 a b → AddsStream (λ text. text ≡ concatenated entries) c 3 b d
    → AddsValues (λ w. HasDictionary rle w entries texts) c o d e
words_added rle c o a b d e places others ls entries texts k s q n f g h =
    adds_streams (AreWrittenInts rle Unsigned others) (AreWrittenInts rle Unsigned ls) (λ text. text ≡ concatenated entries) (λ w. HasDictionary rle w entries texts) c e o a b d f g h
    (λ marks content lengths dictionary_data x y z. record {
      places = places;
      named = n;
      content_is = subst (λ xs. AreWrittenInts rle Unsigned xs content) s x;
      lengths_are = subst (λ xs. AreWrittenInts rle Unsigned xs lengths) q y;
      dictionary_data_is = z;
      encoded = k;
    })

-- texts, in the form that is taken
pub texts_added : (t : Bool) (rle : Rle) (c : ℕ) (o d : Body) (e : Encoding) (entries texts : List (List ℕ)) → is_worth (length entries) (length texts) ≡ t → AreDistinct texts entries
    → AddsValues (λ w. HasTextsIf t rle w entries texts) c o d e → AddsValues (λ w. HasTexts rle w texts) c o d e
texts_added t rle c o d e entries texts k are h =
    adds_weaker (λ w. HasTextsIf t rle w entries texts) (λ w. HasTexts rle w texts) c e o d
    (λ w p. record { entries = entries; distinct = are; written = subst (λ (b : Bool). HasTextsIf b rle w entries texts) (sym k) p }) h

pub retyped : (rle : Rle) (s t : Shape) (vs : List Cell) (c : ℕ) (o d : Body) (e : Encoding) → s ≡ t → AddsValues (λ w. WritesValues rle w t vs) c o d e → AddsValues (λ w. WritesValues rle w s vs) c o d e
retyped rle s t vs c o d e is h = subst (λ x. AddsValues (λ w. WritesValues rle w x vs) c o d e) (sym is) h
