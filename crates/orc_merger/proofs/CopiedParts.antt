-- Bytes that are copied through an array, one part after the other.
use Rattle.std.proofs.Common.{◌≡◌, ℕ, ◌+◌, ◌≤◌, List, ◌++◌, take, drop, Option, Some, None, refl, sym, ap, ◌∙◌, arith}
use Rattle.std.specs.Prelude.{IfSome}
use Rattle.std.proofs.Math.Seq.{take-add}
use Rattle.std.proofs.lemmas.List.{drop-drop, take-take}
use Rattle.orc_io.specs.Devices.{appended, bytes_at}
use Rattle.orc_io.proofs.Appended.{appended-appended}
use Rattle.orc_merger.specs.Copies.{Copied, CopiedSome}

pub bytes_at-add : (at n m : ℕ) (bytes : List ℕ) → bytes_at at n bytes ++ bytes_at (at + n) m bytes ≡ bytes_at at (n + m) bytes
bytes_at-add at n m bytes =
    sym (take-add n m (drop at bytes) ∙ ap (λ (rest : List ℕ). take n (drop at bytes) ++ take m rest) (drop-drop n at bytes))

-- a read of n bytes, and a write of all of them
pub Copied_more : (told told' old mid new : Option (List ℕ)) (at done n m : ℕ) (part : List ℕ)
    → Copied told at done old mid → told' ≡ told → m ≡ n → IfSome told' (λ bytes. part ≡ bytes_at (at + done) m bytes)
    → new ≡ appended mid part → Copied told at (done + n) old new
Copied_more None told' old mid new at done n m part c same len p e = c
Copied_more (Some bytes) told' old mid new at done n m part c same len p e =
    let q : part ≡ bytes_at (at + done) n bytes = rw (same, len) at p in
    e ∙ ap (λ (o : Option (List ℕ)). appended o part) c ∙ appended-appended old _ _
    ∙ ap (λ (x : List ℕ). appended old (bytes_at at done bytes ++ x)) q ∙ ap (appended old) (bytes_at-add at done n bytes)

-- the same, where the write took some of them
pub CopiedSome_more : (told told' old mid new : Option (List ℕ)) (at done n m len k : ℕ) (part : List ℕ)
    → Copied told at done old mid → told' ≡ told → m ≡ n → IfSome told' (λ bytes. part ≡ bytes_at (at + done) m bytes)
    → k ≤ n → done + n ≤ len → new ≡ appended mid (take k part) → CopiedSome told at len old new
CopiedSome_more None told' old mid new at done n m len k part c same e p le fits f = c
CopiedSome_more (Some bytes) told' old mid new at done n m len k part c same e p le fits f =
    let q : part ≡ bytes_at (at + done) n bytes = rw (same, e) at p in (
      done + k,
      omega arith,
      Copied_more (Some bytes) (Some bytes) old mid new at done k k (take k part) c refl refl
          (ap (take k) q ∙ take-take k n (drop (at + done) bytes) le) f,
    )
