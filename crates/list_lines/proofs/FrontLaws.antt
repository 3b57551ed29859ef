-- A text put at the start of a buffer stands in front of it, as far as the buffer reaches. Assumes nothing.
use Prim.Native.Nat.{ℕ, suc, ◌+◌, ◌≤◌, ◌<◌, min}
use mathlib.Core.Path.{◌≡◌, refl, sym, ap, ◌∙◌}
use mathlib.Core.List.{[], ◌∷◌, ◌++◌}
use native.Mathlib.Nat.{add-zero}
use native.Mathlib.Omega.{arith}
use lib.ListN.{length, take, drop, set, take-append-drop, drop_of_length-le}
use lib.Seq.{sets, sets-eq, length-sets, set_out, take_all, length-take-le}
use Rattle.logic.specs.Tests.{either, below_or_not}
use Rattle.model.specs.Bytes.{Bytes}
use Rattle.putting.specs.Putting.{Buffer, last_place, Puts}
use Rattle.putting.proofs.PuttingLaws.{counts_length, bytes_stored, fits_in_front}
use Rattle.list_lines.specs.Printing.{in_front, Prints}

-- stores past the end of a buffer change nothing
sets_past : (v l : Bytes) (i : ℕ) → length l ≤ i → sets l i v ≡ l
sets_past [] l i h = refl
sets_past (x ∷ v) l i h = ap (λ (m : Bytes). sets m (suc i) v) (set_out l i x h) ∙ sets_past v l (suc i) (omega arith)

-- a text is stored part by part
sets_then : (u v l : Bytes) (i : ℕ) → sets l i (u ++ v) ≡ sets (sets l i u) (i + length u) v
sets_then [] v l i = ap (λ (n : ℕ). sets l n v) (sym (add-zero i))
sets_then (x ∷ u) v l i =
    let n : suc i + length u ≡ i + suc (length u) = omega arith in
    sets_then u v (set l i x) (suc i) ∙ ap (λ (k : ℕ). sets (sets (set l i x) (suc i) u) k v) n

-- of a text that is longer than the buffer, as much is stored as fits
stored_as_fits : (t o : Bytes) → length o < length t → sets o 0 t ≡ take (length o) t ++ drop (length t) o
stored_as_fits t o h =
    let u = take (length o) t in
    let n : length u ≡ length o = length-take-le (length o) t (omega arith) in
    let same : length (sets o 0 u) ≡ length o = length-sets o 0 u in
    let none : drop (0 + length u) o ≡ [] = drop_of_length-le o {i = 0 + length u} (omega arith) in
    let no_more : drop (length t) o ≡ [] = drop_of_length-le o {i = length t} (omega arith) in
    ap (sets o 0) (sym (take-append-drop (length o) t)) ∙ sets_then u (drop (length o) t) o 0
    ∙ sets_past (drop (length o) t) (sets o 0 u) (0 + length u) (omega arith)
    ∙ sets-eq u o 0 (omega arith) ∙ ap (λ (l : Bytes). u ++ l) (none ∙ sym no_more)

-- a text of a list's length that is put at the start is printed
pub prints : {t o o' : Bytes} {n : ℕ} → length t ≤ 622605 → Puts o 0 t o' n → Prints t o o' n
unfolding in_front
prints {t} {o} {o'} {n} h p =
    let e : n ≡ min last_place (length t) = counts_length p in
    let m : n ≡ length t = omega arith in
    record {
      answer = m;
      short = omega arith;
      text = either (below_or_not (length o) (length t))
          (λ l. ap (λ (b : Buffer). b.bytes) p.is ∙ bytes_stored t o 0 (omega arith) ∙ stored_as_fits t o l)
          (λ l. fits_in_front (omega arith) l p ∙ ap (λ (x : Bytes). x ++ drop (length t) o) (sym (take_all (length o) t l)));
    }

-- a text that is short ends soon
pub ends_inside : {t o o' : Bytes} {n : ℕ} (k : ℕ) → length t ≤ k → Puts o 0 t o' n → n ≤ k
ends_inside {t} {n = n} k h p = let e : n ≡ min last_place (length t) = counts_length p in omega arith
