-- Laws of putting texts into a buffer: they are put one behind another, and a text that fits stands whole in front. Assumes nothing.
use Prim.Native.Nat.{ℕ, suc, ◌+◌, ◌≤◌, ◌<◌, min}
use mathlib.Core.Path.{◌≡◌, refl, sym, ap, ◌∙◌}
use mathlib.Core.List.{[], ◌∷◌, ◌++◌}
use native.Mathlib.Numerals.{add-one}
use native.Mathlib.Nat.{zero-add}
use native.Mathlib.Omega.{arith}
use lib.ListN.{length, take, drop, set, get_or, length-set}
use lib.Seq.{sets, sets-eq, set_out, take-suc, take_all}
use borrow.Author.Tests.{lt-ltb, le-ltb}
use Rattle.logic.specs.Tests.{either, below_or_not}
use Rattle.model.specs.Bytes.{Bytes}
use Rattle.putting.specs.Putting.{Buffer, last_place, further, with_byte, with_text, Puts}

abbrev buffer : Bytes → ℕ → Buffer
buffer out at = record { bytes = out; place = at }

-- A text and then another is both, one behind the other.
pub text_then_text : (b : Buffer) (t u : Bytes) → with_text b (t ++ u) ≡ with_text (with_text b t) u
unfolding with_text
text_then_text b [] u = refl
text_then_text b (x ∷ t) u = text_then_text (with_byte b x) t u

pub puts_then : {o : Bytes} {a : ℕ} {t o' : Bytes} {a' : ℕ} {u o'' : Bytes} {a'' : ℕ} → Puts o a t o' a' → Puts o' a' u o'' a'' → Puts o a (t ++ u) o'' a''
puts_then {o} {a} {t} {o'} {a'} {u} p q = record { is = q.is ∙ ap (λ (b : Buffer). with_text b u) p.is ∙ sym (text_then_text (buffer o a) t u) }

pub puts_nothing : (o : Bytes) (a : ℕ) → Puts o a [] o a
unfolding with_text
puts_nothing o a = record { is = refl }

-- One byte: it is stored where there is room.
pub puts_byte : (o : Bytes) (a x : ℕ) → Puts o a (x ∷ []) (set o a x) (further a)
unfolding with_text with_byte
puts_byte o a x = record { is = refl }

pub puts_no_room : (o : Bytes) (a x : ℕ) → length o ≤ a → Puts o a (x ∷ []) o (further a)
unfolding with_text with_byte
puts_no_room o a x h = record { is = ap (λ (l : Bytes). buffer l (further a)) (sym (set_out o a x h)) }

-- An equal text is put alike.
pub puts_same : {o : Bytes} {a : ℕ} {t u o' : Bytes} {a' : ℕ} → t ≡ u → Puts o a t o' a' → Puts o a u o' a'
puts_same {o} {a} e p = record { is = p.is ∙ ap (λ (t : Bytes). with_text (buffer o a) t) e }

-- A text is put byte by byte.
pub puts_more : {o : Bytes} {a : ℕ} {o' : Bytes} {a' : ℕ} {o'' : Bytes} {a'' : ℕ} (s : Bytes) (i : ℕ) → i < length s → Puts o a (take i s) o' a'
    → Puts o' a' (get_or s i 0 ∷ []) o'' a'' → Puts o a (take (i + 1) s) o'' a''
puts_more s i h p q = puts_same (sym (ap (λ (n : ℕ). take n s) (add-one i) ∙ take-suc s i 0 h)) (puts_then p q)

pub puts_all : {o : Bytes} {a : ℕ} {o' : Bytes} {a' : ℕ} (s : Bytes) (i : ℕ) → length s ≤ i → Puts o a (take i s) o' a' → Puts o a s o' a'
puts_all s i h p = puts_same (take_all i s h) p

-- The buffer stays as long as it is.
pub text_keeps_length : (b : Buffer) (t : Bytes) → length (with_text b t).bytes ≡ length b.bytes
unfolding with_text with_byte
text_keeps_length b [] = refl
text_keeps_length b (x ∷ t) = text_keeps_length (with_byte b x) t ∙ length-set b.bytes b.place x

pub puts_keeps_length : {o : Bytes} {a : ℕ} {t o' : Bytes} {a' : ℕ} → Puts o a t o' a' → length o' ≡ length o
puts_keeps_length {o} {a} {t} p = ap (λ (b : Buffer). length b.bytes) p.is ∙ text_keeps_length (buffer o a) t

-- Places are counted to the last.
pub further_on : (a : ℕ) → a < last_place → further a ≡ a + 1
unfolding further
further_on a h = rw (lt-ltb a last_place h)

pub further_past : (a : ℕ) → last_place ≤ a → further a ≡ a
unfolding further
further_past a h = rw (le-ltb a last_place h)

place_behind : (t o : Bytes) (a : ℕ) → a ≤ last_place → (with_text (buffer o a) t).place ≡ min last_place (a + length t)
unfolding with_text with_byte
place_behind [] o a h = omega arith
place_behind (x ∷ t) o a h = either (below_or_not a last_place)
    (λ l. let f = further_on a l in place_behind t (set o a x) (further a) (omega arith) ∙ omega arith)
    (λ l. let f = further_past a l in place_behind t (set o a x) (further a) (omega arith) ∙ omega arith)

-- Up to there, the bytes are stored one by one.
pub bytes_stored : (t o : Bytes) (a : ℕ) → a + length t ≤ last_place → (with_text (buffer o a) t).bytes ≡ sets o a t
unfolding with_text with_byte
bytes_stored [] o a h = refl
bytes_stored (x ∷ t) o a h =
    let f : further a ≡ suc a = further_on a (omega arith) ∙ add-one a in
    bytes_stored t (set o a x) (further a) (omega arith) ∙ ap (λ (n : ℕ). sets (set o a x) n t) f

-- A text put at the start of a buffer ends at its length, or at the last place if it is longer.
pub counts_length : {o t o' : Bytes} {n : ℕ} → Puts o 0 t o' n → n ≡ min last_place (length t)
counts_length {o} {t} p = ap (λ (b : Buffer). b.place) p.is ∙ place_behind t o 0 (omega arith) ∙ omega arith

-- A text that fits stands in front of the buffer, and the rest of the buffer is as it was.
pub fits_in_front : {o t o' : Bytes} {n : ℕ} → length t ≤ last_place → length t ≤ length o → Puts o 0 t o' n → o' ≡ t ++ drop (length t) o
fits_in_front {o} {t} h l p =
    ap (λ (b : Buffer). b.bytes) p.is ∙ bytes_stored t o 0 (omega arith) ∙ sets-eq t o 0 (omega arith)
    ∙ ap (λ (k : ℕ). t ++ drop k o) (zero-add (length t))
