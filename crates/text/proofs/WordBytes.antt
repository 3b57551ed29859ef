-- The bytes of words by their bits: one test that is computed at every byte. Assumes nothing.
use Prim.Native.Nat.{ℕ, zero, suc, ◌+◌, ◌/◌, ◌%◌, ◌^◌, ◌<◌, ◌≤◌}
use mathlib.Core.Path.{◌≡◌, refl, sym, ap, subst, ◌∙◌}
use mathlib.Core.Bool.{Bool, true, false, not, ◌&&◌, cond}
use native.Mathlib.Nat.{add-zero, zero-add, add-suc, suc-add, le_of_suc-le-suc, not-suc-le-zero}
use native.Mathlib.Omega.{arith}
use lib.Bits.{bit_and}
use lib.Dec.{T, ltb, eqb}
use borrow.Author.Tests.{lt-ltb, le-ltb}
use Rattle.logic.specs.Tests.{and_left, and_right}
use Rattle.model.specs.Words.{is_word_byte, is_letter, is_digit, between}

-- a byte's bit among those of its half of the bytes below 128
abbrev pub bit_says : ℕ → ℕ → Bool
bit_says bits b = ltb b 128 && eqb (bit_and (bits / 2 ^ (b % 64)) 1) 1

abbrev bits_of : ℕ → ℕ
bits_of b = cond (ltb b 64) 287948901175001088 576460745995190270

abbrev agree : Bool → Bool → Bool
agree true b = b
agree false b = not b

agree→same : (a b : Bool) → T (agree a b) → a ≡ b
agree→same true true t = refl
agree→same true false t = absurd t
agree→same false true t = absurd t
agree→same false false t = refl

-- the test passes at so many numbers from the first on
abbrev every : (ℕ → Bool) → ℕ → ℕ → Bool
every f i zero = true
every f i (suc n) = f i && every f (suc i) n

every_at : (f : ℕ → Bool) (n i : ℕ) → T (every f i n) → (k : ℕ) → k < n → T (f (i + k))
every_at f zero i t k h = absurd (not-suc-le-zero h)
every_at f (suc n) i t zero h = subst (λ (m : ℕ). T (f m)) (sym (add-zero i)) (and_left (f i) _ t)
every_at f (suc n) i t (suc k) h =
    subst (λ (m : ℕ). T (f m)) (suc-add i k ∙ sym (add-suc i k)) (every_at f n (suc i) (and_right (f i) _ t) k (le_of_suc-le-suc h))

bits_say : (b : ℕ) → b < 256 → bit_says (bits_of b) b ≡ is_word_byte b
unfolding is_word_byte is_letter is_digit between
bits_say b l =
    agree→same (bit_says (bits_of b) b) (is_word_byte b)
    (subst (λ (m : ℕ). T (right m)) (zero-add b) (every_at right 256 0 tt b l))
  where
    right : ℕ → Bool
    right b = agree (bit_says (bits_of b) b) (is_word_byte b)

pub low_says : (b bits : ℕ) → bits ≡ 287948901175001088 → b < 64 → bit_says bits b ≡ is_word_byte b
low_says b bits e l = ap (λ (x : ℕ). bit_says x b) (e ∙ rw (lt-ltb b 64 l)) ∙ bits_say b (omega arith)

pub high_says : (b bits : ℕ) → bits ≡ 576460745995190270 → 64 ≤ b → b < 256 → bit_says bits b ≡ is_word_byte b
high_says b bits e l h = ap (λ (x : ℕ). bit_says x b) (e ∙ rw (le-ltb b 64 l)) ∙ bits_say b h
