-- How many decimal digits a number has, by the powers of ten.
use Prim.Native.Nat.{ℕ, zero, suc, ◌+◌, ◌-◌, ◌*◌, ◌/◌, ◌%◌, ◌^◌, ◌≤◌, ◌<◌}
use mathlib.Core.Path.{◌≡◌, refl}
use mathlib.Core.List.{[], ◌∷◌}
use native.Mathlib.Nat.{pow-le-pow_right}
use native.Mathlib.Numerals.{add-one}
use native.Mathlib.Omega.{arith}
use lib.ListN.{length, length-append}
use borrow.Author.Tests.{lt-ltb, le-ltb, le-leb, lt-leb}
use Rattle.logic.specs.Tests.{either, below_or_not}
use Rattle.model.specs.Writing.{digits, whole_text}
use Rattle.tidy_size.specs.Counting.{Counting}

-- a number below ten has one digit; another has one more than its tenth
one_digit : (k n : ℕ) → n < 10 → length (digits (suc k) n) ≡ 1
unfolding digits
one_digit k n h = rw (lt-ltb n 10 h) refl

more_digits : (k n : ℕ) → 10 ≤ n → length (digits (suc k) n) ≡ length (digits k (n / 10)) + 1
unfolding digits
more_digits k n h = rw (le-ltb n 10 h) (length-append (digits k (n / 10)) ((48 + n % 10) ∷ []))

-- a number has at least one digit, and one more for each power of ten that is not above it
some_digits : (k n : ℕ) → 1 ≤ length (digits (suc k) n)
some_digits k n = either (below_or_not n 10)
    (λ l. let e = one_digit k n l in omega arith)
    (λ l. let e = more_digits k n l in omega arith)

least_digits : (s k n : ℕ) → s < k → 10 ^ s ≤ n → s + 1 ≤ length (digits k n)
least_digits s zero n l h = absurd (omega arith)
least_digits zero (suc k) n l h = some_digits k n
least_digits (suc s) (suc k) n l h =
    let p : 1 ≤ 10 ^ s = pow-le-pow_right {n = 10} (omega arith) {i = 0} {j = s} (omega arith) in
    let e = more_digits k n (omega arith) in
    let r = least_digits s k (n / 10) (omega arith) (omega arith) in omega arith

-- a number below a power of ten has at most as many digits
most_digits : (s k n : ℕ) → 1 ≤ s → n < 10 ^ s → length (digits k n) ≤ s
most_digits zero k n o h = absurd (omega arith)
most_digits (suc s) zero n o h = unfold digits in omega arith
most_digits (suc s) (suc k) n o h = either (below_or_not n 10)
    (λ l. let e = one_digit k n l in omega arith)
    (λ l. let e = more_digits k n l in let r = most_digits s k (n / 10) (some s (omega arith)) (omega arith) in omega arith)
  where
    -- the power is above ten
    some : (s : ℕ) → 10 < 10 ^ suc s → 1 ≤ s
    some zero m = absurd (omega arith)
    some (suc s) m = omega arith

module _ (n : ℕ) where
  -- before any power is compared
  pub counting_first : Counting n 1 10
  counting_first = record { is = omega arith; some = omega arith; least = some_digits 19 n; few = omega arith; large = omega arith }

  -- where so many zeros are known not to be above it
  pub counting_from : (zeros : ℕ) → 10 ^ zeros ≤ n → zeros ≤ 18 → Counting n (zeros + 1) (10 ^ (zeros + 1))
  counting_from zeros h few = record {
    is = refl;
    some = omega arith;
    least = least_digits zeros 20 n (omega arith) h;
    few = omega arith;
    large = pow-le-pow_right {n = 10} (omega arith) {i = 1} {j = zeros + 1} (omega arith);
  }

  module _ (size power : ℕ) (h : Counting n size power) where
    -- a power that is not above a number of 63 bits has at most 18 zeros
    few_zeros : power ≤ n → n ≤ 2 ^ 63 → size < 19
    few_zeros l m = let e = h.is in either (below_or_not size 19) (λ s. s)
        (λ s. let p : 10 ^ 19 ≤ 10 ^ size = pow-le-pow_right {n = 10} (omega arith) {i = 19} {j = size} s in absurd (omega arith))

    -- so that the next power fits 64 bits
    pub power_small : power ≤ n → n ≤ 2 ^ 63 → power ≤ 1000000000000000000
    power_small l m =
        let s = few_zeros l m in
        let p : 10 ^ size ≤ 10 ^ 18 = pow-le-pow_right {n = 10} (omega arith) {i = size} {j = 18} (omega arith) in
        let e = h.is in omega arith

    -- one digit more
    pub counting_more : power ≤ n → n ≤ 2 ^ 63 → Counting n (size + 1) (power * 10)
    counting_more l m =
        let s = few_zeros l m in
        let e = h.is in
        record {
          is = rw add-one (omega arith);
          some = omega arith;
          least = least_digits size 20 n (omega arith) (omega arith);
          few = omega arith;
          large = omega (arith, h.large);
        }

    -- all are counted
    pub counting_over : n < power → size ≡ length (digits 20 n)
    counting_over l = let e = h.is in omega (arith, h.least, most_digits size 20 n h.some (omega arith))

-- whole numbers: without a minus, and with one
pub not_negative : (n : ℕ) → 2 ^ 63 ≤ n → length (whole_text n) ≡ length (digits 20 (n - 2 ^ 63))
unfolding whole_text
not_negative n h = rw (le-leb (2 ^ 63) n h) refl

pub negative : (n : ℕ) → n < 2 ^ 63 → length (whole_text n) ≡ 1 + length (digits 20 (2 ^ 63 - n))
unfolding whole_text
negative n h = rw (lt-leb (2 ^ 63) n h) (omega arith)
