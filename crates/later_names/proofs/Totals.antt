-- Sums of what stands below a number.
use Prim.Native.Nat.{ℕ, zero, suc, ◌+◌, ◌*◌, ◌≤◌, ◌<◌}
use mathlib.Core.Path.{◌≡◌, refl, sym, ap, ◌∙◌}
use mathlib.Core.List.{map}
use mathlib.Core.Bool.{Bool, true, false, ◌||◌}
use native.Mathlib.Numerals.{add-one}
use native.Mathlib.Omega.{arith}
use lib.Dec.{ltb, eqb}
use borrow.Author.Tests.{eq-eqb, ne_eqb, lt-ltb, le-ltb}
use Rattle.logic.specs.Flags.{or_true, or_false}
use Rattle.logic.specs.Tests.{either, equal_or_not}
use Rattle.model.specs.Lists.{any, sum}
use Rattle.book_tables.specs.Listed.{listed}
use Rattle.book_tables.proofs.ListedLaws.{any_end, map_listed, sum_end}
use Rattle.later_names.specs.Ends.{one, total}

-- a truth value as a number is at most 1
pub one_small : (t : Bool) → one t ≤ 1
one_small true = omega arith
one_small false = omega arith

-- one more
pub total_more : (g : ℕ → ℕ) (n : ℕ) → total g (n + 1) ≡ total g n + g n
unfolding total
total_more g n = rw add-one

pub total_none : (g : ℕ → ℕ) → total g 0 ≡ 0
unfolding total
total_none g = refl

-- only what stands below counts
pub total_same : (g h : ℕ → ℕ) (n : ℕ) → ((i : ℕ) → i < n → g i ≡ h i) → total g n ≡ total h n
unfolding total
total_same g h zero e = refl
total_same g h (suc n) e = rw (total_same g h n (λ i l. e i (omega arith)), e n (omega arith))

-- a sum of two
pub total_plus : (g h : ℕ → ℕ) (n : ℕ) → total (λ i. g i + h i) n ≡ total g n + total h n
unfolding total
total_plus g h zero = refl
total_plus g h (suc n) = let e = total_plus g h n in omega arith

-- nothing stands there
pub total_zero : (g : ℕ → ℕ) (n : ℕ) → ((i : ℕ) → i < n → g i ≡ 0) → total g n ≡ 0
unfolding total
total_zero g zero e = refl
total_zero g (suc n) e = let r = total_zero g n (λ i l. e i (omega arith)) in let z = e n (omega arith) in omega arith

-- at most two stand at each place
pub total_most : (g : ℕ → ℕ) (n : ℕ) → ((i : ℕ) → g i ≤ 2) → total g n ≤ 2 * n
unfolding total
total_most g zero e = omega arith
total_most g (suc n) e = let r = total_most g n e in let z = e n in omega arith

-- one number is counted once
pub total_one : (k n : ℕ) → k < n → total (λ i. one (eqb i k)) n ≡ 1
unfolding total
total_one k zero l = absurd (omega arith)
total_one k (suc n) l = either (equal_or_not n k)
    (λ e. rw (eq-eqb n k e) (let z = total_zero (λ i. one (eqb i k)) n (λ i m. rw (ne_eqb i k (omega arith)) refl) in omega arith))
    (λ (_, d). rw (ne_eqb n k d) (let r = total_one k n (omega arith) in omega arith))

-- the sum of a list by numbers
pub sum_listed : {A : Type 0} (h : A → ℕ) (f : ℕ → A) (n : ℕ) → sum (map h (listed f n)) ≡ total (λ i. h (f i)) n
unfolding listed total sum
sum_listed h f n = ap sum (map_listed h f n) ∙ go n
  where
    go : (n : ℕ) → sum (listed (λ i. h (f i)) n) ≡ total (λ i. h (f i)) n
    go zero = refl
    go (suc n) = sum_end (listed (λ i. h (f i)) n) (h (f n)) ∙ rw (go n)

-- a test holds below a number exactly if some are counted
pub any_counted : {A : Type 0} (p : A → Bool) (f : ℕ → A) (n : ℕ) → any p (listed f n) ≡ ltb 0 (total (λ i. one (p (f i))) n)
unfolding listed total any
any_counted p f zero = sym (le-ltb 0 0 (omega arith))
any_counted p f (suc n) = any_end p (listed f n) (f n) ∙ rw (any_counted p f n) (go (p (f n)) (total (λ i. one (p (f i))) n))
  where
    go : (t : Bool) (m : ℕ) → (ltb 0 m || t) ≡ ltb 0 (m + one t)
    go true m = or_true (ltb 0 m) ∙ sym (lt-ltb 0 (m + 1) (omega arith))
    go false m = or_false (ltb 0 m) ∙ ap (ltb 0) (let e : m ≡ m + 0 = omega arith in e)
