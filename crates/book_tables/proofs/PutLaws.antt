-- An array that a loop fills, place by place, ends as the list of what is put there.
use Prim.Native.Nat.{ℕ, ◌+◌, ◌≤◌, ◌<◌}
use mathlib.Core.Path.{◌≡◌, sym, ◌∙◌}
use mathlib.Core.List.{List}
use native.Mathlib.Omega.{arith}
use lib.ListN.{length, get_or, set, replicate, length-set, length-replicate, get_or-replicate}
use lib.Seq.{get_or-set_same, get_or-set_other, ext_get_or}
use Rattle.logic.specs.Tests.{either, equal_or_not}
use Rattle.book_tables.specs.Listed.{listed}
use Rattle.book_tables.proofs.ListedLaws.{length_listed, get_or_listed}

-- what is put so far
pub record PutSoFar (f : ℕ → ℕ) (n : ℕ) (xs : List ℕ) (k : ℕ) : Type 0 where
  pub few : k ≤ n
  pub long : length xs ≡ n
  pub each : (j : ℕ) → j < k → get_or xs j 0 ≡ f j

module _ (f : ℕ → ℕ) (n : ℕ) where
  pub put_start : (xs : List ℕ) → length xs ≡ n → PutSoFar f n xs 0
  put_start xs long = record { few = omega arith; long = long; each = λ j h. absurd (omega arith) }

  pub put_step : (xs : List ℕ) (k x : ℕ) → k < n → PutSoFar f n xs k → x ≡ f k → PutSoFar f n (set xs k x) (k + 1)
  put_step xs k x l w e = record {
    few = omega arith;
    long = length-set xs k x ∙ w.long;
    each = λ j h. either (equal_or_not j k)
        (λ q. rw q (get_or-set_same xs k x 0 (omega (arith, w.long)) ∙ e))
        (λ q. get_or-set_other xs k j x 0 q.1 ∙ w.each j (omega (arith, q.1)));
  }

  pub put_end : (xs : List ℕ) (k : ℕ) → n ≤ k → PutSoFar f n xs k → xs ≡ listed f n
  put_end xs k l w =
      ext_get_or 0 xs (listed f n) (w.long ∙ sym (length_listed f n))
      (λ i h. w.each i (omega (arith, w.few, w.long)) ∙ sym (get_or_listed f n i 0 (omega (arith, w.long))))

  -- where 0 is put everywhere
  pub put_nothing : ((i : ℕ) → f i ≡ 0) → replicate n 0 ≡ listed f n
  put_nothing z =
      ext_get_or 0 (replicate n 0) (listed f n) (length-replicate n 0 ∙ sym (length_listed f n))
      (λ i h. let l : i < n = omega (arith, length-replicate {A = ℕ} n 0) in get_or-replicate n i 0 0 l ∙ sym (z i) ∙ sym (get_or_listed f n i 0 l))
