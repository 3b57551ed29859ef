-- A name copied, and two bytes behind it.
use Prim.Native.Nat.{ℕ, suc, ◌+◌, ◌≤◌}
use mathlib.Core.Path.{◌≡◌, ap, ◌∙◌}
use mathlib.Core.List.{List, [], ◌∷◌, ◌++◌, append_assoc}
use native.Mathlib.Numerals.{add-one}
use native.Mathlib.Omega.{arith}
use lib.ListN.{length, take, drop, set, length-set, length-append, length-drop}
use lib.Seq.{take-suc-set, take-append_seam}

-- a name copied to the front of longer bytes, and two more put behind it
module _ (s old new : List ℕ) (is : new ≡ s) (long : length s + 2 ≤ length old) (a b : ℕ) where
  rest : List ℕ
  rest = drop (length s) old

  whole : length (s ++ rest) ≡ length old
  unfolding rest
  whole = simp (length-append, length-drop) (omega arith)

  one : take (length s + 1) (set (s ++ rest) (length s) a) ≡ s ++ (a ∷ [])
  one = rw (add-one (length s)) (take-suc-set (s ++ rest) (length s) a (omega (arith, whole)) ∙ ap (λ z. z ++ (a ∷ [])) (take-append_seam s rest))

  pub named : take (length s + 2) (set (set (new ++ drop (length s) old) (length s) a) (length s + 1) b) ≡ s ++ (a ∷ b ∷ [])
  unfolding rest
  named = rw is
      (ap (λ k. take k (set (set (s ++ rest) (length s) a) (length s + 1) b)) (let e : length s + 2 ≡ suc (length s + 1) = omega arith in e)
      ∙ take-suc-set (set (s ++ rest) (length s) a) (length s + 1) b (omega (arith, whole, length-set (s ++ rest) (length s) a))
      ∙ ap (λ z. z ++ (b ∷ [])) one ∙ append_assoc s (a ∷ []) (b ∷ []))
