-- A text that has room is put by storing its bytes one behind another, and one that has none by counting them. Assumes nothing.
use Prim.Native.Nat.{ℕ, suc, ◌+◌, ◌≤◌, ◌<◌}
use mathlib.Core.Path.{◌≡◌, ◌∙◌, subst}
use mathlib.Core.List.{[], ◌∷◌}
use native.Mathlib.Omega.{arith}
use lib.ListN.{length, take, set, get_or}
use Rattle.model.specs.Bytes.{Bytes}
use Rattle.putting.specs.Putting.{last_place, further, Puts}
use Rattle.putting.proofs.PuttingLaws.{puts_byte, puts_no_room, puts_then, puts_more, puts_nothing, puts_all, further_on}

module _ (o s : Bytes) (a : ℕ) where
  -- nothing is put yet
  pub none_stored : Puts o a (take 0 s) o (a + 0)
  none_stored = let e : a ≡ a + 0 = omega arith in subst (λ (n : ℕ). Puts o a [] o n) e (puts_nothing o a)

  -- one byte more
  pub one_stored : (o' : Bytes) (i : ℕ) → i < length s → a + i < last_place → Puts o a (take i s) o' (a + i)
      → Puts o a (take (i + 1) s) (set o' (a + i) (get_or s i 0)) (a + (i + 1))
  one_stored o' i l h p =
      let e : further (a + i) ≡ a + (i + 1) = further_on (a + i) h ∙ omega arith in
      puts_more s i l p (subst (λ (n : ℕ). Puts o' (a + i) (get_or s i 0 ∷ []) (set o' (a + i) (get_or s i 0)) n) e (puts_byte o' (a + i) (get_or s i 0)))

  -- all of them
  pub all_stored : (o' : Bytes) (i : ℕ) → i ≤ length s → length s ≤ i → Puts o a (take i s) o' (a + i) → Puts o a s o' (a + length s)
  all_stored o' i l g p =
      let e : a + i ≡ a + length s = omega arith in
      subst (λ (n : ℕ). Puts o a s o' n) e (puts_all s i g p)

-- no byte has room
pub none_kept : (o s : Bytes) (a : ℕ) → length o ≤ a → a + length s ≤ last_place → Puts o a s o (a + length s)
none_kept o [] a h l = let e : a ≡ a + 0 = omega arith in subst (λ (n : ℕ). Puts o a [] o n) e (puts_nothing o a)
none_kept o (x ∷ s) a h l =
    let f : further a ≡ a + 1 = further_on a (omega arith) in
    let e : a + 1 + length s ≡ a + suc (length s) = omega arith in
    puts_then (subst (λ (n : ℕ). Puts o a (x ∷ []) o n) f (puts_no_room o a x h))
    (subst (λ (n : ℕ). Puts o (a + 1) s o n) e (none_kept o s (a + 1) (omega arith) (omega arith)))
