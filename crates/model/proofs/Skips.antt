-- Readers with k elements already read are readers of what follows these k: the first laws that proofs of code need.
use Prim.Native.Nat.{ℕ, zero, suc, ◌+◌}
use mathlib.Core.Path.{◌≡◌, refl, ap, ◌∙◌}
use mathlib.Core.List.{List, [], ◌∷◌}
use mathlib.Core.Bool.{Bool}
use native.Mathlib.Omega.{arith}
use lib.ListN.{drop}
use Rattle.model.specs.Bytes.{Bytes}
use Rattle.model.specs.Choice.{Maybe, nothing, just}
use Rattle.model.specs.Items.{Item, Items, list_at, onward}
use Rattle.model.specs.Words.{Got}
use Rattle.model.specs.Signs.{Sign, signs}
use Rattle.model.specs.Grammar.{Spot, pieces}

-- signs
pub signs_skip : (chain close : Bool) (k : ℕ) (s : Bytes) → signs chain close k s ≡ signs chain close 0 (drop k s)
unfolding signs
signs_skip chain close zero s = refl
signs_skip chain close (suc k) [] = refl
signs_skip chain close (suc k) (b ∷ s) = signs_skip chain close k s

-- pieces
pub pieces_skip : (p : Spot) (k : ℕ) (ts : List Sign) → pieces p k ts ≡ pieces p 0 (drop k ts)
unfolding pieces
pieces_skip p zero ts = refl
pieces_skip p (suc k) [] = refl
pieces_skip p (suc k) (t ∷ ts) = pieces_skip p k ts

-- k bytes more
unfoldable pub further : ℕ → Maybe (Got Items) → Maybe (Got Items)
further k nothing = nothing
further k (just g) = just (record { got = g.got; size = g.size + k })

further_zero : (o : Maybe (Got Items)) → o ≡ further 0 o
unfolding further
further_zero nothing = refl
further_zero (just g) = let e : g.size ≡ g.size + 0 = omega arith in λ i. just (record { got = g.got; size = e i })

further_suc : (k : ℕ) (o : Maybe (Got Items)) → onward (further k o) ≡ further (suc k) o
unfolding further onward
further_suc k nothing = refl
further_suc k (just g) = let e : g.size + k + 1 ≡ g.size + suc k = omega arith in λ i. just (record { got = g.got; size = e i })

-- lists
pub list_skip : (read : Bytes → Maybe (Got Item)) (free : Bool) (k : ℕ) (s : Bytes) → list_at read free k s ≡ further k (list_at read free 0 (drop k s))
unfolding list_at further
list_skip read free zero s = further_zero (list_at read free 0 s)
list_skip read free (suc k) [] = refl
list_skip read free (suc k) (b ∷ s) = ap onward (list_skip read free k s) ∙ further_suc k (list_at read free 0 (drop k s))
