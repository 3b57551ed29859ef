-- Different numbers below a limit are at most as many as the limit; so are different names of a list.
use Prim.Native.Nat.{ℕ, zero, suc, ◌≤◌, ◌<◌}
use mathlib.Core.Path.{◌≡◌, sym, ap, ◌∙◌}
use mathlib.Core.Logic.{◌⊎◌, inl, inr, ◌≢◌}
use mathlib.Core.List.{List, []}
use native.Mathlib.Omega.{arith}
use lib.ListN.{length, get_or}
use lib.Dec.{T, eqb}
use borrow.Author.Tests.{eq-eqb, ne_eqb}
use Rattle.logic.specs.Tests.{either, equal_or_not}
use Rattle.model.specs.Bytes.{Bytes}
use Rattle.model.specs.Choice.{pick}
use Rattle.model.specs.Names.{twice, place}
use Rattle.model.proofs.Members.{◌∈◌}
use Rattle.model.proofs.Places.{at_place, place_injective, get_or_in, place_at}

-- a number is given somewhere below p, or nowhere
given : (f : ℕ → ℕ) (v p : ℕ) → ((i : ℕ) × (i < p) × (f i ≡ v)) ⊎ ((i : ℕ) → i < p → f i ≢ v)
given f v zero = inr (λ i l. absurd (omega arith))
given f v (suc p) = either (equal_or_not (f p) v)
    (λ e. inl (p, omega arith, e))
    (λ e. either (given f v p)
    (λ g. inl (g.0, omega (arith, g.1), g.2))
    (λ g. inr (λ i l. either (equal_or_not i p) (λ q d. e.1 (ap f (sym q) ∙ d)) (λ q. g i (omega arith)))))

pub fewer : (n p : ℕ) (f : ℕ → ℕ) → ((i : ℕ) → i < p → f i < n) → ((i j : ℕ) → i < p → j < p → f i ≡ f j → i ≡ j) → p ≤ n
fewer n zero f small differ = omega arith
fewer zero (suc p) f small differ = absurd (omega (arith, small 0 (omega arith)))
fewer (suc n) (suc p) f small differ = either (given f n (suc p))
    (λ g. let r = fewer n p (other g.0) (other_small g.0 g.1 g.2) (other_differ g.0 g.1) in omega arith)
    (λ g. let r = fewer n (suc p) f (λ i l. let s = small i l in let d = g i l in omega arith) differ in omega arith)
  where
    -- f with what it gives at p in the place of what it gives at i
    other : ℕ → ℕ → ℕ
    other i j = pick (eqb j i) (f p) (f j)

    at_i : (i j : ℕ) → j ≡ i → other i j ≡ f p
    at_i i j e = rw (eq-eqb j i e)

    elsewhere : (i j : ℕ) → j ≢ i → other i j ≡ f j
    elsewhere i j e = rw (ne_eqb j i e)

    other_small : (i : ℕ) → i < suc p → f i ≡ n → (j : ℕ) → j < p → other i j < n
    other_small i l e j h = either (equal_or_not j i)
        (λ q. rw (at_i i j q) (let s = small p (omega arith) in let d : f p ≢ n = λ z. let w = differ i p l (omega arith) (e ∙ sym z) in omega arith in
        omega arith))
        (λ q. rw (elsewhere i j q.1) (let s = small j (omega arith) in let d : f j ≢ n = λ z. q.1 (differ j i (omega arith) l (z ∙ sym e)) in omega arith))

    other_differ : (i : ℕ) → i < suc p → (j k : ℕ) → j < p → k < p → other i j ≡ other i k → j ≡ k
    other_differ i l j k h m e = either (equal_or_not j i)
        (λ q. either (equal_or_not k i) (λ r. q ∙ sym r)
        (λ r. absurd (let z = differ p k (omega arith) (omega arith) (sym (at_i i j q) ∙ e ∙ elsewhere i k r.1) in omega arith)))
        (λ q. either (equal_or_not k i)
        (λ r. absurd (let z = differ j p (omega arith) (omega arith) (sym (elsewhere i j q.1) ∙ e ∙ at_i i k r) in omega arith))
        (λ r. differ j k (omega arith) (omega arith) (sym (elsewhere i j q.1) ∙ e ∙ elsewhere i k r.1)))

-- names of which none stands twice
pub fewer_names : (ws vs : List Bytes) → (T (twice ws) → ⊥) → ((w : Bytes) → w ∈ ws → w ∈ vs) → length ws ≤ length vs
fewer_names ws vs once within = fewer (length vs) (length ws) (λ i. place (get_or ws i []) vs)
    (λ i l. (at_place vs (get_or ws i []) (at i l)).0)
    (λ i j l m e. sym (place_at ws i once l) ∙ ap (λ (w : Bytes). place w ws) (place_injective vs (get_or ws i []) (get_or ws j []) (at i l) (at j m) e)
    ∙ place_at ws j once m)
  where
    at : (i : ℕ) → i < length ws → get_or ws i [] ∈ vs
    at i l = within (get_or ws i []) (get_or_in ws i [] l)
