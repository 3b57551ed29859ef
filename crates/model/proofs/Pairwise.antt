-- A relation between each element of a list and every later one, and what keeps it.
use Prim.Native.Nat.{ℕ, zero, suc, ◌<◌, ◌≤◌}
use mathlib.Core.Path.{refl, sym, subst}
use mathlib.Core.Logic.{⊎_elim}
use mathlib.Core.List.Memᴰ
use mathlib.Core.List.Memᴰ.{append_cases}
use mathlib.Core.List.{List, [], ◌∷◌, ◌++◌, map}
use mathlib.Core.Bool.{Bool}
use native.Mathlib.Omega.{arith}
use Rattle.model.specs.Lists.{keep, joined, up_to, below}
use Rattle.model.specs.Graph.{Each}
pub use Rattle.model.specs.RowOrder.{Pairwise}
use Rattle.model.proofs.Members.{◌∈◌, test, is_true, is_false, each_e, each_i, keep_e, map_e, joined_e}

module _ {A : Type 0} (R : A → A → Type 0) where
  pairwise_append : (l k : List A) → Pairwise R l → Pairwise R k → ((x y : A) → x ∈ l → y ∈ k → R x y) → Pairwise R (l ++ k)
  pairwise_append [] k p q h = q
  pairwise_append (x ∷ l) k p q h = (
    each_i (R x) (l ++ k) (λ y m. ⊎_elim (λ n. each_e (R x) l p.0 y n) (λ n. h x y (Memᴰ.head refl) n) (append_cases l m)),
    pairwise_append l k p.1 q (λ z y m n. h z y (Memᴰ.tail m) n),
  )

  pub pairwise_keep : (p : A → Bool) (l : List A) → Pairwise R l → Pairwise R (keep p l)
  unfolding keep
  pairwise_keep p [] u = tt
  pairwise_keep p (x ∷ l) u = ⊎_elim
      (λ t. rw (is_true (p x) t) (each_i (R x) (keep p l) (λ y m. each_e (R x) l u.0 y (keep_e p l y m).0), pairwise_keep p l u.1))
      (λ t. rw (is_false (p x) t) (pairwise_keep p l u.1)) (test (p x))

  pub pairwise_map : {B : Type 0} (Q : B → B → Type 0) (f : B → A) → ((x y : B) → Q x y → R (f x) (f y)) → (l : List B) → Pairwise Q l → Pairwise R (map f l)
  pairwise_map Q f h [] u = tt
  pairwise_map Q f h (x ∷ l) u = (
    each_i (R (f x)) (map f l) (λ y m. let r = map_e f l y m in subst (R (f x)) (sym r.2) (h x r.0 (each_e (Q x) l u.0 r.0 r.1))),
    pairwise_map Q f h l u.1,
  )

  pub pairwise_joined : {B : Type 0} (Q : B → B → Type 0) (f : B → List A) → ((x : B) → Pairwise R (f x))
      → ((x y : B) → Q x y → (s t : A) → s ∈ f x → t ∈ f y → R s t)
      → (l : List B) → Pairwise Q l → Pairwise R (joined f l)
  unfolding joined
  pairwise_joined Q f p h [] u = tt
  pairwise_joined Q f p h (x ∷ l) u = pairwise_append (f x) (joined f l) (p x) (pairwise_joined Q f p h l u.1)
      (λ s t m n. let r = joined_e f l t n in h x r.0 (each_e (Q x) l u.0 r.0 r.1) s t m r.2)

-- the numbers below n ascend
pub below_ascends : (n : ℕ) → Pairwise (λ x y. x < y) (below n)
unfolding up_to
below_ascends n = go n [] tt tt
  where
    go : (n : ℕ) (ns : List ℕ) → Each (λ y. n ≤ y) ns → Pairwise (λ x y. x < y) ns → Pairwise (λ x y. x < y) (up_to n ns)
    go zero ns h u = u
    go (suc n) ns h u =
        let g : (y : ℕ) → y ∈ ns → n < y = λ y m. let k = each_e (λ y. suc n ≤ y) ns h y m in omega arith in
        go n (n ∷ ns) (omega arith, each_i (λ y. n ≤ y) ns (λ y m. let k = g y m in omega arith)) (each_i (λ y. n < y) ns g, u)
