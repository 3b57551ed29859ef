-- What weaving makes of vertices: which it joins, and which it keeps apart.
use Prim.Native.Nat.{ℕ}
use mathlib.Core.Path.{◌≡◌, refl, sym, ap, ◌∙◌}
use mathlib.Core.Logic.{◌⊎◌, inl, inr, ⊎_elim, ◌↔◌, ◌≢◌}
use mathlib.Core.List.{List}
use native.Mathlib.Omega.{arith}
use lib.Dec.{T}
use Rattle.model.specs.Bytes.{Bytes}
use Rattle.model.specs.Names.{mem}
use Rattle.model.specs.Weave.{actor, own, weave_vertex}
use Rattle.model.proofs.Members.{test, is_true, is_false}

-- an actor is an actor vertex
pub woven_actor : (k : ℕ) (actors : List Bytes) (v : Bytes) → T (mem v actors) → weave_vertex k actors v ≡ actor v
unfolding weave_vertex
woven_actor k actors v t = rw (is_true (mem v actors) t) refl

-- another is an own vertex of its text
woven_own : (k : ℕ) (actors : List Bytes) (v : Bytes) → (T (mem v actors) → ⊥) → weave_vertex k actors v ≡ own k v
unfolding weave_vertex
woven_own k actors v t = rw (is_false (mem v actors) t) refl

-- an actor vertex is no own vertex
actor_not_own : (v u : Bytes) (k : ℕ) → actor v ≡ own k u → ⊥
actor_not_own v u k e = let z : ◌≡◌ {A = ℕ} 0 1 = cc in omega arith

-- what becomes an actor vertex is an actor of its name
pub woven_to_actor : (k : ℕ) (actors : List Bytes) (v w : Bytes) → weave_vertex k actors v ≡ actor w → T (mem v actors) × (v ≡ w)
woven_to_actor k actors v w e = ⊎_elim
    (λ t. let f : actor v ≡ actor w = sym (woven_actor k actors v t) ∙ e in let d : v ≡ w = cc in (t, d))
    (λ t. absurd (actor_not_own w v k (sym e ∙ woven_own k actors v t)))
    (test (mem v actors))

-- one woven vertex is made of equal names, and of actors where the texts are two
pub woven_to_one : (k j : ℕ) (xs ys : List Bytes) (v u : Bytes) → weave_vertex k xs v ≡ weave_vertex j ys u → (v ≡ u) × ((T (mem v xs) × T (mem u ys)) ⊎ (k ≡ j))
woven_to_one k j xs ys v u e = ⊎_elim
    (λ t. let r = woven_to_actor j ys u v (sym e ∙ woven_actor k xs v t) in (sym r.1, inl (t, r.0)))
    (λ t. ⊎_elim
    (λ s. absurd (actor_not_own u v k (sym (woven_actor j ys u s) ∙ sym e ∙ woven_own k xs v t)))
    (λ s. let f : own k v ≡ own j u = sym (woven_own k xs v t) ∙ e ∙ woven_own j ys u s in
    let c : v ≡ u = cc in
    let d : k ≡ j = cc in
    (c, inr d))
    (test (mem u ys)))
    (test (mem v xs))

-- vertices of two texts are joined exactly if they have one name and each is an actor of its own text's category
pub joined_exactly : (k j : ℕ) (xs ys : List Bytes) (v u : Bytes) → k ≢ j → (weave_vertex k xs v ≡ weave_vertex j ys u) ↔ ((v ≡ u) × T (mem v xs) × T (mem u ys))
joined_exactly k j xs ys v u d = (
  λ e. let r = woven_to_one k j xs ys v u e in let a = ⊎_elim (λ c. c) (λ c. absurd (d c)) r.1 in (r.0, a.0, a.1),
  λ h. woven_actor k xs v h.1 ∙ ap actor h.0 ∙ sym (woven_actor j ys u h.2),
)

-- two vertices of one text are never joined
pub never_joined_within : (k : ℕ) (xs : List Bytes) (v u : Bytes) → weave_vertex k xs v ≡ weave_vertex k xs u → v ≡ u
never_joined_within k xs v u e = (woven_to_one k k xs xs v u e).0
