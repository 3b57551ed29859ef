-- The vertices tied to an identity are exactly those from which a path of edges, either way along each, leads to a vertex that has one.
use Prim.Native.Nat.{ℕ, zero, suc, ◌+◌}
use mathlib.Core.Path.{◌≡◌, refl, sym, subst, ◌∙◌}
use mathlib.Core.Logic.{◌⊎◌, inl, inr, ⊎_elim, ◌↔◌}
use mathlib.Core.List.{List, [], ◌∷◌}
use mathlib.Core.Bool.{Bool, ◌&&◌, ◌||◌}
use native.Mathlib.Omega.{arith}
use lib.ListN.{length, get_or}
use lib.Dec.{T, eqb, eqb→eq, eqb_refl}
use Rattle.model.specs.Lists.{any, memℕ, up_to, below}
use Rattle.model.specs.Pattern.{Edge}
use Rattle.model.specs.Request.{Identity}
use Rattle.model.specs.Weave.{WovenPattern, no_vertex, identified_by, with_identity, step_along, steps_along, tied}
use Rattle.model.proofs.Decides.{and_iff, or_l, or_r, or_cases}
use Rattle.model.proofs.Members.{◌∈◌, any_e, any_i, keep_e, keep_i, below_i, below_e}
use Rattle.model.proofs.WovenVertices.{identified_exactly}
use Rattle.model.proofs.Closures.{Within, steps, holds_after, steps_keep, closed}
use Rattle.model.specs.Tied.{Joins, Path, here, along, HasIdentity, TiedTo}

-- the test of membership says that a number is one of a list
pub memℕ-e : (n : ℕ) (ns : List ℕ) → T (memℕ n ns) → n ∈ ns
unfolding memℕ
memℕ-e n ns t = let r = any_e (eqb n) ns t in mathlib.Core.List.Memᴰ.cast (eqb→eq n r.0 r.2) r.1

-- a number of a list passes the test of membership
pub memℕ-i : (n : ℕ) (ns : List ℕ) → n ∈ ns → T (memℕ n ns)
unfolding memℕ
memℕ-i n ns m = any_i (eqb n) ns n m (eqb_refl n)

-- v is one end, and the other is one of vs
ends_e : (v a b : ℕ) (vs : List ℕ) → T (eqb v a && memℕ b vs) → (v ≡ a) × (b ∈ vs)
ends_e v a b vs t = let s = (and_iff (eqb v a) (memℕ b vs)).1 t in (eqb→eq v a s.0, memℕ-e b vs s.1)

ends_i : (v u a b : ℕ) (vs : List ℕ) → v ≡ a → u ≡ b → u ∈ vs → T (eqb v a && memℕ b vs)
ends_i v u a b vs e d m = (and_iff (eqb v a) (memℕ b vs)).0 (subst (λ z. T (eqb v z)) e (eqb_refl v), subst (λ z. T (memℕ z vs)) d (memℕ-i u vs m))

below_length : (n : ℕ) → length (below n) ≡ n
unfolding up_to
below_length n = go n [] ∙ omega arith
  where
    go : (n : ℕ) (ns : List ℕ) → length (up_to n ns) ≡ n + length ns
    go zero ns = omega arith
    go (suc n) ns = go n (n ∷ ns) ∙ omega arith

module _ (p : WovenPattern) where
  -- the numbers of the vertices
  abbrev numbers : List ℕ
  numbers = below (length p.vertices)

  -- an edge joins v to one of vs
  abbrev touches : List ℕ → ℕ → Edge → Bool
  touches vs v e = eqb v e.from && memℕ e.to vs || eqb v e.to && memℕ e.from vs

  -- one step from vs leads to v
  abbrev leads : List ℕ → ℕ → Bool
  leads vs v = memℕ v vs || any (touches vs v) p.edges

  touches_e : (vs : List ℕ) (v : ℕ) (e : Edge) → T (touches vs v e) → (u : ℕ) × Joins e v u × (u ∈ vs)
  touches_e vs v e t = ⊎_elim
      (λ h. let s = ends_e v e.from e.to vs h in (e.to, inl (s.0, refl), s.1))
      (λ h. let s = ends_e v e.to e.from vs h in (e.from, inr (s.0, refl), s.1))
      (or_cases (eqb v e.from && memℕ e.to vs) (eqb v e.to && memℕ e.from vs) t)

  touches_i : (vs : List ℕ) (v u : ℕ) (e : Edge) → Joins e v u → u ∈ vs → T (touches vs v e)
  touches_i vs v u e j m =
      let A = eqb v e.from && memℕ e.to vs in let B = eqb v e.to && memℕ e.from vs in
      ⊎_elim (λ s. or_l A B (ends_i v u e.from e.to vs s.0 s.1 m)) (λ s. or_r A B (ends_i v u e.to e.from vs s.0 s.1 m)) j

  -- what as many steps lead to as there are vertices
  abbrev reached : List Identity → List ℕ
  reached ids = steps numbers leads (length numbers) (with_identity p ids)

  steps_along_law : (k : ℕ) (vs : List ℕ) → steps_along k p vs ≡ steps numbers leads k vs
  unfolding steps_along step_along
  steps_along_law zero vs = refl
  steps_along_law (suc k) vs = steps_along_law k (step_along p vs)

  leads_own : (vs : List ℕ) (v : ℕ) → v ∈ vs → T (leads vs v)
  leads_own vs v m = or_l (memℕ v vs) _ (memℕ-i v vs m)

  tied_steps : (ids : List Identity) → tied p ids ≡ reached ids
  unfolding tied
  tied_steps ids = rw (below_length (length p.vertices)) (steps_along_law (length p.vertices) (with_identity p ids))

  -- the test that a vertex has an identity
  abbrev has : List Identity → ℕ → Bool
  has ids v = any (identified_by (get_or p.vertices v no_vertex)) ids

  identity_e : (ids : List Identity) (v : ℕ) → v ∈ with_identity p ids → HasIdentity p ids v
  unfolding with_identity
  identity_e ids v m =
      let r = keep_e (has ids) numbers v m in
      let a = any_e (identified_by (get_or p.vertices v no_vertex)) ids r.1 in
      (below_e (length p.vertices) v r.0, (a.0, a.1, (identified_exactly (get_or p.vertices v no_vertex) a.0).0 a.2))

  identity_i : (ids : List Identity) (v : ℕ) → HasIdentity p ids v → v ∈ with_identity p ids
  unfolding with_identity
  identity_i ids v (h, (i, k, e)) = keep_i (has ids) numbers v (below_i (length p.vertices) v h)
      (any_i (identified_by (get_or p.vertices v no_vertex)) ids i k ((identified_exactly (get_or p.vertices v no_vertex) i).1 e))

  -- the vertices that the definition gives are those tied to an identity
  pub tied_by_path : (ids : List Identity) (v : ℕ) → (v ∈ tied p ids) ↔ TiedTo p ids v
  tied_by_path ids v = (λ k. found v (subst (λ z. v ∈ z) (tied_steps ids) k), λ t. subst (λ z. v ∈ z) (sym (tied_steps ids)) (all v t.0 t.1 t.2))
    where
      found : (v : ℕ) → v ∈ reached ids → TiedTo p ids v
      found v k = holds_after numbers leads (TiedTo p ids)
          (λ vs h x j t. ⊎_elim (λ u. h x (memℕ-e x vs u))
          (λ u. let e = any_e (touches vs x) p.edges u in
          let s = touches_e vs x e.0 e.2 in
          let q = h s.0 s.2 in
          (q.0, q.1, along (below_e (length p.vertices) x j) e.1 s.1 q.2))
          (or_cases (memℕ x vs) _ t))
          (length numbers) (with_identity p ids) (λ x j. let h = identity_e ids x j in (x, h, here h.0)) v k

      start : Within (with_identity p ids) numbers
      start x m = below_i (length p.vertices) x (identity_e ids x m).0

      all : (v w : ℕ) → HasIdentity p ids w → Path p v w → v ∈ reached ids
      all v w h (here k) = steps_keep numbers leads leads_own (length numbers) (with_identity p ids) start v (identity_i ids v h)
      all v w h (along {u} {e} k m j q) =
          let S = reached ids in
          closed numbers leads leads_own (with_identity p ids) start v (below_i (length p.vertices) v k)
          (or_r (memℕ v S) _ (any_i (touches S v) p.edges e m (touches_i S v u e j (all u w h q))))
