-- The words of identities say what each identity asks; a vertex has one by its word exactly if some identity has its name. Assumes nothing.
use Prim.Native.Nat.{ℕ, ◌+◌, ◌<◌}
use mathlib.Core.Path.{◌≡◌, sym, subst}
use mathlib.Core.Logic.{⊎_elim}
use mathlib.Core.List.{List, map}
use mathlib.Core.Bool.{Bool, true, false, not, ◌||◌}
use native.Mathlib.Omega.{arith}
use lib.Dec.{T, eqb, eqb→eq}
use lib.ListN.{length, get_or}
use Rattle.logic.specs.Tests.{either, passes_or_not, same_test, eq→eqb, not_both, or_left, or_either}
use Rattle.model.specs.Choice.{pick, nothing, just}
use Rattle.model.specs.Lists.{any, all}
use Rattle.model.specs.Names.{twice}
use Rattle.model.specs.Request.{Identity}
use Rattle.model.specs.Weave.{WovenPattern, no_vertex, identified_by}
use Rattle.model.proofs.Members.{all_e, all_i, any_e, any_i}
use Rattle.model.proofs.WovenVertices.{identified_exactly}
use Rattle.woven_tables.specs.Tables.{no_node, node_in, identity_at}
use Rattle.weave.specs.Identities.{identity_of}
use Rattle.weave.specs.Given.{vertex_of, keeps_identity, identity_lets, has_identity, Identified}
use Rattle.weave.proofs.Whole.{Identifies, identified_by_law}

-- an identity's word lets a node be taken exactly if its node is that one, where it says one
lets_e : (w n : ℕ) → T (identity_lets w n) → Identifies (node_in w) n
unfolding identity_lets node_in
lets_e w n = go (eqb w no_node)
  where
    go : (t : Bool) → T (t || eqb w n) → Identifies (pick t nothing (just w)) n
    go true h = tt
    go false h = sym (eqb→eq w n h)

lets_i : (w n : ℕ) → Identifies (node_in w) n → T (identity_lets w n)
unfolding identity_lets node_in
lets_i w n = go (eqb w no_node)
  where
    go : (t : Bool) → Identifies (pick t nothing (just w)) n → T (t || eqb w n)
    go true h = tt
    go false h = eq→eqb w n (sym h)

-- what each identity asks of a vertex's node
asks_e : (p : WovenPattern) (v n : ℕ) (d : Identity) → T (keeps_identity p v n d) → T (identified_by (vertex_of p v) d) → n ≡ d.node
unfolding keeps_identity
asks_e p v n d t e = ⊎_elim (λ h. absurd (not_both (identified_by (vertex_of p v) d) e h)) (λ h. sym (eqb→eq d.node n h))
    (or_either (not (identified_by (vertex_of p v) d)) (eqb d.node n) t)

asks_i : (p : WovenPattern) (v n : ℕ) (d : Identity) → (T (identified_by (vertex_of p v) d) → n ≡ d.node) → T (keeps_identity p v n d)
unfolding keeps_identity
asks_i p v n d f = go (identified_by (vertex_of p v) d) f
  where
    go : (t : Bool) → (T t → n ≡ d.node) → T (not t || eqb d.node n)
    go true g = eq→eqb d.node n (sym (g tt))
    go false g = tt

-- where no actor is identified twice, the words that give each vertex its identity say what all identities ask
pub identities_say : (p : WovenPattern) (ids : List Identity) (woven : List ℕ) → (T (twice (map (λ i. i.actor) ids)) → ⊥)
    → ((v : ℕ) → v < length p.vertices → identity_at woven v ≡ identity_of ids (get_or p.vertices v no_vertex)) → Identified p ids woven
unfolding identity_at vertex_of
identities_say p ids woven once given = record {
  each = λ v l n m.
      let w = get_or woven (412 + v) 0 in
      let vertex = get_or p.vertices v no_vertex in
      let by = identified_by_law ids vertex n once in
      same_test (all (keeps_identity p v n) ids) (identity_lets w n)
      (λ t. lets_i w n (subst (λ z. Identifies z n) (sym (given v l))
      (by.1 (λ d i e. asks_e p v n d (all_e (keeps_identity p v n) ids t d i) ((identified_exactly vertex d).1 e)))))
      (λ t. all_i (keeps_identity p v n) ids (λ d i. asks_i p v n d
      (λ e. by.0 (subst (λ z. Identifies z n) (given v l) (lets_e w n t)) d i ((identified_exactly vertex d).0 e))));
}

-- a word that lets both nodes 0 and 1 be taken says none
lets_both : (w : ℕ) → T (identity_lets w 0) → T (identity_lets w 1) → w ≡ no_node
unfolding identity_lets
lets_both w h g = either (or_either (eqb w no_node) (eqb w 0) h) (λ t. eqb→eq w no_node t)
    (λ t. either (or_either (eqb w no_node) (eqb w 1) g) (λ u. eqb→eq w no_node u)
    (λ u. let e = eqb→eq w 0 t in let f = eqb→eq w 1 u in absurd (omega arith)))

-- and a word that says none lets every node be taken
lets_all : (w n : ℕ) → w ≡ no_node → T (identity_lets w n)
unfolding identity_lets
lets_all w n e = or_left (eqb w no_node) (eqb w n) (eq→eqb w no_node e)

module _ (p : WovenPattern) (ids : List Identity) (woven : List ℕ) (d : Identified p ids woven) (v : ℕ) (l : v < length p.vertices) where
  abbrev word : ℕ
  word = get_or woven (412 + v) 0

  abbrev named : Bool
  named = any (identified_by (vertex_of p v)) ids

  -- no identity is the vertex's: all nodes may be taken
  unnamed_lets : (T named → ⊥) → (n : ℕ) → n < 256 → T (identity_lets word n)
  unnamed_lets none n m = subst T (d.each v l n m)
      (all_i (keeps_identity p v n) ids (λ i h. asks_i p v n i (λ e. absurd (none (any_i (identified_by (vertex_of p v)) ids i h e)))))

  -- some identity is the vertex's: not all nodes may be taken
  named_lets : T named → word ≡ no_node → ⊥
  named_lets h e =
      let (i, m, q) = any_e (identified_by (vertex_of p v)) ids h in
      let asked : (n : ℕ) → n < 256 → n ≡ i.node = λ n s. asks_e p v n i
      (all_e (keeps_identity p v n) ids (subst T (sym (d.each v l n s)) (lets_all word n e)) i m) q in
      let zero = asked 0 (omega arith) in let one = asked 1 (omega arith) in omega arith

  -- THEOREM: the vertices with an identity are the actor vertices of an identified name
  pub identity_agrees : has_identity woven v ≡ named
  unfolding has_identity
  identity_agrees = same_test _ _
      (λ t. either (passes_or_not named) (λ h. h)
      (λ h. let u = unnamed_lets (λ g. not_both named g h) in
      absurd (not_both (eqb word no_node) (eq→eqb word no_node (lets_both word (u 0 (omega arith)) (u 1 (omega arith)))) t)))
      (λ t. either (passes_or_not (eqb word no_node)) (λ h. absurd (named_lets t (eqb→eq word no_node h))) (λ h. h))
