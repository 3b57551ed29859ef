-- No number of a woven pattern is out of range: that holds of the texts' patterns, and weaving keeps it. Assumes nothing.
use Prim.Native.Nat.{ℕ, ◌+◌, ◌<◌, ◌≤◌}
use mathlib.Core.Path.{◌≡◌, refl, sym, subst, ◌∙◌}
use mathlib.Core.Logic.{◌⊎◌, ⊎_elim}
use mathlib.Core.List.{List, [], ◌∷◌, ◌++◌, map}
use mathlib.Core.Bool.{Bool, true, false}
use native.Mathlib.Omega.{arith}
use lib.ListN.{length, get_or, length-append}
use lib.Dec.{T, eqb}
use Rattle.model.specs.Bytes.{Bytes}
use Rattle.model.specs.Choice.{pick}
use Rattle.model.specs.Lists.{joined, firsts_by}
use Rattle.model.specs.Names.{mem, place}
use Rattle.model.specs.QueryText.{Condition, differ, demand, Match, QueryText}
use Rattle.model.specs.Query.{ChainEdge, chain_vertices, chain_edges, vertex_names, edges_of, edge_names, conditions_of}
use Rattle.model.specs.Pattern.{Pattern, Edge, Clause, excluded, vertex_has, edge_has, clause_of, edge_of, pattern_of}
use Rattle.model.specs.Graph.{Each}
use Rattle.model.specs.Satisfies.{edge_at}
use Rattle.model.specs.Weave.{Asked, moved, moved_edge, moved_clause, named, moved_clauses, returns_of, weave, WovenVertex, WovenPattern, first_vertices, no_vertex}
use Rattle.model.proofs.Members.{◌∈◌, mem_e, mem_i, each_e, each_i, joined_e, joined_i, firsts_i}
use Rattle.model.proofs.ByNodes.{NamedIn, Named}
use Rattle.model.proofs.Chains.{chain_ends}
use Rattle.model.proofs.Places.{at_place, get_or_in, length_map}
use Rattle.weave.specs.OneMore.{under_names, more_vertices, one_more, ClauseWithin, Ranged}
use Rattle.weave.proofs.OneMore.{Sound, ranged_under, weave_keeps}
use Rattle.model.proofs.WovenVertices.{at_vertex, first_vertices_i}
use Rattle.woven_tables.proofs.Places.{vertices_grow}

-- what holds of each element holds of each that is made of it
pub each_map : {A B : Type 0} (P : A → Type 0) (Q : B → Type 0) (f : A → B) (l : List A) → ((x : A) → P x → Q (f x)) → Each P l → Each Q (map f l)
each_map P Q f [] g h = tt
each_map P Q f (x ∷ l) g h = (g x h.0, each_map P Q f l g h.1)

each_weaken : {A : Type 0} (P Q : A → Type 0) (l : List A) → ((x : A) → P x → Q x) → Each P l → Each Q l
each_weaken P Q [] g h = tt
each_weaken P Q (x ∷ l) g h = (g x h.0, each_weaken P Q l g h.1)

pub each_append : {A : Type 0} (P : A → Type 0) (xs ys : List A) → Each P xs → Each P ys → Each P (xs ++ ys)
each_append P [] ys g h = h
each_append P (x ∷ xs) ys g h = (g.0, each_append P xs ys g.1 h)

-- more vertices and edges hold what fewer do
within_more : (v e n m : ℕ) → v ≤ n → e ≤ m → (c : Clause) → ClauseWithin v e c → ClauseWithin n m c
within_more v e n m p q (excluded x y) h = (omega arith, omega arith)
within_more v e n m p q (vertex_has x a r z) h = omega arith
within_more v e n m p q (edge_has x a r z) h = omega arith

-- a vertex of a text has a woven number
pub moved_below : (own : WovenPattern) (vs : List WovenVertex) (i : ℕ) → i < length own.vertices
    → moved (first_vertices vs own.vertices) own i < length (first_vertices vs own.vertices)
unfolding moved
moved_below own vs i h = (at_vertex (first_vertices vs own.vertices) (get_or own.vertices i no_vertex)
    (first_vertices_i vs own.vertices (get_or own.vertices i no_vertex) (get_or_in own.vertices i no_vertex h))).0

-- the edges and clauses of a text, moved to woven numbers
module _ (own : WovenPattern) (ranged : Ranged own) (ws : List WovenVertex) (m : ℕ) where
  moved_edges_law : let vs = first_vertices ws own.vertices in
      Each (λ (e : Edge). (e.from < length vs) × (e.to < length vs)) (map (moved_edge vs own) own.edges)
  unfolding moved_edge
  moved_edges_law = each_map _ _ (moved_edge (first_vertices ws own.vertices) own) own.edges
      (λ e h. (moved_below own ws e.from h.0, moved_below own ws e.to h.1)) ranged.edges

  moved_clauses_law : let vs = first_vertices ws own.vertices in
      Each (ClauseWithin (length vs) (m + length own.edges)) (map (moved_clause vs own m) own.clauses)
  unfolding moved_clause
  moved_clauses_law = each_map (ClauseWithin (length own.vertices) (length own.edges))
      (ClauseWithin (length (first_vertices ws own.vertices)) (m + length own.edges)) (moved_clause (first_vertices ws own.vertices) own m)
      own.clauses one ranged.clauses
    where
      one : (c : Clause) → ClauseWithin (length own.vertices) (length own.edges) c
          → ClauseWithin (length (first_vertices ws own.vertices)) (m + length own.edges) (moved_clause (first_vertices ws own.vertices) own m c)
      one (excluded u v) h = (moved_below own ws u h.0, moved_below own ws v h.1)
      one (vertex_has v a r x) h = moved_below own ws v h
      one (edge_has e a r x) h = omega arith

  moved_returns : let vs = first_vertices ws own.vertices in Each (λ v. v < length vs) (map (moved vs own) own.returns)
  moved_returns = each_map _ (λ v. v < length (first_vertices ws own.vertices)) (moved (first_vertices ws own.vertices) own) own.returns
      (moved_below own ws) ranged.returns

-- one text more keeps numbers in range
pub one_more_ranged : (k : ℕ) (actors : List Bytes) (p : Pattern) (woven : WovenPattern) → Ranged p → Ranged woven → Ranged (one_more k actors p woven)
unfolding one_more more_vertices under_names
one_more_ranged k actors p woven h g =
    let own = under_names k actors p in
    let ranged = ranged_under k actors p h in
    let vs = first_vertices woven.vertices own.vertices in
    let n = length woven.vertices in
    let m = length woven.edges in
    let edges = map (moved_edge vs own) p.edges in
    let clauses = map (moved_clause vs own m) p.clauses in
    let grown : n ≤ length vs = vertices_grow woven.vertices own.vertices in
    let few : length edges ≡ length p.edges = length_map (moved_edge vs own) p.edges in
    let all : length (woven.edges ++ edges) ≡ m + length edges = length-append woven.edges edges in
    let count : m + length p.edges ≡ length (woven.edges ++ edges) = omega arith in
    record {
      edges = each_append _ woven.edges edges
          (each_weaken (λ (e : Edge). (e.from < n) × (e.to < n)) _ woven.edges (λ e r. (omega arith, omega arith)) g.edges)
          (moved_edges_law own ranged woven.vertices m);
      clauses = each_append _ woven.clauses clauses
          (each_weaken (ClauseWithin n m) _ woven.clauses (within_more n m (length vs) (length (woven.edges ++ edges)) grown (omega arith)) g.clauses)
          (subst (λ z. Each (ClauseWithin (length vs) z) clauses) count (moved_clauses_law own ranged woven.vertices m));
      returns = either_returns _ _ _ (eqb k 0) (moved_returns own ranged woven.vertices m)
          (each_weaken (λ v. v < n) _ woven.returns (λ v l. omega arith) g.returns);
    }
  where
    either_returns : (P : ℕ → Type 0) (xs ys : List ℕ) (b : Bool) → Each P xs → Each P ys → Each P (pick b xs ys)
    either_returns P xs ys true h g = h
    either_returns P xs ys false h g = g

-- no number of a woven pattern is out of range
pub weave_ranged : (asked : List Asked) → Each Sound asked → Ranged (weave asked)
unfolding weave named joined firsts_by moved_clauses returns_of
weave_ranged asked sound = weave_keeps Ranged one_more_ranged [] asked sound none
  where
    none : Ranged (weave [])
    none = record { edges = tt; clauses = tt; returns = tt }

-- the pattern of a text whose names are declared has no number out of range
module _ (q : QueryText) (declared : Named q) where
  stands : (m : Match) → m ∈ q.matches → (v : Bytes) → v ∈ chain_vertices m.chain → v ∈ vertex_names q
  unfolding vertex_names
  stands m i v k = firsts_i [] _ v (joined_i (λ (m : Match). chain_vertices m.chain) q.matches m i v k)

  edge_in_law : (e : ChainEdge) → e ∈ edges_of q → (e.from ∈ vertex_names q) × (e.to ∈ vertex_names q)
  unfolding edges_of
  edge_in_law e i =
      let j = joined_e (λ (m : Match). chain_edges m.chain) q.matches e i in
      let ends = chain_ends j.0.chain e j.2 in
      (stands j.0 j.1 e.from ends.0, stands j.0 j.1 e.to ends.1)

  below_vertices : (v : Bytes) → v ∈ vertex_names q → place v (vertex_names q) < length (vertex_names q)
  below_vertices v i = (at_place (vertex_names q) v i).0

  edge_count : length (edge_names q) ≡ length (pattern_of q).edges
  unfolding edge_names pattern_of
  edge_count = length_map (λ (e : ChainEdge). e.name) (edges_of q) ∙ sym (length_map (edge_of (vertex_names q)) (edges_of q))

  condition_within : (c : Condition) → NamedIn q c → ClauseWithin (length (vertex_names q)) (length (edge_names q)) (clause_of (vertex_names q) (edge_names q) c)
  unfolding clause_of
  condition_within (differ v u) h = (below_vertices v h.0, below_vertices u h.1)
  condition_within (demand x a r z) h = go (mem x (vertex_names q)) refl
    where
      go : (t : Bool) → mem x (vertex_names q) ≡ t
          → ClauseWithin (length (vertex_names q)) (length (edge_names q))
          (pick t (vertex_has (place x (vertex_names q)) a r z) (edge_has (place x (edge_names q)) a r z))
      go true e = below_vertices x (mem_e x (vertex_names q) (subst T (sym e) tt))
      go false e = (at_place (edge_names q) x (⊎_elim (λ i. i) (λ i. absurd (subst T e (mem_i x (vertex_names q) i))) h)).0

  pub pattern_ranged : Ranged (pattern_of q)
  unfolding pattern_of conditions_of edge_of
  pattern_ranged = record {
    edges = each_map (λ e. e ∈ edges_of q) _ (edge_of (vertex_names q)) (edges_of q) ends (each_i _ (edges_of q) (λ e i. i));
    clauses = subst (λ n. Each (ClauseWithin (length (vertex_names q)) n) (map (clause_of (vertex_names q) (edge_names q)) (conditions_of q))) edge_count
        (each_map (λ c. c ∈ conditions_of q) _ (clause_of (vertex_names q) (edge_names q)) (conditions_of q) clause (each_i _ (conditions_of q) (λ c i. i)));
    returns = each_map (λ v. v ∈ q.returns) _ (λ v. place v (vertex_names q)) q.returns (λ v i. below_vertices v (declared.returns v i))
        (each_i _ q.returns (λ v i. i));
  }
    where
      ends : (e : ChainEdge) → e ∈ edges_of q → ((edge_of (vertex_names q) e).from < length (vertex_names q))
          × ((edge_of (vertex_names q) e).to < length (vertex_names q))
      ends e i = let r = edge_in_law e i in (below_vertices e.from r.0, below_vertices e.to r.1)

      clause : (c : Condition) → c ∈ conditions_of q → ClauseWithin (length (vertex_names q)) (length (edge_names q)) (clause_of (vertex_names q) (edge_names q) c)
      clause c i = let j = joined_e (λ (m : Match). m.conditions) q.matches c i in condition_within c (declared.conditions j.0 j.1 c j.2)

-- the woven pattern of texts whose names are declared
pub woven_ranged : (asked : List Asked) → ((a : Asked) → a ∈ asked → Named a.text) → Ranged (weave asked)
woven_ranged asked h = weave_ranged asked (each_i Sound asked (λ a i. pattern_ranged a.text (h a i)))

-- what each edge, clause and Return of a pattern in range names
module _ (p : WovenPattern) (ranged : Ranged p) where
  pub ends_within : (e : ℕ) → e < length p.edges → ((edge_at p e).from < length p.vertices) × ((edge_at p e).to < length p.vertices)
  unfolding edge_at
  ends_within e h = each_e (λ (e : Edge). (e.from < length p.vertices) × (e.to < length p.vertices)) p.edges ranged.edges _
      (get_or_in p.edges e _ h)

  pub clause_within : (c : Clause) → c ∈ p.clauses → ClauseWithin (length p.vertices) (length p.edges) c
  clause_within c i = each_e (ClauseWithin (length p.vertices) (length p.edges)) p.clauses ranged.clauses c i

  pub return_within : (v : ℕ) → v ∈ p.returns → v < length p.vertices
  return_within v i = each_e (λ v. v < length p.vertices) p.returns ranged.returns v i
