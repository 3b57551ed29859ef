-- Chains by their vertices and edges, and where the vertices, edges and conditions of a text stand.
use mathlib.Core.Path.{refl, sym, ap, subst, ◌≡◌}
use mathlib.Core.Logic.{⊎_elim}
use mathlib.Core.List.Memᴰ
use mathlib.Core.List.Memᴰ.{cases_cons}
use mathlib.Core.List.Memᴰ.{eq_of_singleton}
use mathlib.Core.List.{[]}
use Rattle.model.specs.Bytes.{Bytes}
use Rattle.model.specs.Book.{Book}
use Rattle.model.specs.QueryText.{Chain, end, right, left, Condition, Match, QueryText}
use Rattle.model.specs.Query.{hd, ChainEdge, chain_vertices, chain_edges, vertex_names, edges_of, edge_names, conditions_of}
use Rattle.model.specs.Graph.{IsNode}
use Rattle.model.specs.Models.{Mapping, EdgeHolds, ChainHolds}
use Rattle.model.proofs.Members.{◌∈◌, map_i, map_e, joined_i, joined_e, firsts_i, firsts_e}

-- the left-most vertex stands in the chain
pub hd_in : (c : Chain) → hd c ∈ chain_vertices c
unfolding hd chain_vertices
hd_in (end v) = Memᴰ.head refl
hd_in (right v e l c) = Memᴰ.head refl
hd_in (left v e l c) = Memᴰ.head refl

-- an edge of a chain has its relationship
abbrev pub HoldsEdge : Book → Mapping → ChainEdge → Type 0
HoldsEdge b m e = EdgeHolds b (m.rel e.name) e.label (m.node e.from) (m.node e.to)

-- a chain holds if each of its vertices has a node and each of its edges its relationship
pub chain_i : (b : Book) (m : Mapping) (c : Chain) → ((v : Bytes) → v ∈ chain_vertices c → IsNode b (m.node v))
    → ((e : ChainEdge) → e ∈ chain_edges c → HoldsEdge b m e) → ChainHolds b m c
unfolding chain_vertices chain_edges
chain_i b m (end v) p q = p v (Memᴰ.head refl)
chain_i b m (right v e l c) p q = (
  p v (Memᴰ.head refl),
  q _ (Memᴰ.head refl),
  chain_i b m c (λ u k. p u (Memᴰ.tail k))
      (λ f k. q f (Memᴰ.tail k)),
)
chain_i b m (left v e l c) p q = (
  p v (Memᴰ.head refl),
  q _ (Memᴰ.head refl),
  chain_i b m c (λ u k. p u (Memᴰ.tail k))
      (λ f k. q f (Memᴰ.tail k)),
)

-- in a chain that holds each edge has its relationship
pub chain_e : (b : Book) (m : Mapping) (c : Chain) → ChainHolds b m c → (e : ChainEdge) → e ∈ chain_edges c → HoldsEdge b m e
unfolding chain_edges
chain_e b m (end u) h e n = elim n [ ]
chain_e b m (right u f l c) h e n = ⊎_elim (λ p. subst (HoldsEdge b m) (sym p) h.1) (λ k. chain_e b m c h.2 e k) (cases_cons n)
chain_e b m (left u f l c) h e n = ⊎_elim (λ p. subst (HoldsEdge b m) (sym p) h.1) (λ k. chain_e b m c h.2 e k) (cases_cons n)

-- the ends of an edge stand in its chain
pub chain_ends : (c : Chain) (e : ChainEdge) → e ∈ chain_edges c → (e.from ∈ chain_vertices c) × (e.to ∈ chain_vertices c)
unfolding chain_vertices chain_edges
chain_ends (end u) e n = elim n [ ]
chain_ends (right u f l c) e n = ⊎_elim (λ p. (Memᴰ.head (ap (λ z. z.from) p), Memᴰ.tail (Memᴰ.cast (ap (λ z. z.to) p) (hd_in c))))
    (λ k. let r = chain_ends c e k in (Memᴰ.tail r.0, Memᴰ.tail r.1)) (cases_cons n)
chain_ends (left u f l c) e n = ⊎_elim (λ p. (Memᴰ.tail (Memᴰ.cast (ap (λ z. z.from) p) (hd_in c)), Memᴰ.head (ap (λ z. z.to) p)))
    (λ k. let r = chain_ends c e k in (Memᴰ.tail r.0, Memᴰ.tail r.1)) (cases_cons n)

-- in a chain that holds each vertex has a node
pub chain_node : (b : Book) (m : Mapping) (c : Chain) → ChainHolds b m c → (v : Bytes) → v ∈ chain_vertices c → IsNode b (m.node v)
unfolding chain_vertices
chain_node b m (end u) h v n = subst (λ z. IsNode b (m.node z)) (sym (eq_of_singleton n)) h
chain_node b m (right u e l c) h v n = ⊎_elim (λ p. subst (λ z. IsNode b (m.node z)) (sym p) h.0) (λ k. chain_node b m c h.2 v k) (cases_cons n)
chain_node b m (left u e l c) h v n = ⊎_elim (λ p. subst (λ z. IsNode b (m.node z)) (sym p) h.0) (λ k. chain_node b m c h.2 v k) (cases_cons n)

module _ (q : QueryText) where
  -- a vertex of a chain is a vertex of the text
  pub vertex_stands : (k : Match) → k ∈ q.matches → (v : Bytes) → v ∈ chain_vertices k.chain → v ∈ vertex_names q
  unfolding vertex_names
  vertex_stands k n v j = firsts_i [] _ v (joined_i (λ x. chain_vertices x.chain) q.matches k n v j)

  -- a vertex of the text stands in a chain
  pub vertex_of_law : (v : Bytes) → v ∈ vertex_names q → (k : Match) × (k ∈ q.matches) × (v ∈ chain_vertices k.chain)
  unfolding vertex_names
  vertex_of_law v n = ⊎_elim (λ z. elim z [ ]) (λ k. joined_e (λ x. chain_vertices x.chain) q.matches v k) (firsts_e [] _ v n)

  -- an edge of a chain is an edge of the text
  pub edge_stands : (k : Match) → k ∈ q.matches → (e : ChainEdge) → e ∈ chain_edges k.chain → e ∈ edges_of q
  unfolding edges_of
  edge_stands k n e j = joined_i (λ x. chain_edges x.chain) q.matches k n e j

  -- an edge of the text stands in a chain
  pub edge_of_law : (e : ChainEdge) → e ∈ edges_of q → (k : Match) × (k ∈ q.matches) × (e ∈ chain_edges k.chain)
  unfolding edges_of
  edge_of_law e n = joined_e (λ x. chain_edges x.chain) q.matches e n

  -- the ends of an edge are vertices of the text
  pub edge_ends : (e : ChainEdge) → e ∈ edges_of q → (e.from ∈ vertex_names q) × (e.to ∈ vertex_names q)
  edge_ends e n = let r = edge_of_law e n in let k = chain_ends r.0.chain e r.2 in
      (vertex_stands r.0 r.1 e.from k.0, vertex_stands r.0 r.1 e.to k.1)

  -- the name of an edge is an edge variable of the text
  pub edge_named_law : (e : ChainEdge) → e ∈ edges_of q → e.name ∈ edge_names q
  unfolding edge_names
  edge_named_law e n = map_i (λ (z : ChainEdge). z.name) (edges_of q) e n

  -- an edge variable of the text is the name of an edge
  pub edge_of_name : (x : Bytes) → x ∈ edge_names q → (e : ChainEdge) × (e ∈ edges_of q) × (x ≡ e.name)
  unfolding edge_names
  edge_of_name x n = map_e (λ (z : ChainEdge). z.name) (edges_of q) x n

  -- a condition of a Match is a condition of the text
  pub condition_stands : (k : Match) → k ∈ q.matches → (c : Condition) → c ∈ k.conditions → c ∈ conditions_of q
  unfolding conditions_of
  condition_stands k n c j = joined_i (λ (m : Match). m.conditions) q.matches k n c j

  -- a condition of the text stands in a Match
  pub condition_of : (c : Condition) → c ∈ conditions_of q → (k : Match) × (k ∈ q.matches) × (c ∈ k.conditions)
  unfolding conditions_of
  condition_of c n = joined_e (λ (m : Match). m.conditions) q.matches c n
