-- From a family of mappings to a mapping of the woven pattern.
use Prim.Native.Nat.{ℕ, ◌+◌, ◌-◌, ◌<◌}
use mathlib.Core.Path.{◌≡◌, refl, sym, ap, subst, ◌∙◌}
use mathlib.Core.Logic.{⊎_elim}
use mathlib.Core.List.Memᴰ
use mathlib.Core.List.{List, [], ◌∷◌, map}
use native.Mathlib.Omega.{arith}
use lib.ListN.{length, get_or}
use lib.Dec.{T, ltb, ltb→lt, lt→ltb}
use Rattle.model.specs.Bytes.{Bytes}
use Rattle.model.specs.Choice.{pick}
use Rattle.model.specs.Lists.{below, any}
use Rattle.model.specs.Names.{mem, place}
use Rattle.model.specs.Book.{Book}
use Rattle.model.specs.Query.{vertex_names, edge_names}
use Rattle.model.specs.Pattern.{pattern_of}
use Rattle.model.specs.Request.{Identity}
use Rattle.model.specs.Graph.{IsNode}
use Rattle.model.specs.Satisfies.{NumberedMapping, NumberedEdgeHolds, Satisfies, edge_at}
use Rattle.model.specs.Weave.{named, returns_of, weave, WovenVertex, actor, same_vertex, place_vertex, no_vertex, weave_vertex}
use Rattle.model.specs.MayHave.{is_actor, Mapped, Agree, AllAgree, Identified}
use Rattle.model.proofs.Members.{◌∈◌, test, is_true, is_false, each_e, each_i, map_i, below_e, place_map, alike_e, alike_i}
use Rattle.model.proofs.Places.{at_place, get_or_in, get_or_map, length_map}
use Rattle.model.proofs.ByNodes.{node_in_law}
use Rattle.model.proofs.Choices.{IsModel, actor_i}
use Rattle.model.proofs.NumberedMappings.{numbered, by_name, SameOnNames, satisfied, same_satisfies, edge_count}
use Rattle.model.proofs.WovenNames.{woven_to_actor, woven_to_one}
use Rattle.model.proofs.Families.{asked_of, Family, family_row, WovenModel, woven_row}
use Rattle.model.proofs.WovenParts.{edges_in, Counted, counted_map, counted_both, counted_asked, within, Part, vertices_of, woven_vertices}
use Rattle.model.proofs.WovenParts.{woven_edges, edges_e, parts_e, vertices_e, vertices_i, woven_returns}
use Rattle.model.proofs.AcceptedQuery.{ClearNames}
use Rattle.model.proofs.WovenVertices.{vertex_tells, at_vertex, first_vertices_i, first_vertices_e}

-- the vertices of a mapping's text
abbrev pub names_of : Mapped → List Bytes
names_of h = vertex_names h.asked.text

-- the actors of its category
abbrev pub actors_in : Mapped → List Bytes
actors_in h = h.asked.actors

-- the node of a woven vertex: from the first text that has it
unfoldable pub node_by : ℕ → List Mapped → WovenVertex → ℕ
node_by k [] w = 0
node_by k (h ∷ hs) w =
    let ws = map (weave_vertex k (actors_in h)) (names_of h) in
    let rest = node_by (k + 1) hs w in
    pick (any (same_vertex w) ws) (h.mapping.node (get_or (names_of h) (place_vertex w ws) [])) rest

-- a woven vertex that the first text has gets its node from it
node_here : (k : ℕ) (h : Mapped) (hs : List Mapped) (w : WovenVertex) → T (any (same_vertex w) (map (weave_vertex k (actors_in h)) (names_of h)))
    → (u : Bytes) × (u ∈ names_of h) × (weave_vertex k (actors_in h) u ≡ w) × (node_by k (h ∷ hs) w ≡ h.mapping.node u)
unfolding node_by
node_here k h hs w t =
    let f = weave_vertex k (actors_in h) in
    let ws = map f (names_of h) in
    let p = at_vertex ws w (alike_e same_vertex vertex_tells w ws t) in
    let l : place_vertex w ws < length (names_of h) = subst (λ z. place_vertex w ws < z) (length_map f (names_of h)) p.0 in (
      get_or (names_of h) (place_vertex w ws) [],
      get_or_in (names_of h) (place_vertex w ws) [] l,
      sym (get_or_map f (names_of h) (place_vertex w ws) [] no_vertex l)
          ∙ p.1,
      rw (is_true (any (same_vertex w) ws) t) refl,
    )

-- another gets it from the texts after
node_there : (k : ℕ) (h : Mapped) (hs : List Mapped) (w : WovenVertex) → (T (any (same_vertex w) (map (weave_vertex k (actors_in h)) (names_of h))) → ⊥)
    → node_by k (h ∷ hs) w ≡ node_by (k + 1) hs w
unfolding node_by
node_there k h hs w t = rw (is_false (any (same_vertex w) (map (weave_vertex k (actors_in h)) (names_of h))) t) refl

-- f gives the woven vertices of a text the nodes that its mapping gives
abbrev pub NodesKept : (WovenVertex → ℕ) → ℕ → ℕ → Mapped → Type 0
NodesKept f j i h = (v : Bytes) → v ∈ names_of h → f (weave_vertex j (actors_in h) v) ≡ h.mapping.node v

-- where the mappings agree, each text's nodes are kept
pub nodes_kept : (k n : ℕ) (hs : List Mapped) → AllAgree hs → Counted asked_of (NodesKept (node_by k hs)) k n hs
nodes_kept k n [] g = tt
nodes_kept k n (h ∷ hs) g = (
  λ v i. let w = weave_vertex k (actors_in h) v in
      let r = node_here k h hs w (alike_i same_vertex vertex_tells w _ (map_i (weave_vertex k (actors_in h)) (names_of h) v i)) in
      r.3 ∙ ap h.mapping.node (woven_to_one k k (actors_in h) (actors_in h) r.0 v r.2).0,
  counted_map asked_of (NodesKept (node_by (k + 1) hs)) (NodesKept (node_by k (h ∷ hs))) (k + 1) (n + edges_in h.asked) hs
      (λ j i x l _ m ih v s. let w = weave_vertex j (actors_in x) v in ⊎_elim
      (λ t. let r = node_here k h hs w t in
      let e = woven_to_one k j (actors_in h) (actors_in x) r.0 v r.2 in
      let a : T (mem r.0 (actors_in h)) × T (mem v (actors_in x)) = ⊎_elim (λ c. c) (λ c. absurd (omega arith)) e.1 in
      r.3 ∙ ap h.mapping.node e.0 ∙ each_e (Agree h) hs g.0 x m v
      (actor_i h.asked v (Memᴰ.cast (sym e.0) r.1) (subst (λ z. T (mem z (actors_in h))) e.0 a.0)) (actor_i x.asked v s a.1))
      (λ t. node_there k h hs w t ∙ ih v s)
      (test (any (same_vertex w) (map (weave_vertex k (actors_in h)) (names_of h)))))
      (nodes_kept (k + 1) (n + edges_in h.asked) hs g.1),
)

-- the relationship of a woven edge: from its own text, n edges standing before
unfoldable pub rel_by : ℕ → List Mapped → ℕ → ℕ
rel_by n [] i = 0
rel_by n (h ∷ hs) i =
    let rest = rel_by (n + edges_in h.asked) hs i in
    pick (ltb i (n + edges_in h.asked)) (h.mapping.rel (get_or (edge_names h.asked.text) (i - n) [])) rest

-- f gives the edges of a text the relationships that its mapping gives, n edges standing before
abbrev pub RelsKept : (ℕ → ℕ) → ℕ → ℕ → Mapped → Type 0
RelsKept f j n h = (i : ℕ) → i < edges_in h.asked → f (n + i) ≡ h.mapping.rel (get_or (edge_names h.asked.text) i [])

-- each text's relationships are kept
pub rels_kept : (k n : ℕ) (hs : List Mapped) → Counted asked_of (RelsKept (rel_by n hs)) k n hs
unfolding rel_by
rels_kept k n [] = tt
rels_kept k n (h ∷ hs) = (
  λ i l. let c : n + i < n + edges_in h.asked = omega arith in let e : n + i - n ≡ i = omega arith in
      rw (is_true (ltb (n + i) (n + edges_in h.asked)) (lt→ltb (n + i) (n + edges_in h.asked) c))
      (ap (λ z. h.mapping.rel (get_or (edge_names h.asked.text) z [])) e),
  counted_map asked_of (RelsKept (rel_by (n + edges_in h.asked) hs)) (RelsKept (rel_by n (h ∷ hs))) (k + 1) (n + edges_in h.asked) hs
      (λ j o x _ l m ih i s. rw (is_false (ltb (o + i) (n + edges_in h.asked)) (λ t. let c = ltb→lt (o + i) (n + edges_in h.asked) t in omega arith))
      (ih i s))
      (rels_kept (k + 1) (n + edges_in h.asked) hs),
)

-- the woven mapping of a family
abbrev pub woven_of : List Mapped → NumberedMapping
woven_of hs = record { node = λ i. node_by 0 hs (get_or (woven_vertices (map asked_of hs)) i no_vertex); rel = rel_by 0 hs }

module _ (b : Book) (ids : List Identity) (hs : List Mapped) (family : Family b ids (map asked_of hs) hs)
    (clear : (h : Mapped) → h ∈ hs → ClearNames h.asked.text) where
  -- the woven vertices
  abbrev vs : List WovenVertex
  vs = woven_vertices (map asked_of hs)

  in_vs : (w : WovenVertex) → w ∈ vertices_of 0 (map asked_of hs) → w ∈ vs
  in_vs w i = first_vertices_i [] _ w i

  -- each text's nodes are those of its woven vertices
  nodes : Counted asked_of (NodesKept (node_by 0 hs)) 0 0 hs
  nodes = nodes_kept 0 0 hs family.agreeing

  -- by the place of a woven vertex
  abbrev AtPlace : ℕ → ℕ → Mapped → Type 0
  AtPlace j i h = (v : Bytes) → v ∈ names_of h → (woven_of hs).node (place_vertex (weave_vertex j (actors_in h) v) vs) ≡ h.mapping.node v

  at_places : Counted asked_of AtPlace 0 0 hs
  at_places = counted_map asked_of (λ j i h. ((v : Bytes) → v ∈ names_of h → weave_vertex j (actors_in h) v ∈ vs) × NodesKept (node_by 0 hs) j i h) AtPlace 0 0 hs
      (λ j i h _ _ _ p v m. ap (node_by 0 hs) (at_vertex vs (weave_vertex j (actors_in h) v) (p.0 v m)).1 ∙ p.1 v m)
      (counted_both asked_of _ _ 0 0 hs (vertices_i asked_of vs 0 0 hs in_vs) nodes)

  -- each text's pattern is satisfied within the woven mapping
  parts : Counted asked_of (λ j i h. Part b vs (woven_of hs) j i h.asked) 0 0 hs
  unfolding pattern_of
  parts = counted_map asked_of (λ j i h. AtPlace j i h × RelsKept (rel_by 0 hs) j i h) (λ j i h. Part b vs (woven_of hs) j i h.asked) 0 0 hs
      (λ j n h _ _ m p. let q = h.asked.text in let s = clear h m in
      same_satisfies b q s (numbered q h.mapping) (within vs (woven_of hs) j n h.asked) (
        λ i l. sym (ap (λ z. (woven_of hs).node (place_vertex z vs)) (get_or_map (weave_vertex j (actors_in h)) (names_of h) i [] no_vertex l)
            ∙ p.0 (get_or (names_of h) i []) (get_or_in (names_of h) i [] l)),
        λ i l. sym (p.1 i l),
      )
      (satisfied b q s h.mapping (each_e (IsModel b) hs family.models h m)))
      (counted_both asked_of AtPlace (RelsKept (rel_by 0 hs)) 0 0 hs at_places (rels_kept 0 0 hs))

  -- what holds of each text's vertices by name and node holds of each woven vertex
  of_vertex : (C : WovenVertex → Type 0)
      → ((j : ℕ) (h : Mapped) → h ∈ hs → (v : Bytes) → v ∈ names_of h → node_by 0 hs (weave_vertex j (actors_in h) v) ≡ h.mapping.node v
      → C (weave_vertex j (actors_in h) v))
      → (i : ℕ) → i < length vs → C (get_or vs i no_vertex)
  of_vertex C f i l = vertices_e asked_of C 0 0 hs
      (counted_map asked_of (NodesKept (node_by 0 hs)) (λ j i h. (v : Bytes) → v ∈ names_of h → C (weave_vertex j (actors_in h) v)) 0 0 hs
      (λ j i h _ _ m p v n. f j h m v n (p v n)) nodes)
      (get_or vs i no_vertex) (⊎_elim (λ z. elim z [ ]) (λ z. z)
      (first_vertices_e [] (vertices_of 0 (map asked_of hs)) (get_or vs i no_vertex) (get_or_in vs i no_vertex l)))

  -- the woven pattern is satisfied
  woven_satisfies : Satisfies b (weave (map asked_of hs)) (woven_of hs)
  unfolding weave edge_at
  woven_satisfies =
      let r = parts_e b vs (woven_of hs) 0 0 (map asked_of hs) (counted_asked (Part b vs (woven_of hs)) 0 0 hs parts) in
      let es = woven_edges vs 0 (map asked_of hs) in
      record {
        vertices = each_i (λ v. IsNode b ((woven_of hs).node v)) (below (length vs)) (λ i k. of_vertex (λ w. IsNode b (node_by 0 hs w))
            (λ j h m v n e. subst (IsNode b) (sym e) (node_in_law b h.asked.text h.mapping (each_e (IsModel b) hs family.models h m) v n)) i
            (below_e _ i k));
        edges = each_i (NumberedEdgeHolds b (weave (map asked_of hs)) (woven_of hs)) (below (length es))
            (λ i k. edges_e b (woven_of hs) es r.0 i (below_e _ i k));
        clauses = r.1;
      }

  -- and the identities are kept
  woven_identified : (i : ℕ) → i < length (weave (map asked_of hs)).vertices → (d : Identity) → d ∈ ids
      → get_or (weave (map asked_of hs)).vertices i no_vertex ≡ actor d.actor → (woven_of hs).node i ≡ d.node
  unfolding weave
  woven_identified i l d m e = of_vertex (λ w. w ≡ actor d.actor → node_by 0 hs w ≡ d.node)
      (λ j h k v n p q. let r = woven_to_actor j (actors_in h) v d.actor q in
      p ∙ ap h.mapping.node r.1 ∙ each_e (λ (z : Identity). T (is_actor h.asked z.actor) → h.mapping.node z.actor ≡ z.node) ids
      (each_e (Identified ids) hs family.identified h k) d m
      (subst (λ z. T (is_actor h.asked z)) r.1 (actor_i h.asked v n r.0)))
      i l e

  -- it is a mapping of the woven pattern that keeps the identities
  pub woven_model : WovenModel b ids (map asked_of hs) (woven_of hs)
  woven_model = record { satisfies = woven_satisfies; identified = woven_identified }

  -- within it each text has the mapping that it has in the family
  pub mappings_kept : Counted asked_of (λ j n h. SameOnNames h.asked.text (by_name h.asked.text (within vs (woven_of hs) j n h.asked))
      h.mapping) 0 0 hs
  mappings_kept = counted_map asked_of (λ j i h. AtPlace j i h × RelsKept (rel_by 0 hs) j i h) _ 0 0 hs
      (λ j n h _ _ _ p. (
        λ v i. ap (λ z. (woven_of hs).node (place_vertex z vs)) (place_map (weave_vertex j (actors_in h)) no_vertex (names_of h) v i) ∙ p.0 v i,
        λ e i. let k = at_place (edge_names h.asked.text) e i in
            p.1 (place e (edge_names h.asked.text)) (subst (λ z. place e (edge_names h.asked.text) < z) (edge_count h.asked.text) k.0)
            ∙ ap h.mapping.rel k.1,
      ))
      (counted_both asked_of AtPlace (RelsKept (rel_by 0 hs)) 0 0 hs at_places (rels_kept 0 0 hs))

-- and its row is the family's
pub woven_row_law : (b : Book) (ids : List Identity) (hs : List Mapped) → Family b ids (map asked_of hs) hs → ((h : Mapped) → h ∈ hs → ClearNames h.asked.text)
    → woven_row (map asked_of hs) (woven_of hs) ≡ family_row hs
unfolding weave returns_of named
woven_row_law b ids [] family clear = refl
woven_row_law b ids (h ∷ hs) family clear =
    woven_returns (woven_vertices (map asked_of (h ∷ hs))) (woven_of (h ∷ hs)) h.mapping.node h.asked (map asked_of hs)
    (clear h (Memᴰ.head refl)).declared
    (at_places b ids (h ∷ hs) family clear).0
