-- From a mapping of the woven pattern to a family of mappings, and both ways round.
use Prim.Native.Nat.{ℕ, ◌+◌, ◌-◌, ◌<◌, ◌≤◌}
use mathlib.Core.Path.{◌≡◌, refl, sym, ap, subst, ◌∙◌}
use mathlib.Core.Logic.{⊎_elim}
use mathlib.Core.List.Memᴰ
use mathlib.Core.List.{List, [], ◌∷◌, map}
use native.Mathlib.Omega.{arith}
use lib.ListN.{length, get_or, length-append}
use lib.Dec.{T, ltb, ltb→lt, lt→ltb}
use Rattle.model.specs.Bytes.{Bytes}
use Rattle.model.specs.Lists.{below, joined}
use Rattle.model.specs.Book.{Book}
use Rattle.model.specs.Query.{vertex_names, edge_names}
use Rattle.model.specs.Request.{Identity}
use Rattle.model.specs.Graph.{Each, IsNode}
use Rattle.model.specs.Satisfies.{NumberedMapping, NumberedEdgeHolds, edge_at}
use Rattle.model.specs.Weave.{Asked, named, returns_of, weave, WovenVertex, actor, place_vertex, no_vertex, weave_vertex}
use Rattle.model.specs.MayHave.{is_actor, Mapped, Agree, AllAgree, Identified}
use Rattle.model.proofs.Members.{◌∈◌, each_e, each_i, below_i, place_map, test, is_true, is_false}
use Rattle.model.proofs.Places.{place_at, get_or_in, length_map}
use Rattle.model.proofs.Choices.{IsModel, actor_e}
use Rattle.model.proofs.NumberedMappings.{by_name, modelled, SameOnNames, SameOnNumbers, edge_count}
use Rattle.model.proofs.WovenNames.{woven_actor}
use Rattle.model.proofs.Families.{asked_of, Family, family_row, WovenModel, woven_row}
use Rattle.model.proofs.WovenParts.{edges_in, Counted, counted_map, within, Part, vertices_of, woven_vertices, woven_edges, edges_i, parts_i}
use Rattle.model.proofs.WovenParts.{vertices_i, woven_returns, vertices_e}
use Rattle.model.proofs.Exclusions.{woven_apart}
use Rattle.model.proofs.WovenMapping.{node_by, rel_by, woven_of, NodesKept, nodes_kept, mappings_kept}
use Rattle.model.proofs.AcceptedQuery.{ClearNames}
use Rattle.model.proofs.WovenVertices.{at_vertex, first_vertices_i, first_vertices_e, first_vertices_once}

module _ (vs : List WovenVertex) (m : NumberedMapping) where
  -- each text's part of a mapping of the woven vertices vs, k texts and n edges standing before
  unfoldable pub family_from : ℕ → ℕ → List Asked → List Mapped
  family_from k n [] = []
  family_from k n (a ∷ others) = record { asked = a; mapping = by_name a.text (within vs m k n a) } ∷ family_from (k + 1) (n + edges_in a) others

  -- it is of these texts
  family_asked : (k n : ℕ) (asked : List Asked) → map asked_of (family_from k n asked) ≡ asked
  unfolding family_from
  family_asked k n [] = refl
  family_asked k n (a ∷ others) = ap (λ z. a ∷ z) (family_asked (k + 1) (n + edges_in a) others)

  -- what holds of each part holds of each mapping
  family_each : (P : Mapped → Type 0) (k n : ℕ) (asked : List Asked)
      → Counted (λ a. a) (λ j i a. P (record { asked = a; mapping = by_name a.text (within vs m j i a) })) k n asked
      → Each P (family_from k n asked)
  unfolding family_from
  family_each P k n [] h = tt
  family_each P k n (a ∷ others) h = (h.0, family_each P (k + 1) (n + edges_in a) others h.1)

  -- an actor vertex has the node of the woven actor vertex of its name
  abbrev ActorsAt : Mapped → Type 0
  ActorsAt h = (v : Bytes) → T (is_actor h.asked v) → (actor v ∈ vs) × (h.mapping.node v ≡ m.node (place_vertex (actor v) vs))

  -- so the mappings agree
  all_agree : (hs : List Mapped) → Each ActorsAt hs → AllAgree hs
  all_agree [] u = tt
  all_agree (x ∷ hs) u = (each_i (Agree x) hs (λ y k v s t. (u.0 v s).1 ∙ sym (each_e ActorsAt hs u.1 y k v t).1), all_agree hs u.1)

  -- a vertex has the node of its woven vertex
  node_of : (k n : ℕ) (a : Asked) (v : Bytes) → v ∈ vertex_names a.text
      → (by_name a.text (within vs m k n a)).node v ≡ m.node (place_vertex (weave_vertex k a.actors v) vs)
  node_of k n a v i = ap (λ z. m.node (place_vertex z vs)) (place_map (weave_vertex k a.actors) no_vertex (vertex_names a.text) v i)

  -- and so an actor vertex does
  actors_of_law : (k n : ℕ) (a : Asked) → ((v : Bytes) → v ∈ vertex_names a.text → weave_vertex k a.actors v ∈ vs)
      → ActorsAt (record { asked = a; mapping = by_name a.text (within vs m k n a) })
  actors_of_law k n a f v t = let r = actor_e a v t in let e = woven_actor k a.actors v r.1 in
      (Memᴰ.cast (sym e) (f v r.0), node_of k n a v r.0 ∙ ap (λ z. m.node (place_vertex z vs)) e)

map_same : (l : List Asked) → map (λ a. a) l ≡ l
map_same [] = refl
map_same (a ∷ l) = ap (λ z. a ∷ z) (map_same l)

-- every vertex of every text has a woven vertex
pub vertices_woven : (asked : List Asked)
    → Counted (λ a. a) (λ k n a. (v : Bytes) → v ∈ vertex_names a.text → weave_vertex k a.actors v ∈ woven_vertices asked) 0 0 asked
vertices_woven asked = vertices_i (λ a. a) (woven_vertices asked) 0 0 asked
    (λ x i. first_vertices_i [] (vertices_of 0 asked) x (subst (λ z. x ∈ vertices_of 0 z) (map_same asked) i))

-- the family of a woven mapping
abbrev pub family_of : List Asked → NumberedMapping → List Mapped
family_of asked m = family_from (woven_vertices asked) m 0 0 asked

module _ (b : Book) (ids : List Identity) (asked : List Asked) (m : NumberedMapping) (woven : WovenModel b ids asked m)
    (clear : (a : Asked) → a ∈ asked → ClearNames a.text) where
  -- the woven vertices
  abbrev vs : List WovenVertex
  vs = woven_vertices asked

  in_vs : (x : WovenVertex) → x ∈ vertices_of 0 asked → x ∈ vs
  in_vs x i = first_vertices_i [] (vertices_of 0 asked) x i

  -- each text's pattern is satisfied within the woven mapping
  parts : Counted (λ a. a) (Part b vs m) 0 0 asked
  unfolding weave edge_at
  parts = parts_i b vs m 0 0 asked in_vs
      (λ i l. each_e (λ v. IsNode b (m.node v)) (below (length vs)) woven.satisfies.vertices i (below_i _ i l))
      (edges_i b m (woven_edges vs 0 asked) (λ i l. each_e (NumberedEdgeHolds b (weave asked) m) (below (length (woven_edges vs 0 asked)))
      woven.satisfies.edges i (below_i _ i l)))
      (woven_apart asked clear)
      woven.satisfies.clauses

  -- actor vertices have the nodes of the woven vertices of their names
  actors : Each (ActorsAt vs m) (family_of asked m)
  actors = family_each vs m (ActorsAt vs m) 0 0 asked (counted_map (λ a. a) _ _ 0 0 asked (λ k n a _ _ _ f. actors_of_law vs m k n a f) (vertices_woven asked))

  -- it is a family of the texts
  pub family_of_woven : Family b ids asked (family_of asked m)
  unfolding weave
  family_of_woven = record {
    one_each = family_asked vs m 0 0 asked;
    models = family_each vs m (IsModel b) 0 0 asked
        (counted_map (λ a. a) (Part b vs m) _ 0 0 asked (λ k n a _ _ i p. modelled b a.text (clear a i) (within vs m k n a) p) parts);
    agreeing = all_agree vs m (family_of asked m) actors;
    identified = each_i (Identified ids) (family_of asked m)
        (λ h k. each_i (λ d. T (is_actor h.asked d.actor) → h.mapping.node d.actor ≡ d.node) ids (λ d n t.
        let r = each_e (ActorsAt vs m) (family_of asked m) actors h k d.actor t in
        let p = at_vertex vs (actor d.actor) r.0 in
        r.1 ∙ woven.identified (place_vertex (actor d.actor) vs) p.0 d n p.1));
  }

-- and its row is the woven mapping's
pub family_row_law : (asked : List Asked) (m : NumberedMapping) → ((a : Asked) → a ∈ asked → ClearNames a.text) → family_row (family_of asked m) ≡ woven_row asked m
unfolding weave returns_of named family_from
family_row_law [] m clear = refl
family_row_law (a ∷ others) m clear =
    sym (woven_returns (woven_vertices (a ∷ others)) m (by_name a.text (within (woven_vertices (a ∷ others)) m 0 0 a)).node a others
    (clear a (Memᴰ.head refl)).declared
    (λ v i. sym (node_of (woven_vertices (a ∷ others)) m 0 0 a v i)))

-- two families are of the same texts and give what each text names the same
abbrev pub SameFamily : List Mapped → List Mapped → Type 0
SameFamily [] [] = Unit {0}
SameFamily [] (y ∷ ys) = ⊥
SameFamily (x ∷ xs) [] = ⊥
SameFamily (x ∷ xs) (y ∷ ys) = (x.asked ≡ y.asked) × SameOnNames x.asked.text x.mapping y.mapping × SameFamily xs ys

-- woven and taken apart again, a family is the same
pub family_again : (b : Book) (ids : List Identity) (hs : List Mapped) → Family b ids (map asked_of hs) hs
    → ((h : Mapped) → h ∈ hs → ClearNames h.asked.text)
    → SameFamily (family_of (map asked_of hs) (woven_of hs)) hs
unfolding family_from
family_again b ids hs family clear = go 0 0 hs (mappings_kept b ids hs family clear)
  where
    vs : List WovenVertex
    vs = woven_vertices (map asked_of hs)

    m : NumberedMapping
    m = woven_of hs

    go : (k n : ℕ) (l : List Mapped) → Counted asked_of
        (λ j i h. SameOnNames h.asked.text (by_name h.asked.text (within vs m j i h.asked)) h.mapping) k n l
        → SameFamily (family_from vs m k n (map asked_of l)) l
    go k n [] c = tt
    go k n (h ∷ l) c = (refl, c.0, go (k + 1) (n + edges_in h.asked) l c.1)

-- how many woven edges there are
none_woven : (vs : List WovenVertex) (k : ℕ) → length (woven_edges vs k []) ≡ 0
unfolding named joined
none_woven vs k = refl

woven_edge_count : (vs : List WovenVertex) (k : ℕ) (a : Asked) (others : List Asked)
    → length (woven_edges vs k (a ∷ others)) ≡ edges_in a + length (woven_edges vs (k + 1) others)
unfolding named joined
woven_edge_count vs k a others = simp (length-append, length_map)

-- the relationships of a woven mapping, taken apart and woven again
rels_again : (vs : List WovenVertex) (m : NumberedMapping) (k n : ℕ) (asked : List Asked) → ((a : Asked) → a ∈ asked → ClearNames a.text) → (i : ℕ)
    → n ≤ i → i < n + length (woven_edges vs k asked)
    → rel_by n (family_from vs m k n asked) i ≡ m.rel i
unfolding family_from rel_by
rels_again vs m k n [] clear i l u = absurd (omega (arith, none_woven vs k))
rels_again vs m k n (a ∷ others) clear i l u = ⊎_elim
    (λ t. let c = ltb→lt i (n + edges_in a) t in
    let e : n + (i - n) ≡ i = omega arith in
    let p = place_at (edge_names a.text) (i - n) (clear a (Memᴰ.head refl)).once (subst (λ z. i - n < z) (sym (edge_count a.text)) (omega arith)) in
    rw (is_true (ltb i (n + edges_in a)) t) (ap (λ z. m.rel (n + z)) p ∙ ap m.rel e))
    (λ t. let d : i < n + edges_in a → ⊥ = λ h. t (lt→ltb i (n + edges_in a) h) in
    let c : n + edges_in a ≤ i = omega arith in
    rw (is_false (ltb i (n + edges_in a)) t) (rels_again vs m (k + 1) (n + edges_in a) others (λ x j. clear x (Memᴰ.tail j)) i c (later u)))
    (test (ltb i (n + edges_in a)))
  where
    later : i < n + length (woven_edges vs k (a ∷ others)) → i < n + edges_in a + length (woven_edges vs (k + 1) others)
    later u = omega (arith, woven_edge_count vs k a others)

-- taken apart and woven again, a mapping of the woven pattern is the same
pub woven_again : (b : Book) (ids : List Identity) (asked : List Asked) (m : NumberedMapping) → WovenModel b ids asked m
    → ((a : Asked) → a ∈ asked → ClearNames a.text)
    → SameOnNumbers (weave asked) (woven_of (family_of asked m)) m
unfolding weave family_from
woven_again b ids asked m woven clear = (
  λ i l. subst (λ z. node_by 0 fam (get_or (woven_vertices z) i no_vertex) ≡ m.node i) (sym one)
      (node i l),
  λ i l. rels_again vs m 0 0 asked clear i (omega arith) (omega arith),
)
  where
    vs : List WovenVertex
    vs = woven_vertices asked

    fam : List Mapped
    fam = family_of asked m

    one : map asked_of fam ≡ asked
    one = family_asked vs m 0 0 asked

    kept : Counted asked_of (NodesKept (node_by 0 fam)) 0 0 fam
    kept = nodes_kept 0 0 fam (family_of_woven b ids asked m woven clear).agreeing

    texts : (k n : ℕ) (l : List Asked) → Counted asked_of (NodesKept (node_by 0 fam)) k n (family_from vs m k n l)
        → Counted (λ a. a) (λ j i a. (v : Bytes) → v ∈ vertex_names a.text
        → node_by 0 fam (weave_vertex j a.actors v) ≡ m.node (place_vertex (weave_vertex j a.actors v) vs)) k n l
    texts k n [] c = tt
    texts k n (a ∷ l) c = (λ v i. c.0 v i ∙ node_of vs m k n a v i, texts (k + 1) (n + edges_in a) l c.1)

    node : (i : ℕ) → i < length vs → node_by 0 fam (get_or vs i no_vertex) ≡ m.node i
    node i l =
        let w = get_or vs i no_vertex in
        let k = ⊎_elim (λ z. elim z [ ]) (λ z. subst (λ q. w ∈ vertices_of 0 q) (sym (map_same asked)) z)
        (first_vertices_e [] (vertices_of 0 asked) w (get_or_in vs i no_vertex l)) in
        vertices_e (λ a. a) (λ w. node_by 0 fam w ≡ m.node (place_vertex w vs)) 0 0 asked (texts 0 0 asked kept) w k
        ∙ ap m.node (first_vertices_once (vertices_of 0 asked) i l)
