-- Satisfaction of the woven pattern, part by part: one statement for each text.
use Prim.Native.Nat.{ℕ, ◌+◌, ◌-◌, ◌<◌, ◌≤◌}
use mathlib.Core.Path.{◌≡◌, refl, sym, subst, subst₂, ◌∙◌, ap}
use mathlib.Core.Logic.{⊎_elim, ◌≢◌}
use mathlib.Core.List.Memᴰ
use mathlib.Core.List.Memᴰ.{append_cases}
use mathlib.Core.List.{List, [], ◌∷◌, ◌++◌, map}
use native.Mathlib.Omega.{arith}
use lib.ListN.{length, get_or, length-append, get_or-append}
use lib.Seq.{get_or-append-add}
use lib.Dec.{T, ltb, ltb→lt, lt→ltb}
use Rattle.model.specs.Bytes.{Bytes}
use Rattle.model.specs.Lists.{joined, below}
use Rattle.model.specs.Names.{place}
use Rattle.model.specs.Book.{Book}
use Rattle.model.specs.Query.{vertex_names}
use Rattle.model.specs.Pattern.{Edge, Clause, excluded, vertex_has, edge_has, pattern_of}
use Rattle.model.specs.Graph.{Each, IsNode}
use Rattle.model.specs.Models.{EdgeHolds}
use Rattle.model.specs.Satisfies.{NumberedMapping, edge_at, NumberedEdgeHolds, ClauseHolds, Satisfies}
use Rattle.model.specs.Weave.{Asked, named, moved, moved_edge, moved_clause, moved_clauses, returns_of, WovenVertex, WovenPattern, place_vertex}
use Rattle.model.specs.Weave.{first_vertices, no_vertex, weave_vertex}
use Rattle.model.specs.MayHave.{Mapped}
use Rattle.model.proofs.Members.{◌∈◌, test, each_e, each_i, map_i, map_e, below_i, below_e, place_map}
use Rattle.model.proofs.Places.{get_or_in, get_or_map, length_map}
use Rattle.model.proofs.ByNodes.{Named}
use Rattle.model.proofs.WovenVertices.{at_vertex}

-- the edges of a text's pattern
abbrev pub edges_in : Asked → ℕ
edges_in a = length (pattern_of a.text).edges

-- a statement of each text, of its number and of the edges before it
abbrev pub Counted : {A : Type 0} → (A → Asked) → (ℕ → ℕ → A → Type 0) → ℕ → ℕ → List A → Type 0
Counted of P k n [] = Unit {0}
Counted of P k n (x ∷ xs) = P k n x × Counted of P (k + 1) (n + edges_in (of x)) xs

-- a statement that follows, text by text
pub counted_map : {A : Type 0} (of : A → Asked) (P Q : ℕ → ℕ → A → Type 0) (k n : ℕ) (l : List A)
    → ((j i : ℕ) (x : A) → k ≤ j → n ≤ i → x ∈ l → P j i x → Q j i x) → Counted of P k n l
    → Counted of Q k n l
counted_map of P Q k n [] f h = tt
counted_map of P Q k n (x ∷ l) f h = (
  f k n x (omega arith) (omega arith) (Memᴰ.head refl) h.0,
  counted_map of P Q (k + 1) (n + edges_in (of x)) l (λ j i y p q m g. f j i y (omega arith) (omega arith) (Memᴰ.tail m) g) h.1,
)

-- two such statements
pub counted_both : {A : Type 0} (of : A → Asked) (P Q : ℕ → ℕ → A → Type 0) (k n : ℕ) (l : List A) → Counted of P k n l → Counted of Q k n l
    → Counted of (λ j i x. P j i x × Q j i x) k n l
counted_both of P Q k n [] f g = tt
counted_both of P Q k n (x ∷ l) f g = ((f.0, g.0), counted_both of P Q (k + 1) (n + edges_in (of x)) l f.1 g.1)

-- of mappings and of their texts
pub counted_asked : (P : ℕ → ℕ → Asked → Type 0) (k n : ℕ) (hs : List Mapped) → Counted (λ h. h.asked) (λ j i h. P j i h.asked) k n hs
    → Counted (λ a. a) P k n (map (λ h. h.asked) hs)
counted_asked P k n [] f = tt
counted_asked P k n (h ∷ hs) f = (f.0, counted_asked P (k + 1) (n + edges_in h.asked) hs f.1)

-- the map of a text's pattern within a map of the woven pattern
abbrev pub within : List WovenVertex → NumberedMapping → ℕ → ℕ → Asked → NumberedMapping
within vs m k n a = record {
  node = λ i. m.node (place_vertex (get_or (map (weave_vertex k a.actors) (vertex_names a.text)) i no_vertex) vs);
  rel = λ i.
      m.rel (n + i);
}

-- a text's pattern is satisfied within a map of the woven pattern
abbrev pub Part : Book → List WovenVertex → NumberedMapping → ℕ → ℕ → Asked → Type 0
Part b vs m k n a = Satisfies b (pattern_of a.text) (within vs m k n a)

-- the edge where there is none
abbrev none : Edge
none = record { name = []; label = []; from = 0; to = 0 }

-- an edge has its relationship, which is that of number i
abbrev pub Holds : Book → NumberedMapping → ℕ → Edge → Type 0
Holds b m i e = EdgeHolds b (m.rel i) e.label (m.node e.from) (m.node e.to)

-- the edges of a list have theirs, counted from n
abbrev pub EdgesAt : Book → NumberedMapping → ℕ → List Edge → Type 0
EdgesAt b m n es = (i : ℕ) → i < length es → Holds b m (n + i) (get_or es i none)

-- counted from the first
pub edges_e : (b : Book) (m : NumberedMapping) (es : List Edge) → EdgesAt b m 0 es → (i : ℕ) → i < length es → Holds b m i (get_or es i none)
edges_e b m es h i l = let e : 0 + i ≡ i = omega arith in subst (λ z. Holds b m z (get_or es i none)) e (h i l)

-- and from the first
pub edges_i : (b : Book) (m : NumberedMapping) (es : List Edge) → ((i : ℕ) → i < length es → Holds b m i (get_or es i none)) → EdgesAt b m 0 es
edges_i b m es h i l = let e : i ≡ 0 + i = omega arith in subst (λ z. Holds b m z (get_or es i none)) e (h i l)

edges_left : (b : Book) (m : NumberedMapping) (n : ℕ) (xs ys : List Edge) → EdgesAt b m n (xs ++ ys) → EdgesAt b m n xs
edges_left b m n xs ys h i l = subst (Holds b m (n + i)) (get_or-append xs ys none i l) (h i (omega (arith, length-append xs ys)))

edges_right : (b : Book) (m : NumberedMapping) (n : ℕ) (xs ys : List Edge) → EdgesAt b m n (xs ++ ys) → EdgesAt b m (n + length xs) ys
edges_right b m n xs ys h i l =
    let e : n + (length xs + i) ≡ n + length xs + i = omega arith in
    subst₂ (Holds b m) e (get_or-append-add xs ys i none) (h (length xs + i) (omega (arith, length-append xs ys)))

edges_both : (b : Book) (m : NumberedMapping) (n : ℕ) (xs ys : List Edge) → EdgesAt b m n xs → EdgesAt b m (n + length xs) ys → EdgesAt b m n (xs ++ ys)
edges_both b m n xs ys f g i l = ⊎_elim
    (λ t. let c = ltb→lt i (length xs) t in subst (Holds b m (n + i)) (sym (get_or-append xs ys none i c)) (f i c))
    (λ t. let c : length xs ≤ i = lt_not i (length xs) t in
    let j : ℕ = i - length xs in
    let e : i ≡ length xs + j = omega arith in
    let s : n + length xs + j ≡ n + i = omega arith in
    subst (λ z. Holds b m (n + i) (get_or (xs ++ ys) z none)) (sym e)
    (subst₂ (Holds b m) s (sym (get_or-append-add xs ys j none)) (g j (omega (arith, length-append xs ys)))))
    (test (ltb i (length xs)))
  where
    lt_not : (i n : ℕ) → (T (ltb i n) → ⊥) → n ≤ i
    lt_not i n t = let d : i < n → ⊥ = λ h. t (lt→ltb i n h) in omega arith

each_left : {A : Type 0} (P : A → Type 0) (xs ys : List A) → Each P (xs ++ ys) → Each P xs
each_left P xs ys h = each_i P xs (λ x m. each_e P (xs ++ ys) h x (Memᴰ.append_left ys m))

each_right : {A : Type 0} (P : A → Type 0) (xs ys : List A) → Each P (xs ++ ys) → Each P ys
each_right P xs ys h = each_i P ys (λ x m. each_e P (xs ++ ys) h x (Memᴰ.append_right xs m))

pub each_both : {A : Type 0} (P : A → Type 0) (xs ys : List A) → Each P xs → Each P ys → Each P (xs ++ ys)
each_both P xs ys f g = each_i P (xs ++ ys) (λ x m. ⊎_elim (each_e P xs f x) (each_e P ys g x) (append_cases xs m))

-- the pattern of a text, of woven vertices
abbrev pub named_one : ℕ → Asked → WovenPattern
named_one k a = record {
  vertices = map (weave_vertex k a.actors) (vertex_names a.text);
  edges = (pattern_of a.text).edges;
  clauses = (pattern_of
      a.text).clauses;
  returns = (pattern_of a.text).returns;
}

-- the woven vertices of texts, one text after another
abbrev pub vertices_of : ℕ → List Asked → List WovenVertex
vertices_of k asked = joined (λ p. p.vertices) (named k asked)

-- the woven vertices, each once
abbrev pub woven_vertices : List Asked → List WovenVertex
woven_vertices asked = first_vertices [] (vertices_of 0 asked)

-- the woven edges of texts
abbrev pub woven_edges : List WovenVertex → ℕ → List Asked → List Edge
woven_edges vs k asked = joined (λ p. map (moved_edge vs p) p.edges) (named k asked)

-- a clause excludes no vertex from itself
abbrev pub Apart : Clause → Type 0
Apart (excluded u v) = u ≢ v
Apart (vertex_has v a r x) = Unit {0}
Apart (edge_has e a r x) = Unit {0}

module _ (b : Book) (vs : List WovenVertex) (m : NumberedMapping) where
  -- a clause of the woven pattern that excludes no vertex from itself holds within a text
  clause_within : (k n : ℕ) (a : Asked) (c : Clause) → Apart (moved_clause vs (named_one k a) n c) → ClauseHolds b m (moved_clause vs (named_one k a) n c)
      → ClauseHolds b (within vs m k n a) c
  unfolding moved_clause moved
  clause_within k n a (excluded u v) d h = λ _. h d
  clause_within k n a (vertex_has v c r x) d h = h
  clause_within k n a (edge_has e c r x) d h = h

  -- a clause of a text holds in the woven pattern
  clause_woven : (k n : ℕ) (a : Asked) (c : Clause) → ClauseHolds b (within vs m k n a) c → ClauseHolds b m (moved_clause vs (named_one k a) n c)
  unfolding moved_clause moved
  clause_woven k n a (excluded u v) h = λ d. h (λ e. d (ap (moved vs (named_one k a)) e))
  clause_woven k n a (vertex_has v c r x) h = h
  clause_woven k n a (edge_has e c r x) h = h

  part_i : (k n : ℕ) (a : Asked) → ((w : WovenVertex) → w ∈ map (weave_vertex k a.actors) (vertex_names a.text) → w ∈ vs)
      → ((i : ℕ) → i < length vs → IsNode b (m.node i))
      → EdgesAt b m n (map (moved_edge vs (named_one k a)) (pattern_of a.text).edges)
      → Each Apart (map (moved_clause vs (named_one k a) n) (pattern_of a.text).clauses)
      → Each (ClauseHolds b m) (map (moved_clause vs (named_one k a) n) (pattern_of a.text).clauses) → Part b vs m k n a
  unfolding pattern_of edge_at moved_edge moved
  part_i k n a f g h d c =
      let p = pattern_of a.text in
      let ws = map (weave_vertex k a.actors) (vertex_names a.text) in
      record {
        vertices = each_i (λ v. IsNode b ((within vs m k n a).node v)) (below (length (vertex_names a.text)))
            (λ i l. let t = subst (λ z. i < z) (sym (length_map (weave_vertex k a.actors) (vertex_names a.text))) (below_e _ i l) in
            g _ (at_vertex vs (get_or ws i no_vertex) (f (get_or ws i no_vertex) (get_or_in ws i no_vertex t))).0);
        edges = each_i (NumberedEdgeHolds b p (within vs m k n a)) (below (length p.edges)) (λ i l. let t = below_e _ i l in
            subst (Holds b m (n + i)) (get_or_map (moved_edge vs (named_one k a)) p.edges i none none t)
            (h i (subst (λ z. i < z) (sym (length_map (moved_edge vs (named_one k a)) p.edges)) t)));
        clauses = each_i (ClauseHolds b (within vs m k n a)) p.clauses (λ e l.
            let i = map_i (moved_clause vs (named_one k a) n) p.clauses e l in
            let cs = map (moved_clause vs (named_one k a) n) p.clauses in clause_within k n a e (each_e Apart cs d _ i) (each_e (ClauseHolds b m) cs c _ i));
      }

  part_e : (k n : ℕ) (a : Asked) → Part b vs m k n a
      → EdgesAt b m n (map (moved_edge vs (named_one k a)) (pattern_of a.text).edges)
      × Each (ClauseHolds b m) (map (moved_clause vs (named_one k a) n) (pattern_of a.text).clauses)
  unfolding edge_at moved_edge moved
  part_e k n a h =
      let p = pattern_of a.text in (
        λ i l. let t : i < length p.edges = subst (λ z. i < z) (length_map (moved_edge vs (named_one k a)) p.edges) l in
            subst (Holds b m (n + i)) (sym (get_or_map (moved_edge vs (named_one k a)) p.edges i none none t))
            (each_e (NumberedEdgeHolds b p (within vs m k n a)) (below (length p.edges)) h.edges i (below_i _ i t)),
        each_i (ClauseHolds b m) (map (moved_clause vs (named_one k a) n) p.clauses)
            (λ d l. let r = map_e (moved_clause vs (named_one k a) n) p.clauses d l in
            subst (ClauseHolds b m) (sym r.2) (clause_woven k n a r.0
            (each_e (ClauseHolds b (within vs m k n a)) p.clauses h.clauses r.0 r.1))),
      )

  -- from the woven pattern to the texts
  pub parts_i : (k n : ℕ) (asked : List Asked) → ((w : WovenVertex) → w ∈ vertices_of k asked → w ∈ vs) → ((i : ℕ) → i < length vs → IsNode b (m.node i))
      → EdgesAt b m n (woven_edges vs k asked) → Each Apart (moved_clauses vs n (named k asked)) → Each (ClauseHolds b m) (moved_clauses vs n (named k asked))
      → Counted (λ a. a) (Part b vs m) k n asked
  unfolding named joined moved_clauses pattern_of
  parts_i k n [] f g h d c = tt
  parts_i k n (a ∷ others) f g h d c =
      let p = pattern_of a.text in
      let ws = map (weave_vertex k a.actors) (vertex_names a.text) in
      let xs = map (moved_edge vs (named_one k a)) p.edges in
      let ys = woven_edges vs (k + 1) others in
      let cs = map (moved_clause vs (named_one k a) n) p.clauses in
      let ds = moved_clauses vs (n + length p.edges) (named (k + 1) others) in (
        part_i k n a (λ w l. f w (Memᴰ.append_left (vertices_of (k + 1) others) l)) g (edges_left b m n xs ys h) (each_left Apart cs ds d)
            (each_left (ClauseHolds b m) cs ds c),
        parts_i (k + 1) (n + edges_in a) others (λ w l. f w (Memᴰ.append_right ws l)) g
            (subst (λ z. EdgesAt b m (n + z) ys) (length_map (moved_edge vs (named_one k a)) p.edges) (edges_right b m n xs ys h))
            (each_right Apart cs ds d) (each_right (ClauseHolds b m) cs ds c),
      )

  -- and back
  pub parts_e : (k n : ℕ) (asked : List Asked) → Counted (λ a. a) (Part b vs m) k n asked
      → EdgesAt b m n (woven_edges vs k asked) × Each (ClauseHolds b m) (moved_clauses vs n (named k asked))
  unfolding named joined moved_clauses pattern_of
  parts_e k n [] h = (λ i l. absurd (omega arith), tt)
  parts_e k n (a ∷ others) h =
      let p = pattern_of a.text in
      let xs = map (moved_edge vs (named_one k a)) p.edges in
      let ys = woven_edges vs (k + 1) others in
      let cs = map (moved_clause vs (named_one k a) n) p.clauses in
      let ds = moved_clauses vs (n + length p.edges) (named (k + 1) others) in
      let r = part_e k n a h.0 in
      let s = parts_e (k + 1) (n + edges_in a) others h.1 in (
        edges_both b m n xs ys r.0 (subst (λ z. EdgesAt b m (n + z) ys) (sym (length_map (moved_edge vs (named_one k a)) p.edges)) s.0),
        each_both (ClauseHolds b m) cs ds r.1 s.1,
      )

-- what holds of what every text's vertices become holds of every woven vertex
pub vertices_e : {A : Type 0} (of : A → Asked) (C : WovenVertex → Type 0) (k n : ℕ) (l : List A)
    → Counted of (λ j i x. (v : Bytes) → v ∈ vertex_names (of x).text → C (weave_vertex j (of x).actors v)) k n l
    → (w : WovenVertex) → w ∈ vertices_of k (map of l) → C w
unfolding named joined pattern_of
vertices_e of C k n [] h w i = elim i [ ]
vertices_e of C k n (x ∷ l) h w i =
    let f = weave_vertex k (of x).actors in
    ⊎_elim (λ j. let r = map_e f (vertex_names (of x).text) w j in subst C (sym r.2) (h.0 r.0 r.1))
    (λ j. vertices_e of C (k + 1) (n + edges_in (of x)) l h.1 w j) (append_cases (map f (vertex_names (of x).text)) i)

-- what every text's vertices become is a woven vertex
pub vertices_i : {A : Type 0} (of : A → Asked) (vs : List WovenVertex) (k n : ℕ) (l : List A) → ((w : WovenVertex) → w ∈ vertices_of k (map of l) → w ∈ vs)
    → Counted of (λ j i x. (v : Bytes) → v ∈ vertex_names (of x).text → weave_vertex j (of x).actors v ∈ vs) k n l
unfolding named joined pattern_of
vertices_i of vs k n [] f = tt
vertices_i of vs k n (x ∷ l) f =
    let g = weave_vertex k (of x).actors in (
      λ v i. f (g v) (Memᴰ.append_left (vertices_of (k + 1) (map of l)) (map_i g (vertex_names (of x).text) v i)),
      vertices_i of vs (k + 1) (n + edges_in (of x)) l (λ w i. f w (Memᴰ.append_right (map g (vertex_names (of x).text)) i)),
    )

-- the nodes of the woven Return vertices are those of the first text's Return names
pub woven_returns : (vs : List WovenVertex) (m : NumberedMapping) (f : Bytes → ℕ) (a : Asked) (others : List Asked) → Named a.text
    → ((v : Bytes) → v ∈ vertex_names a.text → m.node (place_vertex (weave_vertex 0 a.actors v) vs) ≡ f v)
    → map m.node (returns_of vs (named 0 (a ∷ others))) ≡ map f a.text.returns
unfolding returns_of named pattern_of moved
woven_returns vs m f a others d h = go a.text.returns d.returns
  where
    g : ℕ → ℕ
    g i = place_vertex (get_or (map (weave_vertex 0 a.actors) (vertex_names a.text)) i no_vertex) vs

    go : (rs : List Bytes) → ((v : Bytes) → v ∈ rs → v ∈ vertex_names a.text)
        → map m.node (map g (map (λ v. place v (vertex_names a.text)) rs)) ≡ map f rs
    go [] p = refl
    go (r ∷ rs) p =
        let n = p r (Memᴰ.head refl) in
        let e : m.node (g (place r (vertex_names a.text))) ≡ f r = ap (λ z. m.node (place_vertex z vs))
        (place_map (weave_vertex 0 a.actors) no_vertex (vertex_names a.text) r n) ∙ h r n in
        let ih = go rs (λ v k. p v (Memᴰ.tail k)) in cc
