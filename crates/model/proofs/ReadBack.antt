-- The syntax tree that a written query is read back as: its vertices, edges and conditions, and its pattern.
use mathlib.Core.Path.{◌≡◌, refl, sym, ap, ◌∙◌}
use mathlib.Core.Logic.{⊎_elim}
use mathlib.Core.List.Memᴰ
use mathlib.Core.List.Memᴰ.{cases_cons}
use mathlib.Core.List.{List, [], ◌∷◌, ◌++◌, map, append_assoc, append-nil}
use mathlib.Core.Bool.{true}
use lib.Dec.{T}
use Rattle.model.specs.Bytes.{Bytes}
use Rattle.model.specs.Lists.{joined, firsts_by}
use Rattle.model.specs.Names.{place, firsts}
use Rattle.model.specs.QueryText.{Chain, end, right, Condition, Match, QueryText}
use Rattle.model.specs.Grammar.{asks, returns, Tail, tail_of}
use Rattle.model.specs.Query.{hd, ChainEdge, chain_vertices, chain_edges, vertex_names, edges_of, edge_names, conditions_of}
use Rattle.model.specs.ReadQuery.{Scoped, scoped}
use Rattle.model.specs.Pattern.{clause_of, edge_of, pattern_of}
use Rattle.model.proofs.Members.{◌∈◌, joined_e}
use Rattle.model.proofs.Places.{map_append, joined_append}
use Rattle.model.proofs.FirstNames.{firsts_append, firsts_known, firsts_again}
use Rattle.model.proofs.Chains.{edge_ends}
use Rattle.model.proofs.Scopes.{vertices_in}
use Rattle.model.proofs.WrittenText.{WrittenMatch, vertex_match, edge_match}
use Rattle.model.proofs.WrittenPieces.{written_pieces}

-- a piece of each kind put before what follows it
abbrev start_tail : Bytes → Tail → Tail
start_tail v t = record {
  chain = end;
  conditions = [];
  later =
      record { matches = record { chain = t.chain v; conditions = t.conditions } ∷ t.later.matches; returns = t.later.returns };
}

abbrev goes_tail : Bytes → Bytes → Bytes → Tail → Tail
goes_tail e l u t = record { chain = λ v. right v e l (t.chain u); conditions = t.conditions; later = t.later }

abbrev asks_tail : Condition → Tail → Tail
asks_tail c t = record { chain = end; conditions = c ∷ t.conditions; later = t.later }

abbrev returns_tail : Bytes → Tail → Tail
returns_tail v t = record { chain = end; conditions = []; later = record { matches = []; returns = v ∷ t.later.returns } }

-- what follows in a written text
abbrev written_tail : List Condition → List Match → List Bytes → Tail
written_tail cs ms vs = record { chain = end; conditions = cs; later = record { matches = ms; returns = vs } }

tail_returns : (vs : List Bytes) → tail_of (map returns vs) ≡ written_tail [] [] vs
unfolding tail_of
tail_returns [] = refl
tail_returns (v ∷ vs) = ap (returns_tail v) (tail_returns vs)

tail_asks : (cs : List Condition) (vs : List Bytes) → tail_of (map asks cs ++ map returns vs) ≡ written_tail cs [] vs
unfolding tail_of
tail_asks [] vs = tail_returns vs
tail_asks (c ∷ cs) vs = ap (asks_tail c) (tail_asks cs vs)

-- the chain of a written Match
abbrev pub chain_of : WrittenMatch → Chain
chain_of (vertex_match v) = end v
chain_of (edge_match u e l v) = right u e l (end v)

-- the conditions stand behind the last Match
abbrev pub behind : List WrittenMatch → List Condition → List Condition
behind [] cs = cs
behind (p ∷ ps) cs = []

-- the Matches of a written text
abbrev pub matches_of : List WrittenMatch → List Condition → List Match
matches_of [] cs = []
matches_of (p ∷ ps) cs = record { chain = chain_of p; conditions = behind ps cs } ∷ matches_of ps cs

-- the syntax tree of a written text
abbrev pub written_tree : List WrittenMatch → List Condition → List Bytes → QueryText
written_tree ps cs vs = record { matches = matches_of ps cs; returns = vs }

tail_matches : (ps : List WrittenMatch) (cs : List Condition) (vs : List Bytes)
    → tail_of (written_pieces ps cs vs) ≡ written_tail (behind ps cs) (matches_of ps cs) vs
unfolding tail_of joined
tail_matches [] cs vs = tail_asks cs vs
tail_matches (vertex_match v ∷ ps) cs vs = ap (start_tail v) (tail_matches ps cs vs)
tail_matches (edge_match u e l v ∷ ps) cs vs = ap (λ t. start_tail u (goes_tail e l v t)) (tail_matches ps cs vs)

-- its pieces make this tree
pub tail_of_written : (ps : List WrittenMatch) (cs : List Condition) (vs : List Bytes) → (tail_of (written_pieces ps cs vs)).later ≡ written_tree ps cs vs
tail_of_written ps cs vs = ap (λ (t : Tail). t.later) (tail_matches ps cs vs)

-- the vertices of a written Match
abbrev pub match_vertices : WrittenMatch → List Bytes
match_vertices (vertex_match v) = v ∷ []
match_vertices (edge_match u e l v) = u ∷ v ∷ []

-- the edges of a written Match
abbrev pub match_edges : WrittenMatch → List ChainEdge
match_edges (vertex_match v) = []
match_edges (edge_match u e l v) = record { name = e; label = l; from = u; to = v } ∷ []

match_vertices_law : (p : WrittenMatch) → chain_vertices (chain_of p) ≡ match_vertices p
unfolding chain_vertices
match_vertices_law (vertex_match v) = refl
match_vertices_law (edge_match u e l v) = refl

match_edges_law : (p : WrittenMatch) → chain_edges (chain_of p) ≡ match_edges p
unfolding chain_edges hd
match_edges_law (vertex_match v) = refl
match_edges_law (edge_match u e l v) = refl

written_vertices : (ps : List WrittenMatch) (cs : List Condition) → joined vertices_in (matches_of ps cs) ≡ joined match_vertices ps
unfolding joined
written_vertices [] cs = refl
written_vertices (p ∷ ps) cs = let a = match_vertices_law p in let b = written_vertices ps cs in cc

-- the edges of a Match
abbrev edges_in : Match → List ChainEdge
edges_in m = chain_edges m.chain

written_edges : (ps : List WrittenMatch) (cs : List Condition) → joined edges_in (matches_of ps cs) ≡ joined match_edges ps
unfolding joined
written_edges [] cs = refl
written_edges (p ∷ ps) cs = let a = match_edges_law p in let b = written_edges ps cs in cc

-- the conditions of a Match
abbrev pub conditions_in : Match → List Condition
conditions_in m = m.conditions

written_conditions_of : (p : WrittenMatch) (ps : List WrittenMatch) (cs : List Condition) → joined conditions_in (matches_of (p ∷ ps) cs) ≡ cs
unfolding joined
written_conditions_of p [] cs = append-nil cs
written_conditions_of p (r ∷ ps) cs = written_conditions_of r ps cs

-- the name of an edge
abbrev pub name_in : ChainEdge → Bytes
name_in e = e.name

-- a condition in a scope
abbrev pub scoped_by : List Bytes → List Bytes → Condition → Scoped
scoped_by us fs c = record { condition = c; vertices = us; edges = fs }

-- in a written text every condition has all variables in its scope
pub written_scopes : (p : WrittenMatch) (ps : List WrittenMatch) (cs : List Condition) (us fs : List Bytes)
    → scoped us fs (matches_of (p ∷ ps) cs) ≡ map (scoped_by (us ++ joined match_vertices (p ∷ ps)) (fs ++ map name_in (joined match_edges (p ∷ ps)))) cs
unfolding scoped joined
written_scopes p [] cs us fs =
    append-nil _ ∙ (λ i. map (scoped_by (us ++ (match_vertices_law p ∙ sym (append-nil (match_vertices p))) i)
    (fs ++ map name_in ((match_edges_law p ∙ sym (append-nil (match_edges p))) i))) cs)
written_scopes p (r ∷ ps) cs us fs =
    written_scopes r ps cs (us ++ chain_vertices (chain_of p)) (fs ++ map name_in (chain_edges (chain_of p)))
    ∙ (λ i. map (scoped_by (v i) (w i)) cs)
  where
    Vs : List Bytes
    Vs = joined match_vertices (r ∷ ps)

    Es : List ChainEdge
    Es = joined match_edges (r ∷ ps)

    v : us ++ chain_vertices (chain_of p) ++ Vs ≡ us ++ (match_vertices p ++ Vs)
    v = append_assoc us (chain_vertices (chain_of p)) Vs ∙ ap (λ z. us ++ (z ++ Vs)) (match_vertices_law p)

    w : fs ++ map name_in (chain_edges (chain_of p)) ++ map name_in Es ≡ fs ++ map name_in (match_edges p ++ Es)
    w = append_assoc fs (map name_in (chain_edges (chain_of p))) (map name_in Es)
        ∙ ap (λ z. fs ++ z) (sym (map_append name_in (chain_edges (chain_of p)) Es) ∙ ap (λ z. map name_in (z ++ Es)) (match_edges_law p))

-- the Matches of the written text of q
abbrev pub match_of_edge : ChainEdge → WrittenMatch
match_of_edge e = edge_match e.from e.name e.label e.to

-- one Match for each vertex, then one for each edge
abbrev pub matches_for : QueryText → List WrittenMatch
matches_for q = map vertex_match (vertex_names q) ++ map match_of_edge (edges_of q)

-- the two ends of an edge
abbrev pub ends : ChainEdge → List Bytes
ends e = e.from ∷ e.to ∷ []

vertex_matches_vertices : (vs : List Bytes) → joined match_vertices (map vertex_match vs) ≡ vs
unfolding joined
vertex_matches_vertices [] = refl
vertex_matches_vertices (v ∷ vs) = ap (λ z. v ∷ z) (vertex_matches_vertices vs)

vertex_matches_edges : (vs : List Bytes) → joined match_edges (map vertex_match vs) ≡ []
unfolding joined
vertex_matches_edges [] = refl
vertex_matches_edges (v ∷ vs) = vertex_matches_edges vs

edge_matches_vertices : (es : List ChainEdge) → joined match_vertices (map match_of_edge es) ≡ joined ends es
unfolding joined
edge_matches_vertices [] = refl
edge_matches_vertices (e ∷ es) = ap (λ z. e.from ∷ e.to ∷ z) (edge_matches_vertices es)

edge_matches_edges : (es : List ChainEdge) → joined match_edges (map match_of_edge es) ≡ es
unfolding joined
edge_matches_edges [] = refl
edge_matches_edges (e ∷ es) = ap (λ z. e ∷ z) (edge_matches_edges es)

-- their vertices
pub matches_vertices : (vs : List Bytes) (es : List ChainEdge) → joined match_vertices (map vertex_match vs ++ map match_of_edge es) ≡ vs ++ joined ends es
matches_vertices vs es = joined_append match_vertices (map vertex_match vs) (map match_of_edge es)
    ∙ (λ i. vertex_matches_vertices vs i ++ edge_matches_vertices es i)

-- their edges
pub matches_edges : (vs : List Bytes) (es : List ChainEdge) → joined match_edges (map vertex_match vs ++ map match_of_edge es) ≡ es
matches_edges vs es = joined_append match_edges (map vertex_match vs) (map match_of_edge es) ∙ (λ i. vertex_matches_edges vs i ++ edge_matches_edges es i)

-- a list that is not empty
abbrev pub NonEmpty : {A : Type 0} → List A → Type 0
NonEmpty [] = ⊥
NonEmpty (x ∷ xs) = T true

-- there is one, if there is a vertex
pub some_match_for : (vs : List Bytes) (es : List ChainEdge) → NonEmpty vs → NonEmpty (map vertex_match vs ++ map match_of_edge es)
some_match_for [] es h = absurd h
some_match_for (v ∷ vs) es h = tt

-- the query text that is read back
abbrev pub read_back : QueryText → QueryText
read_back q = written_tree (matches_for q) (conditions_of q) q.returns

-- the ends of its edges are vertices of a text
ends_known : (q : QueryText) (x : Bytes) → x ∈ joined ends (edges_of q) → x ∈ vertex_names q
ends_known q x m =
    let r = joined_e ends (edges_of q) x m in
    let k = edge_ends q r.0 r.1 in
    ⊎_elim (λ e. Memᴰ.cast e k.0) (λ n. ⊎_elim (λ e. Memᴰ.cast e k.1) (λ z. elim z [ ]) (cases_cons n)) (cases_cons r.2)

-- the vertices of a text are their own first appearances
vertices_are_first : (q : QueryText) → firsts [] (vertex_names q) ≡ vertex_names q
unfolding vertex_names firsts_by
vertices_are_first q = firsts_again [] (joined vertices_in q.matches) refl

written_names : (ps : List WrittenMatch) (cs : List Condition) (vs : List Bytes) → vertex_names (written_tree ps cs vs) ≡ firsts [] (joined match_vertices ps)
unfolding vertex_names
written_names ps cs vs = ap (firsts []) (written_vertices ps cs)

-- it has the same vertices, in the same order
pub back_vertices : (q : QueryText) → vertex_names (read_back q) ≡ vertex_names q
back_vertices q =
    written_names (matches_for q) (conditions_of q) q.returns ∙ ap (firsts []) (matches_vertices (vertex_names q) (edges_of q))
    ∙ firsts_append [] (vertex_names q) (joined ends (edges_of q)) ∙ ap (λ z. firsts z (joined ends (edges_of q))) (vertices_are_first q)
    ∙ firsts_known (vertex_names q) (joined ends (edges_of q)) (ends_known q)

written_edges_of : (ps : List WrittenMatch) (cs : List Condition) (vs : List Bytes) → edges_of (written_tree ps cs vs) ≡ joined match_edges ps
unfolding edges_of
written_edges_of ps cs vs = written_edges ps cs

-- the same edges
pub back_edges : (q : QueryText) → edges_of (read_back q) ≡ edges_of q
back_edges q = written_edges_of (matches_for q) (conditions_of q) q.returns ∙ matches_edges (vertex_names q) (edges_of q)

-- the same edge variables
pub back_edge_names : (q : QueryText) → edge_names (read_back q) ≡ edge_names q
unfolding edge_names
back_edge_names q = ap (map name_in) (back_edges q)

tree_conditions : (ps : List WrittenMatch) (cs : List Condition) (vs : List Bytes) → NonEmpty ps → conditions_of (written_tree ps cs vs) ≡ cs
unfolding conditions_of
tree_conditions [] cs vs h = absurd h
tree_conditions (p ∷ ps) cs vs h = written_conditions_of p ps cs

-- and the same conditions
pub back_conditions : (q : QueryText) → NonEmpty (vertex_names q) → conditions_of (read_back q) ≡ conditions_of q
back_conditions q h = tree_conditions (matches_for q) (conditions_of q) q.returns (some_match_for (vertex_names q) (edges_of q) h)

-- the same pattern
pub back_pattern : (q : QueryText) → NonEmpty (vertex_names q) → pattern_of (read_back q) ≡ pattern_of q
unfolding pattern_of
back_pattern q h = λ i. record {
  vertices = back_vertices q i;
  edges = map (edge_of (back_vertices q i)) (back_edges q i);
  clauses = map (clause_of (back_vertices q i) (back_edge_names q i)) (back_conditions q h i);
  returns = map (λ v. place v (back_vertices q i)) q.returns;
}
