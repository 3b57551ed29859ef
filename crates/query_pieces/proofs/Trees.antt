-- What the syntax tree of ordered pieces names is what the pieces name, in the same order.
use mathlib.Core.Path.{◌≡◌, refl, sym, ap, ap₂, ◌∙◌}
use mathlib.Core.List.{List, [], ◌∷◌, ◌++◌, map, append_assoc, append-nil}
use Rattle.model.specs.Bytes.{Bytes}
use Rattle.model.specs.Lists.{joined}
use Rattle.model.specs.QueryText.{Chain, end, Condition, Match}
use Rattle.model.specs.Grammar.{Piece, start, goes, comes, asks, returns, Spot, at_start, in_chain, in_where, in_return, spot_after, tail_of}
use Rattle.model.specs.Query.{hd, chain_vertices, chain_edges, edges_of, conditions_of}
use Rattle.model.specs.ReadQuery.{Scoped, scoped}
use Rattle.query_pieces.specs.Walk.{may_stand, Ordered}
use Rattle.query_pieces.specs.Named.{vertex_in, edge_in, return_in, condition_in, vertices_in, edges_in, returns_in, conditions_in, links_from, scoped_from}

-- behind a condition no chain goes on
chain_ended : (ps : List Piece) → Ordered in_where ps → (tail_of ps).chain ≡ end
unfolding tail_of Ordered may_stand
chain_ended [] h = refl
chain_ended (start u ∷ ps) h = refl
chain_ended (goes e l u ∷ ps) h = absurd h.0
chain_ended (comes e l u ∷ ps) h = absurd h.0
chain_ended (asks c ∷ ps) h = refl
chain_ended (returns u ∷ ps) h = refl

-- behind a returned name only returned names follow
module _ {A : Type 0} (f : Piece → List A) (none : (v : Bytes) → f (returns v) ≡ []) where
  only_returns : (ps : List Piece) → Ordered in_return ps → joined f ps ≡ []
  unfolding Ordered may_stand spot_after joined
  only_returns [] h = refl
  only_returns (start u ∷ ps) h = absurd h.0
  only_returns (goes e l u ∷ ps) h = absurd h.0
  only_returns (comes e l u ∷ ps) h = absurd h.0
  only_returns (asks c ∷ ps) h = absurd h.0
  only_returns (returns u ∷ ps) h = rw (none u) (only_returns ps h.1)

returns_link : (v : Bytes) (ps : List Piece) → Ordered in_return ps → links_from v ps ≡ []
unfolding Ordered may_stand spot_after links_from
returns_link v [] h = refl
returns_link v (start u ∷ ps) h = absurd h.0
returns_link v (goes e l u ∷ ps) h = absurd h.0
returns_link v (comes e l u ∷ ps) h = absurd h.0
returns_link v (asks c ∷ ps) h = absurd h.0
returns_link v (returns u ∷ ps) h = returns_link v ps h.1

returns_scoped : (vs es : List Bytes) (ps : List Piece) → Ordered in_return ps → scoped_from vs es ps ≡ []
unfolding Ordered may_stand spot_after scoped_from
returns_scoped vs es [] h = refl
returns_scoped vs es (start u ∷ ps) h = absurd h.0
returns_scoped vs es (goes e l u ∷ ps) h = absurd h.0
returns_scoped vs es (comes e l u ∷ ps) h = absurd h.0
returns_scoped vs es (asks c ∷ ps) h = absurd h.0
returns_scoped vs es (returns u ∷ ps) h = returns_scoped vs es ps h.1

-- the vertices of a chain that goes on behind v, and of what follows
vertices_behind : (p : Spot) (ps : List Piece) → Ordered p ps → (v : Bytes)
    → chain_vertices ((tail_of ps).chain v) ++ joined (λ m. chain_vertices m.chain) (tail_of ps).later.matches ≡ v ∷ vertices_in ps
unfolding tail_of Ordered spot_after chain_vertices joined vertex_in
vertices_behind p [] h v = refl
vertices_behind p (start u ∷ ps) h v = ap (λ l. v ∷ l) (vertices_behind in_chain ps h.1 u)
vertices_behind p (goes e l u ∷ ps) h v = ap (λ l. v ∷ l) (vertices_behind in_chain ps h.1 u)
vertices_behind p (comes e l u ∷ ps) h v = ap (λ l. v ∷ l) (vertices_behind in_chain ps h.1 u)
vertices_behind p (asks c ∷ ps) h v = ap (λ (f : Bytes → Chain). chain_vertices (f v) ++ joined (λ m. chain_vertices m.chain) (tail_of ps).later.matches)
    (sym (chain_ended ps h.1)) ∙ vertices_behind in_where ps h.1 v
vertices_behind p (returns u ∷ ps) h v = ap (λ l. v ∷ l) (sym (only_returns vertex_in (λ w. refl) ps h.1))

first_vertex : (ps : List Piece) (v : Bytes) → hd ((tail_of ps).chain v) ≡ v
unfolding tail_of hd
first_vertex [] v = refl
first_vertex (start u ∷ ps) v = refl
first_vertex (goes e l u ∷ ps) v = refl
first_vertex (comes e l u ∷ ps) v = refl
first_vertex (asks c ∷ ps) v = refl
first_vertex (returns u ∷ ps) v = refl

links_behind : (p : Spot) (ps : List Piece) → Ordered p ps → (v : Bytes)
    → chain_edges ((tail_of ps).chain v) ++ joined (λ m. chain_edges m.chain) (tail_of ps).later.matches ≡ links_from v ps
unfolding tail_of Ordered spot_after chain_edges joined links_from
links_behind p [] h v = refl
links_behind p (start u ∷ ps) h v = links_behind in_chain ps h.1 u
links_behind p (goes e l u ∷ ps) h v = ap₂ (λ t r. record { name = e; label = l; from = v; to = t } ∷ r) (first_vertex ps u) (links_behind in_chain ps h.1 u)
links_behind p (comes e l u ∷ ps) h v = ap₂ (λ t r. record { name = e; label = l; from = t; to = v } ∷ r) (first_vertex ps u) (links_behind in_chain ps h.1 u)
links_behind p (asks c ∷ ps) h v = ap (λ (f : Bytes → Chain). chain_edges (f v) ++ joined (λ m. chain_edges m.chain) (tail_of ps).later.matches)
    (sym (chain_ended ps h.1)) ∙ links_behind in_where ps h.1 v
links_behind p (returns u ∷ ps) h v = sym (returns_link v ps h.1)

conditions_behind : (p : Spot) (ps : List Piece) → Ordered p ps
    → (tail_of ps).conditions ++ joined (λ m. m.conditions) (tail_of ps).later.matches ≡ conditions_in ps
unfolding tail_of Ordered spot_after joined condition_in
conditions_behind p [] h = refl
conditions_behind p (start u ∷ ps) h = conditions_behind in_chain ps h.1
conditions_behind p (goes e l u ∷ ps) h = conditions_behind in_chain ps h.1
conditions_behind p (comes e l u ∷ ps) h = conditions_behind in_chain ps h.1
conditions_behind p (asks c ∷ ps) h = ap (λ l. c ∷ l) (conditions_behind in_where ps h.1)
conditions_behind p (returns u ∷ ps) h = sym (only_returns condition_in (λ w. refl) ps h.1)

pub returns_same : (ps : List Piece) → (tail_of ps).later.returns ≡ returns_in ps
unfolding tail_of joined return_in
returns_same [] = refl
returns_same (start u ∷ ps) = returns_same ps
returns_same (goes e l u ∷ ps) = returns_same ps
returns_same (comes e l u ∷ ps) = returns_same ps
returns_same (asks c ∷ ps) = returns_same ps
returns_same (returns u ∷ ps) = ap (λ l. u ∷ l) (returns_same ps)

-- conditions with the variables us and fs, and those of what follows
abbrev scopes : List Bytes → List Bytes → List Condition → List Match → List Scoped
scopes us fs cs ms = map (λ c. record { condition = c; vertices = us; edges = fs }) cs ++ scoped us fs ms

abbrev names : Chain → List Bytes
names c = map (λ e. e.name) (chain_edges c)

scopes_behind : (p : Spot) (ps : List Piece) → Ordered p ps → (vs es : List Bytes) (v : Bytes)
    → scopes (vs ++ chain_vertices ((tail_of ps).chain v)) (es ++ names ((tail_of ps).chain v)) (tail_of ps).conditions (tail_of ps).later.matches
    ≡ scoped_from (vs ++ (v ∷ [])) es ps
unfolding tail_of Ordered spot_after scoped scoped_from chain_vertices chain_edges
scopes_behind p [] h vs es v = refl
scopes_behind p (start u ∷ ps) h vs es v = rw (append-nil es) (scopes_behind in_chain ps h.1 (vs ++ (v ∷ [])) es u)
scopes_behind p (goes e l u ∷ ps) h vs es v =
    ap₂ (λ us fs. scopes us fs (tail_of ps).conditions (tail_of ps).later.matches) (sym (append_assoc vs (v ∷ []) _)) (sym (append_assoc es (e ∷ []) _))
    ∙ scopes_behind in_chain ps h.1 (vs ++ (v ∷ [])) (es ++ (e ∷ [])) u
scopes_behind p (comes e l u ∷ ps) h vs es v =
    ap₂ (λ us fs. scopes us fs (tail_of ps).conditions (tail_of ps).later.matches) (sym (append_assoc vs (v ∷ []) _)) (sym (append_assoc es (e ∷ []) _))
    ∙ scopes_behind in_chain ps h.1 (vs ++ (v ∷ [])) (es ++ (e ∷ [])) u
scopes_behind p (asks c ∷ ps) h vs es v =
    ap₂ (λ fs l. record { condition = c; vertices = vs ++ (v ∷ []); edges = fs } ∷ l) (append-nil es)
    (ap (λ (f : Bytes → Chain). scopes (vs ++ chain_vertices (f v)) (es ++ names (f v)) (tail_of ps).conditions (tail_of ps).later.matches)
    (sym (chain_ended ps h.1))
    ∙ scopes_behind in_where ps h.1 vs es v)
scopes_behind p (returns u ∷ ps) h vs es v = sym (returns_scoped (vs ++ (v ∷ [])) es ps h.1)

-- a whole text: what its tree names, its pieces name
pub record SameNames (ps : List Piece) : Type 0 where
  pub vertices_same : joined (λ m. chain_vertices m.chain) (tail_of ps).later.matches ≡ vertices_in ps
  pub edges_same : edges_of (tail_of ps).later ≡ links_from [] ps
  pub conditions_same : conditions_of (tail_of ps).later ≡ conditions_in ps
  pub scopes_same : scoped [] [] (tail_of ps).later.matches ≡ scoped_from [] [] ps

pub tree_names : (ps : List Piece) → Ordered at_start ps → SameNames ps
unfolding tail_of Ordered may_stand spot_after joined vertex_in condition_in links_from scoped scoped_from edges_of conditions_of
tree_names [] h = record { vertices_same = refl; edges_same = refl; conditions_same = refl; scopes_same = refl }
tree_names (start u ∷ ps) h = record {
  vertices_same = vertices_behind in_chain ps h.1 u;
  edges_same = links_behind in_chain ps h.1 u;
  conditions_same = conditions_behind in_chain ps h.1;
  scopes_same = scopes_behind in_chain ps h.1 [] [] u;
}
tree_names (goes e l u ∷ ps) h = absurd h.0
tree_names (comes e l u ∷ ps) h = absurd h.0
tree_names (asks c ∷ ps) h = absurd h.0
tree_names (returns u ∷ ps) h = absurd h.0

-- the edges' names are the edge variables of the pieces, and their labels
pub link_names : (v : Bytes) (ps : List Piece) → map (λ e. e.name) (links_from v ps) ≡ edges_in ps
unfolding links_from joined edge_in
link_names v [] = refl
link_names v (start u ∷ ps) = link_names u ps
link_names v (goes e l u ∷ ps) = ap (λ r. e ∷ r) (link_names u ps)
link_names v (comes e l u ∷ ps) = ap (λ r. e ∷ r) (link_names u ps)
link_names v (asks c ∷ ps) = link_names v ps
link_names v (returns u ∷ ps) = link_names v ps
