-- A query or policy against a book: its faults, 4 to 8.
use Rattle.std.specs.Prelude.{ℕ, List, [], ◌∷◌, ◌++◌, map, Bool, true, false, not, ◌&&◌, ◌||◌, length, ltb}
use Rattle.model.specs.Bytes.{Bytes, same}
use Rattle.model.specs.Choice.{Maybe, nothing, just}
use Rattle.model.specs.Lists.{any, keep}
use Rattle.model.specs.Limits.{max_query_bytes, max_vertices, max_edges, max_exclusions, max_requirements, max_returns}
use Rattle.model.specs.Names.{Name, mem, twice}
use Rattle.model.specs.Values.{Value, Kind, ints, strs, bools, of_kind}
use Rattle.model.specs.Refusal.{Outcome, accepted, refusal, refused_if, Row, lowest, ◌if◌}
use Rattle.model.specs.Lines.{bytes_first}
use Rattle.model.specs.Book.{Book, Attr, attr_names}
use Rattle.model.specs.QueryText.{Relation, eq, ne, lt, le, gt, ge, Condition, differ, demand, Match, QueryText}
use Rattle.model.specs.Grammar.{query_text}
use Rattle.model.specs.Query.{chain_vertices, chain_edges, vertex_names, edges_of, edge_names, conditions_of}

-- a condition with the vertex and edge variables of its own and the earlier Matches
pub record Scoped : Type 0 where
  pub condition : Condition
  pub vertices : List Name
  pub edges : List Name

-- all conditions in order, behind Matches with the variables vs and es
unfoldable pub scoped : List Name → List Name → List Match → List Scoped
scoped vs es [] = []
scoped vs es (m ∷ ms) =
    let us = vs ++ chain_vertices m.chain in
    let fs = es ++ map (λ e. e.name) (chain_edges m.chain) in
    map (λ c. record { condition = c; vertices = us; edges = fs }) m.conditions ++ scoped us fs ms

-- a condition that names what is not declared
unfoldable pub unknown : Book → Condition → List Name → List Name → Bool
unknown b (differ v u) vs es = not (mem v vs && mem u vs)
unknown b (demand x a r v) vs es = not (mem x vs && mem a (attr_names b.vattrs) || mem x es && mem a (attr_names b.eattrs))

-- int and str have all six relations, bool has = and <>
unfoldable pub has_relation : Kind → Relation → Bool
has_relation ints r = true
has_relation strs r = true
has_relation bools r = elim r [ eq ↦ true | ne ↦ true | lt ↦ false | le ↦ false | gt ↦ false | ge ↦ false ]

-- an attribute is declared with a type that has this relation and this value
unfoldable pub typed : List Attr → Name → Relation → Value → Bool
typed ds a r v = any (λ d. same d.name a && has_relation d.kind r && of_kind d.kind v) ds

-- a requirement whose relation or value is not of the declared type
unfoldable pub mistyped : Book → Condition → List Name → List Name → Bool
mistyped b (differ v u) vs es = false
mistyped b (demand x a r v) vs es = not (mem x vs && typed b.vattrs a r v || mem x es && typed b.eattrs a r v)

-- an exclusion
unfoldable pub is_differ : Condition → Bool
is_differ (differ v u) = true
is_differ (demand x a r v) = false

-- a vertex excluded from itself
unfoldable pub from_itself : Condition → Bool
from_itself (differ v u) = same v u
from_itself (demand x a r v) = false

-- 4: a label, a variable or an attribute that is not declared
unfoldable pub has_undeclared : Book → QueryText → Bool
has_undeclared b q =
    any (λ e. not (mem e.label b.labels)) (edges_of q)
    || any (λ s. unknown b s.condition s.vertices s.edges) (scoped [] [] q.matches)
    || any (λ v. not (mem v (vertex_names q))) q.returns

-- 5: an edge variable in two places or also a vertex variable; a name returned twice
unfoldable pub has_twice : QueryText → Bool
has_twice q = twice (edge_names q) || any (λ e. mem e (vertex_names q)) (edge_names q) || twice q.returns

-- 6: some relation or value is not of the declared type
unfoldable pub has_mistyped : Book → QueryText → Bool
has_mistyped b q = any (λ s. mistyped b s.condition s.vertices s.edges) (scoped [] [] q.matches)

-- 7: more vertices, edges, exclusions, requirements or Return names than fit
unfoldable pub too_many : QueryText → Bool
too_many q =
    ltb max_vertices (length (vertex_names q)) || ltb max_edges (length (edges_of q))
    || ltb max_exclusions (length (keep is_differ (conditions_of q))) || ltb max_requirements (length (keep (λ c. not (is_differ c)) (conditions_of q)))
    || ltb max_returns (length q.returns)

-- 8: some vertex is excluded from itself
unfoldable pub has_from_itself : QueryText → Bool
has_from_itself q = any from_itself (conditions_of q)

-- the table of faults of a query
abbrev pub query_faults : Book → QueryText → List Row
query_faults b q =
    (4 if has_undeclared b q)
    ∷ (5 if has_twice q)
    ∷ (6 if has_mistyped b q)
    ∷ (7 if too_many q)
    ∷ (8 if has_from_itself q)
    ∷ []

-- the lowest of them
unfoldable pub query_fault : Book → QueryText → Maybe ℕ
query_fault b q = lowest (query_faults b q)

-- a broken grammar is 3
unfoldable pub text_or_fault : Book → Maybe QueryText → Outcome QueryText
text_or_fault b nothing = refusal 3 3 1
text_or_fault b (just q) = refused_if (query_fault b q) 3 1 (accepted q)

-- text 3; line 1 for every number but 1
unfoldable pub read_query : Book → Bytes → Outcome QueryText
read_query b s = let query = text_or_fault b (query_text s) in bytes_first 3 max_query_bytes (λ l. 1) s query
