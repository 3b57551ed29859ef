-- The text that the query writer gives, in the names of the text that the pattern was read from.
use Prim.Native.Nat.{ℕ}
use mathlib.Core.Path.{◌≡◌, refl, sym, ap, ◌∙◌}
use mathlib.Core.Logic.{⊎_elim}
use mathlib.Core.List.{[], ◌++◌, map, map-map}
use lib.ListN.{get_or}
use Rattle.model.specs.Bytes.{Bytes, bytes_of}
use Rattle.model.specs.Choice.{pick}
use Rattle.model.specs.Lists.{is_nil}
use Rattle.model.specs.Names.{mem, place}
use Rattle.model.specs.QueryText.{Condition, differ, demand, QueryText}
use Rattle.model.specs.Query.{ChainEdge, vertex_names, edges_of, edge_names, conditions_of}
use Rattle.model.specs.Pattern.{Edge, Clause, clause_of, edge_of, pattern_of}
use Rattle.model.specs.Writing.{join_by, vertex_name, edge_name, demand_text, clause_text, edge_text, written_query}
use Rattle.model.proofs.Members.{◌∈◌, test, is_true, is_false, mem_i, mem_e}
use Rattle.model.proofs.Places.{at_place, map_append, map_to, map_back, is_nil_map}
use Rattle.model.proofs.Chains.{edge_ends, condition_of}
use Rattle.model.proofs.ByNodes.{NamedIn, Named}
use Rattle.model.proofs.WrittenConditions.{condition_text}
use Rattle.model.proofs.WrittenText.{vertex_match, match_text, written_text}
use Rattle.model.proofs.ReadBack.{match_of_edge, matches_for}

map_edges : (q : QueryText) (f : Edge → Bytes) → ((e : ChainEdge) → e ∈ edges_of q → f (edge_of (vertex_names q) e) ≡ match_text (match_of_edge e))
    → map f (pattern_of q).edges ≡ map match_text (map match_of_edge (edges_of q))
unfolding pattern_of
map_edges q f h = map_to f (edge_of (vertex_names q)) (λ e. match_text (match_of_edge e)) (edges_of q) h ∙ sym (map-map match_text match_of_edge (edges_of q))

returns_back : (q : QueryText) (f : ℕ → Bytes) → ((v : Bytes) → v ∈ q.returns → f (place v (vertex_names q)) ≡ v) → map f (pattern_of q).returns ≡ q.returns
unfolding pattern_of
returns_back q f h = map_back f (λ v. place v (vertex_names q)) q.returns h

clauses_back : (q : QueryText) (f : Clause → Bytes) → ((c : Condition) → c ∈ conditions_of q → f (clause_of (vertex_names q) (edge_names q) c) ≡ condition_text c)
    → map f (pattern_of q).clauses ≡ map condition_text (conditions_of q)
unfolding pattern_of
clauses_back q f h = map_to f (clause_of (vertex_names q) (edge_names q)) condition_text (conditions_of q) h

-- the written text of a pattern names what the query text named
module _ (q : QueryText) where
  vertex_back : (v : Bytes) → v ∈ vertex_names q → vertex_name (pattern_of q) (place v (vertex_names q)) ≡ v
  unfolding vertex_name pattern_of
  vertex_back v m = (at_place (vertex_names q) v m).1

  edge_names_law : map (λ (x : Edge). x.name) (pattern_of q).edges ≡ edge_names q
  unfolding pattern_of edge_names edge_of
  edge_names_law = map_to (λ (x : Edge). x.name) (edge_of (vertex_names q)) (λ (e : ChainEdge). e.name) (edges_of q) (λ x m. refl)

  edge_back : (e : Bytes) → e ∈ edge_names q → edge_name (pattern_of q) (place e (edge_names q)) ≡ e
  unfolding edge_name
  edge_back e m = ap (λ z. get_or z (place e (edge_names q)) []) edge_names_law ∙ (at_place (edge_names q) e m).1

  edge_text_law : (e : ChainEdge) → e ∈ edges_of q → edge_text (pattern_of q) (edge_of (vertex_names q) e) ≡ match_text (match_of_edge e)
  unfolding edge_text edge_of
  edge_text_law e m = let k = edge_ends q e m in let a = vertex_back e.from k.0 in let b = vertex_back e.to k.1 in λ i.
      bytes_of "Match (" ++ a i ++ bytes_of ")-[" ++ e.name ++ bytes_of ":" ++ e.label ++ bytes_of "]->(" ++ b i ++ bytes_of ")"

  clause_text_law : (c : Condition) → NamedIn q c → clause_text (pattern_of q) (clause_of (vertex_names q) (edge_names q) c) ≡ condition_text c
  unfolding clause_text clause_of
  clause_text_law (differ v u) n = let a = vertex_back v n.0 in let b = vertex_back u n.1 in λ i. a i ++ bytes_of " <> " ++ b i
  clause_text_law (demand x a r v) n = ⊎_elim
      (λ t. rw (is_true (mem x (vertex_names q)) t) (ap (λ z. demand_text z a r v) (vertex_back x (mem_e x (vertex_names q) t))))
      (λ t. rw (is_false (mem x (vertex_names q)) t)
      (ap (λ z. demand_text z a r v) (edge_back x (⊎_elim (λ m. m) (λ m. absurd (t (mem_i x (vertex_names q) m))) n))))
      (test (mem x (vertex_names q)))

  vertex_texts : map (λ v. bytes_of "Match (" ++ v ++ bytes_of ")") (pattern_of q).vertices ≡ map match_text (map vertex_match (vertex_names q))
  unfolding pattern_of
  vertex_texts = sym (map_to match_text vertex_match (λ v. bytes_of "Match (" ++ v ++ bytes_of ")") (vertex_names q) (λ x m. refl))

  edge_texts : map (edge_text (pattern_of q)) (pattern_of q).edges ≡ map match_text (map match_of_edge (edges_of q))
  edge_texts = map_edges q (edge_text (pattern_of q)) edge_text_law

  written_matches : map (λ v. bytes_of "Match (" ++ v ++ bytes_of ")") (pattern_of q).vertices ++ map (edge_text (pattern_of q)) (pattern_of q).edges
      ≡ map match_text (matches_for q)
  written_matches = (λ i. vertex_texts i ++ edge_texts i) ∙ sym (map_append match_text (map vertex_match (vertex_names q)) (map match_of_edge (edges_of q)))

  module _ (d : Named q) where
    condition_named : (c : Condition) → c ∈ conditions_of q → NamedIn q c
    condition_named c m = let r = condition_of q c m in d.conditions r.0 r.1 c r.2

    written_returns : map (vertex_name (pattern_of q)) (pattern_of q).returns ≡ q.returns
    written_returns = returns_back q (vertex_name (pattern_of q)) (λ v m. vertex_back v (d.returns v m))

    written_conditions : map (clause_text (pattern_of q)) (pattern_of q).clauses ≡ map condition_text (conditions_of q)
    written_conditions = clauses_back q (clause_text (pattern_of q)) (λ c m. clause_text_law c (condition_named c m))

    no_conditions : is_nil (pattern_of q).clauses ≡ is_nil (conditions_of q)
    unfolding pattern_of
    no_conditions = is_nil_map _ (conditions_of q)

    -- the written text of a pattern is the text of these Matches, conditions and returned names
    pub written_form : written_query (pattern_of q) ≡ written_text (matches_for q) (conditions_of q) q.returns
    unfolding written_query
    written_form = λ i.
        join_by (bytes_of " ") (written_matches i)
        ++ pick (no_conditions i) [] (bytes_of " Where " ++ join_by (bytes_of " AND ") (written_conditions i))
        ++ bytes_of " Return " ++ join_by (bytes_of ", ") (written_returns i)
