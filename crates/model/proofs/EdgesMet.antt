-- Nodes are those of a model exactly if every vertex has a node, every condition on vertices holds, and every edge is met.
-- An edge is met if some relationship of its label and its ends meets all requirements of that edge.
use Prim.Native.Nat.{ℕ}
use mathlib.Core.Path.{◌≡◌, refl, sym, ap, subst, ◌∙◌}
use mathlib.Core.Logic.{◌↔◌}
use mathlib.Core.List.{[], ◌∷◌, map}
use lib.ListN.{get_or}
use lib.Dec.{T}
use Rattle.model.specs.Bytes.{Bytes, bytes_of}
use Rattle.model.specs.Names.{place}
use Rattle.model.specs.Refusal.{accepted}
use Rattle.model.specs.Values.{Value}
use Rattle.model.specs.Book.{Book}
use Rattle.model.specs.QueryText.{Relation, Condition, differ, demand, QueryText}
use Rattle.model.specs.Query.{ChainEdge, vertex_names, edges_of, edge_names, conditions_of}
use Rattle.model.specs.ReadQuery.{read_query}
use Rattle.model.specs.Rules.{Policy, Rules}
use Rattle.model.specs.ReadRules.{read_rules}
use Rattle.model.specs.Graph.{IsNode, rel_of, rel_entries, value_in, meets}
use Rattle.model.specs.Models.{Mapping, EdgeHolds, Models, is_on, met_by, rel_for}
use Rattle.model.specs.Computing.{computing}
use Rattle.model.proofs.Decides.{same→eq, same_refl, models_decides}
use Rattle.model.proofs.Members.{◌∈◌}
use Rattle.model.proofs.Chains.{edge_named_law, edge_of_name}
use Rattle.model.proofs.ByNodes.{OnVertices, Suits, NodesFit, model_of_nodes, nodes_of_model}
use Rattle.model.proofs.AcceptedQuery.{ClearNames, query_clear}
use Rattle.model.proofs.AcceptedRules.{policy_clear}
use Rattle.model.proofs.NumberedMappings.{no_edge, edge_at_place}
use Rattle.model.proofs.ExactModels.{model_example}
use Rattle.model.proofs.Example.{query, the_book, the_query, the_mapping, query_read_law}

-- an edge is met: some relationship has its label, runs between the nodes of its ends and meets every requirement on it
pub record EdgeMet (b : Book) (q : QueryText) (node : Bytes → ℕ) (e : ChainEdge) : Type 0 where
  pub rel : ℕ
  pub holds : EdgeHolds b rel e.label (node e.from) (node e.to)
  pub meets_all : (a : Bytes) (r : Relation) (v : Value) → demand e.name a r v ∈ conditions_of q → T (meets (value_in (rel_entries b rel) a) r v)

-- every vertex has a node, every condition on vertices holds, every edge is met
pub record AllMet (b : Book) (q : QueryText) (node : Bytes → ℕ) : Type 0 where
  pub vertices : (v : Bytes) → v ∈ vertex_names q → IsNode b (node v)
  pub conditions : (c : Condition) → c ∈ conditions_of q → OnVertices b q node c
  pub edges : (e : ChainEdge) → e ∈ edges_of q → EdgeMet b q node e

-- a model of a text with these nodes
pub record ModelWith (b : Book) (q : QueryText) (node : Bytes → ℕ) : Type 0 where
  pub model : Mapping
  pub models : Models b q model
  pub nodes : (v : Bytes) → v ∈ vertex_names q → model.node v ≡ node v

module _ (b : Book) (q : QueryText) (clear : ClearNames q) (node : Bytes → ℕ) where
  -- where no edge variable stands twice, edges of one name are one edge
  one_edge : (e d : ChainEdge) → e ∈ edges_of q → d ∈ edges_of q → d.name ≡ e.name → e ≡ d
  unfolding edge_names
  one_edge e d n k p =
      sym (edge_at_place (edges_of q) clear.once e n) ∙ ap (λ z. get_or (edges_of q) (place z (edge_names q)) no_edge) (sym p)
      ∙ edge_at_place (edges_of q) clear.once d k

  -- so a relationship that meets an edge suits its variable
  met_suits : (e : ChainEdge) → e ∈ edges_of q → (m : EdgeMet b q node e) → Suits b q node e.name m.rel
  unfolding is_on met_by rel_entries
  met_suits e n m = record {
    is_rel_law = m.holds.0;
    runs_there = λ d k p. (subst (λ (z : ChainEdge). EdgeHolds b m.rel z.label (node z.from) (node z.to)) (one_edge e d n k p) m.holds).1;
    meets_all = λ c k t. go c k t;
  }
    where
      go : (c : Condition) → c ∈ conditions_of q → T (is_on e.name c) → T (met_by (rel_of b m.rel) c)
      go (differ v u) k t = tt
      go (demand y a r v) k t = m.meets_all a r v (subst (λ z. demand z a r v ∈ conditions_of q) (same→eq y e.name t) k)

  -- and one that suits the variable meets its edge
  suits_met : (e : ChainEdge) → e ∈ edges_of q → (r : ℕ) → Suits b q node e.name r → EdgeMet b q node e
  unfolding is_on met_by rel_entries
  suits_met e n r s = record {
    rel = r;
    holds = (s.is_rel_law, s.runs_there e n refl);
    meets_all = λ a t v k. s.meets_all (demand e.name a t v) k
        (same_refl e.name);
  }

  all_met_fits : AllMet b q node → NodesFit b q node
  all_met_fits h = record {
    vertices = h.vertices;
    conditions = h.conditions;
    edges = λ x j. let r = edge_of_name q x j in let m = h.edges r.0 r.1 in
        (m.rel, subst (λ z. Suits b q node z m.rel) (sym r.2) (met_suits r.0 r.1 m));
  }

  -- nodes are those of a model exactly if all is met
  met_exactly : ModelWith b q node ↔ AllMet b q node
  met_exactly = (
    λ w. let f = nodes_of_model b q w.model w.models clear.declared node w.nodes in
        record {
          vertices = f.vertices;
          conditions = f.conditions;
          edges = λ e n. let r = f.edges e.name (edge_named_law q e n) in
              suits_met e n r.0 r.1;
        },
    λ h. record {
      model = record { node = node; rel = rel_for b q node };
      models = model_of_nodes b q node clear.declared
          (all_met_fits h);
      nodes = λ v n. refl;
    },
  )

-- the law, for accepted queries
pub model_with_nodes : (b : Book) (s : Bytes) (q : QueryText) → read_query b s ≡ accepted q → (node : Bytes → ℕ) → ModelWith b q node ↔ AllMet b q node
model_with_nodes b s q e node = met_exactly b q (query_clear b s q e) node

-- and for the policies of accepted rules
pub policy_model_with_nodes : (b : Book) (s : Bytes) (r : Rules) → read_rules b s ≡ accepted r → (p : Policy) → p ∈ r.policies → (node : Bytes → ℕ)
    → ModelWith b p.text node ↔ AllMet b p.text node
policy_model_with_nodes b s r e p k node = met_exactly b p.text (policy_clear b s r e p k) node

-- the model that it has gives each edge the first relationship that meets it: `rel_for`
pub first_is_model : (b : Book) (s : Bytes) (q : QueryText) → read_query b s ≡ accepted q → (node : Bytes → ℕ) → AllMet b q node
    → Models b q (record { node = node; rel = rel_for b q node })
first_is_model b s q e node h = let c = query_clear b s q e in model_of_nodes b q node c.declared (all_met_fits b q c node h)

-- Not vacuous: of the paper's query all is met where s is S5,
met_example : AllMet the_book the_query (the_mapping 2).node
met_example = (model_with_nodes the_book (bytes_of query) the_query query_read_law (the_mapping 2).node).0
    (record { model = the_mapping 2; models = (models_decides the_book the_query (the_mapping 2)).1 (subst T (sym model_example) tt); nodes = λ v n. refl })

-- and the relationships found first are those of the book that are numbered 0 and 1
first_example : map (rel_for the_book the_query (the_mapping 2).node) (bytes_of "a" ∷ bytes_of "b" ∷ []) ≡ 0 ∷ 1 ∷ []
unfolding computing
first_example = refl
