-- Laws of weaving one text: what its parts are asked for, and the woven pattern that they make together. Assumes nothing.
use Prim.Native.Nat.{ℕ, ◌+◌, ◌<◌, ◌≤◌}
use mathlib.Core.Path.{◌≡◌, refl, sym, ap, ◌∙◌}
use mathlib.Core.Logic.{inl, inr}
use mathlib.Core.List.{List, ◌++◌, map}
use native.Mathlib.Omega.{arith}
use lib.ListN.{length, get_or, take, drop}
use borrow.Author.Tests.{eq-eqb, ne_eqb}
use Rattle.model.specs.Bytes.{Bytes}
use Rattle.model.specs.Choice.{pick}
use Rattle.model.specs.Book.{Book}
use Rattle.model.specs.Answers.{edge_in}
use Rattle.model.specs.declared.Condition.{Condition}
use Rattle.model.specs.declared.Condition.TheVariants.{Excluded, OfVertex, OfEdge}
use Rattle.model.specs.declared.Pattern.{Pattern as PatternData}
use Rattle.woven_tables.specs.declared.WovenCounts.{WovenCounts}
use Rattle.woven_tables.specs.Tables.{text_of, edges_at, clauses_at, returns_at}
use Rattle.model.specs.PlainData.{no_edge, no_clause, ConditionFits, PartsWithin}
use Rattle.woven_tables.specs.Reading.{ClausesInside}
use Rattle.woven_tables.specs.Steps.{renumbered_edge, EdgesReady, EdgesAdded, ReturnsReady, ReturnsAdded}
use Rattle.woven_tables.specs.ClauseSteps.{renumbered_clause, named_clause, ConditionReady, ClausesReady, ClausesAdded}
use Rattle.weave.specs.Adding.{RestReady, RestAdded}
use Rattle.woven_tables.proofs.EdgeLaws.{edges_same}
use Rattle.woven_tables.proofs.ClauseTable.{clauses_same, inside_same}
use Rattle.woven_tables.proofs.ReturnLaws.{returns_same}

-- what a text's edges, clauses and Return vertices are asked for
module _ (k base : ℕ) (p : PatternData) (numbers : List ℕ) (c : WovenCounts) (ready : RestReady k base p numbers c) where
  pub edges_ready : EdgesReady base k p.edges p.counts.edges numbers c.edges
  edges_ready = record {
    few_texts = ready.few_texts;
    few = ready.fits.few_edges;
    room = ready.room_edges;
    fit = λ i h.
        let f = ready.fits.edges i h in
        let few = ready.fits.few_vertices in
        record {
          name = f.name;
          label = f.label;
          from = omega (arith, f.from);
          to = omega (arith, f.to);
          woven_from = ready.numbers_low (get_or p.edges i no_edge).from f.from;
          woven_to = ready.numbers_low (get_or p.edges i no_edge).to f.to;
        };
  }

  condition_ready : (x : Condition) → ConditionFits base p.counts.vertices p.counts.edges x → ConditionReady base numbers c.edges x
  condition_ready (Excluded u v) f =
      let few = ready.fits.few_vertices in
      (omega (arith, f.0), omega (arith, f.1), ready.numbers_low u f.0, ready.numbers_low v f.1)
  condition_ready (OfVertex v x) f = let few = ready.fits.few_vertices in (omega (arith, f.0), ready.numbers_low v f.0, f.1)
  condition_ready (OfEdge e x) f = (omega (arith, f.0, ready.room_edges), f.1)

  pub clauses_ready : ClausesReady base k p.clauses p.counts.clauses numbers c.edges (c.exclusions + c.requirements)
  clauses_ready = record {
    few_texts = ready.few_texts;
    few = ready.fits.few_clauses;
    room = ready.room_clauses;
    fit = λ i h. condition_ready (get_or p.clauses i no_clause).condition (ready.fits.clauses i h);
  }

  pub returns_ready : ReturnsReady p.returns p.counts.returns numbers
  returns_ready = record {
    few = ready.fits.few_returns;
    fit = λ i h. let f = ready.fits.returns i h in let few = ready.fits.few_vertices in (omega arith, ready.numbers_low (get_or p.returns i 0) f);
  }

  -- what stands then
  module _ (old one two : List ℕ) (edges : EdgesAdded base k p.edges p.counts.edges numbers old one c.edges)
      (clauses : ClausesAdded base k p.clauses p.counts.clauses numbers c.edges one two (c.exclusions + c.requirements)) where
    edges_then : (new : List ℕ) → ((i : ℕ) → i < 120 → get_or new i 0 ≡ get_or two i 0) → (b : Book) (query rules : Bytes)
        → edges_at b query rules new (c.edges + p.counts.edges)
        ≡ edges_at b query rules old c.edges ++ map (renumbered_edge numbers)
        (map (edge_in b (drop base (text_of query rules k))) (take p.counts.edges p.edges))
    edges_then new kept b q r =
        let room = ready.room_edges in
        edges_same b q r one new (c.edges + p.counts.edges) room (λ i l u. kept i (omega arith) ∙ clauses.kept i (inl (omega arith)))
        (λ i l u. kept i (omega arith) ∙ clauses.kept i (inl (omega arith)))
        ∙ edges.edges_are b q r

    clauses_then : (new : List ℕ) → ((i : ℕ) → i < 408 → get_or new i 0 ≡ get_or two i 0) → (b : Book) (query rules : Bytes)
        → clauses_at b query rules new (c.exclusions + c.requirements + p.counts.clauses)
        ≡ clauses_at b query rules old (c.exclusions + c.requirements)
        ++ map (renumbered_clause numbers c.edges) (map (named_clause b (drop base (text_of query rules k))) (take p.counts.clauses p.clauses))
    clauses_then new kept b q r =
        let room = ready.room_clauses in
        let own = map (renumbered_clause numbers c.edges) (map (named_clause b (drop base (text_of q r k))) (take p.counts.clauses p.clauses)) in
        clauses_same b q r two new (c.exclusions + c.requirements + p.counts.clauses) (λ i l u. kept i (omega arith))
        ∙ clauses.clauses_are b q r
        ∙ ap (λ z. z ++ own) (clauses_same b q r old one (c.exclusions + c.requirements) (λ i l u. edges.kept i (inr (omega arith))))

    inside_then : (new : List ℕ) → ((i : ℕ) → i < 408 → get_or new i 0 ≡ get_or two i 0) → (query rules : Bytes) (size : ℕ)
        → base + size ≤ length (text_of query rules k) → PartsWithin size p
        → ClausesInside query rules old (c.exclusions + c.requirements) → ClausesInside query rules new (c.exclusions + c.requirements + p.counts.clauses)
    inside_then new kept q r n h w before =
        let room = ready.room_clauses in
        inside_same q r two new (c.exclusions + c.requirements + p.counts.clauses) (λ i l u. kept i (omega arith))
        (clauses.inside q r n h w.clauses (inside_same q r old one (c.exclusions + c.requirements) (λ i l u. edges.kept i (inr (omega arith))) before))

    pub rest_of_query : (new : List ℕ) → ReturnsAdded p.returns p.counts.returns numbers two new → k ≡ 0
        → RestAdded k base p numbers old new c p.counts.returns
    rest_of_query new returns e = record {
      edges_are = edges_then new (λ i h. returns.kept i (inl (omega arith)));
      clauses_are = clauses_then new (λ i h. returns.kept i (inl (omega arith)));
      inside = inside_then new (λ i h. returns.kept i (inl (omega arith)));
      few_returns = ready.fits.few_returns;
      returns_are = returns.returns_are ∙ ap (λ t. pick t (map (λ v. get_or numbers v 0) (take p.counts.returns p.returns))
          (returns_at old c.returns)) (sym (eq-eqb k 0 e));
      vertices_kept = λ i h. returns.kept i (inl (omega arith)) ∙ clauses.kept i (inl (omega arith)) ∙ edges.kept i (inl h);
    }

    pub rest_of_policy : (k ≡ 0 → ⊥) → RestAdded k base p numbers old two c c.returns
    rest_of_policy e =
        let few = ready.few_returns in
        record {
          edges_are = edges_then two (λ i h. refl);
          clauses_are = clauses_then two (λ i h. refl);
          inside = inside_then two (λ i h. refl);
          few_returns = few;
          returns_are = returns_same old two c.returns (λ i l u. clauses.kept i (inr (omega arith)) ∙ edges.kept i (inr (omega arith)))
              ∙ ap (λ t. pick t (map (λ v. get_or numbers v 0) (take p.counts.returns p.returns)) (returns_at old c.returns)) (sym (ne_eqb k 0 e));
          vertices_kept = λ i h. clauses.kept i (inl (omega arith)) ∙ edges.kept i (inl h);
        }
