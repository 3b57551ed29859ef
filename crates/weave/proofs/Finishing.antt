-- Laws of finishing: identities change no other table, and the answer is the model's 13. Assumes nothing.
use Prim.Native.Nat.{ℕ, ◌+◌, ◌<◌}
use mathlib.Core.Path.{◌≡◌, refl, sym, ap, ap₂, subst, ◌∙◌}
use mathlib.Core.Logic.{inl}
use mathlib.Core.List.{List, []}
use mathlib.Core.Bool.{Bool, true, false, not}
use native.Mathlib.Omega.{arith}
use lib.ListN.{length, get_or}
use Rattle.model.specs.Bytes.{Bytes}
use Rattle.model.specs.Choice.{pick, Maybe, nothing, just}
use Rattle.model.specs.Lists.{any, all, keep, memℕ, below}
use Rattle.model.specs.Book.{Book}
use Rattle.model.specs.Refusal.{lowest}
use Rattle.model.specs.Pattern.{Edge}
use Rattle.model.specs.Request.{Identity}
use Rattle.model.specs.Weave.{no_vertex, identified_by, is_excluded, woven_too_many, with_identity, steps_along, tied, woven_fault}
use Rattle.model.proofs.Members.{below_e, each_e}
use Rattle.model.proofs.Places.{get_or_in}
use Rattle.bits.specs.Word.{bit}
use Rattle.book_tables.proofs.ListedLaws.{get_or_listed}
use Rattle.woven_tables.specs.declared.WovenCounts.{WovenCounts}
use Rattle.woven_tables.specs.Tables.{vertex_of_word, edge_at, vertices_at, edges_at, clauses_at, woven_at}
use Rattle.woven_tables.specs.Reading.{ClausesInside}
use Rattle.weave.specs.OneMore.{Ranged}
use Rattle.weave.specs.Adding.{Kept}
use Rattle.weave.specs.Identities.{identity_of, IdentitiesGiven, marked_below, from_of, to_of, EdgesLow, TiedBy, Finished}
use Rattle.weave.proofs.Limits.{exclusions, requirements, within_limits}
use Rattle.woven_tables.proofs.VertexLaws.{length_vertices, vertices_same}
use Rattle.woven_tables.proofs.EdgeLaws.{edges_same}
use Rattle.woven_tables.proofs.ClauseTable.{clauses_same, inside_same}
use Rattle.woven_tables.proofs.ReturnLaws.{returns_same}
use Rattle.weave.proofs.OneText.{length_edges, length_clauses, keep_both}
use Rattle.model.proofs.Places.{keep_same}
use Rattle.weave.proofs.TieLaws.{all_same, marked_mem}

vertex_at_law : (q r : Bytes) (words : List ℕ) (n v : ℕ) → v < n → get_or (vertices_at q r words n) v no_vertex ≡ vertex_of_word q r (get_or words v 0)
unfolding vertices_at
vertex_at_law q r words n v h = get_or_listed (λ i. vertex_of_word q r (get_or words i 0)) n v no_vertex h

-- a woven pattern whose counts are kept passes no limit
pub kept_within : (b : Book) (q r : Bytes) (words : List ℕ) (c : WovenCounts) → Kept q r words c → woven_too_many (woven_at b q r words c) ≡ false
unfolding woven_at
kept_within b q r words c kept =
    let cs = clauses_at b q r words (c.exclusions + c.requirements) in
    let few_vertices = kept.vertices in
    let few_edges = kept.edges in
    let few-exclusions = kept.exclusions in
    let few-requirements = kept.requirements in
    within_limits (woven_at b q r words c)
    (omega (arith, length_vertices q r words c.vertices)) (omega (arith, length_edges b q r words c.edges)) (omega (arith, kept.counted b))
    (omega (arith, kept.counted b, keep_both is_excluded cs, length_clauses b q r words (c.exclusions + c.requirements)))

-- edges between vertices that are there, by the pattern in the words
pub edges_low : (b : Book) (q r : Bytes) (words : List ℕ) (c : WovenCounts) → Ranged (woven_at b q r words c) → EdgesLow words c.edges c.vertices
unfolding woven_at edges_at edge_at
edges_low b q r words c ranged i h =
    let none : Edge = record { name = []; label = []; from = 0; to = 0 } in
    let es = edges_at b q r words c.edges in
    let here = each_e _ es ranged.edges (get_or es i none) (get_or_in es i none (omega (arith, length_edges b q r words c.edges))) in
    let e = get_or_listed (λ i. edge_at b q r (get_or words (24 + i) 0) (get_or words (72 + i) 0)) c.edges i none h in
    let n = length_vertices q r words c.vertices in
    (omega (arith, here.0, ap (λ (x : Edge). x.from) e), omega (arith, here.1, ap (λ (x : Edge). x.to) e))

module _ (q r : Bytes) (ids : List Identity) (old new : List ℕ) (c : WovenCounts) (mask : ℕ) (kept : Kept q r old c)
    (given : IdentitiesGiven q r ids old new c.vertices mask) where
  pub pattern_stays : (b : Book) → woven_at b q r new c ≡ woven_at b q r old c
  unfolding woven_at
  pattern_stays b =
      let few_vertices = kept.vertices in
      let few-exclusions = kept.exclusions in
      let few-requirements = kept.requirements in
      let few_returns = kept.returns in
      let few_edges = kept.edges in
      let vertices = vertices_same q r old new c.vertices (λ i h. given.kept i (inl (omega arith))) in
      let edges = edges_same b q r old new c.edges kept.edges (λ i l u. given.kept i (inl (omega arith))) (λ i l u. given.kept i (inl (omega arith))) in
      let clauses = clauses_same b q r old new (c.exclusions + c.requirements) (λ i l u. given.kept i (inl (omega arith))) in
      let returns = returns_same old new c.returns (λ i l u. given.kept i (inl (omega arith))) in
      λ i. record { vertices = vertices i; edges = edges i; clauses = clauses i; returns = returns i }

  values_stay : ClausesInside q r new (c.exclusions + c.requirements)
  values_stay =
      let few-exclusions = kept.exclusions in
      let few-requirements = kept.requirements in
      inside_same q r old new (c.exclusions + c.requirements) (λ i l u. given.kept i (inl (omega arith))) kept.values

  vertex_is : (v : ℕ) → v < c.vertices → vertex_of_word q r (get_or old v 0) ≡ get_or (vertices_at q r new c.vertices) v no_vertex
  vertex_is v h = let few = kept.vertices in ap (vertex_of_word q r) (sym (given.kept v (inl (omega arith)))) ∙ sym (vertex_at_law q r new c.vertices v h)

  woven_vertex_law : (b : Book) (v : ℕ) → v < c.vertices → vertex_of_word q r (get_or old v 0) ≡ get_or (woven_at b q r new c).vertices v no_vertex
  unfolding woven_at
  woven_vertex_law b v h = vertex_is v h

  -- the marks are at the vertices that have an identity
  marks_with : (b : Book) → with_identity (woven_at b q r new c) ids ≡ marked_below c.vertices mask
  unfolding with_identity woven_at marked_below
  marks_with b =
      ap (λ n. keep (λ v. any (identified_by (get_or (vertices_at q r new c.vertices) v no_vertex)) ids) (below n)) (length_vertices q r new c.vertices)
      ∙ keep_same _ (bit mask) (below c.vertices)
      (λ v i. let h = below_e c.vertices v i in ap (λ z. any (identified_by z) ids) (sym (vertex_is v h)) ∙ sym (given.marked v h))

  -- identities change no edge
  pub low_stays : EdgesLow old c.edges c.vertices → EdgesLow new c.edges c.vertices
  low_stays low i h = let few = kept.edges in
      subst (λ w. (from_of w < c.vertices) × (to_of w < c.vertices)) (sym (given.kept (24 + i) (inl (omega arith)))) (low i h)

  vertex_count : (b : Book) → length (woven_at b q r new c).vertices ≡ c.vertices
  unfolding woven_at
  vertex_count b = length_vertices q r new c.vertices

  module _ (out : ℕ) (ties : TiedBy new c.vertices c.edges mask out) where
    tied_are : (b : Book) → tied (woven_at b q r new c) ids ≡ marked_below c.vertices out
    unfolding tied
    tied_are b = ap₂ (λ n vs. steps_along n (woven_at b q r new c) vs) (vertex_count b) (marks_with b) ∙ sym (ties b q r c refl refl)

    all_tied : (b : Book) → all (λ v. memℕ v (tied (woven_at b q r new c) ids)) (below (length (woven_at b q r new c).vertices))
        ≡ all (bit out) (below c.vertices)
    all_tied b =
        ap (λ n. all (λ v. memℕ v (tied (woven_at b q r new c) ids)) (below n)) (vertex_count b)
        ∙ all_same (λ v. memℕ v (tied (woven_at b q r new c) ids)) (bit out) (below c.vertices)
        (λ v i. ap (memℕ v) (tied_are b) ∙ marked_mem c.vertices out v (below_e c.vertices v i))

    pub finished : (answer : Bool) → answer ≡ all (bit out) (below c.vertices) → Finished q r ids old new c answer
    unfolding woven_fault lowest
    finished answer e = record {
      same_pattern = pattern_stays;
      values = values_stay;
      given = λ b v h. given.given v h ∙ ap (identity_of ids) (woven_vertex_law b v h);
      fault = λ b. ap₂ (λ x y. pick {A = Maybe ℕ} x (just 12) (pick (not y) (just 13) nothing))
          (ap woven_too_many (pattern_stays b) ∙ kept_within b q r old c kept) (all_tied b ∙ sym e) ∙ by_answer answer;
    }
      where
        by_answer : (t : Bool) → pick {A = Maybe ℕ} false (just 12) (pick (not t) (just 13) nothing) ≡ pick t nothing (just 13)
        by_answer true = refl
        by_answer false = refl
