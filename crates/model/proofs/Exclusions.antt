-- No vertex of a woven pattern is excluded from itself, where the names of each text are clear.
use Prim.Native.Nat.{ℕ, ◌+◌}
use mathlib.Core.Path.{◌≡◌, refl, sym, ap, subst, ◌∙◌}
use mathlib.Core.Logic.{⊎_elim}
use mathlib.Core.List.Memᴰ
use mathlib.Core.List.{List, [], ◌∷◌, map}
use lib.ListN.{length}
use Rattle.model.specs.Bytes.{Bytes}
use Rattle.model.specs.Lists.{joined}
use Rattle.model.specs.Names.{mem}
use Rattle.model.specs.QueryText.{Condition, differ, demand}
use Rattle.model.specs.Query.{vertex_names, edge_names, conditions_of}
use Rattle.model.specs.Pattern.{clause_of, pattern_of}
use Rattle.model.specs.Graph.{Each}
use Rattle.model.specs.Weave.{Asked, WovenVertex, no_vertex, place_vertex, weave_vertex, named, moved, moved_clause, moved_clauses, weave}
use Rattle.model.proofs.Members.{◌∈◌, test, is_true, is_false, each_i, map_i, map_e, place_map}
use Rattle.model.proofs.Chains.{condition_of}
use Rattle.model.proofs.ByNodes.{NamedIn}
use Rattle.model.proofs.WovenNames.{never_joined_within}
use Rattle.model.proofs.WovenVertices.{vertex_by_place, first_vertices_i}
use Rattle.model.proofs.AcceptedQuery.{ClearNames}
use Rattle.model.proofs.WovenParts.{Apart, named_one, vertices_of, woven_vertices, each_both}

module _ (vs : List WovenVertex) where
  -- a condition of a text, its vertices standing among the woven vertices vs
  condition_apart : (k n : ℕ) (a : Asked) → ClearNames a.text → ((v : Bytes) → v ∈ vertex_names a.text → weave_vertex k a.actors v ∈ vs)
      → (c : Condition) → c ∈ conditions_of a.text → NamedIn a.text c
      → Apart (moved_clause vs (named_one k a) n (clause_of (vertex_names a.text) (edge_names a.text) c))
  unfolding clause_of moved_clause moved
  condition_apart k n a clear f (differ v u) i w = λ e.
      let name = weave_vertex k a.actors in
      let names = vertex_names a.text in
      let p : place_vertex (name v) vs ≡ place_vertex (name u) vs = ap (λ z. place_vertex z vs) (sym (place_map name no_vertex names v w.0)) ∙ e
      ∙ ap (λ z. place_vertex z vs) (place_map name no_vertex names u w.1) in
      clear.differing v u i (never_joined_within k a.actors v u (vertex_by_place vs (name v) (name u) (f v w.0) (f u w.1) p))
  condition_apart k n a clear f (demand x b r v) i w = ⊎_elim
      (λ t. rw (is_true (mem x (vertex_names a.text)) t) tt)
      (λ t. rw (is_false (mem x (vertex_names a.text)) t) tt)
      (test (mem x (vertex_names a.text)))

  -- the clauses of texts from the kth on, n edges standing before
  clauses_apart : (k n : ℕ) (asked : List Asked) → ((a : Asked) → a ∈ asked → ClearNames a.text) → ((w : WovenVertex) → w ∈ vertices_of k asked → w ∈ vs)
      → Each Apart (moved_clauses vs n (named k asked))
  unfolding named joined moved_clauses pattern_of
  clauses_apart k n [] clear f = tt
  clauses_apart k n (a ∷ others) clear f =
      let q = a.text in
      let name = weave_vertex k a.actors in
      let g = clear a (Memᴰ.head refl) in
      each_both Apart (map (moved_clause vs (named_one k a) n) (pattern_of q).clauses) (moved_clauses vs (n + length (pattern_of q).edges) (named (k + 1) others))
      (each_i Apart _ (λ d l.
      let r = map_e (moved_clause vs (named_one k a) n) (pattern_of q).clauses d l in
      let s = map_e (clause_of (vertex_names q) (edge_names q)) (conditions_of q) r.0 r.1 in
      let c = condition_of q s.0 s.1 in
      subst Apart (sym r.2) (subst (λ z. Apart (moved_clause vs (named_one k a) n z)) (sym s.2)
      (condition_apart k n a g (λ v m. f (name v) (Memᴰ.append_left (vertices_of (k + 1) others) (map_i name (vertex_names q) v m))) s.0 s.1
      (g.declared.conditions c.0 c.1 s.0 c.2)))))
      (clauses_apart (k + 1) (n + length (pattern_of q).edges) others (λ c m. clear c (Memᴰ.tail m))
      (λ w l. f w (Memᴰ.append_right (map name (vertex_names q)) l)))

-- the law
pub woven_apart : (asked : List Asked) → ((a : Asked) → a ∈ asked → ClearNames a.text) → Each Apart (weave asked).clauses
unfolding weave
woven_apart asked clear = clauses_apart (woven_vertices asked) 0 0 asked clear (λ w l. first_vertices_i [] (vertices_of 0 asked) w l)
