-- What counts towards each limit is what the model counts.
use Prim.Native.Nat.{ℕ, ◌+◌}
use mathlib.Core.Path.{◌≡◌, refl, ap, ◌∙◌}
use mathlib.Core.List.{List, [], ◌∷◌, ◌++◌, append-nil, append_assoc}
use mathlib.Core.Bool.{Bool, true, false, not}
use native.Mathlib.Omega.{arith}
use lib.ListN.{length, length-append}
use Rattle.model.specs.Bytes.{Bytes}
use Rattle.model.specs.Choice.{pick}
use Rattle.model.specs.Lists.{keep, joined, add_new_by, firsts_by}
use Rattle.model.specs.Names.{mem, add_new, firsts}
use Rattle.model.specs.QueryText.{Condition}
use Rattle.model.specs.Grammar.{Piece, start, goes, comes, asks, returns, at_start, tail_of}
use Rattle.model.specs.ReadQuery.{is_differ, too_many}
use Rattle.query_pieces.specs.Walk.{Ordered}
use Rattle.query_pieces.specs.Named.{vertex_in, return_in, condition_in, vertices_in, returns_in, conditions_in, links_from}
use Rattle.query_pieces.proofs.Trees.{tree_names, returns_same}
use Rattle.model.proofs.Places.{joined_end}
use Rattle.query_pieces.proofs.Tests.{vertex_names_law, mem_firsts}
use Rattle.query_survey.specs.Counting.{count_where, new_vertex, an_edge, an_exclusion, a_requirement, a_return, past_limits}

-- first appearances of names at the end of a list
pub firsts_end : (seen vs : List Bytes) (v : Bytes) → firsts seen (vs ++ (v ∷ [])) ≡ add_new (firsts seen vs) v
unfolding firsts_by
firsts_end seen [] v = refl
firsts_end seen (w ∷ vs) v = firsts_end (add_new seen w) vs v

add_length : (vs : List Bytes) (v : Bytes) → length (add_new vs v) ≡ length vs + pick (not (mem v vs)) 1 0
unfolding add_new_by mem
add_length vs v = go (mem v vs)
  where
    go : (t : Bool) → length (pick t vs (vs ++ (v ∷ []))) ≡ length vs + pick (not t) 1 0
    go true = omega arith
    go false = simp length-append (omega arith)

pub firsts_more : (vs : List Bytes) (v : Bytes) → length (firsts [] (vs ++ (v ∷ []))) ≡ length (firsts [] vs) + pick (not (mem v vs)) 1 0
firsts_more vs v = ap length (firsts_end [] vs v) ∙ add_length (firsts [] vs) v ∙ ap (λ t. length (firsts [] vs) + pick (not t) 1 0) (mem_firsts v vs)

-- a piece more, with a vertex or without
abbrev seen : List Piece → ℕ
seen done = length (firsts [] (vertices_in done))

module _ (done : List Piece) (p : Piece) (ps : List Piece) (n : ℕ) (ih : seen (done ++ (p ∷ [])) + n ≡ seen ((done ++ (p ∷ [])) ++ ps)) where
  vertex_more : (v : Bytes) → vertex_in p ≡ v ∷ [] → seen done + (pick (not (mem v (vertices_in done))) 1 0 + n) ≡ seen (done ++ (p ∷ ps))
  vertex_more v e =
      let a : seen (done ++ (p ∷ [])) ≡ seen done + pick (not (mem v (vertices_in done))) 1 0 = ap (λ l. length (firsts [] l))
      (joined_end vertex_in done p ∙ ap (λ l. vertices_in done ++ l) e) ∙ firsts_more (vertices_in done) v in
      let b : seen ((done ++ (p ∷ [])) ++ ps) ≡ seen (done ++ (p ∷ ps)) = ap seen (append_assoc done (p ∷ []) ps) in
      omega arith

  other_more : vertex_in p ≡ [] → seen done + (0 + n) ≡ seen (done ++ (p ∷ ps))
  other_more e =
      let a : seen (done ++ (p ∷ [])) ≡ seen done = ap (λ l. length (firsts [] l))
      (joined_end vertex_in done p ∙ ap (λ l. vertices_in done ++ l) e ∙ append-nil (vertices_in done)) in
      let b : seen ((done ++ (p ∷ [])) ++ ps) ≡ seen (done ++ (p ∷ ps)) = ap seen (append_assoc done (p ∷ []) ps) in
      omega arith

vertices_counted : (done ps : List Piece) → seen done + count_where new_vertex done ps ≡ seen (done ++ ps)
unfolding count_where new_vertex vertex_in
vertices_counted done [] = rw (append-nil done) (omega arith)
vertices_counted done (start v ∷ ps) = vertex_more done (start v) ps _ (vertices_counted (done ++ (start v ∷ [])) ps) v refl
vertices_counted done (goes e l v ∷ ps) = vertex_more done (goes e l v) ps _ (vertices_counted (done ++ (goes e l v ∷ [])) ps) v refl
vertices_counted done (comes e l v ∷ ps) = vertex_more done (comes e l v) ps _ (vertices_counted (done ++ (comes e l v ∷ [])) ps) v refl
vertices_counted done (asks c ∷ ps) = other_more done (asks c) ps _ (vertices_counted (done ++ (asks c ∷ [])) ps) refl
vertices_counted done (returns v ∷ ps) = other_more done (returns v) ps _ (vertices_counted (done ++ (returns v ∷ [])) ps) refl

edges_counted : (done ps : List Piece) (v : Bytes) → count_where an_edge done ps ≡ length (links_from v ps)
unfolding count_where an_edge links_from
edges_counted done [] v = refl
edges_counted done (start u ∷ ps) v = omega (arith, edges_counted (done ++ (start u ∷ [])) ps u)
edges_counted done (goes e l u ∷ ps) v = omega (arith, edges_counted (done ++ (goes e l u ∷ [])) ps u)
edges_counted done (comes e l u ∷ ps) v = omega (arith, edges_counted (done ++ (comes e l u ∷ [])) ps u)
edges_counted done (asks c ∷ ps) v = omega (arith, edges_counted (done ++ (asks c ∷ [])) ps v)
edges_counted done (returns u ∷ ps) v = omega (arith, edges_counted (done ++ (returns u ∷ [])) ps v)

keep_more : (q : Condition → Bool) (c : Condition) (cs : List Condition) (n : ℕ) → n ≡ length (keep q cs) → pick (q c) 1 0 + n ≡ length (keep q (c ∷ cs))
unfolding keep
keep_more q c cs n e = go (q c)
  where
    go : (t : Bool) → pick t 1 0 + n ≡ length (pick t (c ∷ keep q cs) (keep q cs))
    go true = omega arith
    go false = omega arith

exclusions_counted : (done ps : List Piece) → count_where an_exclusion done ps ≡ length (keep is_differ (conditions_in ps))
unfolding count_where an_exclusion joined condition_in
exclusions_counted done [] = unfold keep in refl
exclusions_counted done (start u ∷ ps) = omega (arith, exclusions_counted (done ++ (start u ∷ [])) ps)
exclusions_counted done (goes e l u ∷ ps) = omega (arith, exclusions_counted (done ++ (goes e l u ∷ [])) ps)
exclusions_counted done (comes e l u ∷ ps) = omega (arith, exclusions_counted (done ++ (comes e l u ∷ [])) ps)
exclusions_counted done (asks c ∷ ps) = keep_more is_differ c (conditions_in ps) _ (exclusions_counted (done ++ (asks c ∷ [])) ps)
exclusions_counted done (returns u ∷ ps) = omega (arith, exclusions_counted (done ++ (returns u ∷ [])) ps)

requirements_counted : (done ps : List Piece) → count_where a_requirement done ps ≡ length (keep (λ c. not (is_differ c)) (conditions_in ps))
unfolding count_where a_requirement joined condition_in
requirements_counted done [] = unfold keep in refl
requirements_counted done (start u ∷ ps) = omega (arith, requirements_counted (done ++ (start u ∷ [])) ps)
requirements_counted done (goes e l u ∷ ps) = omega (arith, requirements_counted (done ++ (goes e l u ∷ [])) ps)
requirements_counted done (comes e l u ∷ ps) = omega (arith, requirements_counted (done ++ (comes e l u ∷ [])) ps)
requirements_counted done (asks c ∷ ps) = keep_more (λ c. not (is_differ c)) c (conditions_in ps) _ (requirements_counted (done ++ (asks c ∷ [])) ps)
requirements_counted done (returns u ∷ ps) = omega (arith, requirements_counted (done ++ (returns u ∷ [])) ps)

returns_counted : (done ps : List Piece) → count_where a_return done ps ≡ length (returns_in ps)
unfolding count_where a_return joined return_in
returns_counted done [] = refl
returns_counted done (start u ∷ ps) = omega (arith, returns_counted (done ++ (start u ∷ [])) ps)
returns_counted done (goes e l u ∷ ps) = omega (arith, returns_counted (done ++ (goes e l u ∷ [])) ps)
returns_counted done (comes e l u ∷ ps) = omega (arith, returns_counted (done ++ (comes e l u ∷ [])) ps)
returns_counted done (asks c ∷ ps) = omega (arith, returns_counted (done ++ (asks c ∷ [])) ps)
returns_counted done (returns u ∷ ps) = omega (arith, returns_counted (done ++ (returns u ∷ [])) ps)

-- the counts of a whole text
pub all_vertices : (ps : List Piece) → count_where new_vertex [] ps ≡ length (firsts [] (vertices_in ps))
unfolding joined firsts_by
all_vertices ps = omega (arith, vertices_counted [] ps)

module _ (ps : List Piece) (h : Ordered at_start ps) where
  pub limits_same : too_many (tail_of ps).later ≡ past_limits ps
  unfolding too_many past_limits
  limits_same = rw (
    vertex_names_law ps h,
    (tree_names ps h).edges_same,
    (tree_names ps h).conditions_same,
    returns_same ps,
    all_vertices ps,
    edges_counted [] ps [],
    exclusions_counted [] ps,
    requirements_counted [] ps,
    returns_counted [] ps,
  )
