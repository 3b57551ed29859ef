-- The faults 4, 5, 6 and 8 of a text, found piece by piece.
use mathlib.Core.Path.{◌≡◌, refl, sym, ap, ◌∙◌}
use mathlib.Core.Logic.{⊎_elim}
use mathlib.Core.List.{List, [], ◌∷◌, ◌++◌, map, append-nil}
use mathlib.Core.Bool.{Bool, true, false, not, ◌||◌}
use Rattle.model.specs.Bytes.{Bytes}
use Rattle.model.specs.Choice.{pick}
use Rattle.model.specs.Lists.{any, joined}
use Rattle.model.specs.Names.{mem, twice, firsts}
use Rattle.model.specs.Book.{Book}
use Rattle.model.specs.QueryText.{QueryText}
use Rattle.model.specs.Grammar.{Piece, start, goes, comes, asks, returns, at_start, tail_of}
use Rattle.model.specs.Query.{ChainEdge, vertex_names, edge_names}
use Rattle.model.specs.ReadQuery.{Scoped, unknown, mistyped, from_itself, has_undeclared, has_twice, has_mistyped, has_from_itself}
use Rattle.model.proofs.Members.{is_true, is_false, test, mem_e, mem_i, firsts_i, firsts_e}
use Rattle.model.proofs.Places.{joined_end}
use Rattle.query_pieces.specs.Walk.{Ordered}
use Rattle.query_pieces.specs.Named.{vertex_in, edge_in, return_in, condition_in, vertices_in, edges_in, returns_in, conditions_in, links_from, scoped_from}
use Rattle.query_pieces.specs.Faults.{some_where, undeclared_at, twice_at, mistyped_at, from_itself_at}
use Rattle.query_pieces.proofs.Trees.{tree_names, returns_same, link_names}

-- first appearances keep members
pub mem_firsts : (v : Bytes) (vs : List Bytes) → mem v (firsts [] vs) ≡ mem v vs
mem_firsts v vs = ⊎_elim
    (λ t. is_true (mem v (firsts [] vs)) (mem_i v (firsts [] vs) (firsts_i [] vs v (mem_e v vs t))) ∙ sym (is_true (mem v vs) t))
    (λ f. is_false (mem v (firsts [] vs)) (λ t. f (mem_i v vs (⊎_elim (λ z. elim z [ ]) (λ m. m) (firsts_e [] vs v (mem_e v (firsts [] vs) t)))))
    ∙ sym (is_false (mem v vs) f))
    (test (mem v vs))

-- a test more in one place of three
first_of : (x a b c : Bool) → pick x true (a || b || c) ≡ (pick x true a || b || c)
first_of true a b c = refl
first_of false a b c = refl

second_of : (x a b c : Bool) → pick x true (a || b || c) ≡ (a || pick x true b || c)
second_of true true b c = refl
second_of true false b c = refl
second_of false a b c = refl

third_of : (x a b c : Bool) → pick x true (a || b || c) ≡ (a || b || pick x true c)
third_of true true b c = refl
third_of true false true c = refl
third_of true false false c = refl
third_of false a b c = refl

two_of : (x y a b c : Bool) → pick (x || y) true (a || b || c) ≡ (pick x true a || pick y true b || c)
two_of true y a b c = refl
two_of false true true b c = refl
two_of false true false b c = refl
two_of false false a b c = refl

module _ (b : Book) (text : List Piece) where
  abbrev edge_unknown : ChainEdge → Bool
  edge_unknown e = not (mem e.label b.labels)

  abbrev scope_unknown : Scoped → Bool
  scope_unknown s = unknown b s.condition s.vertices s.edges

  abbrev return_unknown : Bytes → Bool
  return_unknown v = not (mem v (vertices_in text))

  undeclared_behind : (done ps : List Piece) (v : Bytes)
      → some_where (undeclared_at b text) done ps
      ≡ (any edge_unknown (links_from v ps) || any scope_unknown (scoped_from (vertices_in done) (edges_in done) ps) || any return_unknown (returns_in ps))
  unfolding some_where undeclared_at links_from scoped_from joined vertex_in edge_in return_in any
  undeclared_behind done [] v = refl
  undeclared_behind done (start u ∷ ps) v = rw (joined_end vertex_in done (start u), joined_end edge_in done (start u), append-nil (edges_in done)) at
      (undeclared_behind (done ++ (start u ∷ [])) ps u)
  undeclared_behind done (goes e l u ∷ ps) v =
      ap (pick (not (mem l b.labels)) true)
      (rw (joined_end vertex_in done (goes e l u), joined_end edge_in done (goes e l u)) at (undeclared_behind (done ++ (goes e l u ∷ [])) ps u))
      ∙ first_of (not (mem l b.labels)) _ _ _
  undeclared_behind done (comes e l u ∷ ps) v =
      ap (pick (not (mem l b.labels)) true)
      (rw (joined_end vertex_in done (comes e l u), joined_end edge_in done (comes e l u)) at (undeclared_behind (done ++ (comes e l u ∷ [])) ps u))
      ∙ first_of (not (mem l b.labels)) _ _ _
  undeclared_behind done (asks c ∷ ps) v =
      ap (pick (unknown b c (vertices_in done) (edges_in done)) true)
      (rw (joined_end vertex_in done (asks c), joined_end edge_in done (asks c), append-nil (vertices_in done), append-nil (edges_in done)) at
      (undeclared_behind (done ++ (asks c ∷ [])) ps v))
      ∙ second_of (unknown b c (vertices_in done) (edges_in done)) (any edge_unknown (links_from v ps)) _ _
  undeclared_behind done (returns u ∷ ps) v =
      ap (pick (not (mem u (vertices_in text))) true)
      (rw (joined_end vertex_in done (returns u), joined_end edge_in done (returns u), append-nil (vertices_in done), append-nil (edges_in done)) at
      (undeclared_behind (done ++ (returns u ∷ [])) ps v))
      ∙ third_of (not (mem u (vertices_in text))) (any edge_unknown (links_from v ps)) (any scope_unknown (scoped_from (vertices_in done) (edges_in done) ps)) _

twice_behind : (text done ps : List Piece)
    → some_where (twice_at text) done ps ≡ (twice (edges_in ps) || any (λ e. mem e (vertices_in text)) (edges_in ps) || twice (returns_in ps))
unfolding some_where twice_at joined edge_in return_in any twice
twice_behind text done [] = refl
twice_behind text done (start u ∷ ps) = twice_behind text (done ++ (start u ∷ [])) ps
twice_behind text done (goes e l u ∷ ps) =
    ap (pick (mem e (edges_in ps) || mem e (vertices_in text)) true) (twice_behind text (done ++ (goes e l u ∷ [])) ps)
    ∙ two_of (mem e (edges_in ps)) (mem e (vertices_in text)) _ _ _
twice_behind text done (comes e l u ∷ ps) =
    ap (pick (mem e (edges_in ps) || mem e (vertices_in text)) true) (twice_behind text (done ++ (comes e l u ∷ [])) ps)
    ∙ two_of (mem e (edges_in ps)) (mem e (vertices_in text)) _ _ _
twice_behind text done (asks c ∷ ps) = twice_behind text (done ++ (asks c ∷ [])) ps
twice_behind text done (returns u ∷ ps) =
    ap (pick (mem u (returns_in ps)) true) (twice_behind text (done ++ (returns u ∷ [])) ps)
    ∙ third_of (mem u (returns_in ps)) (twice (edges_in ps)) (any (λ e. mem e (vertices_in text)) (edges_in ps)) _

mistyped_behind : (b : Book) (done ps : List Piece)
    → some_where (mistyped_at b) done ps ≡ any (λ s. mistyped b s.condition s.vertices s.edges) (scoped_from (vertices_in done) (edges_in done) ps)
unfolding some_where mistyped_at scoped_from joined vertex_in edge_in any
mistyped_behind b done [] = refl
mistyped_behind b done (start u ∷ ps) = rw (joined_end vertex_in done (start u), joined_end edge_in done (start u), append-nil (edges_in done)) at
    (mistyped_behind b (done ++ (start u ∷ [])) ps)
mistyped_behind b done (goes e l u ∷ ps) = rw (joined_end vertex_in done (goes e l u), joined_end edge_in done (goes e l u)) at
    (mistyped_behind b (done ++ (goes e l u ∷ [])) ps)
mistyped_behind b done (comes e l u ∷ ps) = rw (joined_end vertex_in done (comes e l u), joined_end edge_in done (comes e l u)) at
    (mistyped_behind b (done ++ (comes e l u ∷ [])) ps)
mistyped_behind b done (asks c ∷ ps) =
    ap (pick (mistyped b c (vertices_in done) (edges_in done)) true)
    (rw (joined_end vertex_in done (asks c), joined_end edge_in done (asks c), append-nil (vertices_in done), append-nil (edges_in done)) at
    (mistyped_behind b (done ++ (asks c ∷ [])) ps))
mistyped_behind b done (returns u ∷ ps) =
    rw (joined_end vertex_in done (returns u), joined_end edge_in done (returns u), append-nil (vertices_in done), append-nil (edges_in done)) at
    (mistyped_behind b (done ++ (returns u ∷ [])) ps)

itself_behind : (done ps : List Piece) → some_where from_itself_at done ps ≡ any from_itself (conditions_in ps)
unfolding some_where from_itself_at joined condition_in any
itself_behind done [] = refl
itself_behind done (start u ∷ ps) = itself_behind (done ++ (start u ∷ [])) ps
itself_behind done (goes e l u ∷ ps) = itself_behind (done ++ (goes e l u ∷ [])) ps
itself_behind done (comes e l u ∷ ps) = itself_behind (done ++ (comes e l u ∷ [])) ps
itself_behind done (asks c ∷ ps) = ap (pick (from_itself c) true) (itself_behind (done ++ (asks c ∷ [])) ps)
itself_behind done (returns u ∷ ps) = itself_behind (done ++ (returns u ∷ [])) ps

pub any_same : {A : Type 0} (f g : A → Bool) → ((x : A) → f x ≡ g x) → (l : List A) → any f l ≡ any g l
unfolding any
any_same f g h [] = refl
any_same f g h (x ∷ l) = rw (h x, any_same f g h l)

-- the faults of a whole text
module _ (ps : List Piece) (h : Ordered at_start ps) where
  abbrev query : QueryText
  query = (tail_of ps).later

  pub vertex_names_law : vertex_names query ≡ firsts [] (vertices_in ps)
  unfolding vertex_names
  vertex_names_law = ap (firsts []) (tree_names ps h).vertices_same

  pub edge_names_law : edge_names query ≡ edges_in ps
  unfolding edge_names
  edge_names_law = ap (map (λ e. e.name)) (tree_names ps h).edges_same ∙ link_names [] ps

  pub undeclared_found : (b : Book) → has_undeclared b query ≡ some_where (undeclared_at b ps) [] ps
  unfolding has_undeclared joined
  undeclared_found b =
      rw (
        (tree_names ps h).edges_same,
        (tree_names ps h).scopes_same,
        returns_same ps,
        vertex_names_law,
        any_same (λ v. not (mem v (firsts [] (vertices_in ps)))) (λ v. not (mem v (vertices_in ps))) (λ v. ap not (mem_firsts v (vertices_in ps))) (returns_in ps),
      )
      (sym (undeclared_behind b ps [] ps []))

  pub twice_found : has_twice query ≡ some_where (twice_at ps) [] ps
  unfolding has_twice
  twice_found =
      rw (
        edge_names_law,
        returns_same ps,
        vertex_names_law,
        any_same (λ e. mem e (firsts [] (vertices_in ps))) (λ e. mem e (vertices_in ps)) (λ e. mem_firsts e (vertices_in ps)) (edges_in ps),
      )
      (sym (twice_behind ps [] ps))

  pub mistyped_found : (b : Book) → has_mistyped b query ≡ some_where (mistyped_at b) [] ps
  unfolding has_mistyped joined
  mistyped_found b = rw (tree_names ps h).scopes_same (sym (mistyped_behind b [] ps))

  pub itself_found : has_from_itself query ≡ some_where from_itself_at [] ps
  unfolding has_from_itself
  itself_found = rw (tree_names ps h).conditions_same (sym (itself_behind [] ps))
