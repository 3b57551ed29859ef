-- The one walk over a text's pieces comes to the fault of the text.
use Prim.Native.Nat.{ℕ, suc, ◌+◌, ◌-◌}
use mathlib.Core.Path.{◌≡◌, refl, sym, ap, ap₂, ◌∙◌}
use mathlib.Core.List.{List, [], ◌∷◌, ◌++◌, append_assoc, append-nil}
use mathlib.Core.Bool.{Bool, true, false, not, ◌||◌}
use native.Mathlib.Omega.{arith}
use lib.Dec.{eqb, ltb}
use Rattle.model.specs.Bytes.{Bytes, same}
use Rattle.model.specs.Choice.{pick}
use Rattle.model.specs.Lists.{any, joined}
use Rattle.model.specs.Names.{mem, twice}
use Rattle.model.specs.Book.{Book}
use Rattle.model.specs.Grammar.{Piece, start, goes, comes, asks, returns, Spot, at_start, in_chain, in_where, in_return, spot_after, tail_of}
use Rattle.model.specs.ReadQuery.{unknown, has_twice}
use Rattle.query_pieces.specs.Walk.{may_stand, Ordered}
use Rattle.query_pieces.specs.Named.{vertex_in, edge_in, return_in, vertices_in, edges_in, returns_in}
use Rattle.query_pieces.specs.Faults.{Test, some_where, undeclared_at, twice_at, mistyped_at, from_itself_at}
use Rattle.query_pieces.specs.Steps.{walk_at}
use Rattle.query_pieces.proofs.Trees.{returns_same}
use Rattle.model.proofs.Places.{joined_append, joined_end}
use Rattle.query_pieces.proofs.Tests.{any_same, mem_firsts, vertex_names_law, edge_names_law, twice_found}
use Rattle.logic.specs.Tests.{below_or_not}
use mathlib.Core.Logic.{⊎_elim}
use borrow.Author.Tests.{eq-eqb, ne_eqb, lt-ltb, le-ltb}
use Rattle.book_tables.proofs.ListedLaws.{any_end}
use Rattle.book_tables.proofs.MemberLaws.{mem_end, same_symmetric, more, twice_end}
use Rattle.query_survey.specs.Names.{text_start, text_pieces}
use Rattle.query_survey.specs.Counting.{count_where, new_vertex, an_edge, an_exclusion, a_requirement, a_return, past_limits}
use Rattle.query_faults.specs.Tests.{piece_fault}
use Rattle.query_faults.specs.TextFault.{text_fault}
use Rattle.query_faults.proofs.FaultLaws.{text_ordered, number_is}
use Rattle.query_survey.specs.declared.Survey.{Survey}
use Rattle.query_survey.specs.Survey.{undeclared_by, repeats, surveyed, survey_from, unseen, over_limit, verdict}

-- a fault that was seen or is seen later; what is left of a limit
abbrev flag_from : Test → Bool → List Piece → List Piece → Bool
flag_from q x done ps = pick x true (some_where q done ps)

abbrev left_from : Test → ℕ → List Piece → List Piece → ℕ
left_from q n done ps = n - count_where q done ps

flag_on : (q : Test) (x : Bool) (done : List Piece) (p : Piece) (ps : List Piece)
    → flag_from q (pick (q done p ps) true x) (done ++ (p ∷ [])) ps ≡ flag_from q x done (p ∷ ps)
unfolding some_where
flag_on q x done p ps = go x (q done p ps) (some_where q (done ++ (p ∷ [])) ps)
  where
    go : (x y z : Bool) → pick (pick y true x) true z ≡ pick x true (pick y true z)
    go true true z = refl
    go true false z = refl
    go false true z = refl
    go false false z = refl

left_on : (q : Test) (n : ℕ) (done : List Piece) (p : Piece) (ps : List Piece)
    → left_from q (pick (q done p ps) (n - 1) n) (done ++ (p ∷ [])) ps ≡ left_from q n done (p ∷ ps)
unfolding count_where
left_on q n done p ps = go (q done p ps) (count_where q (done ++ (p ∷ [])) ps)
  where
    go : (y : Bool) (k : ℕ) → pick y (n - 1) n - k ≡ n - (pick y 1 0 + k)
    go true k = omega arith
    go false k = omega arith

flag_end : (x : Bool) → x ≡ pick x true false
flag_end true = refl
flag_end false = refl

left_end : (n : ℕ) → n ≡ n - 0
left_end n = omega arith

-- each part of the survey is by one test
abbrev parts : Book → Survey → List Piece → List Piece → Survey
parts b t done ps = record {
  undeclared = flag_from (undeclared_by b) t.undeclared done ps;
  twice = flag_from repeats t.twice done ps;
  mistyped = flag_from (mistyped_at b) t.mistyped done ps;
  itself = flag_from from_itself_at t.itself done ps;
  vertices = left_from new_vertex t.vertices done ps;
  edges = left_from an_edge t.edges done ps;
  exclusions = left_from an_exclusion t.exclusions done ps;
  requirements = left_from a_requirement t.requirements done ps;
  returns = left_from a_return t.returns done ps;
}

parts_end : (b : Book) (t : Survey) (done : List Piece) → t ≡ parts b t done []
unfolding some_where count_where
parts_end b t done = rw (
  ← flag_end t.undeclared,
  ← flag_end t.twice,
  ← flag_end t.mistyped,
  ← flag_end t.itself,
  ← left_end t.vertices,
  ← left_end t.edges,
  ← left_end t.exclusions,
  ← left_end t.requirements,
  ← left_end t.returns,
)

pub survey_parts : (b : Book) (t : Survey) (done ps : List Piece) → survey_from b t done ps ≡ parts b t done ps
unfolding survey_from surveyed
survey_parts b t done [] = parts_end b t done
survey_parts b t done (p ∷ ps) = survey_parts b (surveyed b done t p ps) (done ++ (p ∷ [])) ps ∙ rw (
  flag_on (undeclared_by b) t.undeclared done p ps,
  flag_on repeats t.twice done p ps,
  flag_on (mistyped_at b) t.mistyped done p ps,
  flag_on from_itself_at t.itself done p ps,
  left_on new_vertex t.vertices done p ps,
  left_on an_edge t.edges done p ps,
  left_on an_exclusion t.exclusions done p ps,
  left_on a_requirement t.requirements done p ps,
  left_on a_return t.returns done p ps,
)

-- 4: behind a returned name no vertex stands
no_vertex_left : (ps : List Piece) → Ordered in_return ps → vertices_in ps ≡ []
unfolding Ordered may_stand spot_after joined vertex_in
no_vertex_left [] h = refl
no_vertex_left (start u ∷ ps) h = absurd h.0
no_vertex_left (goes e l u ∷ ps) h = absurd h.0
no_vertex_left (comes e l u ∷ ps) h = absurd h.0
no_vertex_left (asks c ∷ ps) h = absurd h.0
no_vertex_left (returns u ∷ ps) h = no_vertex_left ps h.1

pub none_behind : (v : Bytes) (ps : List Piece) → Ordered in_return ps → vertices_in (returns v ∷ ps) ≡ []
unfolding joined vertex_in
none_behind v ps h = no_vertex_left ps h

module _ (b : Book) (text : List Piece) where
  undeclared_before : (p : Spot) (done ps : List Piece) → Ordered p ps → done ++ ps ≡ text
      → some_where (undeclared_by b) done ps ≡ some_where (undeclared_at b text) done ps
  unfolding some_where undeclared_by undeclared_at Ordered spot_after
  undeclared_before p done [] h e = refl
  undeclared_before p done (start v ∷ ps) h e = undeclared_before in_chain (done ++ (start v ∷ [])) ps h.1 (append_assoc done (start v ∷ []) ps ∙ e)
  undeclared_before p done (goes d l v ∷ ps) h e = ap (pick (not (mem l b.labels)) true)
      (undeclared_before in_chain (done ++ (goes d l v ∷ [])) ps h.1 (append_assoc done (goes d l v ∷ []) ps ∙ e))
  undeclared_before p done (comes d l v ∷ ps) h e = ap (pick (not (mem l b.labels)) true)
      (undeclared_before in_chain (done ++ (comes d l v ∷ [])) ps h.1 (append_assoc done (comes d l v ∷ []) ps ∙ e))
  undeclared_before p done (asks c ∷ ps) h e = ap (pick (unknown b c (vertices_in done) (edges_in done)) true)
      (undeclared_before in_where (done ++ (asks c ∷ [])) ps h.1 (append_assoc done (asks c ∷ []) ps ∙ e))
  undeclared_before p done (returns v ∷ ps) h e =
      ap₂ (λ vs r. pick (not (mem v vs)) true r) all_before
      (undeclared_before in_return (done ++ (returns v ∷ [])) ps h.1 (append_assoc done (returns v ∷ []) ps ∙ e))
    where
      all_before : vertices_in done ≡ vertices_in text
      all_before = sym (ap vertices_in (sym e) ∙ joined_append vertex_in done (returns v ∷ ps) ∙ ap (λ l. vertices_in done ++ l) (none_behind v ps h.1)
          ∙ append-nil (vertices_in done))

-- 5: a name more at the end of a list
meets_more : (vs : List Bytes) (v : Bytes) (es : List Bytes) → any (λ e. mem e (vs ++ (v ∷ []))) es ≡ (any (λ e. mem e vs) es || mem v es)
unfolding mem any
meets_more vs v [] = refl
meets_more vs v (e ∷ es) = rw (mem_end e v vs, meets_more vs v es, same_symmetric e v) (more (mem e vs) (same v e) (any (λ e. mem e vs) es) (mem v es))

-- 5 in whole pieces: an edge variable twice, an edge variable that is a vertex, a returned name twice
abbrev has_repeat : List Bytes → List Bytes → List Bytes → Bool
has_repeat es vs rs = twice es || any (λ e. mem e vs) es || twice rs

start_repeat : (vs es rs : List Bytes) (v : Bytes) → has_repeat es (vs ++ (v ∷ [])) rs ≡ pick (has_repeat es vs rs) true (mem v es)
start_repeat vs es rs v = rw (meets_more vs v es) (go (twice es) (any (λ e. mem e vs) es) (mem v es) (twice rs))
  where
    go : (a c d h : Bool) → (a || (c || d) || h) ≡ pick (a || c || h) true d
    go true c d h = refl
    go false true d h = refl
    go false false true true = refl
    go false false true false = refl
    go false false false true = refl
    go false false false false = refl

return_repeat : (vs es rs : List Bytes) (v : Bytes) → has_repeat es vs (rs ++ (v ∷ [])) ≡ pick (has_repeat es vs rs) true (mem v rs)
return_repeat vs es rs v = rw (twice_end rs v) (go (twice es || any (λ e. mem e vs) es) (twice rs) (mem v rs))
  where
    go : (a h d : Bool) → (a || (h || d)) ≡ pick (a || h) true d
    go true h d = refl
    go false true d = refl
    go false false d = refl

link_repeat : (vs es rs : List Bytes) (e v : Bytes)
    → has_repeat (es ++ (e ∷ [])) (vs ++ (v ∷ [])) rs ≡ pick (has_repeat es vs rs) true (mem e es || mem e vs || mem v (es ++ (e ∷ [])))
link_repeat vs es rs e v =
    rw (twice_end es e, meets_more vs v (es ++ (e ∷ [])), any_end (λ e. mem e vs) es e)
    (go (twice es) (mem e es) (any (λ e. mem e vs) es) (mem e vs) (mem v (es ++ (e ∷ []))) (twice rs))
  where
    go : (a b c x d h : Bool) → ((a || b) || ((c || x) || d) || h) ≡ pick (a || c || h) true (b || x || d)
    go true b c x d h = refl
    go false true true x d h = refl
    go false true false x d true = refl
    go false true false x d false = refl
    go false false true x d h = refl
    go false false false true d true = refl
    go false false false true d false = refl
    go false false false false true true = refl
    go false false false false true false = refl
    go false false false false false true = refl
    go false false false false false false = refl

abbrev repeated : List Piece → Bool
repeated ps = has_repeat (edges_in ps) (vertices_in ps) (returns_in ps)

repeat_step : (done : List Piece) (p : Piece) (rest : List Piece) → repeated (done ++ (p ∷ [])) ≡ pick (repeated done) true (repeats done p rest)
unfolding repeats edge_in vertex_in return_in
repeat_step done p rest = rw (joined_end edge_in done p, joined_end vertex_in done p, joined_end return_in done p) (go p)
  where
    go : (p : Piece) → has_repeat (edges_in done ++ edge_in p) (vertices_in done ++ vertex_in p) (returns_in done ++ return_in p)
        ≡ pick (repeated done) true (repeats done p rest)
    go (start v) = rw (append-nil (edges_in done), append-nil (returns_in done)) (start_repeat (vertices_in done) (edges_in done) (returns_in done) v)
    go (goes e l v) = rw (append-nil (returns_in done)) (link_repeat (vertices_in done) (edges_in done) (returns_in done) e v)
    go (comes e l v) = rw (append-nil (returns_in done)) (link_repeat (vertices_in done) (edges_in done) (returns_in done) e v)
    go (asks c) = rw (append-nil (edges_in done), append-nil (vertices_in done), append-nil (returns_in done)) (flag_end (repeated done))
    go (returns v) = rw (append-nil (edges_in done), append-nil (vertices_in done)) (return_repeat (vertices_in done) (edges_in done) (returns_in done) v)

repeats_behind : (done ps : List Piece) → pick (repeated done) true (some_where repeats done ps) ≡ repeated (done ++ ps)
unfolding some_where
repeats_behind done [] = rw (append-nil done) (sym (flag_end (repeated done)))
repeats_behind done (p ∷ ps) =
    go (repeated done) (repeats done p ps) (some_where repeats (done ++ (p ∷ [])) ps)
    ∙ ap (λ x. pick x true (some_where repeats (done ++ (p ∷ [])) ps)) (sym (repeat_step done p ps))
    ∙ repeats_behind (done ++ (p ∷ [])) ps
    ∙ ap repeated (append_assoc done (p ∷ []) ps)
  where
    go : (x y z : Bool) → pick x true (pick y true z) ≡ pick (pick x true y) true z
    go true y z = refl
    go false y z = refl

module _ (ps : List Piece) (h : Ordered at_start ps) where
  undeclared_same : (b : Book) → some_where (undeclared_by b) [] ps ≡ some_where (undeclared_at b ps) [] ps
  undeclared_same b = undeclared_before b ps at_start [] ps h refl

  repeats_same : some_where repeats [] ps ≡ some_where (twice_at ps) [] ps
  unfolding has_twice joined twice any
  repeats_same = repeats_behind [] ps ∙ sym tree_repeats ∙ twice_found ps h
    where
      tree_repeats : has_twice (tail_of ps).later ≡ repeated ps
      tree_repeats = rw (
        edge_names_law ps h,
        returns_same ps,
        vertex_names_law ps h,
        any_same (λ e. mem e (Rattle.model.specs.Names.firsts [] (vertices_in ps))) (λ e. mem e (vertices_in ps)) (λ e. mem_firsts e (vertices_in ps))
            (edges_in ps),
      )

-- nothing is left of a limit and one more where the limit is passed
spent : (l n : ℕ) → eqb (suc l - n) 0 ≡ ltb l n
spent l n = ⊎_elim
    (λ h. eq-eqb (suc l - n) 0 (omega arith) ∙ sym (lt-ltb l n h))
    (λ h. ne_eqb (suc l - n) 0 (λ e. omega arith) ∙ sym (le-ltb l n h))
    (below_or_not l n)

-- the walk over a text's pieces comes to the fault that they show
pub survey_fault : (b : Book) (s : Bytes) → verdict (walk_at s text_start).whole (survey_from b unseen [] (text_pieces s)) ≡ text_fault b s
survey_fault b s = rw (survey_parts b unseen [] (text_pieces s)) (unfold verdict in unfold over_limit in rw (
  undeclared_same (text_pieces s) (text_ordered s) b,
  repeats_same (text_pieces s) (text_ordered s),
  spent 8 (count_where new_vertex [] (text_pieces s)),
  spent 16 (count_where an_edge [] (text_pieces s)),
  spent 16 (count_where an_exclusion [] (text_pieces s)),
  spent 16 (count_where a_requirement [] (text_pieces s)),
  spent 4 (count_where a_return [] (text_pieces s)),
) (unfold piece_fault in unfold past_limits in refl)) ∙ number_is b s
