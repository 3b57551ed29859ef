-- What is known behind each kind of piece, part by part.
use Prim.Native.Nat.{ℕ, ◌-◌}
use mathlib.Core.Path.{◌≡◌, refl, sym}
use mathlib.Core.List.{List, [], ◌∷◌, ◌++◌}
use mathlib.Core.Bool.{Bool, true, false, not, ◌&&◌, ◌||◌}
use Rattle.model.specs.Bytes.{Bytes, same}
use Rattle.model.specs.Choice.{pick}
use Rattle.model.specs.Names.{mem}
use Rattle.model.specs.Values.{Value}
use Rattle.model.specs.Book.{Book, attr_names}
use Rattle.model.specs.QueryText.{Relation, differ, demand}
use Rattle.model.specs.Grammar.{Piece, start, goes, comes, asks, returns}
use Rattle.model.specs.ReadQuery.{typed, unknown, mistyped, from_itself, is_differ}
use Rattle.query_pieces.specs.Faults.{mistyped_at, from_itself_at}
use Rattle.query_survey.specs.Names.{name_in, names_in}
use Rattle.query_survey.specs.declared.Which.TheVariants.{Vertex, Edge, Returned}
use Rattle.query_survey.specs.Counting.{new_vertex, an_edge, an_exclusion, a_requirement, a_return}
use Rattle.query_survey.specs.declared.Survey.{Survey}
use Rattle.query_survey.specs.Survey.{undeclared_by, repeats, surveyed}

-- a fault that is seen here or was seen before
pub or_before : (x y : Bool) → (y || x) ≡ pick x true y
or_before true true = refl
or_before true false = refl
or_before false true = refl
or_before false false = refl

-- a fault that was seen stays seen
pub stays_seen : (x y : Bool) → y ≡ true → true ≡ pick x true y
stays_seen true y e = refl
stays_seen false y e = sym e

-- nothing is taken from nothing
pub stays_zero : (x : Bool) (n : ℕ) → n ≡ 0 → 0 ≡ pick x (n - 1) n
stays_zero true n e = rw e
stays_zero false n e = sym e

module _ (b : Book) (done : List Piece) (t : Survey) (rest : List Piece) where
  pub start_is : (v : Bytes) (x : Bool) (n : ℕ) → x ≡ pick (mem v (names_in Edge done)) true t.twice
      → n ≡ pick (not (mem v (names_in Vertex done))) (t.vertices - 1) t.vertices
      → record {
        undeclared = t.undeclared;
        twice = x;
        mistyped = t.mistyped;
        itself = t.itself;
        vertices = n;
        edges = t.edges;
        exclusions =
            t.exclusions;
        requirements = t.requirements;
        returns = t.returns;
      } ≡ surveyed b done t (start v) rest
  unfolding surveyed undeclared_by repeats mistyped_at from_itself_at new_vertex an_edge an_exclusion a_requirement a_return name_in
  start_is v x n e f = rw (e, f)

  module _ (e l v : Bytes) (u x : Bool) (n k : ℕ)
      (eu : u ≡ pick (not (mem l b.labels)) true t.undeclared)
      (ex : x ≡ pick (mem e (names_in Edge done) || mem e (names_in Vertex done) || mem v (names_in Edge done ++ (e ∷ []))) true t.twice)
      (en : n ≡ pick (not (mem v (names_in Vertex done))) (t.vertices - 1) t.vertices)
      (ek : k ≡ t.edges - 1) where
    abbrev linked : Survey
    linked = record {
      undeclared = u;
      twice = x;
      mistyped = t.mistyped;
      itself = t.itself;
      vertices = n;
      edges = k;
      exclusions = t.exclusions;
      requirements = t.requirements;
      returns = t.returns;
    }

    pub goes_is : linked ≡ surveyed b done t (goes e l v) rest
    unfolding surveyed undeclared_by repeats mistyped_at from_itself_at new_vertex an_edge an_exclusion a_requirement a_return name_in
    goes_is = rw (eu, ex, en, ek)

    pub comes_is : linked ≡ surveyed b done t (comes e l v) rest
    unfolding surveyed undeclared_by repeats mistyped_at from_itself_at new_vertex an_edge an_exclusion a_requirement a_return name_in
    comes_is = rw (eu, ex, en, ek)

  pub differ_is : (v w : Bytes) (u x : Bool) (k : ℕ)
      → u ≡ pick (not (mem v (names_in Vertex done) && mem w (names_in Vertex done))) true t.undeclared → x ≡ pick (same v w) true t.itself
      → k ≡ t.exclusions - 1
      → record {
        undeclared = u;
        twice = t.twice;
        mistyped = t.mistyped;
        itself = x;
        vertices = t.vertices;
        edges = t.edges;
        exclusions = k;
        requirements = t.requirements;
        returns = t.returns;
      } ≡ surveyed b done t (asks (differ v w)) rest
  unfolding surveyed undeclared_by repeats mistyped_at from_itself_at new_vertex an_edge an_exclusion a_requirement a_return name_in unknown mistyped from_itself is_differ
  differ_is v w u x k e f g = rw (e, f, g)

  pub demand_is : (y a : Bytes) (r : Relation) (z : Value) (u x : Bool) (k : ℕ)
      → u ≡ pick (not (mem y (names_in Vertex done) && mem a (attr_names b.vattrs) || mem y (names_in Edge done) && mem a (attr_names b.eattrs))) true
      t.undeclared
      → x ≡ pick (not (mem y (names_in Vertex done) && typed b.vattrs a r z || mem y (names_in Edge done) && typed b.eattrs a r z)) true t.mistyped
      → k ≡ t.requirements - 1
      → record {
        undeclared = u;
        twice = t.twice;
        mistyped = x;
        itself = t.itself;
        vertices = t.vertices;
        edges = t.edges;
        exclusions = t.exclusions;
        requirements = k;
        returns = t.returns;
      } ≡ surveyed b done t (asks (demand y a r z)) rest
  unfolding surveyed undeclared_by repeats mistyped_at from_itself_at new_vertex an_edge an_exclusion a_requirement a_return name_in unknown mistyped from_itself is_differ
  demand_is y a r z u x k e f g = rw (e, f, g)

  pub return_is : (v : Bytes) (u x : Bool) (k : ℕ)
      → u ≡ pick (not (mem v (names_in Vertex done))) true t.undeclared → x ≡ pick (mem v (names_in Returned done)) true t.twice → k ≡ t.returns - 1
      → record {
        undeclared = u;
        twice = x;
        mistyped = t.mistyped;
        itself = t.itself;
        vertices = t.vertices;
        edges = t.edges;
        exclusions =
            t.exclusions;
        requirements = t.requirements;
        returns = k;
      } ≡ surveyed b done t (returns v) rest
  unfolding surveyed undeclared_by repeats mistyped_at from_itself_at new_vertex an_edge an_exclusion a_requirement a_return name_in
  return_is v u x k e f g = rw (e, f, g)

pub by_test : (t : Bool) → t ≡ pick t true false
by_test true = refl
by_test false = refl

pub by_left : (t x : Bool) → x ≡ false → t ≡ pick t true x
by_left true x e = refl
by_left false x e = sym e
