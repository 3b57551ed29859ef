-- Lists that come out wrong where a definition takes a known wrong turn. Each table has one theorem over it.
use Prim.Native.Nat.{ℕ}
use Prim.Native.String.{String, ◌++◌ as ◌then◌}
use mathlib.Core.Path.{◌≡◌, refl}
use mathlib.Core.List.{List, [], ◌∷◌, map}
use mathlib.Core.Bool.{true, false}
use Rattle.model.specs.Bytes.{bytes_of}
use Rattle.model.specs.Refusal.{Outcome, accepted}
use Rattle.model.specs.QueryText.{eq, ne, lt, le, gt, ge}
use Rattle.model.specs.Graph.{compares}
use Rattle.model.specs.Service.{list_rows}
use Rattle.model.specs.Computing.{computing}

-- what a list is given, and the rows it gives
record Case : Type 0 where
  book : String
  rules : String
  query : String
  request : String
  rows : List (List ℕ)

-- what the list gives for a case
abbrev run : Case → Outcome (List (List ℕ))
run c = list_rows 16384 16384 (bytes_of c.book) (bytes_of c.rules) (bytes_of c.query) (bytes_of c.request)

-- what it is to give
abbrev gives : Case → Outcome (List (List ℕ))
gives c = accepted c.rows

-- a policy that asks nothing but the requestor
abbrev lenient : String
lenient = "(category view (actors requestor) (over))\n(policy view \"Match (requestor) Return requestor\")\n"

-- ana asks
abbrev ana : String
ana = "(request view (id requestor ana))\n"

-- An absent attribute is not 0: bare (1) has no rate and is never listed; full (2) has the rate 0.
abbrev absent : String
absent = "(vattr rate int)\n(label runs)\n(node ana)\n(node bare)\n(node full (rate 0))\n(rel runs ana bare)\n(rel runs ana full)\n"

-- ana asks for those she runs whose rate differs from 1: bare has no rate; the law is `absent_meets_nothing` of AbsentAttributes
abbrev absent_case : List Case
absent_case =
    record { book = absent; rules = lenient; query = "Match (requestor)-[e:runs]->(s) Where s.rate <> 1 Return s"; request = ana; rows = (2 ∷ []) ∷ [] } ∷ []

-- only full is listed
absent_example : map run absent_case ≡ map gives absent_case
unfolding computing
absent_example = refl

-- = <> < <= > >= of 1 and 2, of 2 and 2, of 3 and 2
relations_of_numbers : map (λ r. compares r 1 2 ∷ compares r 2 2 ∷ compares r 3 2 ∷ []) (eq ∷ ne ∷ lt ∷ le ∷ gt ∷ ge ∷ [])
    ≡ (false ∷ true ∷ false ∷ []) ∷ (true ∷ false ∷ true ∷ []) ∷ (true ∷ false ∷ false ∷ []) ∷ (true ∷ true ∷ false ∷ []) ∷ (false ∷ false ∷ true ∷ []) ∷
    (false ∷ true ∷ true ∷ []) ∷ []
unfolding computing
relations_of_numbers = refl

-- The policy's `guest` is no actor of its own category low, only of the request's, high: it is a vertex of its own and may be hub (1), though the
-- request's guest is bob (2).
abbrev two : String
two = "(label runs)\n(node ana)\n(node hub)\n(node bob)\n(rel runs ana hub)\n"

-- the same request under two rules
abbrev joining : List Case
joining =
    record {
      book = two;
      rules = "(category low (actors requestor) (over))\n(policy low \"Match (requestor)-[r:runs]->(guest) Return guest\")\n"
          then "(category high (actors requestor guest) (over low))\n";
      query = "Match (requestor)-[a:runs]->(h) Return h";
      request = "(request high (id requestor ana) (id guest bob))\n";
      rows = (1 ∷ []) ∷ [];
    }
    -- where low has the actor guest too, the policy's guest is bob, whom ana does not run
    ∷ record {
      book = two;
      rules = "(category low (actors requestor guest) (over))\n(policy low \"Match (requestor)-[r:runs]->(guest) Return guest\")\n"
          then "(category high (actors requestor guest) (over low))\n";
      query = "Match (requestor)-[a:runs]->(h) Return h";
      request = "(request high (id requestor ana) (id guest bob))\n";
      rows = [];
    }
    ∷ []

-- a policy's vertices are joined by the actors of the policy's own category
joined_by_own_actors : map run joining ≡ map gives joining
unfolding computing
joined_by_own_actors = refl

-- The request's category reaches the only policy through two others, and eight vertices in a row are tied to one identity.
abbrev far : List Case
far =
    record {
      book = "(label runs)\n(label owns)\n(node ana)\n(node hub)\n(rel runs ana hub)\n";
      rules = "(category a (actors requestor) (over))\n(policy a \"Match (requestor)-[r:owns]->(h) Return h\")\n"
          then "(category b (actors requestor) (over a))\n(category c (actors requestor) (over b))\n(category d (actors requestor) (over c))\n";
      query = "Match (requestor)-[a:runs]->(h) Return h";
      request = "(request d (id requestor ana))\n";
      rows = [];
    }
    ∷ record {
      book = "(label runs)\n(node ana)\n(rel runs ana ana)\n";
      rules = lenient;
      query = "Match (requestor)-[a:runs]->(b)<-[c:runs]-(d)-[e:runs]->(f)<-[g:runs]-(h)-[i:runs]->(j)<-[k:runs]-(l)-[m:runs]->(n) Return n";
      request = ana;
      rows = (0 ∷ []) ∷ [];
    }
    ∷ []

-- what is reached through others is reached
far_is_reached : map run far ≡ map gives far
unfolding computing
far_is_reached = refl

-- Rows ascend, leftmost first, and none stands twice.
abbrev order : List Case
order =
    record {
      book = "(label runs)\n(node ana)\n(node bob)\n(rel runs ana bob)\n(rel runs ana ana)\n";
      rules = lenient;
      query = "Match (requestor)-[e:runs]->(s) Match (requestor)-[f:runs]->(t) Return t, s";
      request = ana;
      rows = (0 ∷ 0 ∷ []) ∷ (0 ∷ 1 ∷ []) ∷ (1 ∷ 0 ∷ []) ∷ (1 ∷ 1 ∷ []) ∷ [];
    }
    ∷ []

-- the rows come in order
rows_in_order : map run order ≡ map gives order
unfolding computing
rows_in_order = refl
