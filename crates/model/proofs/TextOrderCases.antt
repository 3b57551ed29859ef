-- Texts in byte order, computed: pairs of texts, the relations between them, and lists over a book that dates bulletins by week.
use Prim.Native.Nat.{ℕ}
use Prim.Native.String.{String, ◌++◌ as ◌then◌}
use mathlib.Core.Path.{◌≡◌, refl}
use mathlib.Core.List.{List, [], ◌∷◌, map}
use mathlib.Core.Bool.{true, false}
use Rattle.model.specs.Bytes.{bytes_of}
use Rattle.model.specs.Refusal.{Outcome, accepted, refused}
use Rattle.model.specs.Values.{str}
use Rattle.model.specs.QueryText.{eq, ne, lt, le, gt, ge}
use Rattle.model.specs.TextOrder.{Order, less, equal, greater, byte_order}
use Rattle.model.specs.Graph.{in_relation}
use Rattle.model.specs.Service.{list_rows}
use Rattle.model.specs.Computing.{computing}

-- two texts, and how the first stands to the second
record Pair : Type 0 where
  first : String
  second : String
  stands : Order

-- a week and its neighbours; weeks of one digit, which are not in the order of numbers; no bytes; beginnings; case; length does not decide; the least and
-- the greatest byte of a text, and an underscore between the cases
abbrev pairs : List Pair
pairs =
    record { first = "2024w07"; second = "2024w06"; stands = greater }
    ∷ record { first = "2024w07"; second = "2024w07"; stands = equal }
    ∷ record { first = "2024w07"; second = "2024w08"; stands = less }
    ∷ record { first = "2024w52"; second = "2025w01"; stands = less }
    ∷ record { first = "2024w9"; second = "2024w10"; stands = greater }
    ∷ record { first = ""; second = ""; stands = equal }
    ∷ record { first = ""; second = " "; stands = less }
    ∷ record { first = "2024w07"; second = ""; stands = greater }
    ∷ record { first = "2024w0"; second = "2024w07"; stands = less }
    ∷ record { first = "2024w07a"; second = "2024w07"; stands = greater }
    ∷ record { first = "Hub"; second = "hub"; stands = less }
    ∷ record { first = "a"; second = "Z"; stands = greater }
    ∷ record { first = "b"; second = "aa"; stands = greater }
    ∷ record { first = "aa"; second = "b"; stands = less }
    ∷ record { first = "a b"; second = "a~"; stands = less }
    ∷ record { first = "z"; second = "_"; stands = greater }
    ∷ record { first = "Z"; second = "_"; stands = less }
    ∷ []

-- each pair stands as it is said to
pairs_stand : map (λ p. byte_order (bytes_of p.first) (bytes_of p.second)) pairs ≡ map (λ p. p.stands) pairs
unfolding computing
pairs_stand = refl

-- = <> < <= > >= of '2024w06', '2024w07' and '2024w08' to '2024w07'
relations_of_texts : map (λ r. map (λ s. in_relation r (str (bytes_of s)) (str (bytes_of "2024w07"))) ("2024w06" ∷ "2024w07" ∷ "2024w08" ∷ []))
    (eq ∷ ne ∷ lt ∷ le ∷ gt ∷ ge ∷ [])
    ≡ (false ∷ true ∷ false ∷ []) ∷ (true ∷ false ∷ true ∷ []) ∷ (true ∷ false ∷ false ∷ []) ∷ (true ∷ true ∷ false ∷ []) ∷ (false ∷ false ∷ true ∷ []) ∷
    (false ∷ true ∷ true ∷ []) ∷ []
unfolding computing
relations_of_texts = refl

-- ana (0) holds bulletins of three weeks (1, 2, 3), one without a week (4) and one of the week '' (5), all but the fourth since some week
abbrev book : String
book = "(vattr week str)\n(vattr open bool)\n(vattr rate int)\n(eattr since str)\n(label holds)\n(node ana)\n"
    then "(node b06 (week '2024w06'))\n(node b07 (week '2024w07'))\n(node b08 (week '2024w08'))\n(node bare)\n(node blank (week ''))\n"
    then "(rel holds ana b06 (since '2024w10'))\n(rel holds ana b07 (since '2024w09'))\n(rel holds ana b08 (since '2024w1'))\n(rel holds ana bare)\n"
    then "(rel holds ana blank (since '2024W10'))\n"

-- rules whose one policy has a condition
abbrev rules : String → String
rules condition = "(category view (actors requestor desk) (over))\n(policy view \"Match (requestor)-[r:holds]->(desk)" then condition then " Return desk\")\n"

-- what ana holds under a condition
abbrev query : String → String
query condition = "Match (requestor)-[e:holds]->(desk)" then condition then " Return desk"

-- a condition of the policy, one of the query, and what the list gives
record Case : Type 0 where
  policy : String
  query : String
  gives : Outcome (List (List ℕ))

abbrev run : Case → Outcome (List (List ℕ))
run c = list_rows 16384 16384 (bytes_of book) (bytes_of (rules c.policy)) (bytes_of (query c.query)) (bytes_of "(request view (id requestor ana))\n")

-- so many nodes, a row each
abbrev rows : List ℕ → Outcome (List (List ℕ))
rows ns = accepted (map (λ n. n ∷ []) ns)

-- 6 in the query, or in the policy
abbrev six_in : ℕ → ℕ → Outcome (List (List ℕ))
six_in text line = refused (record { number = 6; text = text; line = line })

-- each relation to a week, of nodes: no week is none of them; every present text is at least ''; then of relationships, in a query and in a policy
abbrev ordered : List Case
ordered =
    record { policy = ""; query = " Where desk.week = '2024w07'"; gives = rows (2 ∷ []) }
    ∷ record { policy = ""; query = " Where desk.week <> '2024w07'"; gives = rows (1 ∷ 3 ∷ 5 ∷ []) }
    ∷ record { policy = ""; query = " Where desk.week < '2024w07'"; gives = rows (1 ∷ 5 ∷ []) }
    ∷ record { policy = ""; query = " Where desk.week <= '2024w07'"; gives = rows (1 ∷ 2 ∷ 5 ∷ []) }
    ∷ record { policy = ""; query = " Where desk.week > '2024w07'"; gives = rows (3 ∷ []) }
    ∷ record { policy = ""; query = " Where desk.week >= '2024w07'"; gives = rows (2 ∷ 3 ∷ []) }
    ∷ record { policy = ""; query = " Where desk.week >= ''"; gives = rows (1 ∷ 2 ∷ 3 ∷ 5 ∷ []) }
    ∷ record { policy = ""; query = " Where desk.week < ''"; gives = rows [] }
    ∷ record { policy = ""; query = " Where e.since < '2024w10'"; gives = rows (2 ∷ 3 ∷ 5 ∷ []) }
    ∷ record { policy = " Where r.since < '2024w10'"; query = ""; gives = rows (2 ∷ 3 ∷ 5 ∷ []) }
    ∷ record { policy = " Where r.since >= '2024w09'"; query = " Where desk.week > '2024w06'"; gives = rows (2 ∷ 3 ∷ []) }
    ∷ []

-- a value of another type is 6, and an order of truth values
abbrev mistyped : List Case
mistyped =
    record { policy = ""; query = " Where desk.week < 7"; gives = six_in 3 1 }
    ∷ record { policy = ""; query = " Where desk.week >= true"; gives = six_in 3 1 }
    ∷ record { policy = ""; query = " Where desk.rate < '7'"; gives = six_in 3 1 }
    ∷ record { policy = ""; query = " Where desk.open < true"; gives = six_in 3 1 }
    ∷ record { policy = ""; query = " Where desk.open <= true"; gives = six_in 3 1 }
    ∷ record { policy = ""; query = " Where desk.open > true"; gives = six_in 3 1 }
    ∷ record { policy = ""; query = " Where desk.open >= true"; gives = six_in 3 1 }
    ∷ record { policy = " Where r.since > 7"; query = ""; gives = six_in 2 2 }
    ∷ record { policy = " Where desk.open < true"; query = ""; gives = six_in 2 2 }
    ∷ []

-- each case gives what it is said to give
weeks_listed : map run ordered ≡ map (λ c. c.gives) ordered
unfolding computing
weeks_listed = refl

others_refused : map run mistyped ≡ map (λ c. c.gives) mistyped
unfolding computing
others_refused = refl
