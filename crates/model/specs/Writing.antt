-- The text that the query writer gives for a pattern.
use Rattle.std.specs.Prelude.{ℕ, zero, suc, ◌+◌, ◌-◌, ◌^◌, ◌/◌, ◌%◌, List, [], ◌∷◌, ◌++◌, map, true, false, get_or, leb, ltb}
use Rattle.model.specs.Bytes.{Bytes, bytes_of}
use Rattle.model.specs.Choice.{pick}
use Rattle.model.specs.Lists.{is_nil}
use Rattle.model.specs.Names.{Name}
use Rattle.model.specs.Values.{Value, int, str, bool}
use Rattle.model.specs.QueryText.{Relation, eq, ne, lt, le, gt, ge}
use Rattle.model.specs.Pattern.{Edge, Clause, excluded, vertex_has, edge_has, Pattern}

-- texts, each behind a text
unfoldable pub each_behind : Bytes → List Bytes → Bytes
each_behind sep [] = []
each_behind sep (t ∷ ts) = sep ++ t ++ each_behind sep ts

-- texts with a text between them
unfoldable pub join_by : Bytes → List Bytes → Bytes
join_by sep [] = []
join_by sep (t ∷ ts) = t ++ each_behind sep ts

-- the decimal digits of n, at most k of them
unfoldable pub digits : ℕ → ℕ → Bytes
digits zero n = []
digits (suc k) n = let front = digits k (n / 10) in pick (ltb n 10) ((48 + n) ∷ []) (front ++ ((48 + n % 10) ∷ []))

-- z + 2^63 written as z
unfoldable pub whole_text : ℕ → Bytes
whole_text n = pick (leb (2 ^ 63) n) (digits 20 (n - 2 ^ 63)) (45 ∷ digits 20 (2 ^ 63 - n))

-- a value as it is written
unfoldable pub value_text : Value → Bytes
value_text (int n) = whole_text n
value_text (str t) = 39 ∷ t ++ (39 ∷ [])
value_text (bool true) = bytes_of "true"
value_text (bool false) = bytes_of "false"

-- a relation as it is written
unfoldable pub relation_text : Relation → Bytes
relation_text eq = bytes_of "="
relation_text ne = bytes_of "<>"
relation_text lt = bytes_of "<"
relation_text le = bytes_of "<="
relation_text gt = bytes_of ">"
relation_text ge = bytes_of ">="

-- the name of a vertex, by number
unfoldable pub vertex_name : Pattern → ℕ → Name
vertex_name p v = get_or p.vertices v []

-- the name of an edge, by number
unfoldable pub edge_name : Pattern → ℕ → Name
edge_name p e = get_or (map (λ x. x.name) p.edges) e []

-- x.attr REL value
unfoldable pub demand_text : Name → Name → Relation → Value → Bytes
demand_text x a r v = x ++ bytes_of "." ++ a ++ bytes_of " " ++ relation_text r ++ bytes_of " " ++ value_text v

-- a condition as it is written
unfoldable pub clause_text : Pattern → Clause → Bytes
clause_text p (excluded v u) = vertex_name p v ++ bytes_of " <> " ++ vertex_name p u
clause_text p (vertex_has v a r x) = demand_text (vertex_name p v) a r x
clause_text p (edge_has e a r x) = demand_text (edge_name p e) a r x

-- Match (u)-[e:label]->(v)
unfoldable pub edge_text : Pattern → Edge → Bytes
edge_text p e =
    bytes_of "Match (" ++ vertex_name p e.from ++ bytes_of ")-[" ++ e.name ++ bytes_of ":" ++ e.label ++ bytes_of "]->(" ++ vertex_name p e.to ++ bytes_of ")"

-- one Match per vertex, one per edge, the conditions, Return
unfoldable pub written_query : Pattern → Bytes
written_query p =
    join_by (bytes_of " ") (map (λ v. bytes_of "Match (" ++ v ++ bytes_of ")") p.vertices ++ map (edge_text p) p.edges)
    ++ pick (is_nil p.clauses) [] (bytes_of " Where " ++ join_by (bytes_of " AND ") (map (clause_text p) p.clauses))
    ++ bytes_of " Return " ++ join_by (bytes_of ", ") (map (vertex_name p) p.returns)
