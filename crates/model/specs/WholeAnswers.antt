-- Whole answers as plain data: every count, every place and every slot of a query's answer, computed from the texts.
use Rattle.std.specs.Prelude.{ℕ, ◌-◌, List, [], ◌∷◌, ◌++◌, length, drop, replicate, Ok, Err}
use Rattle.model.specs.Bytes.{Bytes}
use Rattle.model.specs.Names.{place}
use Rattle.model.specs.Values.{Value, int, str, bool}
use Rattle.model.specs.Refusal.{Outcome, accepted, refused}
use Rattle.model.specs.Book.{Book, attr_names}
use Rattle.model.specs.ReadBook.{read_book}
use Rattle.model.specs.QueryText.{Relation, eq, ne, lt, le, gt, ge}
use Rattle.model.specs.Pattern.{Pattern, Edge, Clause, excluded, vertex_has, edge_has}
use Rattle.model.specs.Service.{query_service}
use Rattle.model.specs.Answers.{book_of, refusal_data}
use Rattle.model.specs.PlainData.{no_part, no_edge, no_clause, no_pattern}
use Rattle.model.specs.Places.{vertex_parts, edge_parts, value_parts}
use Rattle.model.specs.declared.Relation.{Relation as RelationData}
use Rattle.model.specs.declared.Relation.TheVariants.{Equal, Differs, Less, AtMost, Greater, AtLeast}
use Rattle.model.specs.declared.Value.{Value as ValueData}
use Rattle.model.specs.declared.Value.TheVariants.{Number, Text, Truth}
use Rattle.model.specs.declared.Part.{Part}
use Rattle.model.specs.declared.Edge.{Edge as EdgeData}
use Rattle.model.specs.declared.Condition.{Condition as ConditionData}
use Rattle.model.specs.declared.Condition.TheVariants.{Excluded, OfVertex, OfEdge}
use Rattle.model.specs.declared.Clause.{Clause as ClauseData}
use Rattle.model.specs.declared.Pattern.{Pattern as PatternData}
use Rattle.model.specs.declared.QueryRead.{QueryRead}

-- an array of n slots: a list, and one fixed value in every slot behind it
unfoldable pub padded : {A : Type 0} → ℕ → A → List A → List A
padded n x xs = xs ++ replicate (n - length xs) x

-- the first of some parts, or the empty part
unfoldable pub first_part : List Part → Part
first_part [] = no_part
first_part (p ∷ ps) = p

-- a relation as data
unfoldable pub relation_data : Relation → RelationData
relation_data eq = Equal
relation_data ne = Differs
relation_data lt = Less
relation_data le = AtMost
relation_data gt = Greater
relation_data ge = AtLeast

-- a value as data, and the places of the text values behind it; a text value stands at the first of these places
unfoldable pub value_data : List Part → Value → ValueData
value_data ps (int n) = Number n
value_data ps (str t) = Text (first_part ps).start (first_part ps).length
value_data ps (bool t) = Truth t

unfoldable pub behind_value : List Part → Value → List Part
behind_value ps (int n) = ps
behind_value ps (str t) = drop 1 ps
behind_value ps (bool t) = ps

-- a condition as data, attributes by their numbers in the book, and the places of the text values behind it
unfoldable pub clause_data : Book → List Part → Clause → ConditionData
clause_data b ps (excluded u v) = Excluded u v
clause_data b ps (vertex_has v a r x) = OfVertex v (record { attribute = place a (attr_names b.vattrs); relation = relation_data r; value = value_data ps x })
clause_data b ps (edge_has e a r x) = OfEdge e (record { attribute = place a (attr_names b.eattrs); relation = relation_data r; value = value_data ps x })

unfoldable pub behind_clause : List Part → Clause → List Part
behind_clause ps (excluded u v) = ps
behind_clause ps (vertex_has v a r x) = behind_value ps x
behind_clause ps (edge_has e a r x) = behind_value ps x

-- the conditions as data, their text values at these places in order
unfoldable pub clauses_data : Book → List Part → List Clause → List ClauseData
clauses_data b ps [] = []
clauses_data b ps (c ∷ cs) = record { condition = clause_data b ps c } ∷ clauses_data b (behind_clause ps c) cs

-- an edge as data, its variable at a place, its label by its number in the book
unfoldable pub edge_data : Book → Part → Edge → EdgeData
edge_data b p e = record { name = p; label = place e.label b.labels; from = e.from; to = e.to }

-- the edges as data, their variables at these places in order
unfoldable pub edges_data : Book → List Part → List Edge → List EdgeData
edges_data b ps [] = []
edges_data b ps (e ∷ es) = edge_data b (first_part ps) e ∷ edges_data b (drop 1 ps) es

-- the pattern of a query as data
unfoldable pub query_data : Book → Bytes → Pattern → PatternData
query_data b s p = record {
  vertices = padded 8 no_part (vertex_parts s);
  edges = padded 16 no_edge (edges_data b (edge_parts s) p.edges);
  clauses = padded 32 no_clause (clauses_data b (value_parts s) p.clauses);
  returns = padded 4 0 p.returns;
  counts = record { vertices = length p.vertices; edges = length p.edges; clauses = length p.clauses; returns = length p.returns };
}

-- the whole answer about a query: its pattern as data, or a refusal beside the empty pattern
unfoldable pub query_outcome : Book → Bytes → Outcome Pattern → QueryRead
query_outcome b s (accepted p) = record { verdict = Ok tt; pattern = query_data b s p }
query_outcome b s (refused r) = record { verdict = Err (refusal_data r); pattern = no_pattern }

-- what the query reader answers: by so many words of working memory, a book and a query
unfoldable pub query_read : ℕ → Bytes → Bytes → QueryRead
query_read work book query = query_outcome (book_of (read_book book)) query (query_service work book query).answer
