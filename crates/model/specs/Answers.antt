-- What each case of an answer's data says, in document 01's numbers and values. Promises about answers use these definitions.
use Rattle.std.specs.Prelude.{ℕ, Bool, [], map, get_or, take, drop, Result, Ok, Err, ⊤}
use Rattle.model.specs.Bytes.{Bytes}
use Rattle.model.specs.Names.{Name}
use Rattle.model.specs.Values.{Value, int, str, bool}
use Rattle.model.specs.Refusal.{Refusal, Outcome, accepted, refused}
use Rattle.model.specs.Book.{Book, empty_book, attr_names}
use Rattle.model.specs.QueryText.{Relation, eq, ne, lt, le, gt, ge}
use Rattle.model.specs.Pattern.{Pattern, Edge, Clause, excluded, vertex_has, edge_has}
use Rattle.model.specs.Request.{Identity}
use Rattle.model.specs.Service.{BookAnswer, RulesAnswer, RequestAnswer, ListAnswer}
use Rattle.model.specs.declared.Refusal.{Refusal as RefusalData}
use Rattle.model.specs.declared.Relation.{Relation as RelationData}
use Rattle.model.specs.declared.Relation.TheVariants.{Equal, Differs, Less, AtMost, Greater, AtLeast}
use Rattle.model.specs.declared.Value.{Value as ValueData}
use Rattle.model.specs.declared.Value.TheVariants.{Number, Text, Truth}
use Rattle.model.specs.declared.Part.{Part}
use Rattle.model.specs.declared.Edge.{Edge as EdgeData}
use Rattle.model.specs.declared.Condition.{Condition as ConditionData}
use Rattle.model.specs.declared.Condition.TheVariants.{Excluded, OfVertex, OfEdge}
use Rattle.model.specs.declared.Pattern.{Pattern as PatternData}
use Rattle.model.specs.declared.Identity.{Identity as IdentityData}
use Rattle.model.specs.declared.BookSize.{BookSize}
use Rattle.model.specs.declared.RulesSize.{RulesSize}
use Rattle.model.specs.declared.RowsSize.{RowsSize}
use Rattle.model.specs.declared.QueryRead.{QueryRead}
use Rattle.model.specs.declared.RequestRead.{RequestRead}

-- a refusal's three numbers
unfoldable pub refusal_of : RefusalData → Refusal
refusal_of r = record { number = r.number; text = r.text; line = r.line }

-- a refusal as data
unfoldable pub refusal_data : Refusal → RefusalData
refusal_data r = record { number = r.number; text = r.text; line = r.line }

-- what the book reader answers
unfoldable pub book_answer : Result BookSize RefusalData → Outcome BookAnswer
book_answer (Ok b) = accepted (record { nodes = b.nodes; rels = b.relationships; entries = b.entries })
book_answer (Err r) = refused (refusal_of r)

-- what the rules reader answers
unfoldable pub rules_answer : Result RulesSize RefusalData → Outcome RulesAnswer
rules_answer (Ok s) = accepted (record { categories = s.categories; policies = s.policies })
rules_answer (Err r) = refused (refusal_of r)

-- the part of a text that starts at a place and has a length
unfoldable pub part_of : Bytes → ℕ → ℕ → Bytes
part_of text start length = take length (drop start text)

-- the name that stands at a place of a text
unfoldable pub name_at : Bytes → Part → Name
name_at text p = part_of text p.start p.length

-- the relation that each case is
unfoldable pub relation_of : RelationData → Relation
relation_of Equal = eq
relation_of Differs = ne
relation_of Less = lt
relation_of AtMost = le
relation_of Greater = gt
relation_of AtLeast = ge

-- the value that each case is, its text standing in a text
unfoldable pub value_of : Bytes → ValueData → Value
value_of text (Number n) = int n
value_of text (Text start length) = str (part_of text start length)
value_of text (Truth t) = bool t

-- an edge by names, labels being numbered in the order of the book
unfoldable pub edge_in : Book → Bytes → EdgeData → Edge
edge_in b text e = record { name = name_at text e.name; label = get_or b.labels e.label []; from = e.from; to = e.to }

-- a condition by names, attributes being numbered in the order of the book
unfoldable pub clause_in : Book → Bytes → ConditionData → Clause
clause_in b text (Excluded u v) = excluded u v
clause_in b text (OfVertex v x) = vertex_has v (get_or (attr_names b.vattrs) x.attribute []) (relation_of x.relation) (value_of text x.value)
clause_in b text (OfEdge e x) = edge_has e (get_or (attr_names b.eattrs) x.attribute []) (relation_of x.relation) (value_of text x.value)

-- a pattern by names: as many of each array as the counts say
unfoldable pub pattern_in : Book → Bytes → PatternData → Pattern
pattern_in b text p = record {
  vertices = map (name_at text) (take p.counts.vertices p.vertices);
  edges = map (edge_in b text) (take p.counts.edges p.edges);
  clauses = map (λ c. clause_in b text c.condition) (take p.counts.clauses p.clauses);
  returns = take p.counts.returns p.returns;
}

-- accepted with a value, or refused
unfoldable pub verdict_of : {A : Type 0} → Result ⊤ RefusalData → A → Outcome A
verdict_of (Ok u) a = accepted a
verdict_of (Err r) a = refused (refusal_of r)

-- what the query reader answers about a text, for an accepted book
unfoldable pub query_answer : Book → Bytes → QueryRead → Outcome Pattern
query_answer b text r = verdict_of r.verdict (pattern_in b text r.pattern)

-- an identity, its actor standing in the request
unfoldable pub identity_in : Bytes → IdentityData → Identity
identity_in text i = record { actor = name_at text i.actor; node = i.node }

-- what the request reader answers about a text
unfoldable pub request_answer : Bytes → RequestRead → Outcome RequestAnswer
request_answer text r = verdict_of r.verdict (record { category = r.category; identities = map (identity_in text) (take r.count r.identities) })

-- what a writer of a text answers
unfoldable pub writer_answer : Result ℕ RefusalData → Outcome ℕ
writer_answer (Ok n) = accepted n
writer_answer (Err r) = refused (refusal_of r)

-- what a list answers
unfoldable pub list_answer : Result RowsSize RefusalData → Outcome ListAnswer
list_answer (Ok s) = accepted (record { rows = s.rows; width = s.width })
list_answer (Err r) = refused (refusal_of r)

-- what the lamp answers
unfoldable pub lamp_answer : Result Bool RefusalData → Outcome Bool
lamp_answer (Ok shown) = accepted shown
lamp_answer (Err r) = refused (refusal_of r)

-- the book that a text is, or an empty one where it is refused
unfoldable pub book_of : Outcome Book → Book
book_of (accepted b) = b
book_of (refused r) = empty_book
