-- The words that tell a pattern and identities: each thing is a row of words, the rows stand one after another, and words past the last row are 0.
use Rattle.std.specs.Prelude.{ℕ, ◌/◌, ◌%◌, List, [], ◌∷◌, get_or, leb}
use Rattle.model.specs.Choice.{pick}
use Rattle.model.specs.PlainData.{no_part, no_edge, no_clause}
use Rattle.model.specs.declared.Part.{Part}
use Rattle.model.specs.declared.Edge.{Edge}
use Rattle.model.specs.declared.Relation.{Relation}
use Rattle.model.specs.declared.Relation.TheVariants.{Equal, Differs, Less, AtMost, Greater, AtLeast}
use Rattle.model.specs.declared.Value.{Value}
use Rattle.model.specs.declared.Value.TheVariants.{Number, Text, Truth}
use Rattle.model.specs.declared.Requirement.{Requirement}
use Rattle.model.specs.declared.Condition.{Condition}
use Rattle.model.specs.declared.Condition.TheVariants.{Excluded, OfVertex, OfEdge}
use Rattle.model.specs.declared.Clause.{Clause}
use Rattle.model.specs.declared.Pattern.{Pattern}
use Rattle.model.specs.declared.Identity.{Identity}
use Rattle.model.specs.declared.RequestRead.{RequestRead}
use Rattle.book_tables.specs.Listed.{listed}

-- one word of so many rows of a width, or 0 past them
unfoldable pub row_word : ℕ → ℕ → (ℕ → List ℕ) → ℕ → ℕ
row_word width count row k = pick (leb count (k / width)) 0 (get_or (row (k / width)) (k % width) 0)

-- a vertex: start and length of its name in the query
abbrev pub vertex_row : Part → List ℕ
vertex_row p = p.start ∷ p.length ∷ []

-- an edge: start and length of its name, its label's number, the vertices it runs from and to
abbrev pub edge_row : Edge → List ℕ
edge_row e = e.name.start ∷ e.name.length ∷ e.label ∷ e.from ∷ e.to ∷ []

-- a relation: = <> < <= > >= are 1 to 6
unfoldable pub relation_word : Relation → ℕ
relation_word Equal = 1
relation_word Differs = 2
relation_word Less = 3
relation_word AtMost = 4
relation_word Greater = 5
relation_word AtLeast = 6

-- a value: 1 and z + 2^63 for the whole number z; 2, start and length of a text in the query; 3 and 1 or 0 for true or false
unfoldable pub value_row : Value → List ℕ
value_row (Number n) = 1 ∷ n ∷ 0 ∷ []
value_row (Text start size) = 2 ∷ start ∷ size ∷ []
value_row (Truth t) = 3 ∷ pick t 1 0 ∷ 0 ∷ []

-- a requirement of a vertex or an edge: which of the two, its number, the attribute's number, the relation, the value
unfoldable pub requirement_row : ℕ → ℕ → Requirement → List ℕ
requirement_row kind owner x = kind ∷ owner ∷ x.attribute ∷ relation_word x.relation ∷ value_row x.value

-- a condition: 1 and two vertices that differ, or 2 and a vertex's requirement, or 3 and an edge's
unfoldable pub condition_row : Condition → List ℕ
condition_row (Excluded u v) = 1 ∷ u ∷ v ∷ 0 ∷ 0 ∷ 0 ∷ 0 ∷ []
condition_row (OfVertex v x) = requirement_row 2 v x
condition_row (OfEdge e x) = requirement_row 3 e x

-- an identity: start and length of its actor's name in the request, its node's number
abbrev pub identity_row : Identity → List ℕ
identity_row i = i.actor.start ∷ i.actor.length ∷ i.node ∷ []

-- what stands past the end of the identities
abbrev pub no_identity : Identity
no_identity = record { actor = no_part; node = 0 }

-- one of the words of so many vertices, edges, conditions, Return names, identities
unfoldable pub vertex_word : List Part → ℕ → ℕ → ℕ
vertex_word vs count k = row_word 2 count (λ i. vertex_row (get_or vs i no_part)) k

unfoldable pub edge_word : List Edge → ℕ → ℕ → ℕ
edge_word es count k = row_word 5 count (λ i. edge_row (get_or es i no_edge)) k

unfoldable pub condition_word : List Clause → ℕ → ℕ → ℕ
condition_word cs count k = row_word 7 count (λ i. condition_row (get_or cs i no_clause).condition) k

unfoldable pub return_word : List ℕ → ℕ → ℕ → ℕ
return_word rs count k = pick (leb count k) 0 (get_or rs k 0)

unfoldable pub identity_word : List Identity → ℕ → ℕ → ℕ
identity_word is count k = row_word 3 count (λ i. identity_row (get_or is i no_identity)) k

-- all words of a pattern's vertices, of which there are at most 8, its edges, 16, its conditions, 32, its Return names, 4
unfoldable pub vertex_words : Pattern → List ℕ
vertex_words p = listed (vertex_word p.vertices p.counts.vertices) 16

unfoldable pub edge_words : Pattern → List ℕ
edge_words p = listed (edge_word p.edges p.counts.edges) 80

unfoldable pub condition_words : Pattern → List ℕ
condition_words p = listed (condition_word p.clauses p.counts.clauses) 224

unfoldable pub return_words : Pattern → List ℕ
return_words p = listed (return_word p.returns p.counts.returns) 4

-- all words of a request's identities, of which there are at most 8
unfoldable pub identity_words : RequestRead → List ℕ
identity_words q = listed (identity_word q.identities q.count) 24
