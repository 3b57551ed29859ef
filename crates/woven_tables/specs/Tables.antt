-- The woven pattern in words: where each table stands, and what its words say. The texts are numbered: 0 is the query, the others are policies.
use Rattle.std.specs.Prelude.{ℕ, ◌+◌, ◌*◌, ◌/◌, ◌%◌, ◌<◌, ◌≤◌, List, [], ◌∷◌, length, get_or, eqb}
use Rattle.model.specs.Bytes.{Bytes}
use Rattle.model.specs.Choice.{pick, Maybe, nothing, just}
use Rattle.model.specs.Values.{Value, int, str, bool}
use Rattle.model.specs.Book.{Book, attr_names}
use Rattle.model.specs.QueryText.{Relation, eq, ne, lt, le, gt, ge}
use Rattle.model.specs.Pattern.{Edge, Clause, excluded, vertex_has, edge_has}
use Rattle.model.specs.Weave.{WovenVertex, actor, own, WovenPattern}
use Rattle.model.specs.Answers.{part_of}
use Rattle.book_tables.specs.Listed.{listed}
use Rattle.book_tables.specs.View.{name_in}
use Rattle.woven_tables.specs.declared.WovenCounts.{WovenCounts}

-- the first word of each table; that of the vertices begins at 0
abbrev pub edge_table : ℕ
edge_table = 24

abbrev pub edge_name_table : ℕ
edge_name_table = 72

abbrev pub clause_table : ℕ
clause_table = 120

abbrev pub return_table : ℕ
return_table = 408

abbrev pub identity_table : ℕ
identity_table = 412

-- the words of all tables, some of them spare
abbrev pub woven_words : ℕ
woven_words = 512

-- the word of a vertex without identity
abbrev pub no_node : ℕ
no_node = 4294967295

-- the actors of a category, as many names of the rules as are counted
unfoldable pub actors_at : Bytes → List ℕ → ℕ → List Bytes
actors_at rules words n = listed (λ i. name_in rules (get_or words i 0)) n

-- the text that names of the kth text stand in: the query, or the rules for a policy
unfoldable pub text_of : Bytes → Bytes → ℕ → Bytes
text_of query rules k = pick (eqb k 0) query rules

-- a name word is (k * 65536 + start) * 32 + length
unfoldable pub name_of : Bytes → Bytes → ℕ → Bytes
name_of query rules w = part_of (text_of query rules (w / 2097152)) (w / 32 % 65536) (w % 32)

-- it says a part of its text
abbrev pub NameInside : Bytes → Bytes → ℕ → Type 0
NameInside query rules w = w / 32 % 65536 + w % 32 ≤ length (text_of query rules (w / 2097152))

-- so do the names of the first n vertices, and those of the first n actors in the rules
abbrev pub VerticesInside : Bytes → Bytes → List ℕ → ℕ → Type 0
VerticesInside query rules words n = (i : ℕ) → i < n → NameInside query rules (get_or words i 0 / 2)

abbrev pub ActorsInside : Bytes → List ℕ → ℕ → Type 0
ActorsInside rules words n = (i : ℕ) → i < n → get_or words i 0 / 32 + get_or words i 0 % 32 ≤ length rules

-- a vertex word is twice a name word, and one more for an actor vertex; another is an own vertex of the text that its name stands in
unfoldable pub vertex_of_word : Bytes → Bytes → ℕ → WovenVertex
vertex_of_word query rules w = pick (eqb (w % 2) 1) (actor (name_of query rules (w / 2))) (own (w / 2 / 2097152) (name_of query rules (w / 2)))

-- an edge word is label * 65536 + from * 256 + to, and beside it stands the word of its name
unfoldable pub edge_at : Book → Bytes → Bytes → ℕ → ℕ → Edge
edge_at b query rules w name = record { name = name_of query rules name; label = get_or b.labels (w / 65536) []; from = w / 256 % 256; to = w % 256 }

-- the relations by number
unfoldable pub relation_at : ℕ → Relation
relation_at n = get_or (eq ∷ ne ∷ lt ∷ le ∷ gt ∷ ge ∷ []) n eq

-- a value in two words: 0, a whole number in two halves; 1, the start and the length of a text; 2, a truth value
unfoldable pub value_at : Bytes → ℕ → ℕ → ℕ → Value
value_at text kind high low = pick (eqb kind 0) (int (high * 4294967296 + low)) (pick (eqb kind 1) (str (part_of text high low)) (bool (eqb low 1)))

-- a clause in three words; the first is (((k * 64 + owner) * 32 + attribute) * 8 + relation) * 16 + value kind * 4 + kind; kinds are 0, an exclusion of
-- the second word from the third; 1, a requirement of a vertex; 2, of an edge
unfoldable pub clause_at : Book → Bytes → Bytes → ℕ → ℕ → ℕ → Clause
clause_at b query rules w high low =
    let owner = w / 4096 % 64 in
    let attribute = w / 128 % 32 in
    let relation = relation_at (w / 16 % 8) in
    let value = value_at (text_of query rules (w / 262144)) (w / 4 % 4) high low in
    pick (eqb (w % 4) 0) (excluded high low)
    (pick (eqb (w % 4) 1) (vertex_has owner (get_or (attr_names b.vattrs) attribute []) relation value)
    (edge_has owner (get_or (attr_names b.eattrs) attribute []) relation value))

-- the woven vertices
unfoldable pub vertices_at : Bytes → Bytes → List ℕ → ℕ → List WovenVertex
vertices_at query rules words n = listed (λ i. vertex_of_word query rules (get_or words i 0)) n

-- the woven edges
unfoldable pub edges_at : Book → Bytes → Bytes → List ℕ → ℕ → List Edge
edges_at b query rules words n = listed (λ i. edge_at b query rules (get_or words (edge_table + i) 0) (get_or words (edge_name_table + i) 0)) n

-- the exclusions and requirements in their order
unfoldable pub clauses_at : Book → Bytes → Bytes → List ℕ → ℕ → List Clause
clauses_at b query rules words n = listed
    (λ i. clause_at b query rules (get_or words (clause_table + 3 * i) 0) (get_or words (clause_table + 3 * i + 1) 0) (get_or words (clause_table + 3 * i + 2) 0)) n

-- the Return vertices
unfoldable pub returns_at : List ℕ → ℕ → List ℕ
returns_at words n = listed (λ i. get_or words (return_table + i) 0) n

-- the woven pattern that words hold
unfoldable pub woven_at : Book → Bytes → Bytes → List ℕ → WovenCounts → WovenPattern
woven_at b query rules words c = record {
  vertices = vertices_at query rules words c.vertices;
  edges = edges_at b query rules words c.edges;
  clauses = clauses_at b query rules words (c.exclusions + c.requirements);
  returns = returns_at words c.returns;
}

-- the node that an identity word says
unfoldable pub node_in : ℕ → Maybe ℕ
node_in w = pick (eqb w no_node) nothing (just w)

-- the node of a vertex that has an identity
unfoldable pub identity_at : List ℕ → ℕ → Maybe ℕ
identity_at words v = node_in (get_or words (identity_table + v) 0)
