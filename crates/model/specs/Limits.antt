-- How much fits: a name for each limit of document 01, with its words. The constants of src/limits.rt have the same values.
use Rattle.std.specs.Prelude.{ℕ, ◌-◌, ◌^◌}

-- "Word: .. 1 to 24 bytes"
abbrev pub max_word_bytes : ℕ
max_word_bytes = 24

-- "Text value: between apostrophes, 0 to 40 bytes"
abbrev pub max_text_bytes : ℕ
max_text_bytes = 40

-- "Book 65,536 bytes"
abbrev pub max_book_bytes : ℕ
max_book_bytes = 65536

-- "at most 256 nodes"
abbrev pub max_nodes : ℕ
max_nodes = 256

-- "1,024 relationships"
abbrev pub max_relationships : ℕ
max_relationships = 1024

-- "2,048 attribute entries", of nodes and relationships together
abbrev pub max_entries : ℕ
max_entries = 2048

-- "32 names each of vattr, eattr and label"
abbrev pub max_declared : ℕ
max_declared = 32

-- "Rules 16,384 bytes"
abbrev pub max_rules_bytes : ℕ
max_rules_bytes = 16384

-- "16 categories"
abbrev pub max_categories : ℕ
max_categories = 16

-- "8 actors each"
abbrev pub max_actors : ℕ
max_actors = 8

-- "Query, policy text and request 2,048 bytes each": a query
abbrev pub max_query_bytes : ℕ
max_query_bytes = 2048

-- a policy text
abbrev pub max_policy_bytes : ℕ
max_policy_bytes = 2048

-- a request
abbrev pub max_request_bytes : ℕ
max_request_bytes = 2048

-- "A query or policy: 8 vertices"
abbrev pub max_vertices : ℕ
max_vertices = 8

-- "16 edges"
abbrev pub max_edges : ℕ
max_edges = 16

-- "16 exclusions"
abbrev pub max_exclusions : ℕ
max_exclusions = 16

-- "16 requirements", of vertices and edges together
abbrev pub max_requirements : ℕ
max_requirements = 16

-- "4 Return names"
abbrev pub max_returns : ℕ
max_returns = 4

-- "Woven: 24 vertices"
abbrev pub max_woven_vertices : ℕ
max_woven_vertices = 24

-- "48 of each other kind": edges, exclusions, requirements
abbrev pub max_woven_of_a_kind : ℕ
max_woven_of_a_kind = 48

-- "Working memory: 16,384 words of 32 bits"
abbrev pub whole_memory : ℕ
whole_memory = 16384

-- "All ones means "no node"": a row word of 32 bits, all ones
abbrev pub no_node : ℕ
no_node = 2 ^ 32 - 1
