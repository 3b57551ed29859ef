-- Whole answers of the query reader, computed: the worked example, a text whose values look like variables, refusals.
use Prim.Native.Nat.{ℕ}
use Prim.Native.String.{String}
use mathlib.Core.Path.{◌≡◌, refl}
use mathlib.Core.List.{[], ◌∷◌}
use Rattle.std.specs.Prelude.{Ok, Err}
use Rattle.model.specs.Bytes.{bytes_of}
use Rattle.model.specs.PlainData.{no_part, no_edge, no_clause, no_pattern}
use Rattle.model.specs.WholeAnswers.{padded, query_read}
use Rattle.model.specs.Computing.{computing}
use Rattle.model.specs.declared.Relation.{Relation}
use Rattle.model.specs.declared.Relation.TheVariants.{Equal, Differs, Less}
use Rattle.model.specs.declared.Value.{Value}
use Rattle.model.specs.declared.Value.TheVariants.{Number, Text}
use Rattle.model.specs.declared.Part.{Part}
use Rattle.model.specs.declared.Edge.{Edge}
use Rattle.model.specs.declared.Condition.TheVariants.{Excluded, OfVertex}
use Rattle.model.specs.declared.Clause.{Clause}
use Rattle.model.specs.declared.Pattern.{Pattern}
use Rattle.model.specs.declared.QueryRead.{QueryRead}
use Rattle.model.proofs.Example.{book, query}

-- a part by its start and its length
abbrev part : ℕ → ℕ → Part
part start length = record { start = start; length = length }

-- an edge by the place of its variable of one byte, its label, its ends
abbrev edge : ℕ → ℕ → ℕ → ℕ → Edge
edge at label from to = record { name = part at 1; label = label; from = from; to = to }

-- a vertex that has an attribute in a relation to a value
abbrev has : ℕ → ℕ → Relation → Value → Clause
has v attribute relation value = record { condition = OfVertex v (record { attribute = attribute; relation = relation; value = value }) }

-- an answer that is a pattern
abbrev gives : Pattern → QueryRead
gives p = record { verdict = Ok tt; pattern = p }

-- an answer that is a refusal
abbrev refuses : ℕ → ℕ → ℕ → QueryRead
refuses number text line = record { verdict = Err (record { number = number; text = text; line = line }); pattern = no_pattern }

-- the worked example: each name at its first place, 50 kept as 2^63 + 50
worked_example : query_read 16384 (bytes_of book) (bytes_of query) ≡ gives (record {
  vertices = padded 8 no_part (part 7 9 ∷ part 29 1 ∷ part 44 1 ∷ []);
  edges = padded 16 no_edge (edge 19 0 0 1 ∷ edge 34 1 2 1 ∷ []);
  clauses = padded 32 no_clause (has 2 1 Less (Number 9223372036854775858) ∷ []);
  returns = padded 4 0 (2 ∷ []);
  counts = record { vertices = 3; edges = 2; clauses = 1; returns = 1 };
})
unfolding computing
worked_example = refl

-- h stands twice in the chains, and `(h` in a text value; another text value is empty
abbrev values : String
values = "Match (h)-[a:runs]->(s)<-[b:feeds]-(h) Where h.kind = '(h' AND h <> s AND s.kind <> '' AND s.kind = 'hub' Return s, h"

values_example : query_read 16384 (bytes_of book) (bytes_of values) ≡ gives (record {
  vertices = padded 8 no_part (part 7 1 ∷ part 21 1 ∷ []);
  edges = padded 16 no_edge (edge 11 0 0 1 ∷ edge 26 1 0 1 ∷ []);
  clauses = padded 32 no_clause (has 0 0 Equal (Text 55 2) ∷ record { condition = Excluded 0 1 } ∷ has 1 0 Differs (Text 85 0) ∷ has 1 0 Equal
      (Text 101 3) ∷ []);
  returns = padded 4 0 (1 ∷ 0 ∷ []);
  counts = record { vertices = 2; edges = 2; clauses = 4; returns = 2 };
})
unfolding computing
values_example = refl

-- beside a refusal stands the empty pattern: of the query, of the memory
query_refused : query_read 16384 (bytes_of book) (bytes_of "Match (h) Return s") ≡ refuses 4 3 1
unfolding computing
query_refused = refl

memory_refused : query_read 0 (bytes_of book) (bytes_of query) ≡ refuses 15 0 0
unfolding computing
memory_refused = refl
