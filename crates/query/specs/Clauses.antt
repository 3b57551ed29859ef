-- The conditions of a text by the numbers of what they name.
use Rattle.std.specs.Prelude.{List, replicate}
use Rattle.model.specs.Bytes.{Bytes}
use Rattle.model.specs.Choice.{pick}
use Rattle.model.specs.Names.{mem, place}
use Rattle.model.specs.Book.{Book, attr_names}
use Rattle.model.specs.Answers.{name_at}
use Rattle.model.specs.declared.Requirement.{Requirement}
use Rattle.model.specs.declared.Clause.{Clause}
use Rattle.model.specs.declared.Condition.{Condition}
use Rattle.model.specs.declared.Condition.TheVariants.{OfVertex, OfEdge}
use Rattle.query_pieces.specs.declared.Demand.{Demand}
use Rattle.model.specs.PlainData.{no_clause}
use Rattle.query.specs.declared.found.Found.{Found}

-- the conditions found
abbrev pub Clauses : Type 0
Clauses = Found Clause 32

-- a requirement by the number of its attribute among these names
abbrev pub requirement_in : List Bytes → Bytes → Demand → Requirement
requirement_in names s d = record { attribute = place (name_at s d.attribute) names; relation = d.relation; value = d.value }

-- a requirement of one of these vertices by number, or else of one of these edges
unfoldable pub demand_in : Book → Bytes → List Bytes → List Bytes → Demand → Condition
demand_in b s vs es d =
    let x = name_at s d.subject in
    pick (mem x vs) (OfVertex (place x vs) (requirement_in (attr_names b.vattrs) s d)) (OfEdge (place x es) (requirement_in (attr_names b.eattrs) s d))

-- no clause
abbrev pub no_clauses : Clauses
no_clauses = record { items = replicate 32 no_clause; count = 0 }
