-- Which relations and values suit an attribute's type.
use Rattle.std.specs.Prelude.{Bool, ◌&&◌}
use Rattle.model.specs.Values.{Kind, Value, of_kind}
use Rattle.model.specs.QueryText.{Relation}
use Rattle.model.specs.ReadQuery.{has_relation}

-- a type has a relation and a value
unfoldable pub suits : Kind → Relation → Value → Bool
suits k r v = has_relation k r && of_kind k v
