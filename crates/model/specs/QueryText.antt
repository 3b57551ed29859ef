-- The syntax tree of a query or policy, as section 2.2 writes it: Match chains, Where conditions, Return.
use Rattle.std.specs.Prelude.{List}
use Rattle.model.specs.Names.{Name}
use Rattle.model.specs.Values.{Value}

-- = <> < <= > >=
pub data Relation : Type 0 where
  eq ne lt le gt ge : Relation

-- φ ::= (v) | (v)-[e:id]->φ | (v)<-[e:id]-φ
pub data Chain : Type 0 where
  end : Name → Chain
  right : Name → Name → Name → Chain → Chain
  left : Name → Name → Name → Chain → Chain

-- ψ: v <> u, or x.attr REL value, where x is a vertex or an edge variable
pub data Condition : Type 0 where
  differ : Name → Name → Condition
  demand : Name → Name → Relation → Value → Condition

-- Match φ Where ψ AND ψ ...
pub record Match : Type 0 where
  pub chain : Chain
  pub conditions : List Condition

-- Q: the Matches, then Return
pub record QueryText : Type 0 where
  pub matches : List Match
  pub returns : List Name
