-- What the readers of queries and requests answer, told by its counts and words.
use Rattle.std.specs.Prelude.{ℕ, ◌≡◌, List, Bool}
use Rattle.model.specs.declared.QueryRead.{QueryRead}
use Rattle.model.specs.declared.RequestRead.{RequestRead}
use Rattle.answer_words.specs.Words.{vertex_words, edge_words, condition_words, return_words, identity_words}
use Rattle.telling.specs.Told.{VerdictTold}

-- a query told by all that its reader answers
pub record QueryTold (q : QueryRead) (r : Bool) (x y z w : ℕ) (vs es cs rs : List ℕ) (n t l : ℕ) : Type 0 where
  pub told_as : VerdictTold q.verdict r n t l
  pub vertices : x ≡ q.pattern.counts.vertices
  pub edges : y ≡ q.pattern.counts.edges
  pub conditions : z ≡ q.pattern.counts.clauses
  pub returns : w ≡ q.pattern.counts.returns
  pub vertex_words : vs ≡ vertex_words q.pattern
  pub edge_words : es ≡ edge_words q.pattern
  pub condition_words : cs ≡ condition_words q.pattern
  pub return_words : rs ≡ return_words q.pattern

-- a request told by all that its reader answers
pub record RequestTold (q : RequestRead) (r : Bool) (x y : ℕ) (words : List ℕ) (n t l : ℕ) : Type 0 where
  pub told_as : VerdictTold q.verdict r n t l
  pub category : x ≡ q.category
  pub count : y ≡ q.count
  pub identities : words ≡ identity_words q
