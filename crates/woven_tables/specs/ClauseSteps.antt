-- What weaving a text's exclusions and requirements does to the words.
use Rattle.std.specs.Prelude.{ℕ, ◌+◌, ◌/◌, ◌%◌, ◌<◌, ◌≤◌, ◌≡◌, List, ◌++◌, map, length, get_or, take, drop}
use Rattle.model.specs.Bytes.{Bytes}
use Rattle.model.specs.Lists.{keep}
use Rattle.model.specs.Book.{Book}
use Rattle.model.specs.Pattern.{Clause, excluded, vertex_has, edge_has}
use Rattle.model.specs.Weave.{is_excluded}
use Rattle.model.specs.Answers.{relation_of, value_of, clause_in}
use Rattle.model.specs.declared.Value.{Value}
use Rattle.model.specs.declared.Requirement.{Requirement}
use Rattle.model.specs.declared.Condition.{Condition}
use Rattle.model.specs.declared.Condition.TheVariants.{Excluded, OfVertex, OfEdge}
use Rattle.model.specs.declared.Clause.{Clause as ClauseData}
use Rattle.woven_tables.specs.declared.clauses.ClauseValue.{ClauseValue}
use Rattle.woven_tables.specs.declared.clauses.ClauseWords.{ClauseWords}
use Rattle.woven_tables.specs.Tables.{text_of, relation_at, value_at, clause_at, clauses_at}
use Rattle.model.specs.PlainData.{no_clause, RequirementFits, ValueWithin, ConditionWithin}
use Rattle.woven_tables.specs.Steps.{KeptOutside}
use Rattle.woven_tables.specs.Reading.{ClauseInside, ClausesInside}

-- words say a value whose text stands from a base on
pub record ValueSaid (base : ℕ) (value : Value) (out : ClauseValue) : Type 0 where
  pub kind : out.kind < 3
  pub said : (text : Bytes) → value_at text out.kind out.high out.low ≡ value_of (drop base text) value
  pub inside : (size : ℕ) → ValueWithin size value → out.kind ≡ 1 → out.high + out.low ≤ base + size

-- the parts of a requirement's words
pub record RequirementSaid (k base kind owner : ℕ) (x : Requirement) (out : ClauseWords) : Type 0 where
  pub its_kind : out.what % 4 ≡ kind
  pub value : (text : Bytes) → value_at text (out.what / 4 % 4) out.high out.low ≡ value_of (drop base text) x.value
  pub relation : relation_at (out.what / 16 % 8) ≡ relation_of x.relation
  pub attribute : out.what / 128 % 32 ≡ x.attribute
  pub its_owner : out.what / 4096 % 64 ≡ owner
  pub text_number : out.what / 262144 ≡ k
  pub inside : (size : ℕ) → ValueWithin size x.value → out.what / 4 % 4 ≡ 1 → out.high + out.low ≤ base + size

-- what is asked of a condition of a text, its vertices having these numbers, and so many edges standing before its own
abbrev pub ConditionReady : ℕ → List ℕ → ℕ → Condition → Type 0
ConditionReady base numbers before (Excluded u v) = (u < 8) × (v < 8) × (get_or numbers u 0 < 24) × (get_or numbers v 0 < 24)
ConditionReady base numbers before (OfVertex v x) = (v < 8) × (get_or numbers v 0 < 24) × RequirementFits base x
ConditionReady base numbers before (OfEdge e x) = (before + e < 48) × RequirementFits base x

-- a clause with new numbers for its vertices and its edge
unfoldable pub renumbered_clause : List ℕ → ℕ → Clause → Clause
renumbered_clause numbers before (excluded u v) = excluded (get_or numbers u 0) (get_or numbers v 0)
renumbered_clause numbers before (vertex_has v a r x) = vertex_has (get_or numbers v 0) a r x
renumbered_clause numbers before (edge_has e a r x) = edge_has (before + e) a r x

-- words say a condition, and its text value ends inside the text, where that of the condition does
pub record ClauseSaid (k base : ℕ) (numbers : List ℕ) (before : ℕ) (condition : Condition) (out : ClauseWords) : Type 0 where
  pub is : (b : Book) (query rules : Bytes) → clause_at b query rules out.what out.high out.low
      ≡ renumbered_clause numbers before (clause_in b (drop base (text_of query rules k)) condition)
  pub inside : (query rules : Bytes) (size : ℕ) → base + size ≤ length (text_of query rules k) → ConditionWithin size condition
      → ClauseInside query rules out.what out.high out.low

-- the condition of a clause, by names
abbrev pub named_clause : Book → Bytes → ClauseData → Clause
named_clause b text c = clause_in b text c.condition

-- what is asked of the clauses of a text: there is room for them
pub record ClausesReady (base k : ℕ) (clauses : List ClauseData) (count : ℕ) (numbers : List ℕ) (before woven : ℕ) : Type 0 where
  pub few_texts : k < 32
  pub few : count ≤ 32
  pub room : woven + count ≤ 96
  pub fit : (i : ℕ) → i < count → ConditionReady base numbers before (get_or clauses i no_clause).condition

-- the clauses of a text are woven; their text values end inside it, where they did before they were woven
pub record ClausesAdded (base k : ℕ) (clauses : List ClauseData) (count : ℕ) (numbers : List ℕ) (before : ℕ) (old new : List ℕ) (woven : ℕ) : Type 0 where
  pub clauses_are : (b : Book) (query rules : Bytes) → clauses_at b query rules new (woven + count)
      ≡ clauses_at b query rules old woven ++ map (renumbered_clause numbers before) (map (named_clause b (drop base (text_of query rules k))) (take count clauses))
  pub inside : (query rules : Bytes) (size : ℕ) → base + size ≤ length (text_of query rules k)
      → ((i : ℕ) → i < count → ConditionWithin size (get_or clauses i no_clause).condition) → ClausesInside query rules old woven
      → ClausesInside query rules new (woven + count)
  pub kept : KeptOutside 120 408 old new

-- 1 for an exclusion, 0 for a requirement
unfoldable pub one_if_excluded : Condition → ℕ
one_if_excluded (Excluded u v) = 1
one_if_excluded (OfVertex v x) = 0
one_if_excluded (OfEdge e x) = 0

-- so many of the first clauses are exclusions
pub record ExclusionsCounted (clauses : List ClauseData) (count out : ℕ) : Type 0 where
  pub some : out ≤ count
  pub all : length (take count clauses) ≡ count
  pub exactly : (b : Book) (text : Bytes) → length (keep is_excluded (map (named_clause b text) (take count clauses))) ≡ out
