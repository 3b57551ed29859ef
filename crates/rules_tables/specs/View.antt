-- The view: what the words of the tables say of the rules, names and policies being parts of the rules' text.
use Rattle.std.specs.Prelude.{ℕ, ◌+◌, List, []}
use Rattle.bits.specs.Word.{bit}
use Rattle.model.specs.Bytes.{Bytes}
use Rattle.model.specs.Choice.{Maybe, nothing, just}
use Rattle.model.specs.QueryText.{QueryText}
use Rattle.model.specs.Grammar.{query_text}
use Rattle.model.specs.Rules.{Category, Policy, Rules}
use Rattle.model.specs.Answers.{part_of}
use Rattle.book_tables.specs.Listed.{listed}
use Rattle.book_tables.specs.View.{word_at, name_of, names_at}
use Rattle.rules_tables.specs.declared.RulesCounts.{RulesCounts}
use Rattle.rules_tables.specs.Layout.{names, actor_count_at, over_count_at, lower_at, actors_from, over_from, policy_at}

-- the actors of category k, and those that it is over
unfoldable pub actors_at : Bytes → List ℕ → ℕ → List Bytes
actors_at text words k = names_at text words (actors_from k) (word_at words (actor_count_at k))

unfoldable pub over_at : Bytes → List ℕ → ℕ → List Bytes
over_at text words k = names_at text words (over_from k) (word_at words (over_count_at k))

-- the set of category k and all it is over, directly or through others: a bit each
abbrev pub lower_set : List ℕ → ℕ → ℕ
lower_set words k = word_at words (lower_at k)

-- category k
unfoldable pub category_of : Bytes → List ℕ → ℕ → Category
category_of text words k = record { name = name_of text words names k; actors = actors_at text words k; over = over_at text words k }

-- the tree of a text that is a query
unfoldable pub tree_or : Maybe QueryText → QueryText
tree_or nothing = record { matches = []; returns = [] }
tree_or (just q) = q

unfoldable pub tree_of : Bytes → QueryText
tree_of t = tree_or (query_text t)

-- the category's number of policy i, and its text
abbrev pub policy_category : List ℕ → ℕ → ℕ
policy_category words i = word_at words (policy_at i)

unfoldable pub policy_text : Bytes → List ℕ → ℕ → Bytes
policy_text text words i = part_of text (word_at words (policy_at i + 1)) (word_at words (policy_at i + 2))

-- policy i
unfoldable pub policy_of : Bytes → List ℕ → ℕ → Policy
policy_of text words i = record { category = name_of text words names (policy_category words i); text = tree_of (policy_text text words i) }

-- the rules that the words hold
unfoldable pub rules_at : Bytes → List ℕ → RulesCounts → Rules
rules_at text words c = record {
  categories = listed (category_of text words) c.categories;
  policies = listed (policy_of text words) c.policies;
}
