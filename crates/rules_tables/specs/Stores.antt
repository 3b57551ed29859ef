-- The stores: the words, and the counts, with one thing more in a table.
use Rattle.std.specs.Prelude.{ℕ, ◌+◌, List, set}
use Rattle.rules_tables.specs.declared.RulesCounts.{RulesCounts}
use Rattle.rules_tables.specs.Layout.{names, actor_count_at, over_count_at, lower_at, policy_at}

-- one more of each in the counts
abbrev pub more_categories : RulesCounts → RulesCounts
more_categories c = record { categories = c.categories + 1; policies = c.policies }

abbrev pub more_policies : RulesCounts → RulesCounts
more_policies c = record { categories = c.categories; policies = c.policies + 1 }

-- category k: its name, how many actors and over how many, its lower set
unfoldable pub with_category : List ℕ → ℕ → ℕ → ℕ → ℕ → ℕ → List ℕ
with_category words k name actors over lower =
    set (set (set (set words (names + k) name) (actor_count_at k) actors) (over_count_at k) over) (lower_at k) lower

-- policy i: its category's number, start and length of its text
unfoldable pub with_policy : List ℕ → ℕ → ℕ → ℕ → ℕ → List ℕ
with_policy words i category start size = set (set (set words (policy_at i) category) (policy_at i + 1) start) (policy_at i + 2) size
