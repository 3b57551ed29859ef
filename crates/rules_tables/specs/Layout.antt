-- Where each table of the rules stands in the words; the numbers are those of the constants in src.
use Rattle.std.specs.Prelude.{ℕ, ◌+◌, ◌*◌}

-- 16 names of categories
abbrev pub names : ℕ
names = 0

-- the words of category k: 27 for each
abbrev pub slot : ℕ → ℕ
slot k = 16 + 27 * k

-- in them: how many actors, over how many, the lower set, the actors' names, the names of those it is over
abbrev pub actor_count_at : ℕ → ℕ
actor_count_at k = slot k

abbrev pub over_count_at : ℕ → ℕ
over_count_at k = slot k + 1

abbrev pub lower_at : ℕ → ℕ
lower_at k = slot k + 2

abbrev pub actors_from : ℕ → ℕ
actors_from k = slot k + 3

abbrev pub over_from : ℕ → ℕ
over_from k = slot k + 11

-- the words of policy i: its category's number, start and length of its text
abbrev pub policy_at : ℕ → ℕ
policy_at i = 448 + 3 * i

-- all tables together
abbrev pub all_rules_words : ℕ
all_rules_words = 512
