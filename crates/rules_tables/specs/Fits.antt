-- What is true of the words whenever they hold rules: everything counted stands inside its table, points inside the text, and the lower sets are whole.
use Rattle.std.specs.Prelude.{ℕ, ◌+◌, ◌≤◌, ◌<◌, ◌≡◌, List, Bool, ◌||◌, length, eqb}
use Rattle.bits.specs.Word.{bit}
use Rattle.model.specs.Bytes.{Bytes}
use Rattle.model.specs.Choice.{just}
use Rattle.model.specs.Lists.{any}
use Rattle.model.specs.Names.{place}
use Rattle.model.specs.Grammar.{query_text}
use Rattle.model.specs.Rules.{Rules}
use Rattle.book_tables.specs.View.{word_at, name_of, names_at}
use Rattle.book_tables.specs.Fits.{Inside, NamesFit}
use Rattle.rules_tables.specs.declared.RulesCounts.{RulesCounts}
use Rattle.rules_tables.specs.Layout.{names, actor_count_at, over_count_at, actors_from, over_from, policy_at, all_rules_words}
use Rattle.rules_tables.specs.View.{over_at, lower_set, policy_category, policy_text, tree_of, rules_at}

-- the number of a category among the k first
abbrev pub rank : Bytes → List ℕ → ℕ → Bytes → ℕ
rank text words k w = place w (names_at text words names k)

-- m is in the set of some category that a list names, these being among the k first
abbrev pub below_some : Bytes → List ℕ → ℕ → ℕ → List Bytes → Bool
below_some text words k m over = any (λ o. bit (lower_set words (rank text words k o)) m) over

-- category k: its lists stand inside the text, it is over earlier ones only, and its lower set has itself and what is in theirs
pub record CategoryFits (text : Bytes) (words : List ℕ) (k : ℕ) : Type 0 where
  pub few_actors : word_at words (actor_count_at k) ≤ 8
  pub few_over : word_at words (over_count_at k) ≤ 16
  pub actors : NamesFit text words (actors_from k) (word_at words (actor_count_at k))
  pub over : NamesFit text words (over_from k) (word_at words (over_count_at k))
  pub earlier : (i : ℕ) → i < word_at words (over_count_at k) → rank text words k (name_of text words (over_from k) i) < k
  pub lower : (m : ℕ) → bit (lower_set words k) m ≡ (eqb m k || below_some text words k m (over_at text words k))

-- policy i is that of a category counted, and its text is a query inside the rules' text
pub record PolicyFits (text : Bytes) (words : List ℕ) (categories i : ℕ) : Type 0 where
  pub counted : policy_category words i < categories
  pub inside : Inside text (word_at words (policy_at i + 1)) (word_at words (policy_at i + 2))
  pub is_query : query_text (policy_text text words i) ≡ just (tree_of (policy_text text words i))

pub record Fits (text : Bytes) (words : List ℕ) (c : RulesCounts) : Type 0 where
  pub room : all_rules_words ≤ length words
  pub few : c.categories ≤ 16
  pub few_policies : c.policies ≤ c.categories
  pub named : NamesFit text words names c.categories
  pub each : (k : ℕ) → k < c.categories → CategoryFits text words k
  pub policies : (i : ℕ) → i < c.policies → PolicyFits text words c.categories i
  pub one_each : (i j : ℕ) → i < c.policies → j < c.policies → policy_category words i ≡ policy_category words j → i ≡ j

-- the words hold rules
pub record Holds (text : Bytes) (words : List ℕ) (c : RulesCounts) (r : Rules) : Type 0 where
  pub fits : Fits text words c
  pub is : rules_at text words c ≡ r

-- there is room for all that is counted
pub record Within (words : List ℕ) (c : RulesCounts) : Type 0 where
  pub room : all_rules_words ≤ length words
  pub few : c.categories ≤ 16
  pub few_policies : c.policies ≤ 16

-- what the lower set of category k asks, which is over as many earlier ones as are given
pub record LowerAsked (text : Bytes) (words : List ℕ) (k over : ℕ) : Type 0 where
  pub room : all_rules_words ≤ length words
  pub few : k < 16
  pub few_over : over ≤ 16
  pub named : NamesFit text words names k
  pub listed : NamesFit text words (over_from k) over
  pub earlier : (i : ℕ) → i < over → rank text words k (name_of text words (over_from k) i) < k
