-- Words that are not counted, and memories that agree on all that is.
use Rattle.std.specs.Prelude.{ℕ, ◌+◌, ◌*◌, ◌<◌, ◌≢◌, ◌≡◌, List, length}
use Rattle.book_tables.specs.Agree.{At}
use Rattle.rules_tables.specs.declared.RulesCounts.{RulesCounts}
use Rattle.rules_tables.specs.Layout.{names}

-- a place is that of no word counted
pub record Free (c : RulesCounts) (p : ℕ) : Type 0 where
  pub named : (k : ℕ) → k < c.categories → names + k ≢ p
  pub categories : (x : ℕ) → x < 27 * c.categories → 16 + x ≢ p
  pub policies : (x : ℕ) → x < 3 * c.policies → 448 + x ≢ p

-- all words counted are the same in two memories
pub record Agree (c : RulesCounts) (words words' : List ℕ) : Type 0 where
  pub size : length words' ≡ length words
  pub named : (k : ℕ) → k < c.categories → At words words' (names + k)
  pub categories : (x : ℕ) → x < 27 * c.categories → At words words' (16 + x)
  pub policies : (x : ℕ) → x < 3 * c.policies → At words words' (448 + x)
