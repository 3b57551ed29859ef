-- A walk along a chain of numbers.
use Rattle.std.specs.Prelude.{ℕ, suc, ◌+◌, ◌≤◌, ◌<◌, ◌≡◌, List, Option, Some, None, length}
use Rattle.chains.specs.Chains.{word_at}
use Rattle.chains.specs.declared.walk.Chain.{Chain}

-- the links of the numbers below one point downwards: each to a lower number, or nowhere
pub record Falls (words : List ℕ) (links below : ℕ) : Type 0 where
  pub room : (n : ℕ) → n < below → links + n < length words
  pub lower : (n : ℕ) → n < below → word_at words (links + n) ≤ n

-- a walk over these words stands at an entry
pub record OnChain (words : List ℕ) (links entry : ℕ) (c : Chain) : Type 0 where
  pub words_are : c.words.now ≡ words
  pub links_are : c.links ≡ links
  pub stands : c.entry ≡ entry

-- a step: the number that the entry says, if there is one, and on to what stands behind it
abbrev pub Follows : Chain → Option ℕ → Chain → Type 0
Follows old None new = (old.entry ≡ 0) × (new ≡ old)
Follows old (Some n) new = (old.entry ≡ suc n) × OnChain old.words.now old.links (word_at old.words.now (old.links + n)) new
