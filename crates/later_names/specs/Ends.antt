-- How often a node is an end of a relationship, by the relationships' words.
use Rattle.std.specs.Prelude.{ℕ, zero, suc, ◌+◌, ◌<◌, ◌≡◌, List, Bool, length, get_or, eqb}
use Rattle.model.specs.Choice.{pick}
use Rattle.book_tables.specs.View.{from_part, to_part, rel_word}

-- 1 where a test holds, else 0
abbrev pub one : Bool → ℕ
one t = pick t 1 0

-- the sum of what stands below a number
unfoldable pub total : (ℕ → ℕ) → ℕ → ℕ
total g zero = 0
total g (suc n) = total g n + g n

-- how many ends of a relationship a node is
unfoldable pub ends_of : List ℕ → ℕ → ℕ → ℕ
ends_of words node i = one (eqb (from_part (rel_word words i)) node) + one (eqb (to_part (rel_word words i)) node)

-- and of all of them
unfoldable pub ends_in : List ℕ → ℕ → ℕ → ℕ
ends_in words count node = total (ends_of words node) count

-- the counts of 256 nodes
pub record EndsCounted (words : List ℕ) (count : ℕ) (ends : List ℕ) : Type 0 where
  pub long : length ends ≡ 256
  pub each : (node : ℕ) → node < 256 → get_or ends node 0 ≡ ends_in words count node
