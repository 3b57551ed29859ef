-- Digits that are counted by the powers of ten.
use Rattle.std.specs.Prelude.{ℕ, ◌^◌, ◌≤◌, ◌≡◌, length}
use Rattle.model.specs.Writing.{digits}

-- digits counted so far, with the power of ten that has one more
pub record Counting (n size power : ℕ) : Type 0 where
  pub is : power ≡ 10 ^ size
  pub some : 1 ≤ size
  pub least : size ≤ length (digits 20 n)
  pub few : size ≤ 19
  pub large : 10 ≤ power
