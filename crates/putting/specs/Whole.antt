-- A whole text written in front of a buffer, or refused where it is longer than the buffer or than its limit.
use Rattle.std.specs.Prelude.{ℕ, ◌≡◌, Bool, ◌||◌, ◌++◌, length, drop, ltb, Option, None, Some}
use Rattle.model.specs.Bytes.{Bytes}
use Rattle.model.specs.Choice.{pick}

-- so many bytes pass the limit, or a buffer of so much room
abbrev pub too_long : ℕ → ℕ → ℕ → Bool
too_long limit room n = ltb room n || ltb limit n

-- a text is written in front of a buffer and its length is answered, or it is too long and the buffer stays
pub record Writes (limit : ℕ) (t out out' : Bytes) (r : Option ℕ) : Type 0 where
  pub answer : r ≡ pick (too_long limit (length out) (length t)) None (Some (length t))
  pub text : out' ≡ pick (too_long limit (length out) (length t)) out (t ++ drop (length t) out)
