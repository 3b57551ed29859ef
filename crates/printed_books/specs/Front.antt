-- A text in front of a buffer of as many bytes as a book may have.
use Rattle.std.specs.Prelude.{ℕ, ◌≤◌, ◌≡◌, ◌++◌, length, drop}
use Rattle.model.specs.Bytes.{Bytes}
use Rattle.model.specs.Limits.{max_book_bytes}

-- the text's length is answered, it fits, the bytes past it are unchanged, and the buffer is as long as it was
pub record InFront (t buffer buffer' : Bytes) (r : ℕ) : Type 0 where
  pub answer : r ≡ length t
  pub short : r ≤ max_book_bytes
  pub text : buffer' ≡ t ++ drop (length t) buffer
  pub long : length buffer' ≡ max_book_bytes
