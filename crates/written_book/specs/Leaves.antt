-- What a service that writes a book leaves where the working memory is whole: its answer and its text buffer.
use Rattle.std.specs.Prelude.{◌≡◌, ℕ, Result}
use Rattle.model.specs.Bytes.{Bytes}
use Rattle.model.specs.Limits.{whole_memory}
use Rattle.model.specs.Refusal.{Outcome}
use Rattle.model.specs.Service.{book_writer}
use Rattle.model.specs.declared.Refusal.{Refusal as RefusalData}
use Rattle.model.specs.Answers.{writer_answer}

-- o is the book to be written, or the refusal that the texts give; out and out' are the buffer before and after, r the answer
pub record Leaves (o : Outcome Bytes) (out out' : Bytes) (r : Result ℕ RefusalData) : Type 0 where
  pub answer : writer_answer r ≡ (book_writer whole_memory out o).answer
  pub text : out' ≡ (book_writer whole_memory out o).text
