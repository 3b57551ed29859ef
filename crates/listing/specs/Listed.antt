-- What a list answers and leaves of rows that were found or refused.
use Rattle.std.specs.Prelude.{ℕ, ◌≡◌, List, length, Result}
use Rattle.model.specs.Refusal.{Outcome, accepted, on_accept}
use Rattle.model.specs.Service.{FoundRows, row_words}
use Rattle.model.specs.Answers.{list_answer}
use Rattle.model.specs.declared.Refusal.{Refusal as RefusalData}
use Rattle.model.specs.declared.RowsSize.{RowsSize}

-- they are answered by their number and their width, and stand in the row words
pub record Lists (o : Outcome FoundRows) (words : ℕ) (after : List ℕ) (r : Result RowsSize RefusalData) : Type 0 where
  pub answer : list_answer r ≡ on_accept o (λ f. accepted (record { rows = length f.rows; width = f.width }))
  pub rows : after ≡ row_words words o
