-- The fault that the pieces of a text show, by the tests of each fault.
use Rattle.std.specs.Prelude.{ℕ, []}
use Rattle.model.specs.Bytes.{Bytes}
use Rattle.model.specs.Choice.{pick}
use Rattle.model.specs.Book.{Book}
use Rattle.query_pieces.specs.Faults.{some_where, undeclared_at, twice_at, mistyped_at, from_itself_at}
use Rattle.query_pieces.specs.Steps.{walk_at}
use Rattle.query_survey.specs.Names.{text_start, text_pieces}
use Rattle.query_survey.specs.Counting.{past_limits}

-- the lowest fault that the pieces of a text show; 0 is none
unfoldable pub piece_fault : Book → Bytes → ℕ
piece_fault b s =
    pick (walk_at s text_start).whole
    (pick (some_where (undeclared_at b (text_pieces s)) [] (text_pieces s)) 4
    (pick (some_where (twice_at (text_pieces s)) [] (text_pieces s)) 5
    (pick (some_where (mistyped_at b) [] (text_pieces s)) 6
    (pick (past_limits (text_pieces s)) 7
    (pick (some_where from_itself_at [] (text_pieces s)) 8 0))))) 3
