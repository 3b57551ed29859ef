-- `book_lines::pieces::next_kind` meets its contract.
use Rattle.book_lines.specs.Forms.{kind_piece}
use mathlib.Core.Path.{ap, ◌∙◌}
use native.Mathlib.Omega.{arith}
use Rattle.book_lines.proofs.pieces.next_kind.Goals as goal

pub part_of-requires : goal.part_of-requires
part_of-requires c =
    c.in_ok-word.ensures.placed.inside

pub overflow_add-word : goal.overflow_add-word
overflow_add-word c =
    omega (arith, c.well_formed, c.in_ok-word.ensures.placed.inside)

pub returns : goal.returns
unfolding kind_piece
returns c =
    rw c.part_of.ensures at c.kind_of.ensures
    ∙ ap (kind_piece c.args.line.now) c.in_ok-word.ensures.is

pub returns-in_err-word : goal.returns-in_err-word
unfolding kind_piece
returns-in_err-word c =
    c.from_residual.ensures ∙ ap (kind_piece c.args.line.now) c.in_err-word.ensures.is
