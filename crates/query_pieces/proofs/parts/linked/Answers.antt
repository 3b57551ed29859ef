use Rattle.query_pieces.specs.Steps.{link_piece, piece_of, piece_standing}
use borrow.Author.Tests.{eq-eqb, ne_eqb}
use mathlib.Core.Path.{refl}
use Rattle.query_pieces.proofs.parts.linked.Goals as goal

pub returns-then-arrow-eq-MINUS : goal.returns-then-arrow-eq-MINUS
unfolding link_piece piece_of piece_standing
returns-then-arrow-eq-MINUS c = record { reads = λ s. rw (eq-eqb _ 45 c.if-arrow-eq-MINUS.true); inside = λ s h. h; stands = refl }

pub returns : goal.returns
unfolding link_piece piece_of piece_standing
returns c = record { reads = λ s. rw (ne_eqb _ 45 c.if-arrow-eq-MINUS.false); inside = λ s h. h; stands = refl }
