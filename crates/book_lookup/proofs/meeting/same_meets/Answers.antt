-- `book_lookup::meeting::same_meets` meets its contract. Assumes nothing.
use Rattle.model.specs.Answers.{relation_of}
use Rattle.model.specs.Graph.{same_or_not}
use Rattle.book_lookup.proofs.meeting.same_meets.Goals as goal

pub returns-in-Equal : goal.returns-in-Equal
unfolding same_or_not relation_of
returns-in-Equal c = rw c.in-Equal.is

pub returns-in-Differs : goal.returns-in-Differs
unfolding same_or_not relation_of
returns-in-Differs c = rw c.in-Differs.is

pub returns-in-Less : goal.returns-in-Less
unfolding same_or_not relation_of
returns-in-Less c = rw c.in-Less.is

pub returns-in-AtMost : goal.returns-in-AtMost
unfolding same_or_not relation_of
returns-in-AtMost c = rw c.in-AtMost.is

pub returns-in-Greater : goal.returns-in-Greater
unfolding same_or_not relation_of
returns-in-Greater c = rw c.in-Greater.is

pub returns-in-AtLeast : goal.returns-in-AtLeast
unfolding same_or_not relation_of
returns-in-AtLeast c = rw c.in-AtLeast.is
