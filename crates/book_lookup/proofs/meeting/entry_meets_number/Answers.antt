-- `book_lookup::meeting::entry_meets_number` meets its contract. Assumes nothing.
use mathlib.Core.Path.{sym, ◌∙◌}
use Rattle.model.specs.Answers.{relation_of}
use Rattle.model.specs.Graph.{in_relation}
use Rattle.book_lookup.proofs.ValueLaws.{kind_ints, number_unmet}
use Rattle.book_lookup.proofs.meeting.entry_meets_number.Goals as goal

pub returns-then-kind_of-ne-INT : goal.returns-then-kind_of-ne-INT
returns-then-kind_of-ne-INT c = let a = c.args in
    λ book. sym (number_unmet book a.words.now a.entry (relation_of a.relation) a.number (λ e. c.if-kind_of-ne-INT.true (c.kind_of.ensures ∙ e)))

pub number_of-requires : goal.number_of-requires
number_of-requires c = record { room = c.requires; is = kind_ints _ (sym c.kind_of.ensures ∙ c.if-kind_of-ne-INT.false) }

pub returns : goal.returns
unfolding in_relation
returns c = λ book. rw (c.number_of.ensures book) c.numbers_meet.ensures
