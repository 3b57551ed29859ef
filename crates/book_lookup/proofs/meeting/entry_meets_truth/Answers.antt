-- `book_lookup::meeting::entry_meets_truth` meets its contract. Assumes nothing.
use mathlib.Core.Path.{sym}
use native.Mathlib.Omega.{arith}
use Rattle.model.specs.Answers.{relation_of}
use Rattle.model.specs.Graph.{in_relation}
use Rattle.book_lookup.proofs.ValueLaws.{kind_bools, truth_unmet}
use Rattle.book_lookup.proofs.meeting.entry_meets_truth.Goals as goal

pub returns-then-kind_of-le-STR : goal.returns-then-kind_of-le-STR
returns-then-kind_of-le-STR c = let a = c.args in
    λ book. sym (truth_unmet book a.words.now a.entry (relation_of a.relation) a.truth (omega (arith, c.kind_of.ensures)))

pub truth_of-requires : goal.truth_of-requires
truth_of-requires c = record { room = c.requires; is = kind_bools _ (omega (arith, c.kind_of.ensures)) }

pub returns : goal.returns
unfolding in_relation
returns c = λ book. rw (c.truth_of.ensures book) c.same_meets.ensures
