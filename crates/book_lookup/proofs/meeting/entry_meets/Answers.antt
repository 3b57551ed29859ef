-- `book_lookup::meeting::entry_meets` meets its contract. Assumes nothing.
use mathlib.Core.Path.{ap, subst, ◌∙◌}
use native.Mathlib.Omega.{arith}
use Rattle.model.specs.Answers.{relation_of, value_of}
use Rattle.model.specs.Graph.{in_relation}
use Rattle.model.specs.Values.{str}
use Rattle.book_lookup.specs.Entries.{entry_value}
use Rattle.book_lookup.specs.Ready.{ValueInside}
use Rattle.book_lookup.proofs.ValueLaws.{part_between}
use Rattle.book_lookup.proofs.meeting.entry_meets.Goals as goal

pub overflow_add-start : goal.overflow_add-start
overflow_add-start c =
    omega (arith, subst (ValueInside c.args.text.now) c.in-Text.is c.requires.1)

pub slice_bounds-entry_meets_text-end : goal.slice_bounds-entry_meets_text-end
slice_bounds-entry_meets_text-end c =
    omega (arith, subst (ValueInside c.args.text.now) c.in-Text.is c.requires.1)

pub returns-in-Number : goal.returns-in-Number
unfolding value_of
returns-in-Number c =
    rw c.in-Number.is (c.entry_meets_number.ensures c.args.book.now)

pub returns-in-Text : goal.returns-in-Text
unfolding value_of
returns-in-Text c =
    let a = c.args in rw c.in-Text.is
    (c.entry_meets_text.ensures ∙ ap (λ t. in_relation (relation_of a.relation) (entry_value a.book.now a.words.now a.entry) (str t))
    (part_between a.text.now _ _))

pub returns-in-Truth : goal.returns-in-Truth
unfolding value_of
returns-in-Truth c =
    rw c.in-Truth.is (c.entry_meets_truth.ensures c.args.book.now)
