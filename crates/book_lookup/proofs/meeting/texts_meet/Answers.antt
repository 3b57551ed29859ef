-- `book_lookup::meeting::texts_meet` meets its contract. Assumes nothing.
use mathlib.Core.Path.{sym, ap, ◌∙◌}
use Rattle.model.specs.Answers.{relation_of}
use Rattle.model.specs.TextOrder.{by_order}
use Rattle.model.proofs.TextRelations.{less_as_numbers, equal_as_numbers, greater_as_numbers}
use Rattle.compare.specs.Compare.{order_of}
use Rattle.book_lookup.proofs.meeting.texts_meet.Goals as goal

pub returns-in-Less : goal.returns-in-Less
unfolding order_of
returns-in-Less c =
    let r = relation_of c.args.relation in
    c.numbers_meet.ensures ∙ sym (less_as_numbers r)
    ∙ ap (by_order r) (sym (ap order_of c.in-Less.is) ∙ c.compare.ensures)

pub returns-in-Equal : goal.returns-in-Equal
unfolding order_of
returns-in-Equal c =
    let r = relation_of c.args.relation in
    c.numbers_meet-in-Equal.ensures ∙ sym (equal_as_numbers r)
    ∙ ap (by_order r) (sym (ap order_of c.in-Equal.is) ∙ c.compare.ensures)

pub returns-in-Greater : goal.returns-in-Greater
unfolding order_of
returns-in-Greater c =
    let r = relation_of c.args.relation in
    c.numbers_meet-in-Greater.ensures ∙ sym (greater_as_numbers r)
    ∙ ap (by_order r) (sym (ap order_of c.in-Greater.is) ∙ c.compare.ensures)
