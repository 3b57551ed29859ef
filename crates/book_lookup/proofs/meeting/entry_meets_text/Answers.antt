-- `book_lookup::meeting::entry_meets_text` meets its contract. Assumes nothing.
use mathlib.Core.Path.{sym, ◌∙◌}
use Rattle.model.specs.Answers.{relation_of}
use Rattle.model.specs.Graph.{in_relation}
use Rattle.book_lookup.proofs.ValueLaws.{kind_strs, text_unmet}
use Rattle.book_lookup.proofs.meeting.entry_meets_text.Goals as goal

pub returns-then-kind_of-ne-STR : goal.returns-then-kind_of-ne-STR
returns-then-kind_of-ne-STR c =
    let a = c.args in sym (text_unmet a.book.now a.words.now a.entry (relation_of a.relation) a.text.now
    (λ e. c.if-kind_of-ne-STR.true (c.kind_of.ensures ∙ e)))

pub text_of-requires : goal.text_of-requires
text_of-requires c =
    (c.requires, record { room = c.requires.room; is = kind_strs _ (sym c.kind_of.ensures ∙ c.if-kind_of-ne-STR.false) })

pub returns : goal.returns
unfolding in_relation
returns c = rw c.text_of.ensures c.texts_meet.ensures
