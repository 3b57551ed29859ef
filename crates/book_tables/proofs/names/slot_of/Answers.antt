-- `book_tables::names::slot_of` meets its contract. Assumes nothing.
use Rattle.book_tables.proofs.NameLaws.{word_slice}
use Rattle.chains.specs.Slots.{slot_of}
use Rattle.chains.proofs.SlotLaws.{slot_small}
use Rattle.book_tables.specs.View.{name_in}
use mathlib.Core.Path.{ap, ◌∙◌}
use Rattle.book_tables.proofs.names.slot_of.Goals as goal

pub returns : goal.returns
returns c =
    let a = c.args in
    let is = c.slot.ensures ∙ ap slot_of (word_slice a.text.now a.word) in
    (is, rw is (slot_small (name_in a.text.now a.word)))
