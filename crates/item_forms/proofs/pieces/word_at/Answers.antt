-- `item_forms::pieces::word_at` meets its contract.
use Rattle.item_forms.specs.Pieces.{word_of}
use Rattle.model.specs.Words.{is_letter}
use mathlib.Core.Path.{sym, ap, ◌∙◌}
use Rattle.item_forms.proofs.pieces.word_at.Goals as goal

pub returns-then-is_letter : goal.returns-then-is_letter
unfolding word_of
returns-then-is_letter c = rw (ap is_letter (sym c.peek.ensures) ∙ sym c.is_letter.ensures ∙ c.if-is_letter.true)
    c.word.ensures

pub returns : goal.returns
unfolding word_of
returns c = rw (ap is_letter (sym c.peek.ensures) ∙ sym c.is_letter.ensures ∙ c.if-is_letter.false)
