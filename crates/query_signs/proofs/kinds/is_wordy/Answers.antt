use Rattle.query_signs.specs.Reads.{is_wordy}
use mathlib.Core.Path.{sym, ap}
use Rattle.query_signs.proofs.kinds.is_wordy.Goals as goal

pub returns-in-Word : goal.returns-in-Word
unfolding is_wordy
returns-in-Word c = sym (ap is_wordy c.in-Word.is)

pub returns-in-Whole : goal.returns-in-Whole
unfolding is_wordy
returns-in-Whole c = sym (ap is_wordy c.in-Whole.is)

pub returns-in-Text : goal.returns-in-Text
unfolding is_wordy
returns-in-Text c = sym (ap is_wordy c.in-Text.is)

pub returns-in-Mark : goal.returns-in-Mark
unfolding is_wordy
returns-in-Mark c = sym (ap is_wordy c.in-Mark.is)
