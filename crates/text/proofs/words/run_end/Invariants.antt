-- `text::words::run_end` meets its contract. The loop's invariant: the run of word bytes from i on ends where the one from the start ends.
use Rattle.text.specs.Places.{past}
use Rattle.model.specs.Words.{is_word_byte}
use lib.ListN.{length}
use Prim.Native.Nat.{◌≤◌, max}
use mathlib.Core.Path.{◌≡◌}
use Rattle.text.proofs.words.run_end.Given as goal

abbrev pub invariant-loop-i : goal.invariant-loop-i
invariant-loop-i l = (l.i ≤ max l.from (length l.s)) × (past is_word_byte l.s l.i ≡ past is_word_byte l.s l.from)
