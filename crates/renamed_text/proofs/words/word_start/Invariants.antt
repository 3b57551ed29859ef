-- `renamed_text::words::word_start` meets its contract. The loop's invariant: the run of bytes in no word from i on ends where the one from the start ends.
use Rattle.text.specs.Places.{past}
use Rattle.renamed_text.specs.Words.{is_between}
use lib.ListN.{length}
use Prim.Native.Nat.{◌≤◌, max}
use mathlib.Core.Path.{◌≡◌}
use Rattle.renamed_text.proofs.words.word_start.Given as goal

abbrev pub invariant-loop-i : goal.invariant-loop-i
invariant-loop-i l = (l.i ≤ max l.from (length l.s)) × (past is_between l.s l.i ≡ past is_between l.s l.from)
