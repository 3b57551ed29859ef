-- `rules::load::load_lines` meets its contract. Assumes nothing.
use Prim.Native.Nat.{◌+◌, ◌-◌}
use lib.ListN.{length}
use Rattle.book_tables.specs.View.{book_at}
use Rattle.rules.specs.Loaded.{Reading}
use Rattle.rules.proofs.load.load_lines.Given as goal

abbrev pub invariant-loop-at : goal.invariant-loop-at
invariant-loop-at l = Reading (book_at l.book l.words l.counts) l.text l.initial.rules_words l.rules_words
    l.at l.line l.known

abbrev pub decreases-loop-at : goal.decreases-loop-at
decreases-loop-at l = length l.text + 1 - l.at
