use Rattle.book_tables.specs.Fits.{Fits}
use Rattle.book_tables.specs.View.{book_at}
use Rattle.model.specs.ReadBook.{book_step}
use Rattle.book_tables.specs.Alike.{alike}
use Rattle.model.specs.Book.{empty_book}
use Rattle.model.specs.Lines.{read_lines, lines_of}
use lib.ListN.{length, drop}
use mathlib.Core.Path.{◌≡◌}
use Prim.Native.Nat.{◌+◌, ◌-◌, ◌≤◌}
use Rattle.book.proofs.load.load_lines.Given as goal

abbrev pub invariant-loop-at : goal.invariant-loop-at
invariant-loop-at l = (length l.words ≡ length l.initial.words) × Fits l.text l.words l.counts × (l.at ≤ length l.text + 1)
    × (l.line ≤ l.at + 1) × (read_lines 1 (book_step (alike l.rule)) l.line (book_at l.text l.words l.counts) (lines_of (drop l.at l.text))
    ≡ read_lines 1 (book_step (alike l.rule)) 1 empty_book (lines_of l.text))

abbrev pub decreases-loop-at : goal.decreases-loop-at
decreases-loop-at l = length l.text + 1 - l.at
