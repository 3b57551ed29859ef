-- The loop's invariant: what is put so far is each place's word.
use Rattle.std.proofs.Common.{get_or}
use Rattle.book_tables.proofs.PutLaws.{PutSoFar}
use Rattle.answer_words.specs.Words.{row_word}
use Rattle.answer_words.proofs.rows.words_of.Given as goal

abbrev pub invariant-loop-k : goal.invariant-loop-k
invariant-loop-k g l = (none : g.row.T.Denot) → PutSoFar (row_word g.row.WIDTH l.count (λ i. g.T.Told.row_of (get_or l.given i none))) g.row.ALL l.words l.k
