-- `text::words::word` meets its contract.
use Rattle.text.proofs.WordLaws.{word_fits, word_long}
use Rattle.text.proofs.PlaceLaws.{past_on}
use Rattle.model.specs.Words.{is_word_byte}
use native.Mathlib.Omega.{arith}
use Rattle.text.proofs.words.word.Goals as goal

pub overflow_sub-q : goal.overflow_sub-q
overflow_sub-q c = omega (arith, c.run_end-q.ensures, past_on is_word_byte c.args.s.now c.args.at)

pub returns-then-q-at-le-MAX_WORD_BYTES : goal.returns-then-q-at-le-MAX_WORD_BYTES
returns-then-q-at-le-MAX_WORD_BYTES c = word_fits c.args.s.now c.args.at c.run_end-q.result
    c.run_end-q.ensures c.if-q-at-le-MAX_WORD_BYTES.true

pub returns : goal.returns
returns c = word_long c.args.s.now c.args.at c.run_end-q.result
    c.run_end-q.ensures c.if-q-at-le-MAX_WORD_BYTES.false
