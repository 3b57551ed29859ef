use Rattle.std.specs.Prelude.{Err}
use mathlib.Core.Path.{sym, ap, ◌∙◌}
use Rattle.text.proofs.LineReads.{text_too_long, text_bad_line, text_allowed, text_short, bad_small}
use Rattle.model.specs.ReadBook.{read_book_by}
use Rattle.book.proofs.LoadLaws.{filled_ones}
use Rattle.model.specs.Answers.{refusal_of}
use Rattle.model.specs.Refusal.{refusal}
use native.Mathlib.Omega.{arith}
use Rattle.book.proofs.load.load_by.Goals as goal

pub returns-in-Err-TooLong : goal.returns-in-Err-TooLong
unfolding refusal refusal_of read_book_by
returns-in-Err-TooLong c = (
  text_too_long 65536 c.args.text.now _ c.bytes_read.ensures 1 (λ l. l) _ (c.in-Err-TooLong.is ∙ ap Err c.in-Err-TooLong.field-0-is),
  filled_ones _
      _ c.fill.ensures,
)

pub overflow_cast-result : goal.overflow_cast-result
overflow_cast-result c =
    omega (arith, bad_small 65536 c.args.text.now _ c.bytes_read.ensures _ (c.in-Err-BadLine.is ∙ ap Err c.in-Err-BadLine.field-0-is))

pub returns-in-Err-BadLine : goal.returns-in-Err-BadLine
unfolding refusal refusal_of read_book_by
returns-in-Err-BadLine c = (
  text_bad_line 65536 c.args.text.now _ c.bytes_read.ensures 1 (λ l. l) _ _ (c.in-Err-BadLine.is ∙ ap Err c.in-Err-BadLine.field-0-is)
      ∙ ap (refusal 2 1) (sym c.in-Err-BadLine.line-is),
  filled_ones _ _
      c.fill-in-Err-BadLine.ensures,
)

pub load_lines-requires : goal.load_lines-requires
load_lines-requires c =
    (text_short 65536 c.args.text.now _ c.bytes_read.ensures c.in-Ok.is, c.requires)

pub returns-in-Ok : goal.returns-in-Ok
unfolding read_book_by
returns-in-Ok c =
    rw (text_allowed 65536 c.args.text.now _ c.bytes_read.ensures 1 (λ l. l) _ c.in-Ok.is)
    c.load_lines.ensures
