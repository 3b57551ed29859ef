-- `rules::load::load` meets its contract. Assumes nothing.
use Rattle.std.specs.Prelude.{Err}
use mathlib.Core.Path.{sym, ap, ◌∙◌}
use native.Mathlib.Omega.{arith}
use Rattle.model.specs.Answers.{refusal_of}
use Rattle.model.specs.ReadRules.{read_rules}
use Rattle.model.specs.Refusal.{refusal}
use Rattle.text.proofs.LineReads.{text_too_long, text_bad_line, text_allowed, text_short, bad_small}
use Rattle.rules.proofs.load.load.Goals as goal

pub returns-in-Err-TooLong : goal.returns-in-Err-TooLong
unfolding refusal refusal_of read_rules
returns-in-Err-TooLong c =
    text_too_long 16384 c.args.text.now _ c.bytes_read.ensures 2 (λ l. l) _ (c.in-Err-TooLong.is ∙ ap Err c.in-Err-TooLong.field-0-is)

pub overflow_cast-result : goal.overflow_cast-result
overflow_cast-result c =
    omega (arith, bad_small 16384 c.args.text.now _ c.bytes_read.ensures _ (c.in-Err-BadLine.is ∙ ap Err c.in-Err-BadLine.field-0-is))

pub returns-in-Err-BadLine : goal.returns-in-Err-BadLine
unfolding refusal refusal_of read_rules
returns-in-Err-BadLine c =
    text_bad_line 16384 c.args.text.now _ c.bytes_read.ensures 2 (λ l. l) _ _ (c.in-Err-BadLine.is ∙ ap Err c.in-Err-BadLine.field-0-is)
    ∙ ap (refusal 2 2) (sym c.in-Err-BadLine.line-is)

pub load_lines-requires : goal.load_lines-requires
load_lines-requires c = (
  c.requires.0,
  text_short 16384 c.args.text.now _ c.bytes_read.ensures c.in-Ok.is,
  c.requires.1,
)

pub returns-in-Ok : goal.returns-in-Ok
unfolding read_rules
returns-in-Ok c =
    rw (text_allowed 16384 c.args.text.now _ c.bytes_read.ensures 2 (λ l. l) _ c.in-Ok.is)
    c.load_lines.ensures
