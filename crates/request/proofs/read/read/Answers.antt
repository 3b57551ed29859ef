-- `request::read::read` meets its contract. Assumes nothing.
use Rattle.std.specs.Prelude.{Err}
use native.Mathlib.Omega.{arith}
use Rattle.request.proofs.ReadLaws.{reads_refused, reads_as}
use mathlib.Core.Path.{sym, ap, ◌∙◌}
use Rattle.model.specs.Refusal.{refusal}
use Rattle.model.specs.Request.{read_request}
use Rattle.text.proofs.LineReads.{text_too_long, text_bad_line, text_allowed, bad_small}
use Rattle.request.proofs.read.read.Goals as goal

pub overflow_cast-line : goal.overflow_cast-line
overflow_cast-line c = omega (arith, bad_small 2048 c.args.text.now _ c.bytes_read.ensures _ (c.in-Err-BadLine.is ∙ ap Err c.in-Err-BadLine.field-0-is))

pub read_one-requires : goal.read_one-requires
read_one-requires c = c.requires

pub returns-in-Err-TooLong : goal.returns-in-Err-TooLong
unfolding read_request
returns-in-Err-TooLong c =
    let a = c.args in reads_refused a.counts.nodes a.rules.now a.table.now a.sizes.categories a.text.now _ 1 0 _
    c.refused.ensures (text_too_long 2048 a.text.now _ c.bytes_read.ensures 4 (λ l. l) _ (c.in-Err-TooLong.is ∙ ap Err c.in-Err-TooLong.field-0-is))

pub returns-in-Err-BadLine : goal.returns-in-Err-BadLine
unfolding read_request
returns-in-Err-BadLine c =
    let a = c.args in reads_refused a.counts.nodes a.rules.now a.table.now a.sizes.categories a.text.now _ 2 _ _
    c.refused-in-Err-BadLine.ensures (text_bad_line 2048 a.text.now _ c.bytes_read.ensures 4 (λ l. l) _ _ (c.in-Err-BadLine.is ∙ ap Err c.in-Err-BadLine.field-0-is)
    ∙ ap (refusal 2 4) (sym c.in-Err-BadLine.line-is))

pub returns-in-Ok : goal.returns-in-Ok
unfolding read_request
returns-in-Ok c =
    let a = c.args in reads_as a.counts.nodes a.rules.now a.table.now a.sizes.categories a.text.now _ _ c.read_one.result
    (text_allowed 2048 a.text.now _ c.bytes_read.ensures 4 (λ l. l) _ c.in-Ok.is) c.read_one.ensures
