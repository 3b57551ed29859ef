-- `write_query` meets its contract: the text is counted into no bytes first, and written if it fits. Assumes nothing.
use mathlib.Core.Path.{sym, ◌∙◌}
use native.Mathlib.Omega.{arith}
use Rattle.putting.proofs.PuttingLaws.{puts_same}
use Rattle.putting.proofs.WholeLaws.{refused, written_in_front, nothing_lent}
use Rattle.query_writer.proofs.ModelLaws.{pattern_written}
use Rattle.query_writer.proofs.InsideLaws.{pattern_inside}
use Rattle.query_writer.proofs.write_query.Goals as goal

pub put_query-length-requires : goal.put_query-length-requires
put_query-length-requires c = pattern_inside c.requires

pub returns-then-too_long : goal.returns-then-too_long
returns-then-too_long c =
    let put = c.put_query-length in
    let kept = nothing_lent put.new.out c.args.out.now put.auto.out in
    refused (puts_same (pattern_written c.args.book.now c.args.words.now c.args.counts c.args.query.now c.args.pattern c.requires c.well_formed.1.1.1.1.0.1.1.0.1.0.1) put.ensures) (omega arith) kept (sym c.too_long.ensures ∙ c.if-too_long.true)

pub put_query-requires : goal.put_query-requires
put_query-requires c =
    pattern_inside c.requires

pub returns : goal.returns
returns c =
    let put = c.put_query-length in
    let kept = nothing_lent put.new.out c.args.out.now put.auto.out in
    written_in_front (puts_same (pattern_written c.args.book.now c.args.words.now c.args.counts c.args.query.now c.args.pattern c.requires c.well_formed.1.1.1.1.0.1.1.0.1.0.1) put.ensures) (omega arith) kept (sym c.too_long.ensures ∙ c.if-too_long.false)
    (puts_same (pattern_written c.args.book.now c.args.words.now c.args.counts c.args.query.now c.args.pattern c.requires c.well_formed.1.1.1.1.0.1.1.0.1.0.1) c.put_query.ensures)
