-- `read` meets its contract. Assumes nothing.
use Rattle.std.specs.Prelude.{Err}
use mathlib.Core.Path.{sym, ap, ◌∙◌}
use Rattle.book_tables.specs.View.{book_at}
use Rattle.query.proofs.ReadLaws.{too_long_law, bad_byte}
use Rattle.query.proofs.read.read.Goals as goal

pub read_allowed-requires : goal.read_allowed-requires
read_allowed-requires c =
    record { fits = c.requires; allowed = sym c.bytes_read.ensures ∙ c.in-Ok.is }

pub returns-in-Err-TooLong : goal.returns-in-Err-TooLong
returns-in-Err-TooLong c =
    let a = c.args in
    too_long_law (book_at a.book.now a.words.now a.counts) a.s.now _ c.bytes_read.ensures
    (c.in-Err-TooLong.is ∙ ap Err c.in-Err-TooLong.field-0-is) _ c.refused.ensures

pub returns-in-Err-BadLine : goal.returns-in-Err-BadLine
returns-in-Err-BadLine c =
    let a = c.args in
    bad_byte (book_at a.book.now a.words.now a.counts) a.s.now _ c.bytes_read.ensures _
    (c.in-Err-BadLine.is ∙ ap Err c.in-Err-BadLine.field-0-is) _ c.refused-in-Err-BadLine.ensures
