-- `write_tidy` leaves what the service leaves: 14 for a tidy book that is too long for a book or for the buffer, or the tidy book.
use Rattle.tidy_book.proofs.TidyLaws.{read_short, refused_too_long, tidy_written}
use Rattle.putting.proofs.PuttingLaws.{puts_keeps_length}
use mathlib.Core.Path.{sym, ◌∙◌}
use Rattle.tidy_book.proofs.write_tidy.Goals as goal

pub tidy_size-size-requires : goal.tidy_size-size-requires
tidy_size-size-requires c =
    record { book = c.args.book.now; fits = c.requires.fits; short = read_short c.args.book.now _ c.requires.is }

pub returns-then-too_long : goal.returns-then-too_long
returns-then-too_long c =
    let counted = c.tidy_size-size.ensures c.args.book.now c.requires.fits in
    refused_too_long c.args.book.now c.args.text.now _ c.requires.is _ counted (sym c.too_long.ensures ∙ c.if-too_long.true)

pub returns : goal.returns
returns c =
    let counted = c.tidy_size-size.ensures c.args.book.now c.requires.fits in
    tidy_written c.args.book.now c.args.text.now _ c.requires.is _ counted _ _ (sym c.too_long.ensures ∙ c.if-too_long.false)
    c.put_tidy.ensures

pub shape_of-text : goal.shape_of-text
shape_of-text c = puts_keeps_length c.put_tidy.ensures
