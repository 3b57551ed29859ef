-- `hifmuneth_read_book` tells what the service answers.
use Rattle.hifmuneth.proofs.read_book.hifmuneth_read_book.Goals as goal

pub returns : goal.returns
returns c =
    let r = c.read_book-read in
    record { answer = rw r.ensures.answer at c.tell_book.ensures; cleared = r.ensures.cleared }
