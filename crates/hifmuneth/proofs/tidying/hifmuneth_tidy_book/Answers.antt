-- `hifmuneth_tidy_book` tells what the service answers.
use Rattle.hifmuneth.proofs.tidying.hifmuneth_tidy_book.Goals as goal

pub returns : goal.returns
returns c =
    let r = c.tidy_book-written in
    record { answer = rw r.ensures.answer at c.tell_length.ensures; written = r.ensures.text; cleared = r.ensures.cleared }
