-- `hifmuneth_write_query` tells what the service answers.
use Rattle.hifmuneth.proofs.write_query.hifmuneth_write_query.Goals as goal

pub returns : goal.returns
returns c =
    let r = c.write_query-written in
    record { answer = rw r.ensures.answer at c.tell_length.ensures; written = r.ensures.text; cleared = r.ensures.cleared }
