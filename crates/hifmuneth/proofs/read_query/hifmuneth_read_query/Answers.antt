-- `hifmuneth_read_query` tells what the service answers.
use Rattle.hifmuneth.proofs.read_query.hifmuneth_read_query.Goals as goal

pub returns : goal.returns
returns c =
    let r = c.read_query-read in
    record { answer = rw r.ensures.whole at c.tell_query.ensures; cleared = r.ensures.cleared }
