-- `hifmuneth_read_request` tells what the service answers.
use Rattle.hifmuneth.proofs.read_request.hifmuneth_read_request.Goals as goal

pub returns : goal.returns
returns c =
    let r = c.read_request-read in
    record { answer = rw r.ensures.whole at c.tell_request.ensures; cleared = r.ensures.cleared }
