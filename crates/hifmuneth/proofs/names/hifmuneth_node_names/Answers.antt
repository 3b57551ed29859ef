-- `hifmuneth_node_names` tells what the service answers.
use Rattle.hifmuneth.proofs.names.hifmuneth_node_names.Goals as goal

pub returns : goal.returns
returns c =
    let r = c.node_names-read in
    record { answer = rw r.ensures.answer at c.tell_names.ensures; names = r.ensures.names; cleared = r.ensures.cleared }
