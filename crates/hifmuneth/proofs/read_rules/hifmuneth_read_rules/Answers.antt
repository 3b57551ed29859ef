-- `hifmuneth_read_rules` tells what the service answers.
use Rattle.hifmuneth.proofs.read_rules.hifmuneth_read_rules.Goals as goal

pub returns : goal.returns
returns c =
    let r = c.read_rules-read in
    record { answer = rw r.ensures.answer at c.tell_rules.ensures; cleared = r.ensures.cleared }
