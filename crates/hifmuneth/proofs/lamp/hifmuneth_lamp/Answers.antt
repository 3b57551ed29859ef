-- `hifmuneth_lamp` tells what the service answers.
use Rattle.hifmuneth.proofs.lamp.hifmuneth_lamp.Goals as goal

pub returns : goal.returns
returns c =
    let r = c.lamp-shown in
    record { answer = rw r.ensures.answer at c.tell_lamp.ensures; cleared = r.ensures.cleared }
