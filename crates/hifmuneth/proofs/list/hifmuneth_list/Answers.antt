-- `hifmuneth_list` tells what the service answers.
use Rattle.hifmuneth.proofs.list.hifmuneth_list.Goals as goal

pub returns : goal.returns
returns c =
    let r = c.list-listed in
    record { answer = rw r.ensures.answer at c.tell_rows.ensures; rows = r.ensures.rows_left; cleared = r.ensures.cleared }
