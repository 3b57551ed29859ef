-- `put_truth` meets its contract. Assumes nothing.
use Rattle.putting.proofs.PuttingLaws.{puts_same}
use Rattle.putting.proofs.ValueLaws.{true_text, false_text}
use Rattle.putting.proofs.values.put_truth.Goals as goal

pub returns-then-truth : goal.returns-then-truth
returns-then-truth c =
    puts_same (true_text c.args.truth c.if-truth.true) c.put_bytes.ensures

pub returns : goal.returns
returns c =
    puts_same (false_text c.args.truth c.if-truth.false) c.put_bytes-2.ensures
