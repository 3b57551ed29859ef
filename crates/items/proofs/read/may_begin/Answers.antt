-- `items::read::may_begin` meets its contract.
use Rattle.items.proofs.read.may_begin.Goals as goal

pub returns : goal.returns
returns c = simp c.if-free.false
