-- `query_signs::kinds::touches` meets its contract.
use Rattle.query_signs.proofs.kinds.touches.Goals as goal

pub returns-then-not-close : goal.returns-then-not-close
returns-then-not-close c = rw (c.if-not-close.true)

pub returns : goal.returns
returns c = rw (c.if-not-close.false)
