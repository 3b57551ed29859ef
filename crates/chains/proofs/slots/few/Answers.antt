-- `chains::slots::few` meets its contract. Assumes nothing.
use Rattle.chains.specs.Slots.{count_at, few_of}
use Rattle.chains.proofs.SlotLaws.{few_none}
use borrow.Author.Rules.{rules}
use Rattle.chains.proofs.slots.few.Goals as goal

pub returns-then-n-eq0 : goal.returns-then-n-eq0
returns-then-n-eq0 c = few_none c.args.name.now c.if-n-eq0.true

pub returns : goal.returns
unfolding count_at few_of
returns c = search rules
