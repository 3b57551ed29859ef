-- `chains::add` meets its contract. Assumes nothing.
use Rattle.chains.specs.Chains.{linked}
use borrow.Author.Rules.{rules}
use Rattle.chains.proofs.add.Goals as goal

pub returns : goal.returns
unfolding linked
returns c = search rules
