-- `chains::clear` meets its contract. Assumes nothing.
use Rattle.std.proofs.Common.{rules, arith}
use Rattle.chains.proofs.ChainLaws.{cleared_zeros}
use Rattle.chains.proofs.clear.Goals as goal

pub returns : goal.returns
returns c = cleared_zeros c.args.words.now c.args.heads c.args.keys _ c.fill.new.self (omega arith) (omega arith) (c.fill.ensures.after (search rules))
