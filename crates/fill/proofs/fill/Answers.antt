-- `fill::fill` meets its contract. Assumes nothing.
use Rattle.std.proofs.Common.{rules}
use Rattle.fill.proofs.Filling.{filled_rest}
use Rattle.fill.proofs.fill.Goals as goal

pub returns : goal.returns
returns c = filled_rest c.args.words.now c.args.from c.min-start.result c.fill.new.self c.min-start.ensures (c.fill.ensures.after (search rules))
