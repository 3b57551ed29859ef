-- `put_whole` meets its contract. Assumes nothing.
use Rattle.putting.proofs.PuttingLaws.{puts_then, puts_same}
use Rattle.putting.proofs.ValueLaws.{not_negative, negative}
use Rattle.putting.proofs.values.put_whole.Goals as goal

pub returns-then-n-ge-BIAS : goal.returns-then-n-ge-BIAS
returns-then-n-ge-BIAS c =
    puts_same (not_negative c.args.n c.if-n-ge-BIAS.true) c.put_digits.ensures

pub returns : goal.returns
returns c =
    puts_same (negative c.args.n c.if-n-ge-BIAS.false) (puts_then c.put_byte-next.ensures c.put_digits-2.ensures)
