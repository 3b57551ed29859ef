-- `put_digits` meets its contract: what two more digits put behind the digits before them. Assumes nothing.
use native.Mathlib.Omega.{arith}
use Rattle.putting.proofs.PuttingLaws.{puts_then, puts_same}
use Rattle.putting.proofs.ValueLaws.{two_more_digits}
use Rattle.putting.proofs.values.+put_digits.Goals as goal

pub returns : goal.returns
returns t c =
    let a = c.args in
    let many = c.if-most-lt2.false in
    puts_same (two_more_digits a.most a.n (λ e. omega (arith, many, e)) (λ e. omega (arith, many, e)) c.if-n-lt-HUNDRED.false)
    (puts_then c.put_digits-next.ensures c.put_pair.ensures)
