-- `put_before` meets its contract. Assumes nothing.
use mathlib.Core.Path.{sym}
use Rattle.putting.proofs.PuttingLaws.{puts_same}
use Rattle.putting.proofs.ListingLaws.{before_first, before_next}
use Rattle.putting.proofs.bytes.put_before.Goals as goal

pub returns-then-i-eq0 : goal.returns-then-i-eq0
returns-then-i-eq0 c =
    let a = c.args in puts_same (sym (before_first a.first.now a.next.now a.i c.if-i-eq0.true)) c.put_bytes.ensures

pub returns : goal.returns
returns c =
    let a = c.args in puts_same (sym (before_next a.first.now a.next.now a.i c.if-i-eq0.false)) c.put_bytes-2.ensures
