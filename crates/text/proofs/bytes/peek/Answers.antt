-- `text::bytes::peek` meets its contract.
use Rattle.text.proofs.PlaceLaws.{peek_end, get_or_any}
use mathlib.Core.Path.{sym}
use native.Mathlib.Omega.{arith}
use Rattle.text.proofs.bytes.peek.Goals as goal

pub overflow_cast-result : goal.overflow_cast-result
overflow_cast-result c = omega (arith, c.type_inv.s c.args.i)

pub returns-then-i-s : goal.returns-then-i-s
returns-then-i-s c = get_or_any c.args.s.now c.args.i 0 256 c.if-i-s.true

pub returns-else-i-s : goal.returns-else-i-s
returns-else-i-s c = sym (peek_end c.args.s.now c.args.i c.if-i-s.false)
