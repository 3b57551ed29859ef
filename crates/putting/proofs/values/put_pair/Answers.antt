-- `put_pair` meets its contract. Assumes nothing.
use native.Mathlib.Omega.{arith}
use Rattle.putting.proofs.PuttingLaws.{puts_then, puts_keeps_length}
use Rattle.putting.proofs.values.put_pair.Goals as goal

pub overflow_cast-n : goal.overflow_cast-n
overflow_cast-n c = omega (arith, c.requires)

pub overflow_add-n : goal.overflow_add-n
overflow_add-n c = omega (arith, c.requires)

pub overflow_cast-n-2 : goal.overflow_cast-n-2
overflow_cast-n-2 c = omega arith

pub overflow_add-n-2 : goal.overflow_add-n-2
overflow_add-n-2 c = omega arith

pub shape_of-out : goal.shape_of-out
shape_of-out c =
    puts_keeps_length (puts_then c.put_byte-next.ensures c.put_byte.ensures)

pub returns : goal.returns
returns c =
    puts_then c.put_byte-next.ensures c.put_byte.ensures
