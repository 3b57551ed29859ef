-- `put_declared` meets its contract: a name's word says where the name stands. Assumes nothing.
use Prim.Native.Nat.{◌+◌}
use native.Mathlib.Omega.{arith}
use Rattle.model.specs.Answers.{name_at}
use Rattle.book_tables.specs.View.{name_in, name_of}
use Rattle.putting.proofs.bytes.put_declared.Goals as goal

pub overflow_cast-word : goal.overflow_cast-word
overflow_cast-word c = omega (arith, c.type_inv.words (c.args.offset + c.args.number))

pub returns : goal.returns
unfolding name_of name_in name_at
returns c = c.put_part.ensures
