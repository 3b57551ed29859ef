-- `put_type` meets its contract, type by type. Assumes nothing.
use native.Mathlib.Omega.{arith}
use Rattle.putting.proofs.PuttingLaws.{puts_same}
use Rattle.tidy_text.proofs.PieceLaws.{int_piece, str_piece, bool_piece}
use Rattle.tidy_text.proofs.declarations.put_type.Goals as goal

pub returns-then-kind-eq-INT : goal.returns-then-kind-eq-INT
returns-then-kind-eq-INT c =
    puts_same (int_piece c.args.kind c.if-kind-eq-INT.true) c.put_bytes.ensures

pub returns-then-kind-eq-STR : goal.returns-then-kind-eq-STR
returns-then-kind-eq-STR c =
    puts_same (str_piece c.args.kind c.if-kind-eq-STR.true) c.put_bytes-then-kind-eq-STR.ensures

pub returns : goal.returns
returns c =
    puts_same (bool_piece c.args.kind (omega (arith, c.if-kind-eq-STR.false, c.if-kind-eq-INT.false)))
    c.put_bytes-2.ensures
