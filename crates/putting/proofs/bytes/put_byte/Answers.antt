-- `put_byte` meets its contract: the byte is stored where there is room, and counted. Assumes nothing.
use mathlib.Core.Path.{subst, sym}
use mathlib.Core.List.{[], ◌∷◌}
use lib.ListN.{set}
use Rattle.putting.specs.Putting.{Puts}
use Rattle.putting.proofs.PuttingLaws.{puts_byte, puts_no_room}
use Rattle.putting.proofs.bytes.put_byte.Goals as goal

pub returns-then-at-out : goal.returns-then-at-out
returns-then-at-out c = let a = c.args in
    subst (λ n. Puts a.out.now a.at (a.byte ∷ []) (set a.out.now a.at a.byte) n) (sym c.further.ensures)
    (puts_byte a.out.now a.at a.byte)

pub returns : goal.returns
returns c = let a = c.args in
    subst (λ n. Puts a.out.now a.at (a.byte ∷ []) a.out.now n) (sym c.further-2.ensures)
    (puts_no_room a.out.now a.at a.byte c.if-at-out.false)
