-- `put_labels` meets its contract. The loop's invariant: the first i are put. Assumes nothing.
use Prim.Native.Nat.{◌-◌}
use mathlib.Core.Path.{◌≡◌, ap}
use native.Mathlib.Omega.{arith}
use Rattle.putting.proofs.PuttingLaws.{puts_same, puts_keeps_length}
use Rattle.tidy_text.specs.Pieces.{label_piece, labels_text}
use Rattle.tidy_text.proofs.TextLaws.{puts_none, puts_next}
use Rattle.tidy_text.proofs.declarations.put_labels.Goals as goal

pub loop-i-init : goal.loop-i-init
unfolding labels_text
loop-i-init c = let a = c.args in (omega arith, puts_none (label_piece a.book.now a.words.now) a.out.now a.at)

pub put_label-next-requires : goal.put_label-next-requires
put_label-next-requires c = c.requires c.loop-i.i (omega arith)

pub loop-i-preserved : goal.loop-i-preserved
unfolding labels_text
loop-i-preserved c =
    let a = c.args in
    (omega arith, puts_next (label_piece a.book.now a.words.now) c.loop-i.i c.loop-i.invariant.1 c.put_label-next.ensures)

pub shape_of-out : goal.shape_of-out
shape_of-out c = puts_keeps_length c.loop-i.invariant.1

pub returns : goal.returns
returns c =
    let a = c.args in
    let e : c.loop-i.i ≡ a.count = omega arith in
    puts_same (ap (labels_text a.book.now a.words.now) e) c.loop-i.invariant.1
