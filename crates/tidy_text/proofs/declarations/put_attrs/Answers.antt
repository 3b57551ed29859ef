-- `put_attrs` meets its contract. The loop's invariant: the first i are put. Assumes nothing.
use Prim.Native.Nat.{◌-◌}
use mathlib.Core.Path.{◌≡◌, ap}
use native.Mathlib.Omega.{arith}
use Rattle.putting.proofs.PuttingLaws.{puts_same, puts_keeps_length}
use Rattle.tidy_text.specs.Pieces.{attr_piece, attrs_text}
use Rattle.tidy_text.proofs.TextLaws.{puts_none, puts_next}
use Rattle.tidy_text.proofs.declarations.put_attrs.Goals as goal

pub loop-i-init : goal.loop-i-init
unfolding attrs_text
loop-i-init c =
    let a = c.args in
    (omega arith, puts_none (attr_piece a.book.now a.words.now a.front.now a.offset) a.out.now a.at)

pub put_attr-next-requires : goal.put_attr-next-requires
put_attr-next-requires c = c.requires c.loop-i.i (omega arith)

pub loop-i-preserved : goal.loop-i-preserved
unfolding attrs_text
loop-i-preserved c =
    let a = c.args in (
      omega arith,
      puts_next (attr_piece a.book.now a.words.now a.front.now a.offset) c.loop-i.i c.loop-i.invariant.1
          c.put_attr-next.ensures,
    )

pub shape_of-out : goal.shape_of-out
shape_of-out c = puts_keeps_length c.loop-i.invariant.1

pub returns : goal.returns
returns c =
    let a = c.args in
    let e : c.loop-i.i ≡ a.count = omega arith in
    puts_same (ap (attrs_text a.book.now a.words.now a.front.now a.offset) e) c.loop-i.invariant.1
