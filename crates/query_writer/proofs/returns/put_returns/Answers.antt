-- `put_returns` meets its contract. The loop's invariant: the first i are put. Assumes nothing.
use mathlib.Core.Path.{◌≡◌, ap}
use mathlib.Core.List.{[]}
use lib.ListN.{length}
use native.Mathlib.Omega.{arith}
use borrow.Author.Rules.{rules}
use Rattle.model.specs.Bytes.{bytes_of}
use Rattle.query_writer.specs.Pieces.{vertex_at, returns_text}
use Rattle.putting.proofs.PuttingLaws.{puts_same, puts_keeps_length}
use Rattle.putting.proofs.ListingLaws.{puts_none, puts_one_more}
use Rattle.query_writer.proofs.returns.put_returns.Goals as goal

pub loop-i-init : goal.loop-i-init
unfolding vertex_at returns_text
loop-i-init c = let a = c.args in (omega arith, puts_none [] (bytes_of ", ") a.out.now a.at)

pub offset_bounds-vertices-v : goal.offset_bounds-vertices-v
offset_bounds-vertices-v c = omega (arith, (c.requires.each c.loop-i.i (omega arith)).0)

pub bounds-vertices-v : goal.bounds-vertices-v
bounds-vertices-v c = omega (arith, (c.requires.each c.loop-i.i (omega arith)).0)

pub put_return-next-requires : goal.put_return-next-requires
put_return-next-requires c = (c.requires.each c.loop-i.i (omega arith)).1

pub loop-i-preserved : goal.loop-i-preserved
unfolding vertex_at returns_text
loop-i-preserved c = let a = c.args in
    let all : length a.returns ≡ 4 = search rules in (
      omega arith,
      puts_one_more [] (bytes_of ", ") (vertex_at a.query.now a.vertices) a.returns 0 c.loop-i.i
          (omega arith) c.loop-i.invariant.1 c.put_return-next.ensures,
    )

pub shape_of-out : goal.shape_of-out
shape_of-out c = puts_keeps_length c.loop-i.invariant.1

pub returns : goal.returns
returns c =
    let a = c.args in let e : c.loop-i.i ≡ a.count = omega arith in
    puts_same (ap (λ n. returns_text a.query.now a.vertices a.returns n) e) c.loop-i.invariant.1
