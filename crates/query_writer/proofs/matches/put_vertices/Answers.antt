-- `put_vertices` meets its contract. The loop's invariant: the first i are put. Assumes nothing.
use mathlib.Core.Path.{◌≡◌, ap}
use mathlib.Core.List.{[]}
use lib.ListN.{length}
use native.Mathlib.Omega.{arith}
use borrow.Author.Rules.{rules}
use Rattle.model.specs.Bytes.{bytes_of}
use Rattle.model.specs.PlainData.{no_part}
use Rattle.query_writer.specs.Pieces.{vertex_piece, vertices_text}
use Rattle.putting.proofs.PuttingLaws.{puts_same, puts_keeps_length}
use Rattle.putting.proofs.ListingLaws.{puts_none, puts_one_more}
use Rattle.query_writer.proofs.matches.put_vertices.Goals as goal

pub loop-i-init : goal.loop-i-init
unfolding vertices_text
loop-i-init c = let a = c.args in (omega arith, puts_none [] (bytes_of " ") a.out.now a.at)

pub put_vertex-next-requires : goal.put_vertex-next-requires
put_vertex-next-requires c = c.requires.each c.loop-i.i (omega arith)

pub loop-i-preserved : goal.loop-i-preserved
unfolding vertices_text
loop-i-preserved c = let a = c.args in
    let all : length a.vertices ≡ 8 = search rules in (
      omega arith,
      puts_one_more [] (bytes_of " ") (vertex_piece a.query.now) a.vertices no_part c.loop-i.i
          (omega arith) c.loop-i.invariant.1 c.put_vertex-next.ensures,
    )

pub shape_of-out : goal.shape_of-out
shape_of-out c = puts_keeps_length c.loop-i.invariant.1

pub returns : goal.returns
returns c =
    let a = c.args in let e : c.loop-i.i ≡ a.count = omega arith in
    puts_same (ap (λ n. vertices_text a.query.now a.vertices n) e) c.loop-i.invariant.1
