-- `put_edges` meets its contract. The loop's invariant: the first i are put. Assumes nothing.
use mathlib.Core.Path.{◌≡◌, sym, ap}
use mathlib.Core.List.{◌++◌}
use lib.ListN.{length, get_or}
use native.Mathlib.Omega.{arith}
use borrow.Author.Rules.{rules}
use Rattle.model.specs.Bytes.{bytes_of}
use Rattle.model.specs.PlainData.{no_edge}
use Rattle.query_writer.specs.Pieces.{edge_piece, edges_text}
use Rattle.putting.proofs.PuttingLaws.{puts_same, puts_keeps_length}
use Rattle.putting.proofs.ListingLaws.{puts_none, puts_one_more, before_all}
use Rattle.query_writer.proofs.matches.put_edges.Goals as goal

pub loop-i-init : goal.loop-i-init
unfolding edges_text
loop-i-init c = let a = c.args in (omega arith, puts_none (bytes_of " ") (bytes_of " ") a.out.now a.at)

pub put_edge-next-requires : goal.put_edge-next-requires
put_edge-next-requires c = c.requires.each c.loop-i.i (omega arith)

pub loop-i-preserved : goal.loop-i-preserved
unfolding edges_text
loop-i-preserved c = let a = c.args in
    let all : length a.edges ≡ 16 = search rules in (
      omega arith,
      puts_one_more (bytes_of " ") (bytes_of " ") (edge_piece a.book.now a.words.now a.query.now a.vertices) a.edges no_edge
          c.loop-i.i (omega arith) c.loop-i.invariant.1
          (puts_same (ap (λ s. s ++ edge_piece a.book.now a.words.now a.query.now a.vertices
          (get_or a.edges c.loop-i.i no_edge))
          (sym (before_all (bytes_of " ") c.loop-i.i))) c.put_edge-next.ensures),
    )

pub shape_of-out : goal.shape_of-out
shape_of-out c = puts_keeps_length c.loop-i.invariant.1

pub returns : goal.returns
returns c =
    let a = c.args in let e : c.loop-i.i ≡ a.count = omega arith in
    puts_same (ap (λ n. edges_text a.book.now a.words.now a.query.now a.vertices a.edges n) e) c.loop-i.invariant.1
