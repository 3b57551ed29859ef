use mathlib.Core.Path.{◌≡◌, ap}
use Prim.Native.Nat.{◌-◌}
use lib.ListN.{length}
use native.Mathlib.Omega.{arith}
use Rattle.model.specs.Book.{node_names}
use Rattle.book_tables.specs.View.{book_at}
use Rattle.putting.proofs.PuttingLaws.{puts_same, puts_keeps_length}
use Rattle.list_lines.specs.Printing.{names_text}
use Rattle.list_lines.proofs.PrintingLaws.{names_more, no_names}
use Rattle.list_lines.proofs.put_names.Goals as goal

pub loop-node-init : goal.loop-node-init
loop-node-init c =
    let a = c.args in (omega arith, no_names (node_names (book_at a.book.now a.words.now a.counts)) a.row.now a.out.now a.at)

pub loop-node-preserved : goal.loop-node-preserved
loop-node-preserved c =
    let a = c.args in (
      omega arith,
      names_more (node_names (book_at a.book.now a.words.now a.counts)) a.row.now c.loop-node.node-index
          (omega arith) c.loop-node.invariant.1 c.put_node-next.ensures,
    )

pub shape_of-out : goal.shape_of-out
shape_of-out c = puts_keeps_length c.loop-node.invariant.1

pub returns : goal.returns
returns c =
    let a = c.args in let e : c.loop-node.node-index ≡ length a.row.now = omega arith in
    puts_same (ap (names_text (node_names (book_at a.book.now a.words.now a.counts)) a.row.now) e) c.loop-node.invariant.1
