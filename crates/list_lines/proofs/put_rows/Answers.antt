-- `put_rows` meets its contract: the rows passed are put, and the next one begins at its number times the width.
use Prim.Native.Nat.{◌≤◌, ◌<◌, ◌-◌}
use mathlib.Core.Path.{ap}
use native.Mathlib.Omega.{arith}
use Rattle.model.specs.Book.{node_names}
use Rattle.model.specs.Printed.{row_text}
use Rattle.book_tables.specs.View.{book_at}
use Rattle.rows.specs.Buffer.{rows_in}
use Rattle.rows.specs.BufferLaws.{length_rows_in}
use Rattle.putting.proofs.PuttingLaws.{puts_same, puts_keeps_length}
use Rattle.list_lines.proofs.RowLaws.{no_rows, rows_more, rows_all, row_inside, row_part, next_row}
use Rattle.list_lines.proofs.put_rows.Goals as goal

pub loop-i-init : goal.loop-i-init
loop-i-init c =
    let a = c.args in (
      omega arith,
      omega arith,
      no_rows (row_text (node_names (book_at a.book.now a.words.now a.counts)))
          (rows_in a.width a.count a.rows.now) a.out.now a.at,
    )

pub overflow_add-to : goal.overflow_add-to
overflow_add-to c = let h : c.loop-i.i < c.args.count = omega arith in omega (arith, row_inside c.args.rows.now c.args.width c.args.count c.requires.1 c.loop-i.i h)

pub offset_bounds-rows-from : goal.offset_bounds-rows-from
offset_bounds-rows-from c = let h : c.loop-i.i < c.args.count = omega arith in omega (arith, row_inside c.args.rows.now c.args.width c.args.count c.requires.1 c.loop-i.i h)

pub slice_bounds-put_row-end : goal.slice_bounds-put_row-end
slice_bounds-put_row-end c = let h : c.loop-i.i < c.args.count = omega arith in omega (arith, row_inside c.args.rows.now c.args.width c.args.count c.requires.1 c.loop-i.i h)

pub put_row-next-requires : goal.put_row-next-requires
put_row-next-requires c = c.requires.0

pub loop-i-preserved : goal.loop-i-preserved
loop-i-preserved c =
    let l = c.loop-i in
    let a = c.args in
    let h : l.i < a.count = omega arith in (
      omega arith,
      next_row l.i a.width l.from l.invariant.1,
      rows_more (row_text (node_names (book_at a.book.now a.words.now a.counts))) (rows_in a.width a.count a.rows.now) l.i
          (rw length_rows_in h) l.invariant.2
          (puts_same (ap (row_text (node_names (book_at a.book.now a.words.now a.counts)))
          (row_part a.rows.now a.width a.count c.requires.1 l.i h l.from l.invariant.1)) c.put_row-next.ensures),
    )

pub shape_of-out : goal.shape_of-out
shape_of-out c = puts_keeps_length c.loop-i.invariant.2

pub returns : goal.returns
returns c =
    let a = c.args in
    let h : a.count ≤ c.loop-i.i = omega arith in
    rows_all (row_text (node_names (book_at a.book.now a.words.now a.counts))) (rows_in a.width a.count a.rows.now) c.loop-i.i
    (rw length_rows_in h) c.loop-i.invariant.2
