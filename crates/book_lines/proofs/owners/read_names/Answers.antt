-- `book_lines::owners::read_names` meets its contract.
use Rattle.book_lines.proofs.LineSteps.{names_first, names_second, names_third, names_all}
use native.Mathlib.Omega.{arith}
use Rattle.book_lines.proofs.owners.read_names.Goals as goal

pub returns-in_err-label : goal.returns-in_err-label
returns-in_err-label c =
    rw c.from_residual.ensures (names_first _ c.args.line.now c.args.from _ c.next_name.ensures c.in_err-label.was)

pub overflow_add-label : goal.overflow_add-label
overflow_add-label c = omega (arith, c.well_formed, c.in_ok-label.ensures.placed.inside)

pub returns-in_err-x : goal.returns-in_err-x
returns-in_err-x c =
    let a = c.args in
    rw c.from_residual-in_err-x.ensures
    (names_second _ a.line.now a.from _ c.next_name.ensures _ c.in_ok-label.was _ c.next_name-2.ensures c.in_err-x.was)

pub overflow_add-x : goal.overflow_add-x
overflow_add-x c = omega (arith, c.well_formed, c.in_ok-x.ensures.placed.inside)

pub returns-in_err-y : goal.returns-in_err-y
returns-in_err-y c =
    let a = c.args in
    rw c.from_residual-in_err-y.ensures
    (names_third _ a.line.now a.from _ c.next_name.ensures _ c.in_ok-label.was _ c.next_name-2.ensures _ c.in_ok-x.was _
    c.next_name-3.ensures c.in_err-y.was)

pub overflow_add-result : goal.overflow_add-result
overflow_add-result c = omega (arith, c.well_formed, c.in_ok-y.ensures.placed.inside)

pub returns : goal.returns
returns c =
    let a = c.args in
    names_all _ a.line.now a.from _ c.next_name.ensures _ c.in_ok-label.was _ c.next_name-2.ensures _ c.in_ok-x.was _
    c.next_name-3.ensures _ c.in_ok-y.was
