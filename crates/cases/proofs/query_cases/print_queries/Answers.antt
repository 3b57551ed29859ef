-- A query's line begins at the place and ends within the queries.
use Rattle.std.proofs.Common.{arith, length, ◌≤◌}
use Rattle.text.specs.Lines.{is_in_line}
use Rattle.text.proofs.PlaceLaws.{past_on, past_within}
use Rattle.cases.proofs.query_cases.print_queries.Goals as goal

pub slice_bounds-print_query-count : goal.slice_bounds-print_query-count
slice_bounds-print_query-count g c = omega (arith, c.line_end-to.ensures, past_on is_in_line c.args.queries.now c.loop-at.at)

pub slice_bounds-print_query-start : goal.slice_bounds-print_query-start
slice_bounds-print_query-start g c = omega (arith, c.line_end-to.ensures, past_on is_in_line c.args.queries.now c.loop-at.at)

pub slice_bounds-print_query-end : goal.slice_bounds-print_query-end
slice_bounds-print_query-end g c =
    let within : c.loop-at.at ≤ length c.args.queries.now = omega arith in
    omega (arith, c.line_end-to.ensures, past_within is_in_line c.args.queries.now c.loop-at.at within)

pub loop-at-smaller : goal.loop-at-smaller
loop-at-smaller g c =
    let within : c.loop-at.at ≤ length c.args.queries.now = omega arith in
    let on = past_on is_in_line c.args.queries.now c.loop-at.at in
    omega (arith, c.line_end-to.ensures, past_within is_in_line c.args.queries.now c.loop-at.at within)
