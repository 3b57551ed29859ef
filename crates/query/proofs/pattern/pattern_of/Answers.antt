-- `pattern_of` meets its contract. The loop's invariant: what is found so far is what the pieces before the place name. Assumes nothing.
use native.Mathlib.Omega.{arith}
use mathlib.Core.Path.{subst, sym}
use Rattle.book_tables.specs.View.{book_at}
use Rattle.query.specs.PatternRead.{PatternRead}
use Rattle.query.proofs.ArrayLaws.{fewer_pieces}
use Rattle.query.proofs.VertexLaws.{vertices_inside}
use Rattle.query.proofs.EdgeLaws.{edges_inside}
use Rattle.query.proofs.WalkLaws.{here_inside, pattern_start, pattern_end, start_own, start_on, link_own, link_room, link_on, differ_room, differ_on, asks_room, asks_on, returned_room, returned_on}
use Rattle.query.proofs.pattern.pattern_of.Goals as goal

pub loop-x-init : goal.loop-x-init
loop-x-init c =
    pattern_start c.requires c.text_start-place.ensures c.none-found.ensures c.none-links.ensures
    c.none-conditions.ensures c.none-returned.ensures

pub returns-in_default : goal.returns-in_default
returns-in_default c =
    let a = c.args in
    let end = pattern_end c.loop-x.invariant c.next_piece.ensures c.in_default.is in
    subst (PatternRead (book_at a.book.now a.words.now a.counts) a.counts a.s.now) (sym c.made.ensures) end

pub vertex_number-own-requires : goal.vertex_number-own-requires
vertex_number-own-requires c =
    let so = c.loop-x.invariant in
    let here = here_inside c.next_piece.ensures c.in-Ok.is c.in-Start.is in
    (vertices_inside _ _ _ so.vertices, here)

pub with_vertex-found-requires : goal.with_vertex-found-requires
with_vertex-found-requires c =
    start_own c.loop-x.invariant c.next_piece.ensures
    c.in-Ok.is c.in-Start.is c.vertex_number-own.ensures

pub loop-x-smaller-in-Start : goal.loop-x-smaller-in-Start
loop-x-smaller-in-Start c =
    fewer_pieces c.next_piece.ensures c.in-Ok.is

pub loop-x-preserved-in-Start : goal.loop-x-preserved-in-Start
loop-x-preserved-in-Start c =
    start_on c.loop-x.invariant c.next_piece.ensures
    c.in-Ok.is c.in-Start.is c.vertex_number-own.ensures c.with_vertex-found.ensures

pub vertex_number-own-requires-in-Linked : goal.vertex_number-own-requires-in-Linked
vertex_number-own-requires-in-Linked c =
    let so = c.loop-x.invariant in
    let here = here_inside c.next_piece.ensures c.in-Ok.is c.in-Linked.is in
    (vertices_inside _ _ _ so.vertices, here.vertex)

pub with_vertex-found-requires-in-Linked : goal.with_vertex-found-requires-in-Linked
with_vertex-found-requires-in-Linked c =
    link_own c.loop-x.invariant c.next_piece.ensures
    c.in-Ok.is c.vertex_number-own-in-Linked.ensures _ c.in-Linked.is

pub edge_of-requires : goal.edge_of-requires
edge_of-requires c =
    let so = c.loop-x.invariant in
    let here = here_inside c.next_piece.ensures c.in-Ok.is
    c.in-Linked.is in
    (so.asked.fits, here.label)

pub push-requires : goal.push-requires
push-requires c = (
  omega arith,
  link_room c.loop-x.invariant c.next_piece.ensures
      c.in-Ok.is _ c.in-Linked.is,
)

pub loop-x-smaller-in-Linked : goal.loop-x-smaller-in-Linked
loop-x-smaller-in-Linked c =
    fewer_pieces c.next_piece.ensures c.in-Ok.is

pub loop-x-preserved-in-Linked : goal.loop-x-preserved-in-Linked
loop-x-preserved-in-Linked c =
    rw c.push.ensures (link_on c.loop-x.invariant c.next_piece.ensures
    c.in-Ok.is c.vertex_number-own-in-Linked.ensures _ c.in-Linked.is c.with_vertex-found-in-Linked.ensures
    c.edge_of.ensures)

pub exclusion-condition-requires : goal.exclusion-condition-requires
exclusion-condition-requires c =
    let so = c.loop-x.invariant in
    let here = here_inside c.next_piece.ensures c.in-Ok.is c.in-Differ.is in
    (vertices_inside _ _ _ so.vertices, here.0, here.1)

pub push-requires-in-Differ : goal.push-requires-in-Differ
push-requires-in-Differ c = (
  omega arith,
  differ_room c.loop-x.invariant c.next_piece.ensures
      c.in-Ok.is c.in-Differ.is,
)

pub loop-x-smaller-in-Differ : goal.loop-x-smaller-in-Differ
loop-x-smaller-in-Differ c =
    fewer_pieces c.next_piece.ensures c.in-Ok.is

pub loop-x-preserved-in-Differ : goal.loop-x-preserved-in-Differ
loop-x-preserved-in-Differ c =
    rw c.push-in-Differ.ensures (differ_on c.loop-x.invariant c.next_piece.ensures
    c.in-Ok.is c.in-Differ.is c.exclusion-condition.ensures)

pub requirement-condition-requires : goal.requirement-condition-requires
requirement-condition-requires c =
    let so = c.loop-x.invariant in
    let here = here_inside c.next_piece.ensures c.in-Ok.is c.in-Asks.is in
    (so.asked.fits, vertices_inside _ _ _ so.vertices, edges_inside so.edges, here)

pub push-requires-in-Asks : goal.push-requires-in-Asks
push-requires-in-Asks c = (
  omega arith,
  asks_room c.loop-x.invariant c.next_piece.ensures
      c.in-Ok.is c.in-Asks.is,
)

pub loop-x-smaller-in-Asks : goal.loop-x-smaller-in-Asks
loop-x-smaller-in-Asks c =
    fewer_pieces c.next_piece.ensures c.in-Ok.is

pub loop-x-preserved-in-Asks : goal.loop-x-preserved-in-Asks
loop-x-preserved-in-Asks c =
    rw c.push-in-Asks.ensures (asks_on c.loop-x.invariant c.next_piece.ensures
    c.in-Ok.is c.in-Asks.is c.requirement-condition.ensures)

pub vertex_number-requires : goal.vertex_number-requires
vertex_number-requires c =
    let so = c.loop-x.invariant in
    let here = here_inside c.next_piece.ensures c.in-Ok.is c.in-Returns.is in
    (vertices_inside _ _ _ so.vertices, here)

pub push-requires-in-Returns : goal.push-requires-in-Returns
push-requires-in-Returns c = (
  omega arith,
  returned_room c.loop-x.invariant c.next_piece.ensures
      c.in-Ok.is c.in-Returns.is,
)

pub loop-x-smaller : goal.loop-x-smaller
loop-x-smaller c =
    fewer_pieces c.next_piece.ensures c.in-Ok.is

pub loop-x-preserved : goal.loop-x-preserved
loop-x-preserved c =
    rw c.push-in-Returns.ensures (returned_on c.loop-x.invariant c.next_piece.ensures
    c.in-Ok.is c.in-Returns.is c.vertex_number.ensures)
