-- `find_vertex` meets its contract: none of the vertices passed is the same. Assumes nothing.
use Rattle.woven_tables.specs.Tables.{vertex_of_word, vertices_at}
use Rattle.book_tables.proofs.ListedLaws.{scan_none, scan_on, scan_place, scan_absent}
use Rattle.book_tables.specs.Listed.{listed}
use Rattle.model.specs.Lists.{any}
use Rattle.model.specs.Weave.{same_vertex, place_vertex}
use lib.ListN.{get_or}
use native.Mathlib.Omega.{arith}
use Prim.Native.Nat.{◌-◌}
use mathlib.Core.Bool.{false}
use mathlib.Core.Path.{◌≡◌, sym, ap, ◌∙◌}
use borrow.Author.Rules.{rules}
use Rattle.woven_tables.proofs.names.find_vertex.Goals as goal

pub loop-i-init : goal.loop-i-init
loop-i-init c =
    (omega arith, scan_none _ (λ j. vertex_of_word c.args.query.now c.args.rules.now (get_or c.args.words.now j 0)))

pub same_vertex-requires : goal.same_vertex-requires
same_vertex-requires c =
    (c.requires.2, c.requires.1 c.loop-i.i c.loop-i-test.true)

pub returns-then-same_vertex : goal.returns-then-same_vertex
unfolding place_vertex vertices_at
returns-then-same_vertex c =
    sym (scan_place (same_vertex (vertex_of_word c.args.query.now c.args.rules.now c.args.word))
    (λ j. vertex_of_word c.args.query.now c.args.rules.now (get_or c.args.words.now j 0)) c.args.count
    c.loop-i.i c.loop-i-test.true c.loop-i.invariant.1 (sym c.same_vertex.ensures ∙ c.if-same_vertex.true))

pub loop-i-preserved : goal.loop-i-preserved
loop-i-preserved c = (
  omega arith,
  scan_on (same_vertex (vertex_of_word c.args.query.now c.args.rules.now c.args.word))
      (λ j. vertex_of_word c.args.query.now c.args.rules.now (get_or c.args.words.now j 0)) c.loop-i.i
      c.loop-i.invariant.1 (sym c.same_vertex.ensures ∙ c.if-same_vertex.false),
)

pub returns : goal.returns
unfolding place_vertex vertices_at
returns c =
    let e : c.loop-i.i ≡ c.args.count = omega arith in
    sym (scan_absent (same_vertex (vertex_of_word c.args.query.now c.args.rules.now c.args.word))
    (λ j. vertex_of_word c.args.query.now c.args.rules.now (get_or c.args.words.now j 0)) c.args.count
    (ap (λ n. any (same_vertex (vertex_of_word c.args.query.now c.args.rules.now c.args.word))
    (listed (λ j. vertex_of_word c.args.query.now c.args.rules.now (get_or c.args.words.now j 0)) n)) (sym e)
    ∙ c.loop-i.invariant.1))
