-- `add_edges` meets its contract. The loop's invariant: the first i edges are woven. Assumes nothing.
use Rattle.woven_tables.proofs.EdgeLaws.{edges_start, edges_more}
use Rattle.woven_tables.specs.Steps.{EdgesAdded}
use lib.ListN.{length, length-set}
use native.Mathlib.Omega.{arith}
use mathlib.Core.Path.{◌≡◌, subst}
use Prim.Native.Nat.{◌-◌}
use Rattle.woven_tables.proofs.edges.add_edges.Goals as goal

pub loop-i-init : goal.loop-i-init
loop-i-init c = (
  omega arith,
  edges_start c.args.base c.args.k c.args.edges c.args.numbers
      c.args.words.now c.args.woven,
)

pub offset_bounds-numbers-from : goal.offset_bounds-numbers-from
offset_bounds-numbers-from c =
    let f = c.requires.0.fit c.loop-i.i c.loop-i-test.true in omega (arith, f.from)

pub bounds-numbers-from : goal.bounds-numbers-from
bounds-numbers-from c =
    let f = c.requires.0.fit c.loop-i.i c.loop-i-test.true in omega (arith, f.from)

pub offset_bounds-numbers-to : goal.offset_bounds-numbers-to
offset_bounds-numbers-to c =
    let f = c.requires.0.fit c.loop-i.i c.loop-i-test.true in omega (arith, f.to)

pub bounds-numbers-to : goal.bounds-numbers-to
bounds-numbers-to c =
    let f = c.requires.0.fit c.loop-i.i c.loop-i-test.true in omega (arith, f.to)

pub edge_word-requires : goal.edge_word-requires
edge_word-requires c =
    let f = c.requires.0.fit c.loop-i.i c.loop-i-test.true in
    omega (arith, f.label, f.woven_from, f.woven_to)

pub bounds-words-at : goal.bounds-words-at
bounds-words-at c =
    omega (arith, c.loop-i.invariant.1.size, c.requires.0.room, c.requires.1, c.loop-i-test.true)

pub overflow_add-base : goal.overflow_add-base
overflow_add-base c =
    let f = c.requires.0.fit c.loop-i.i c.loop-i-test.true in omega (arith, f.name.0)

pub name_word-requires : goal.name_word-requires
name_word-requires c =
    let f = c.requires.0.fit c.loop-i.i c.loop-i-test.true in (c.requires.0.few_texts, f.name.0, f.name.1)

pub bounds-words-at-in-loop-i : goal.bounds-words-at-in-loop-i
bounds-words-at-in-loop-i c =
    let t = c.loop-i-test.true in
    simp length-set (omega (arith, t, c.loop-i.invariant.1.size, c.requires.0.room, c.requires.1))

pub loop-i-preserved : goal.loop-i-preserved
loop-i-preserved c =
    let a = c.args in
    let p = c.requires in
    let l = c.loop-i in
    let t = c.loop-i-test.true in
    let all : length a.edges ≡ 16 = omega (arith, c.well_formed) in (
      omega (arith, t),
      edges_more a.base a.k a.edges l.i a.numbers a.words.now l.words a.woven c.edge_word.result c.name_word.result
          l.invariant.1 (omega (arith, t, all, p.0.few)) (omega (arith, t, p.0.room)) (omega (arith, l.invariant.1.size, p.1)) (p.0.fit l.i t)
          c.edge_word.ensures c.name_word.ensures,
    )

pub shape_of-words : goal.shape_of-words
shape_of-words c = c.loop-i.invariant.1.size

pub returns : goal.returns
returns c =
    let a = c.args in
    let e : c.loop-i.i ≡ a.count = omega (arith, c.loop-i.invariant.0, c.loop-i-test.false) in
    subst (λ n. EdgesAdded a.base a.k a.edges n a.numbers a.words.now c.loop-i.words a.woven) e c.loop-i.invariant.1.added

pub offset_bounds-edges-i : goal.offset_bounds-edges-i
offset_bounds-edges-i c = omega (arith, c.loop-i-test.true, c.requires.0.few)

pub bounds-edges-i : goal.bounds-edges-i
bounds-edges-i c = omega (arith, c.loop-i-test.true, c.requires.0.few)

pub overflow_add-at : goal.overflow_add-at
overflow_add-at c = omega (arith, c.loop-i-test.true, c.requires.0.room)

pub overflow_add-words : goal.overflow_add-words
overflow_add-words c = omega (arith, c.loop-i-test.true, c.requires.0.room)

pub offset_bounds-words-at : goal.offset_bounds-words-at
offset_bounds-words-at c = omega (arith, c.loop-i-test.true, c.requires.0.room)

pub overflow_add-words-in-loop-i : goal.overflow_add-words-in-loop-i
overflow_add-words-in-loop-i c = omega (arith, c.loop-i-test.true, c.requires.0.room)

pub offset_bounds-words-at-in-loop-i : goal.offset_bounds-words-at-in-loop-i
offset_bounds-words-at-in-loop-i c = omega (arith, c.loop-i-test.true, c.requires.0.room)
