-- `add_vertices` meets its contract. The loop's invariant: the first i vertices are woven, and their numbers known. Assumes nothing.
-- `add_vertices` meets its contract. The loop's invariant: the first i vertices are woven, and their numbers known. Assumes nothing.
use Rattle.woven_tables.proofs.VertexLaws.{length_names, own_says, vertices_start, vertices_more, vertices_passed, vertices_end}
use Rattle.woven_tables.specs.Steps.{text_vertices}
use Rattle.woven_tables.specs.Tables.{text_of, actors_at}
use lib.ListN.{length, drop}
use native.Mathlib.Omega.{arith}
use mathlib.Core.Path.{◌≡◌, refl, ◌∙◌}
use Prim.Native.Nat.{◌-◌, ◌≤◌}
use Rattle.woven_tables.proofs.vertices.add_vertices.Goals as goal

pub loop-i-init : goal.loop-i-init
loop-i-init c = (
  omega arith,
  vertices_start c.args.query.now c.args.rules.now _ c.args.words.now c.args.woven _
      (omega arith) refl c.requires.4.woven,
)

pub overflow_add-base : goal.overflow_add-base
overflow_add-base c =
    omega (arith, c.requires.0.fit c.loop-i.i c.loop-i-test.true)

pub vertex_of-word-requires : goal.vertex_of-word-requires
vertex_of-word-requires c =
    let i = c.loop-i.i in
    let t = c.loop-i-test.true in
    let f = c.requires.0.fit i t in
    (c.requires.1, c.requires.0.few_texts, f.0, f.1, c.requires.4.actors, c.requires.4.own i t)

pub place_vertex-placed-requires : goal.place_vertex-placed-requires
place_vertex-placed-requires c =
    (c.loop-i.invariant.1.few, omega (arith, c.loop-i.invariant.1.room, c.requires.3), c.loop-i.invariant.1.inside, c.vertex_of-word.ensures.inside)

pub shape_of-words-then-n-gt-MAX_WOVEN_VERTICES : goal.shape_of-words-then-n-gt-MAX_WOVEN_VERTICES
shape_of-words-then-n-gt-MAX_WOVEN_VERTICES c =
    c.place_vertex-placed.auto.words ∙ c.loop-i.invariant.1.room

pub returns-then-n-gt-MAX_WOVEN_VERTICES : goal.returns-then-n-gt-MAX_WOVEN_VERTICES
returns-then-n-gt-MAX_WOVEN_VERTICES c =
    let l = c.loop-i in
    let t = c.loop-i-test.true in
    let put = c.place_vertex-placed in
    let found = c.vertex_of-word in
    let a = c.args in
    let actors = actors_at a.rules.now a.actors.now a.actor_count in
    let text = text_of a.query.now a.rules.now a.k in
    let size : length a.parts ≡ 8 = omega (arith, c.well_formed) in
    let few : a.count ≤ length a.parts = omega (arith, size, c.requires.0.few) in
    let all = length_names (drop a.base text) a.k actors a.parts a.count few in
    vertices_passed a.query.now a.rules.now (text_vertices (drop a.base text) a.k actors a.parts a.count) a.words.now l.words a.woven
    l.n l.i l.numbers l.invariant.1 (omega (arith, all, t)) put.new.words found.result put.result put.ensures
    (found.ensures.says ∙ own_says text a.base a.k actors a.parts a.count few l.i t) a.count all c.if-n-gt-MAX_WOVEN_VERTICES.true

pub loop-i-preserved : goal.loop-i-preserved
loop-i-preserved c =
    let l = c.loop-i in
    let t = c.loop-i-test.true in
    let put = c.place_vertex-placed in
    let found = c.vertex_of-word in
    let a = c.args in
    let actors = actors_at a.rules.now a.actors.now a.actor_count in
    let text = text_of a.query.now a.rules.now a.k in
    let size : length a.parts ≡ 8 = omega (arith, c.well_formed) in
    let few : a.count ≤ length a.parts = omega (arith, size, c.requires.0.few) in
    let all = length_names (drop a.base text) a.k actors a.parts a.count few in (
      omega (arith, t),
      vertices_more a.query.now a.rules.now (text_vertices (drop a.base text) a.k actors a.parts a.count) a.words.now l.words a.woven
          l.n l.i l.numbers l.invariant.1 (omega (arith, all, t)) put.new.words found.result put.result put.ensures
          (found.ensures.says ∙ own_says text a.base a.k actors a.parts a.count few l.i t)
          c.if-n-gt-MAX_WOVEN_VERTICES.false put.auto.words (omega (arith, t, c.requires.0.few)),
    )

pub shape_of-words : goal.shape_of-words
shape_of-words c = c.loop-i.invariant.1.room

pub returns : goal.returns
returns c =
    let l = c.loop-i in
    let a = c.args in
    let actors = actors_at a.rules.now a.actors.now a.actor_count in
    let text = text_of a.query.now a.rules.now a.k in
    let size : length a.parts ≡ 8 = omega (arith, c.well_formed) in
    let few : a.count ≤ length a.parts = omega (arith, size, c.requires.0.few) in
    let all = length_names (drop a.base text) a.k actors a.parts a.count few in
    vertices_end a.query.now a.rules.now (text_vertices (drop a.base text) a.k actors a.parts a.count) a.words.now l.words a.woven
    l.n l.i l.numbers l.invariant.1 a.count all (omega (arith, l.invariant.0, c.loop-i-test.false))

pub offset_bounds-parts-i : goal.offset_bounds-parts-i
offset_bounds-parts-i c = omega (arith, c.loop-i-test.true, c.requires.0.few)

pub bounds-parts-i : goal.bounds-parts-i
bounds-parts-i c = omega (arith, c.loop-i-test.true, c.requires.0.few)

pub offset_bounds-numbers-i : goal.offset_bounds-numbers-i
offset_bounds-numbers-i c = omega (arith, c.loop-i-test.true, c.requires.0.few)

pub bounds-numbers-i : goal.bounds-numbers-i
bounds-numbers-i c = omega (arith, c.loop-i-test.true, c.requires.0.few)
