-- `edge_number` meets its contract. The loop's invariant: none of the first k edges has the name. Assumes nothing.
use mathlib.Core.Path.{◌≡◌, sym, ◌∙◌}
use native.Mathlib.Omega.{arith}
use lib.ListN.{length}
use Rattle.model.specs.Answers.{name_at}
use Rattle.model.specs.PlainData.{no_edge}
use Rattle.model.specs.declared.Edge.{Edge}
use Rattle.query.proofs.VertexLaws.{number_start, number_on, number_found, number_none}
use Rattle.query.proofs.edges.edge_number.Goals as goal

pub loop-k-init : goal.loop-k-init
loop-k-init c =
    let a = c.args in
    (omega arith, number_start (λ (e : Edge). name_at a.s.now e.name) no_edge a.links.items (name_at a.s.now a.name))

pub bounds-links-k : goal.bounds-links-k
bounds-links-k c = omega (arith, c.requires.0.few)

pub same_part-requires : goal.same_part-requires
same_part-requires c =
    (c.requires.1, c.requires.0.inside c.loop-k.k c.loop-k-test.true)

pub returns-then-same_part : goal.returns-then-same_part
returns-then-same_part c =
    let a = c.args in
    let size : length a.links.items ≡ 16 = c.well_formed.1.0.1.1.0.1.0.1 in
    let l = c.loop-k in
    number_found (λ (e : Edge). name_at a.s.now e.name) no_edge a.links.items (name_at a.s.now a.name) a.links.count
    (omega (arith, size, c.requires.0.few)) l.k c.loop-k-test.true l.invariant.1 (sym c.same_part.ensures ∙ c.if-same_part.true)

pub loop-k-preserved : goal.loop-k-preserved
loop-k-preserved c =
    let a = c.args in
    let l = c.loop-k in (
      omega arith,
      number_on (λ (e : Edge). name_at a.s.now e.name) no_edge a.links.items (name_at a.s.now a.name) l.k l.invariant.1
          (sym c.same_part.ensures ∙ c.if-same_part.false),
    )

pub returns : goal.returns
returns c =
    let a = c.args in
    let size : length a.links.items ≡ 16 = c.well_formed.1.0.1.1.0.1.0.1 in
    let l = c.loop-k in
    number_none (λ (e : Edge). name_at a.s.now e.name) no_edge a.links.items (name_at a.s.now a.name) a.links.count
    (omega (arith, size, c.requires.0.few)) l.k l.invariant.0 c.loop-k-test.false l.invariant.1
