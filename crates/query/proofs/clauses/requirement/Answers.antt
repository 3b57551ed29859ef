-- `requirement` meets its contract. Assumes nothing.
use mathlib.Core.Path.{◌≡◌, ap₂}
use native.Mathlib.Omega.{arith}
use lib.ListN.{length}
use Rattle.model.specs.Answers.{name_at}
use Rattle.model.specs.declared.Condition.TheVariants.{OfVertex, OfEdge}
use Rattle.query.specs.Vertices.{names_of}
use Rattle.query.specs.Clauses.{demand_in}
use Rattle.query.proofs.VertexLaws.{names_counted, place_known, place_new}
use Rattle.query.proofs.clauses.requirement.Goals as goal

pub returns-then-v-found : goal.returns-then-v-found
unfolding demand_in
returns-then-v-found c =
    let a = c.args in
    let size : length a.found.items ≡ 8 = c.well_formed.1.1.1.1.0.1.1.0.1.0.1 in
    let few = names_counted a.s.now a.found size c.requires.1.few in
    let there = place_known (name_at a.s.now a.d.subject) (names_of a.s.now a.found)
    (omega (arith, few, c.if-v-found.true, c.vertex_number-v.ensures)) in
    rw there (ap₂ OfVertex c.vertex_number-v.ensures c.requirement_of-asked.ensures)

pub returns : goal.returns
unfolding demand_in
returns c =
    let a = c.args in
    let size : length a.found.items ≡ 8 = c.well_formed.1.1.1.1.0.1.1.0.1.0.1 in
    let few = names_counted a.s.now a.found size c.requires.1.few in
    let absent = place_new (name_at a.s.now a.d.subject) (names_of a.s.now a.found)
    (omega (arith, few, c.if-v-found.false, c.vertex_number-v.ensures)) in
    rw absent (ap₂ OfEdge c.edge_number-e.ensures c.requirement_of-asked-2.ensures)
