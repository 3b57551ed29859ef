-- `clause_words` meets its contract, by the condition's kind. Assumes nothing.
use Rattle.woven_tables.proofs.ClauseLaws.{exclusion_said, of_vertex_said, of_edge_said}
use Rattle.woven_tables.specs.ClauseSteps.{ConditionReady}
use native.Mathlib.Omega.{arith}
use mathlib.Core.Path.{subst}
use Rattle.woven_tables.proofs.clauses.clause_words.Goals as goal

pub offset_bounds-numbers-u : goal.offset_bounds-numbers-u
offset_bounds-numbers-u c =
    let f = subst (ConditionReady c.args.base c.args.numbers c.args.before) c.in-Excluded.is c.requires.1 in
    omega arith

pub bounds-numbers-u : goal.bounds-numbers-u
bounds-numbers-u c =
    let f = subst (ConditionReady c.args.base c.args.numbers c.args.before) c.in-Excluded.is c.requires.1 in
    omega arith

pub overflow_cast-result : goal.overflow_cast-result
overflow_cast-result c =
    let f = subst (ConditionReady c.args.base c.args.numbers c.args.before) c.in-Excluded.is c.requires.1 in
    omega arith

pub offset_bounds-numbers-v : goal.offset_bounds-numbers-v
offset_bounds-numbers-v c =
    let f = subst (ConditionReady c.args.base c.args.numbers c.args.before) c.in-Excluded.is c.requires.1 in
    omega arith

pub bounds-numbers-v : goal.bounds-numbers-v
bounds-numbers-v c =
    let f = subst (ConditionReady c.args.base c.args.numbers c.args.before) c.in-Excluded.is c.requires.1 in
    omega arith

pub overflow_cast-result-in-Excluded : goal.overflow_cast-result-in-Excluded
overflow_cast-result-in-Excluded c =
    let f = subst (ConditionReady c.args.base c.args.numbers c.args.before) c.in-Excluded.is c.requires.1 in
    omega arith

pub offset_bounds-numbers-v-in-OfVertex : goal.offset_bounds-numbers-v-in-OfVertex
offset_bounds-numbers-v-in-OfVertex c =
    let f = subst (ConditionReady c.args.base c.args.numbers c.args.before) c.in-OfVertex.is c.requires.1 in
    omega arith

pub bounds-numbers-v-in-OfVertex : goal.bounds-numbers-v-in-OfVertex
bounds-numbers-v-in-OfVertex c =
    let f = subst (ConditionReady c.args.base c.args.numbers c.args.before) c.in-OfVertex.is c.requires.1 in
    omega arith

pub requirement_words-requires : goal.requirement_words-requires
requirement_words-requires c =
    let f = subst (ConditionReady c.args.base c.args.numbers c.args.before) c.in-OfVertex.is c.requires.1 in
    (c.requires.0, omega arith, omega (arith, f.1), f.2)

pub overflow_add-before : goal.overflow_add-before
overflow_add-before c =
    let f = subst (ConditionReady c.args.base c.args.numbers c.args.before) c.in-OfEdge.is c.requires.1 in
    omega arith

pub requirement_words-requires-in-OfEdge : goal.requirement_words-requires-in-OfEdge
requirement_words-requires-in-OfEdge c =
    let f = subst (ConditionReady c.args.base c.args.numbers c.args.before) c.in-OfEdge.is c.requires.1 in
    (c.requires.0, omega arith, omega (arith, f.0), f.1)

pub returns-in-Excluded : goal.returns-in-Excluded
returns-in-Excluded c =
    exclusion_said c.args.k c.args.base c.args.numbers c.args.before c.args.condition _ _
    c.in-Excluded.is

pub returns-in-OfVertex : goal.returns-in-OfVertex
returns-in-OfVertex c =
    of_vertex_said c.args.k c.args.base c.args.numbers c.args.before c.args.condition _ _
    c.requirement_words.result c.in-OfVertex.is c.requirement_words.ensures

pub returns-in-OfEdge : goal.returns-in-OfEdge
returns-in-OfEdge c =
    of_edge_said c.args.k c.args.base c.args.numbers c.args.before c.args.condition _ _
    c.requirement_words-in-OfEdge.result c.in-OfEdge.is c.requirement_words-in-OfEdge.ensures
