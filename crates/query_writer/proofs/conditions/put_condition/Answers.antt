-- `put_condition` meets its contract, by the condition's kind. Assumes nothing.
use mathlib.Core.Path.{sym, ap, subst}
use native.Mathlib.Omega.{arith}
use Rattle.query_writer.specs.Pieces.{vertex_at, edge_at, condition_piece}
use Rattle.query_writer.specs.Inside.{ConditionInside}
use Rattle.putting.proofs.PuttingLaws.{puts_same}
use Rattle.query_writer.proofs.conditions.put_condition.Goals as goal

pub offset_bounds-vertices-u : goal.offset_bounds-vertices-u
offset_bounds-vertices-u c =
    let f = subst (ConditionInside c.args.book.now c.args.words.now c.args.query.now c.args.vertices c.args.edges) c.in-Excluded.is c.requires in omega (arith, f.0.0)

pub bounds-vertices-u : goal.bounds-vertices-u
bounds-vertices-u c =
    let f = subst (ConditionInside c.args.book.now c.args.words.now c.args.query.now c.args.vertices c.args.edges) c.in-Excluded.is c.requires in omega (arith, f.0.0)

pub offset_bounds-vertices-v : goal.offset_bounds-vertices-v
offset_bounds-vertices-v c =
    let f = subst (ConditionInside c.args.book.now c.args.words.now c.args.query.now c.args.vertices c.args.edges) c.in-Excluded.is c.requires in omega (arith, f.1.0)

pub bounds-vertices-v : goal.bounds-vertices-v
bounds-vertices-v c =
    let f = subst (ConditionInside c.args.book.now c.args.words.now c.args.query.now c.args.vertices c.args.edges) c.in-Excluded.is c.requires in omega (arith, f.1.0)

pub put_exclusion-requires : goal.put_exclusion-requires
put_exclusion-requires c =
    let f = subst (ConditionInside c.args.book.now c.args.words.now c.args.query.now c.args.vertices c.args.edges) c.in-Excluded.is c.requires in (f.0.1, f.1.1)

pub offset_bounds-vertices-v-in-OfVertex : goal.offset_bounds-vertices-v-in-OfVertex
offset_bounds-vertices-v-in-OfVertex c =
    let f = subst (ConditionInside c.args.book.now c.args.words.now c.args.query.now c.args.vertices c.args.edges) c.in-OfVertex.is c.requires in omega (arith, f.0.0)

pub bounds-vertices-v-in-OfVertex : goal.bounds-vertices-v-in-OfVertex
bounds-vertices-v-in-OfVertex c =
    let f = subst (ConditionInside c.args.book.now c.args.words.now c.args.query.now c.args.vertices c.args.edges) c.in-OfVertex.is c.requires in omega (arith, f.0.0)

pub put_requirement-requires : goal.put_requirement-requires
put_requirement-requires c =
    let f = subst (ConditionInside c.args.book.now c.args.words.now c.args.query.now c.args.vertices c.args.edges) c.in-OfVertex.is c.requires in (f.0.1, f.1)

pub offset_bounds-edges-e : goal.offset_bounds-edges-e
offset_bounds-edges-e c =
    let f = subst (ConditionInside c.args.book.now c.args.words.now c.args.query.now c.args.vertices c.args.edges) c.in-OfEdge.is c.requires in omega (arith, f.0.0)

pub bounds-edges-e : goal.bounds-edges-e
bounds-edges-e c =
    let f = subst (ConditionInside c.args.book.now c.args.words.now c.args.query.now c.args.vertices c.args.edges) c.in-OfEdge.is c.requires in omega (arith, f.0.0)

pub put_requirement-requires-in-OfEdge : goal.put_requirement-requires-in-OfEdge
put_requirement-requires-in-OfEdge c =
    let f = subst (ConditionInside c.args.book.now c.args.words.now c.args.query.now c.args.vertices c.args.edges) c.in-OfEdge.is c.requires in (f.0.1, f.1)

pub returns-in-Excluded : goal.returns-in-Excluded
unfolding vertex_at edge_at condition_piece
returns-in-Excluded c =
    let a = c.args in puts_same (sym (ap (λ x. condition_piece a.book.now a.words.now a.query.now a.vertices a.edges x)
    c.in-Excluded.is)) c.put_exclusion.ensures

pub returns-in-OfVertex : goal.returns-in-OfVertex
unfolding vertex_at edge_at condition_piece
returns-in-OfVertex c =
    let a = c.args in puts_same (sym (ap (λ x. condition_piece a.book.now a.words.now a.query.now a.vertices a.edges x)
    c.in-OfVertex.is)) c.put_requirement.ensures

pub returns-in-OfEdge : goal.returns-in-OfEdge
unfolding vertex_at edge_at condition_piece
returns-in-OfEdge c =
    let a = c.args in puts_same (sym (ap (λ x. condition_piece a.book.now a.words.now a.query.now a.vertices a.edges x)
    c.in-OfEdge.is)) c.put_requirement-in-OfEdge.ensures
