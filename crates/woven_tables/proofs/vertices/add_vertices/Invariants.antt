-- `add_vertices` meets its contract. The loop's invariant: the first i vertices are woven, and their numbers known. Assumes nothing.
-- `add_vertices` meets its contract. The loop's invariant: the first i vertices are woven, and their numbers known. Assumes nothing.
use Rattle.woven_tables.proofs.VertexLaws.{VerticesSoFar}
use Rattle.woven_tables.specs.Steps.{text_vertices}
use Rattle.woven_tables.specs.Tables.{text_of, actors_at}
use lib.ListN.{drop}
use Prim.Native.Nat.{◌-◌, ◌≤◌}
use Rattle.woven_tables.proofs.vertices.add_vertices.Given as goal

abbrev pub invariant-loop-i : goal.invariant-loop-i
invariant-loop-i l = (l.i ≤ l.count)
    × VerticesSoFar l.query l.rules (text_vertices (drop l.base (text_of l.query l.rules l.k)) l.k (actors_at l.rules l.actors l.actor_count) l.parts l.count) l.initial.words l.words l.woven l.n l.i
    l.numbers
