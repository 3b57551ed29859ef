-- `one_if_excluded` meets its contract, by cases. Assumes nothing.
use Rattle.woven_tables.specs.ClauseSteps.{one_if_excluded}
use mathlib.Core.Path.{ap, sym}
use Rattle.woven_tables.proofs.clauses.one_if_excluded.Goals as goal

pub returns-in-Excluded : goal.returns-in-Excluded
unfolding one_if_excluded
returns-in-Excluded c = ap one_if_excluded (sym c.in-Excluded.is)

pub returns-in-OfVertex : goal.returns-in-OfVertex
unfolding one_if_excluded
returns-in-OfVertex c = ap one_if_excluded (sym c.in-OfVertex.is)

pub returns-in-OfEdge : goal.returns-in-OfEdge
unfolding one_if_excluded
returns-in-OfEdge c = ap one_if_excluded (sym c.in-OfEdge.is)
