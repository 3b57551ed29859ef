-- `with_vertex` meets its contract. Assumes nothing.
use mathlib.Core.Path.{refl}
use native.Mathlib.Omega.{arith}
use Rattle.query.proofs.vertices.with_vertex.Goals as goal

pub returns-then-number-vertices : goal.returns-then-number-vertices
returns-then-number-vertices c = record { known = λ l. refl; new = λ l. absurd (omega (arith, c.if-number-vertices.true)) }

pub returns : goal.returns
returns c = record { known = λ l. absurd (omega (arith, c.if-number-vertices.false)); new = λ l. c.push.ensures }
