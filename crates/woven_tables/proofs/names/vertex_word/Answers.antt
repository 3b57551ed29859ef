-- `vertex_word` meets its contract. Assumes nothing.
use mathlib.Core.Path.{◌≡◌, ap, sym, ◌∙◌}
use native.Mathlib.Omega.{arith}
use Rattle.model.specs.Choice.{pick}
use Prim.Native.Nat.{◌+◌, ◌*◌}
use Rattle.woven_tables.proofs.names.vertex_word.Goals as goal

pub returns-then-actor : goal.returns-then-actor
returns-then-actor c = ap (λ t. c.args.name * 2 + pick t 1 0) (sym c.if-actor.true)

pub returns-else-actor : goal.returns-else-actor
returns-else-actor c = let e : c.args.name * 2 ≡ c.args.name * 2 + 0 = omega arith in
    e ∙ ap (λ t. c.args.name * 2 + pick t 1 0) (sym c.if-actor.false)
