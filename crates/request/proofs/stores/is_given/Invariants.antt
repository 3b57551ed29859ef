-- `request::stores::is_given` meets its contract. None of the identities passed is the actor's. Assumes nothing.
use Prim.Native.Nat.{◌≤◌}
use mathlib.Core.Path.{◌≡◌}
use mathlib.Core.Bool.{false}
use Rattle.model.specs.Bytes.{same}
use Rattle.model.specs.Lists.{any}
use Rattle.request.specs.Stored.{actor_names}
use Rattle.request.proofs.stores.is_given.Given as goal

abbrev pub invariant-loop-i : goal.invariant-loop-i
invariant-loop-i l = (l.i ≤ l.count) × (any (same l.name) (actor_names l.s l.list l.i) ≡ false)
