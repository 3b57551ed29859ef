-- `item_forms::pieces::only_closes` meets its contract.
use Prim.Native.Nat.{ℕ, ◌-◌}
use lib.Dec.{eqb}
use mathlib.Core.Path.{ap}
use Rattle.item_forms.proofs.pieces.only_closes.Goals as goal

pub returns : goal.returns
returns c = ap (λ (x : ℕ). eqb x (c.args.end - 1)) c.spaces_end.ensures
