-- `text::parts::part_of` meets its contract. Assumes nothing.
use Prim.Native.Nat.{◌+◌, ◌-◌}
use mathlib.Core.Path.{◌≡◌}
use native.Mathlib.Omega.{arith}
use Rattle.model.specs.Answers.{part_of, name_at}
use Rattle.text.proofs.parts.part_of.Goals as goal

pub returns : goal.returns
unfolding name_at part_of
returns c =
    let p = c.args.part in
    let e : p.start + p.length - p.start ≡ p.length = omega arith in rw e
