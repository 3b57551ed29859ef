-- `compare::equal` meets its contract.
use Prim.Native.Nat.{◌+◌, ◌-◌}
use mathlib.Core.Path.{◌≡◌, ◌∙◌}
use native.Mathlib.Omega.{arith}
use Rattle.model.specs.Answers.{part_of}
use Rattle.compare.proofs.equal.Goals as goal

pub returns : goal.returns
unfolding part_of
returns c =
    let e : c.args.a + c.args.n - c.args.a ≡ c.args.n = omega arith in
    let f : c.args.b + c.args.m - c.args.b ≡ c.args.m = omega arith in
    c.same_bytes.ensures ∙ rw (e, f)
