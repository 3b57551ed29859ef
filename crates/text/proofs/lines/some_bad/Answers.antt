-- `text::lines::some_bad` meets its contract. The loop's invariant: a bad byte was seen, or is to come, exactly if there is one.
use Rattle.text.proofs.LineLaws.{any_step, any_end}
use Rattle.text.specs.Lines.{is_bad}
use Rattle.model.specs.Lists.{any}
use native.Mathlib.Omega.{arith}
use lib.ListN.{drop}
use Prim.Native.Nat.{◌+◌}
use mathlib.Core.Bool.{Bool, ◌||◌}
use mathlib.Core.Path.{refl, sym, ap, ◌∙◌}
use Rattle.text.proofs.lines.some_bad.Goals as goal

pub loop-b-init : goal.loop-b-init
loop-b-init c = refl

pub loop-b-preserved : goal.loop-b-preserved
loop-b-preserved c =
    ap (λ (x : Bool). (c.loop-b.bad || x) || any is_bad (drop (c.loop-b.b-index + 1) c.args.s.now)) c.is_bad-bad.ensures
    ∙ sym (any_step c.args.s.now c.loop-b.b-index (omega arith) c.loop-b.bad) ∙ c.loop-b.invariant

pub returns : goal.returns
returns c = sym (any_end c.args.s.now c.loop-b.b-index (omega arith) c.loop-b.bad) ∙ c.loop-b.invariant
