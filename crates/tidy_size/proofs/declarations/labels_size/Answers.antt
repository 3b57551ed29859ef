-- `tidy_size::declarations::labels_size` meets its contract. The loop's invariant: the size is that of the lines of the labels before `i`. The measure is
-- the number of labels left. Assumes nothing.
use Prim.Native.Nat.{◌-◌}
use native.Mathlib.Omega.{arith}
use Rattle.tidy_size.proofs.SizeLaws.{no_lines, more_lines, under, all_lines}
use Rattle.tidy_size.proofs.DeclarationLaws.{label_line_law}
use Rattle.tidy_size.proofs.declarations.labels_size.Goals as goal

pub loop-i-init : goal.loop-i-init
loop-i-init c = (omega arith, no_lines _ _)

pub loop-i-preserved : goal.loop-i-preserved
loop-i-preserved c =
    let l = c.loop-i in (
      omega (arith, c.loop-i-test.true),
      more_lines _ _ l.i l.size _ l.invariant.1 (under (λ text names. names.inside l.i c.loop-i-test.true)
          (label_line_law c.args.words.now l.i _ c.name_size.ensures)),
    )

pub returns : goal.returns
returns c = all_lines _ _ c.loop-i.i _ _ (omega (arith, c.loop-i.invariant.0, c.loop-i-test.false)) c.loop-i.invariant.1
