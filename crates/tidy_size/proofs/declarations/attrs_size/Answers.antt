-- `tidy_size::declarations::attrs_size` meets its contract. The loop's invariant: the size is that of the lines of the attributes before `i`. The measure
-- is the number of attributes left. Assumes nothing.
use Prim.Native.Nat.{◌-◌}
use native.Mathlib.Omega.{arith}
use Rattle.book_tables.specs.declared.Owner.TheVariants.{Node}
use Rattle.tidy_size.proofs.SizeLaws.{no_lines, more_lines, under, all_lines}
use Rattle.tidy_size.proofs.declarations.attrs_size.Goals as goal

pub loop-i-init : goal.loop-i-init
loop-i-init c = (omega arith, λ owner. no_lines _ _)

pub attr_size-size-requires : goal.attr_size-size-requires
attr_size-size-requires c = omega (arith, c.loop-i-test.true, c.requires.0)

pub overflow_add-size : goal.overflow_add-size
overflow_add-size c =
    omega (
      arith,
      (c.attr_size-size.ensures Node).small,
      (c.loop-i.invariant.1 Node).small,
      c.loop-i-test.true,
      c.requires.1,
    )

pub loop-i-preserved : goal.loop-i-preserved
loop-i-preserved c =
    let l = c.loop-i in (
      omega (arith, c.loop-i-test.true),
      λ owner. more_lines _ _ l.i l.size _ (l.invariant.1 owner)
          (under (λ text names. names.inside l.i c.loop-i-test.true) (c.attr_size-size.ensures owner)),
    )

pub returns : goal.returns
returns c = λ owner. all_lines _ _ c.loop-i.i _ _ (omega (arith, c.loop-i.invariant.0, c.loop-i-test.false)) (c.loop-i.invariant.1 owner)
