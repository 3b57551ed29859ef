-- `compare::same_fours` meets its contract. The loop's invariant: what is left of the two texts stands as the whole texts do.
use Rattle.compare.proofs.CompareLaws.{compare_row}
use native.Mathlib.Omega.{arith}
use mathlib.Core.Path.{refl, sym, ◌∙◌}
use Rattle.compare.proofs.same_fours.Goals as goal

pub loop-i-init : goal.loop-i-init
loop-i-init c = (omega arith, omega arith, refl)

pub loop-i-preserved : goal.loop-i-preserved
loop-i-preserved c =
    let p = c.args in
    let l = c.loop-i in (
      omega arith,
      omega arith,
      sym (compare_row p.a.now p.b.now l.i 3 (omega arith) (omega arith) (rw (sym c.same_four.ensures ∙ c.if-not-same_four.false) tt))
          ∙ l.invariant.2,
    )

pub returns-then-b-i-lt4 : goal.returns-then-b-i-lt4
returns-then-b-i-lt4 c = record { within = omega arith; is = c.loop-i.invariant.2 }

pub returns-then-not-same_four : goal.returns-then-not-same_four
returns-then-not-same_four c = record { within = omega arith; is = c.loop-i.invariant.2 }

pub returns : goal.returns
returns c = record { within = omega arith; is = c.loop-i.invariant.2 }
