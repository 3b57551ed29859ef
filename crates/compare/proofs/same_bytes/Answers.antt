-- `compare::same_bytes` meets its contract. The loop's invariant: what is left of the two texts is the same exactly if the whole texts are.
use Rattle.compare.proofs.CompareLaws.{same_lengths, row_same, row_differs}
use native.Mathlib.Omega.{arith}
use mathlib.Core.Path.{refl, sym, ◌∙◌}
use Rattle.compare.proofs.same_bytes.Goals as goal

pub returns-then-a-b : goal.returns-then-a-b
returns-then-a-b c = let p = c.args in sym (same_lengths p.a.now p.b.now c.if-a-b.true)

pub loop-i-init : goal.loop-i-init
loop-i-init c = (omega arith, refl)

pub returns-then-not-same_four : goal.returns-then-not-same_four
returns-then-not-same_four c =
    let p = c.args in let l = c.loop-i in
    sym (row_differs p.a.now p.b.now l.i 3 (omega arith) (omega arith) (sym c.same_four.ensures ∙ c.if-not-same_four.true))
    ∙ l.invariant.1

pub loop-i-preserved : goal.loop-i-preserved
loop-i-preserved c =
    let p = c.args in let l = c.loop-i in (
      omega arith,
      sym (row_same p.a.now p.b.now l.i 3 (omega arith) (omega arith) (sym c.same_four.ensures ∙ c.if-not-same_four.false))
          ∙ l.invariant.1,
    )

pub returns : goal.returns
returns c = c.same_from.ensures ∙ c.loop-i.invariant.1
