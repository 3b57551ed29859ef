-- `text::bytes::find` meets its contract. The loop's invariant: the next such byte from i on, within the text, is the next one from the start.
use Rattle.text.proofs.PlaceLaws.{past_none, past_end}
use Rattle.text.specs.Places.{is_other}
use native.Mathlib.Omega.{arith}
use mathlib.Core.Path.{refl, sym, ◌∙◌}
use Rattle.text.proofs.bytes.find.Goals as goal

pub returns-then-s-from : goal.returns-then-s-from
returns-then-s-from c = let a = c.args in sym (past_end (is_other a.byte) a.s.now a.from c.if-s-from.true)

pub loop-i-init : goal.loop-i-init
loop-i-init c = (omega arith, refl)

pub returns-then-in_eight : goal.returns-then-in_eight
returns-then-in_eight c = c.find_near.ensures ∙ c.loop-i.invariant.1

pub loop-i-preserved : goal.loop-i-preserved
loop-i-preserved c =
    let a = c.args in let l = c.loop-i in
    (omega arith, sym (past_none a.s.now l.i a.byte 7 (omega arith) (sym c.in_eight.ensures ∙ c.if-in_eight.false)) ∙ l.invariant.1)

pub returns : goal.returns
returns c = c.find_near-2.ensures ∙ c.loop-i.invariant.1
