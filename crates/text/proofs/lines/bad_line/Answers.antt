-- `text::lines::bad_line` meets its contract. The loop's invariant: the lines from i on, counted from `line`, give the line that all of them give; a line
-- has at least one byte.
use Rattle.text.proofs.LineLaws.{bad_here, bad_onward, bad_none, feed_count_small}
use Rattle.text.specs.Lines.{on_line}
use Rattle.model.specs.Lines.{bad_line}
use native.Mathlib.Omega.{arith}
use lib.ListN.{drop, get_or}
use Prim.Native.Nat.{ℕ, ◌+◌}
use mathlib.Core.Path.{refl, sym, ap, ◌∙◌}
use Rattle.text.proofs.lines.bad_line.Goals as goal

pub loop-b-init : goal.loop-b-init
loop-b-init c = (refl, omega arith)

pub returns-then-is_bad : goal.returns-then-is_bad
unfolding on_line
returns-then-is_bad c =
    ap on_line (sym (bad_here c.args.s.now c.loop-b.b-index (omega arith) c.loop-b.line
    (sym c.is_bad.ensures ∙ c.if-is_bad.true)) ∙ c.loop-b.invariant.0)

pub overflow_add-line : goal.overflow_add-line
overflow_add-line c =
    omega (arith, c.feed_count-line.ensures, feed_count_small (get_or c.args.s.now c.loop-b.b-index 0))

pub loop-b-preserved : goal.loop-b-preserved
loop-b-preserved c = (
  ap (λ (n : ℕ). bad_line (c.loop-b.line + n) (drop (c.loop-b.b-index + 1) c.args.s.now)) c.feed_count-line.ensures
      ∙ sym (bad_onward c.args.s.now c.loop-b.b-index (omega arith) c.loop-b.line
      (sym c.is_bad.ensures ∙ c.if-is_bad.false))
      ∙ c.loop-b.invariant.0,
  omega (arith, c.feed_count-line.ensures, feed_count_small (get_or c.args.s.now c.loop-b.b-index 0)),
)

pub returns : goal.returns
unfolding on_line
returns c = ap on_line (sym (bad_none c.args.s.now c.loop-b.b-index (omega arith) c.loop-b.line)
    ∙ c.loop-b.invariant.0)
