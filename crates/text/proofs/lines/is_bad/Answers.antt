-- `text::lines::is_bad` meets its contract.
use Rattle.text.proofs.LineLaws.{over}
use Rattle.text.specs.Lines.{is_bad}
use Rattle.model.specs.Lines.{is_allowed}
use borrow.Author.Tests.{le-leb, lt-leb, ne_eqb}
use native.Mathlib.Omega.{arith}
use Rattle.text.proofs.lines.is_bad.Goals as goal

pub returns-then-b-lt32 : goal.returns-then-b-lt32
unfolding is_bad is_allowed
returns-then-b-lt32 c = simp (lt-leb 32 _ c.if-b-lt32.true)

pub returns : goal.returns
unfolding is_bad is_allowed
returns c = rw (le-leb 32 c.args.b c.if-b-lt32.false, ne_eqb c.args.b 10 (λ h. omega arith)) (over c.args.b 126)
