-- `text::lines::bytes_read` meets its contract.
use Rattle.text.proofs.LineLaws.{none_bad}
use Rattle.text.specs.Lines.{bytes_of, on_line}
use borrow.Author.Tests.{lt-ltb, le-ltb}
use mathlib.Core.Path.{sym, ◌∙◌}
use Rattle.text.proofs.lines.bytes_read.Goals as goal

pub returns-then-limit-s : goal.returns-then-limit-s
unfolding bytes_of
returns-then-limit-s c = simp (lt-ltb _ _ c.if-limit-s.true)

pub returns-then-some_bad : goal.returns-then-some_bad
unfolding bytes_of
returns-then-some_bad c = c.bad_line.ensures ∙ simp (le-ltb _ _ c.if-limit-s.false)

pub returns : goal.returns
unfolding bytes_of on_line
returns c =
    simp (le-ltb _ _ c.if-limit-s.false, none_bad 1 c.args.s.now (sym c.some_bad.ensures ∙ c.if-some_bad.false))
