-- `book_lines::forms::attr_line` meets its contract.
use Rattle.book_lines.proofs.LineSteps.{attr_stands, attr_step, attr_broken}
use Rattle.book_lines.proofs.PieceLaws.{moved_asked}
use Rattle.book_tables.specs.Owners.{declares}
use native.Mathlib.Omega.{arith}
use Rattle.book_lines.proofs.forms.attr_line.Goals as goal

pub moved-requires : goal.moved-requires
moved-requires c =
    let a = c.args in
    let h = attr_stands a.line.now a.from _ _ _ c.read_attr.ensures.fits c.in-Some.is in
    omega (arith, c.requires.inside, c.requires.limit, h.inside)

pub add_attr-requires : goal.add_attr-requires
add_attr-requires c =
    let a = c.args in
    let h = attr_stands a.line.now a.from _ _ _ c.read_attr.ensures.fits c.in-Some.is in (
      rw c.moved.ensures (moved_asked a.text.now a.line.now a.words.now a.counts a.base a.from _ c.requires h),
      c.requires.fits,
    )

pub returns : goal.returns
returns c =
    let a = c.args in
    λ rule. rw (
      attr_step rule _ a.text.now a.line.now a.words.now a.counts a.base a.from c.requires _ c.read_attr.ensures.form
          c.read_attr.ensures.fits (declares a.owner) _ _ c.in-Some.is,
      ← c.moved.ensures,
    ) (c.add_attr.ensures rule)

pub returns-in_default : goal.returns-in_default
returns-in_default c =
    let a = c.args in
    λ rule. attr_broken rule _ a.text.now a.line.now a.words.now a.counts a.base a.from c.requires _
    c.read_attr.ensures.form
    c.read_attr.ensures.fits (declares a.owner) c.in_default.is
