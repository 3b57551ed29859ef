-- `book_lines::forms::label_line` meets its contract.
use Rattle.book_lines.proofs.LineSteps.{label_broken, label_open, label_step}
use Rattle.book_lines.proofs.PieceLaws.{moved_asked}
use Rattle.item_forms.proofs.PlacedLaws.{placed_at}
use native.Mathlib.Omega.{arith}
use Rattle.book_lines.proofs.forms.label_line.Goals as goal

pub overflow_add-name : goal.overflow_add-name
overflow_add-name c =
    let a = c.args in
    omega (arith, c.well_formed, (placed_at a.line.now a.from _ c.in-Some.is c.next_name.ensures.placed).inside)

pub moved-requires : goal.moved-requires
moved-requires c =
    let a = c.args in
    let h = placed_at a.line.now a.from _ c.in-Some.is c.next_name.ensures.placed in
    omega (arith, c.requires.inside, c.requires.limit, h.inside)

pub add_label-requires : goal.add_label-requires
add_label-requires c =
    let a = c.args in
    let h = placed_at a.line.now a.from _ c.in-Some.is c.next_name.ensures.placed in (
      rw c.moved.ensures (moved_asked a.text.now a.line.now a.words.now a.counts a.base a.from _ c.requires h),
      c.requires.fits,
    )

pub returns-then-form_closes : goal.returns-then-form_closes
returns-then-form_closes c =
    let a = c.args in
    λ rule. rw (
      label_step rule _ a.text.now a.line.now a.words.now a.counts a.base a.from c.requires _ c.next_name.ensures _
          c.in-Some.is _ c.form_closes.ensures c.if-form_closes.true,
      ← c.moved.ensures,
    ) (c.add_label.ensures rule)

pub returns-else-form_closes : goal.returns-else-form_closes
returns-else-form_closes c =
    let a = c.args in
    λ rule. label_open rule _ a.text.now a.line.now a.words.now a.counts a.base a.from c.requires _ c.next_name.ensures _
    c.in-Some.is _ c.form_closes.ensures c.if-form_closes.false

pub returns-in-None : goal.returns-in-None
returns-in-None c =
    let a = c.args in
    λ rule. label_broken rule _ a.text.now a.line.now a.words.now a.counts a.base a.from c.requires _
    c.next_name.ensures
    c.in-None.is
