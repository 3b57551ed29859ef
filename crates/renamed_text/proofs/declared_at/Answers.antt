-- `renamed_text::declared_at` meets its contract. The loop's invariant: the line is that of the lines from `at` on, counted from `line`. Assumes nothing.
use Prim.Native.Nat.{◌-◌}
use mathlib.Core.Path.{refl, sym, ◌∙◌}
use native.Mathlib.Omega.{arith}
use Rattle.model.specs.Answers.{part_of}
use Rattle.model.specs.Renaming.{declares_node, declared_at}
use Rattle.text.specs.Lines.{line_at}
use Rattle.text.proofs.LineReads.{line_forward, line_inside}
use Rattle.renamed_text.proofs.DeclaredLaws.{declared_here, declared_later, declared_nowhere}
use Rattle.renamed_text.proofs.declared_at.Goals as goal

pub loop-at-init : goal.loop-at-init
unfolding declared_at
loop-at-init c = (refl, omega arith, omega arith)

pub slice_bounds-declares-count : goal.slice_bounds-declares-count
slice_bounds-declares-count c =
    let text = c.args.text.now in
    omega (arith, line_forward text c.loop-at.at _ c.line_end-to.ensures c.loop-at-test.true)

pub slice_bounds-declares-start : goal.slice_bounds-declares-start
slice_bounds-declares-start c =
    let text = c.args.text.now in
    omega (arith, line_forward text c.loop-at.at _ c.line_end-to.ensures c.loop-at-test.true)

pub slice_bounds-declares-end : goal.slice_bounds-declares-end
slice_bounds-declares-end c =
    let text = c.args.text.now in
    omega (arith, line_inside text c.loop-at.at _ c.line_end-to.ensures c.loop-at-test.true)

pub returns-then-declares : goal.returns-then-declares
unfolding part_of line_at declares_node
returns-then-declares c =
    let a = c.args in
    declared_here a.name.now a.text.now c.loop-at.at _ c.line_end-to.ensures c.loop-at-test.true c.loop-at.line
    (sym c.declares.ensures ∙ c.if-declares.true) ∙ c.loop-at.invariant.0

pub overflow_add-at : goal.overflow_add-at
overflow_add-at c =
    let text = c.args.text.now in
    omega (arith, line_inside text c.loop-at.at _ c.line_end-to.ensures c.loop-at-test.true)

pub loop-at-smaller : goal.loop-at-smaller
loop-at-smaller c =
    let text = c.args.text.now in
    omega (
      arith,
      line_forward text c.loop-at.at _ c.line_end-to.ensures c.loop-at-test.true,
      line_inside text c.loop-at.at _ c.line_end-to.ensures c.loop-at-test.true,
    )

pub loop-at-preserved : goal.loop-at-preserved
unfolding part_of line_at declares_node
loop-at-preserved c =
    let a = c.args in
    let ends = c.line_end-to.ensures in
    let more = c.loop-at-test.true in (
      declared_later a.name.now a.text.now c.loop-at.at _ ends more c.loop-at.line
          (sym c.declares.ensures ∙ c.if-declares.false) ∙ c.loop-at.invariant.0,
      omega (arith, line_inside a.text.now c.loop-at.at _ ends more),
      omega (arith, line_forward a.text.now c.loop-at.at _ ends more),
    )

pub returns : goal.returns
returns c =
    let a = c.args in
    declared_nowhere a.name.now a.text.now c.loop-at.at c.loop-at-test.false c.loop-at.line ∙ c.loop-at.invariant.0
