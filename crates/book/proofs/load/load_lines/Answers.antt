use Rattle.model.specs.Answers.{refusal_of}
use Rattle.model.specs.Refusal.{refusal}
use Rattle.book.proofs.LoadLaws.{empty_is, empty_fits, step_refuses, step_adds, filled_ones}
use Rattle.text.proofs.LineReads.{line_forward, line_inside, lines_fault, lines_known, lines_over}
use Rattle.book_tables.specs.View.{book_at}
use Rattle.model.specs.ReadBook.{book_step}
use Rattle.book_tables.specs.Alike.{alike}
use Rattle.model.specs.Book.{Book}
use Rattle.model.specs.Lines.{read_lines, lines_of}
use mathlib.Core.Path.{refl, sym, ap, ◌∙◌}
use borrow.Author.Rules.{rules}
use native.Mathlib.Omega.{arith}
use Rattle.book.proofs.load.load_lines.Goals as goal

pub loop-at-init : goal.loop-at-init
loop-at-init c = (
  refl,
  rw (c.no_counts-counts.ensures, c.clear_chains.ensures) (empty_fits c.args.text.now c.args.words.now c.requires.1),
  omega arith,
  omega arith,
  ap (λ (b : Book). read_lines 1 (book_step (alike c.args.rule)) 1 b (lines_of c.args.text.now))
      (ap (book_at c.args.text.now _) c.no_counts-counts.ensures ∙ empty_is c.args.text.now _),
)

pub line_step-requires : goal.line_step-requires
line_step-requires c =
    record {
      fits = c.loop-at.invariant.1;
      limit = c.requires.0;
      forward = line_forward c.args.text.now c.loop-at.at _
          c.line_end-to.ensures c.loop-at-test.true;
      inside = line_inside c.args.text.now c.loop-at.at _
          c.line_end-to.ensures c.loop-at-test.true;
    }

pub returns-in-Err : goal.returns-in-Err
unfolding refusal refusal_of
returns-in-Err c = (
  sym c.loop-at.invariant.4 ∙ lines_fault c.args.text.now c.loop-at.at _ c.line_end-to.ensures
      c.loop-at-test.true 1 (book_step (alike c.args.rule)) c.loop-at.line _ _
      (step_refuses c.args.text.now _ _ _ _ c.in-Err.is c.line_step.ensures),
  filled_ones _ _
      c.fill.ensures,
)

pub overflow_add-at : goal.overflow_add-at
overflow_add-at c =
    omega (arith, c.requires.0, line_inside c.args.text.now c.loop-at.at _ c.line_end-to.ensures c.loop-at-test.true)

pub overflow_add-line : goal.overflow_add-line
overflow_add-line c =
    omega (arith, c.requires.0, c.loop-at.invariant.3, c.loop-at-test.true)

pub loop-at-smaller : goal.loop-at-smaller
loop-at-smaller c =
    omega (
      arith,
      line_forward c.args.text.now c.loop-at.at _ c.line_end-to.ensures c.loop-at-test.true,
      line_inside c.args.text.now c.loop-at.at _ c.line_end-to.ensures c.loop-at-test.true,
    )

pub loop-at-preserved : goal.loop-at-preserved
loop-at-preserved c =
    let a = c.args in
    let text = a.text.now in
    let at = c.loop-at.at in
    let ends = c.line_end-to.ensures in
    let more = c.loop-at-test.true in
    let s = step_adds text _ _ _ _ c.in-Ok.is c.line_step.ensures in (
      search rules,
      s.1,
      omega (arith, line_inside text at _ ends more),
      omega (arith, c.loop-at.invariant.3, line_forward text at _ ends more),
      sym (lines_known text at _ ends more 1 (book_step (alike a.rule)) c.loop-at.line _ _ s.0) ∙ c.loop-at.invariant.4,
    )

pub returns : goal.returns
returns c = (
  sym c.loop-at.invariant.4 ∙ lines_over c.args.text.now c.loop-at.at 1 (book_step (alike c.args.rule))
      c.loop-at.line _ c.loop-at-test.false,
  c.loop-at.invariant.1,
)
