-- `rules::load::load_lines` meets its contract. Assumes nothing.
use native.Mathlib.Omega.{arith}
use borrow.Author.Rules.{rules}
use Rattle.model.specs.Answers.{refusal_of}
use Rattle.model.specs.Refusal.{refusal}
use Rattle.book_tables.specs.View.{book_at}
use Rattle.text.proofs.LineReads.{line_forward, line_inside}
use Rattle.rules.proofs.LoadLaws.{reading_start, reading_fault, reading_on, reading_done}
use Rattle.rules.proofs.load.load_lines.Goals as goal

pub loop-at-init : goal.loop-at-init
loop-at-init c = reading_start _ _ _ c.no_counts-known.ensures.0 c.no_counts-known.ensures.1 _ c.requires.2

pub line_step-requires : goal.line_step-requires
line_step-requires c =
    record {
      book_fits = c.requires.0;
      fits = c.loop-at.invariant.fits;
      short = c.requires.1;
      forward = line_forward c.args.text.now c.loop-at.at _ c.line_end-to.ensures c.loop-at-test.true;
      inside = line_inside c.args.text.now c.loop-at.at _ c.line_end-to.ensures c.loop-at-test.true;
    }

pub returns-in-Err : goal.returns-in-Err
unfolding refusal refusal_of
returns-in-Err c =
    reading_fault _ c.args.text.now _ _ c.loop-at.at _ _ c.loop-at.invariant _ c.line_end-to.ensures
    c.loop-at-test.true _ _ c.line_step.ensures _ c.in-Err.is

pub overflow_add-at : goal.overflow_add-at
overflow_add-at c =
    omega (arith, c.requires.1, line_inside c.args.text.now c.loop-at.at _ c.line_end-to.ensures c.loop-at-test.true)

pub overflow_add-line : goal.overflow_add-line
overflow_add-line c =
    omega (arith, c.requires.1, c.loop-at.invariant.few, c.loop-at-test.true)

pub loop-at-smaller : goal.loop-at-smaller
loop-at-smaller c =
    omega (
      arith,
      line_forward c.args.text.now c.loop-at.at _ c.line_end-to.ensures c.loop-at-test.true,
      line_inside c.args.text.now c.loop-at.at _ c.line_end-to.ensures c.loop-at-test.true,
    )

pub loop-at-preserved : goal.loop-at-preserved
loop-at-preserved c =
    reading_on _ c.args.text.now _ _ c.loop-at.at _ _ c.loop-at.invariant _ c.line_end-to.ensures
    c.loop-at-test.true _ _ c.line_step.ensures _ c.in-Ok.is (search rules)

pub covered_rules-requires : goal.covered_rules-requires
covered_rules-requires c = (c.loop-at.invariant.fits, c.requires.1)

pub returns : goal.returns
returns c =
    rw (reading_done _ c.args.text.now _ _ c.loop-at.at _ _ c.loop-at.invariant
    c.loop-at-test.false) (c.covered_rules.ensures
    (book_at c.args.book.now c.args.words.now c.args.counts))
