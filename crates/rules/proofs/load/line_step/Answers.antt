-- `rules::load::line_step` meets its contract. Assumes nothing.
use native.Mathlib.Omega.{arith}
use Rattle.model.specs.Answers.{part_of}
use Rattle.rules.proofs.LoadLaws.{line_open, line_closed, line_asked}
use Rattle.rules.proofs.load.line_step.Goals as goal

pub returns-then-text-to : goal.returns-then-text-to
returns-then-text-to c =
    line_open c.args.text.now c.args.from c.args.to _ _ (omega (arith, c.if-text-to.true))

pub form_step-requires : goal.form_step-requires
form_step-requires c = line_asked _ _ _ _ _ _ _ _ c.requires

pub returns : goal.returns
unfolding part_of
returns c =
    rw (line_closed c.args.text.now c.args.from c.args.to _ _ (omega (arith, c.if-text-to.false)))
    c.form_step.ensures
