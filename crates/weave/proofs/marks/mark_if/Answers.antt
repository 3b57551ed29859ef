-- `mark_if` meets its contract. Assumes nothing.
use Rattle.bits.specs.Word.{with}
use Rattle.model.specs.Choice.{pick}
use mathlib.Core.Path.{ap, sym, ◌∙◌}
use Rattle.weave.proofs.marks.mark_if.Goals as goal

pub returns-then-test : goal.returns-then-test
returns-then-test c =
    c.with.ensures ∙ ap (λ t. pick t (with c.args.marks c.args.v) c.args.marks) (sym c.if-test.true)

pub returns : goal.returns
returns c = ap (λ t. pick t (with c.args.marks c.args.v) c.args.marks) (sym c.if-test.false)
