use Rattle.book.proofs.LoadLaws.{line_open, line_closed, line_asked}
use Rattle.model.specs.Answers.{part_of}
use Rattle.book.proofs.load.line_step.Goals as goal

pub returns-then-text-to : goal.returns-then-text-to
returns-then-text-to c =
    line_open c.args.rule c.args.text.now c.args.from c.args.to _ c.if-text-to.true

pub read_line-requires : goal.read_line-requires
read_line-requires c =
    line_asked c.args.text.now c.args.words.now c.args.counts c.args.from c.args.to c.requires

pub returns : goal.returns
unfolding part_of
returns c =
    rw (line_closed c.args.rule c.args.text.now c.args.from c.args.to _ c.if-text-to.false)
    c.read_line.ensures
