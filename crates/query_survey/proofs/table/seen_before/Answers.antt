use lib.ListN.{take}
use Rattle.query_survey.specs.Names.{names_in, text_pieces}
use Rattle.model.specs.Names.{mem}
use Rattle.model.specs.Answers.{name_at}
use Rattle.query_survey.proofs.SeenLaws.{stays_seen, by_left}
use mathlib.Core.Path.{◌∙◌}
use Rattle.query_survey.proofs.table.seen_before.Goals as goal

pub returns-then-before : goal.returns-then-before
returns-then-before c =
    stays_seen (mem (name_at c.args.s.now c.args.name)
    (names_in c.args.which (take c.args.i (text_pieces c.args.s.now)))) _ c.if-before.true

pub returns : goal.returns
returns c = c.stands_before.ensures ∙ by_left _ _ c.if-before.false
