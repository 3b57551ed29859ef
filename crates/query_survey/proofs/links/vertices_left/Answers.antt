use lib.ListN.{take}
use Rattle.query_survey.specs.declared.Which.TheVariants.{Vertex}
use Rattle.query_survey.specs.Names.{names_in, text_pieces}
use Rattle.model.specs.Names.{mem}
use Rattle.model.specs.Answers.{name_at}
use mathlib.Core.Bool.{not}
use Rattle.query_survey.proofs.SeenLaws.{stays_zero}
use Rattle.query_survey.proofs.links.vertices_left.Goals as goal

pub returns-then-left-eq0 : goal.returns-then-left-eq0
returns-then-left-eq0 c =
    stays_zero (not (mem (name_at c.args.s.now c.args.name)
    (names_in Vertex (take c.args.i (text_pieces c.args.s.now))))) _ c.if-left-eq0.true

pub returns-then-stands_before : goal.returns-then-stands_before
returns-then-stands_before c = rw (← c.stands_before.ensures, c.if-stands_before.true)

pub returns : goal.returns
returns c = rw (← c.stands_before.ensures, c.if-stands_before.false)
