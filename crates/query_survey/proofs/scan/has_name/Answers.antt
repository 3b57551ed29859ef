use Rattle.query_survey.proofs.ScanLaws.{name_is, name_none}
use Rattle.query_pieces.specs.Steps.{piece_of}
use Rattle.model.specs.Answers.{name_at}
use Rattle.query_survey.specs.Names.{OfInside}
use mathlib.Core.Path.{subst, ◌∙◌}
use Rattle.query_survey.proofs.scan.has_name.Goals as goal

pub same_part-requires : goal.same_part-requires
same_part-requires c =
    (c.requires.1, subst (OfInside c.args.s.now) c.in-Some.is (c.name_of.ensures.inside c.args.s.now c.requires.0))

pub returns-in-Some : goal.returns-in-Some
returns-in-Some c =
    c.same_part.ensures ∙ name_is c.args.s.now c.args.which (piece_of c.args.s.now c.args.p)
    (name_at c.args.s.now c.args.name) c.name_of.result (c.name_of.ensures.reads c.args.s.now)
    c.in-Some.q c.in-Some.is

pub returns-in-None : goal.returns-in-None
returns-in-None c =
    name_none c.args.s.now c.args.which (piece_of c.args.s.now c.args.p)
    (name_at c.args.s.now c.args.name) c.name_of.result
    (c.name_of.ensures.reads c.args.s.now) c.in-None.is
