use Rattle.model.specs.Answers.{name_at}
use Rattle.model.specs.Bytes.{same}
use mathlib.Core.Path.{ap, ◌∙◌}
use Rattle.query_survey.proofs.scan.same_part.Goals as goal

pub returns : goal.returns
unfolding name_at
returns c =
    c.same_bytes.ensures ∙ ap (λ w. same w c.part_of-2.result.now) c.part_of.ensures
    ∙ ap (λ w. same (name_at c.args.s.now c.args.a) w) c.part_of-2.ensures
