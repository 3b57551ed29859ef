-- `rules::load::covered_rules` meets its contract. Assumes nothing.
use Rattle.model.specs.Answers.{refusal_of}
use Rattle.model.specs.Refusal.{refusal}
use Rattle.rules.proofs.LoadLaws.{uncovered_refused, covered_accepted}
use Rattle.rules.proofs.load.covered_rules.Goals as goal

pub returns-then-is_uncovered : goal.returns-then-is_uncovered
unfolding refusal refusal_of
returns-then-is_uncovered c b = uncovered_refused _ _ _ c.requires.0 _ c.is_uncovered.ensures c.if-is_uncovered.true

pub returns : goal.returns
returns c b =
    (covered_accepted _ _ _ c.requires.0 _ c.is_uncovered.ensures c.if-is_uncovered.false, c.requires.0, c.requires.1)
