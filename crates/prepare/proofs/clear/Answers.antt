-- The memory is filled from its first word on.
use mathlib.Core.Path.{◌∙◌}
use Rattle.model.specs.Service.{ones}
use Rattle.fill.specs.FilledLaws.{filled_whole}
use Rattle.prepare.proofs.clear.Goals as goal

pub returns : goal.returns
unfolding ones
returns c = c.fill.ensures ∙ filled_whole c.args.work.now
