-- `compare::begins_one_of_six` meets its contract: the code is the definition.
use mathlib.Core.Path.{refl}
use Rattle.compare.specs.Compare.{begins_one_of_six}
use Rattle.compare.proofs.begins_one_of_six.Goals as goal

pub returns : goal.returns
unfolding begins_one_of_six
returns c = refl
