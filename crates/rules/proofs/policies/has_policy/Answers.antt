-- `rules::policies::has_policy` meets its contract. Assumes nothing.
use Rattle.rules.proofs.policies.has_policy.Goals as goal

pub returns : goal.returns
returns c = rw c.policy_place.ensures
