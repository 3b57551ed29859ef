-- `rules::policies::policy_fault` meets its contract. Assumes nothing.
use Rattle.rules.proofs.PolicyFaults.{policy_answer}
use Rattle.rules.proofs.policies.policy_fault.Goals as goal

pub returns : goal.returns
returns c =
    let a = c.args in
    let g = c.requires in
    policy_answer a.text.now a.words.now a.counts g.0 a.s.now a.name a.query c.find_name-m.result
    c.has_policy.result c.lowest_of.result a.fault g.2 (rw c.part_of.ensures at c.find_name-m.ensures)
    c.has_policy.ensures c.lowest_of.ensures
