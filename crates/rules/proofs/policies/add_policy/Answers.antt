-- `rules::policies::add_policy` meets its contract. Assumes nothing.
use mathlib.Core.Path.{sym, subst}
use native.Mathlib.Omega.{arith}
use Rattle.rules.proofs.PolicyStores.{is_declared, policy_room, policy_stored}
use Rattle.rules_tables.specs.Stores.{more_policies}
use Rattle.rules.specs.Policies.{PolicyAdded}
use Rattle.rules.proofs.policies.add_policy.Goals as goal

pub store_policy-requires : goal.store_policy-requires
store_policy-requires c =
    let a = c.args in
    let g = c.requires in
    let e = rw c.part_of.ensures at c.find_name-m.ensures in
    let d = is_declared a.text.now a.words.now a.counts a.s.now a.base a.name a.query g c.find_name-m.result e in
    let r = policy_room a.text.now a.words.now a.counts a.s.now a.base a.name a.query g c.find_name-m.result e in
    (g.fits.room, r, omega (arith, d, g.fits.few), omega (arith, g.inside, g.line.inside, g.short))

pub returns : goal.returns
returns c =
    let a = c.args in
    let g = c.requires in
    subst (λ w. PolicyAdded a.text.now a.words.now w a.counts a.s.now a.name a.query (more_policies a.counts))
    (sym c.store_policy.ensures)
    (policy_stored a.text.now a.words.now a.counts a.s.now a.base a.name a.query g c.find_name-m.result
    (rw c.part_of.ensures at c.find_name-m.ensures))
