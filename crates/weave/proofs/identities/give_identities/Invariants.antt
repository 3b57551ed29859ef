-- `give_identities` meets its contract. The loop's invariant: the vertices below v have their nodes. Assumes nothing.
use Rattle.weave.proofs.IdentityLaws.{GivenSoFar}
use Rattle.weave.specs.Identities.{identities_in}
use Prim.Native.Nat.{◌-◌, ◌≤◌}
use borrow.Author.Rules.{rules}
use Rattle.weave.proofs.identities.give_identities.Given as goal

abbrev pub invariant-loop-v : goal.invariant-loop-v
invariant-loop-v l = (l.v ≤ l.n)
    × GivenSoFar l.query l.rules (identities_in l.request l.identities l.count) l.initial.words l.words l.v l.mask
