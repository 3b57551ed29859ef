-- `give_identities` meets its contract. The loop's invariant: the vertices below v have their nodes. Assumes nothing.
use Rattle.weave.proofs.IdentityLaws.{GivenSoFar, given_start, given_more}
use Rattle.woven_tables.specs.Tables.{NameInside}
use Rattle.weave.specs.Identities.{identities_in, IdentitiesGiven}
use native.Mathlib.Omega.{arith}
use mathlib.Core.Logic.{inl}
use mathlib.Core.Path.{◌≡◌, sym, subst}
use Prim.Native.Nat.{◌+◌, ◌-◌, ◌/◌}
use borrow.Author.Rules.{rules}
use Rattle.weave.proofs.identities.give_identities.Goals as goal

pub loop-v-init : goal.loop-v-init
loop-v-init c =
    (omega arith, given_start c.args.query.now c.args.rules.now _ c.args.words.now)

pub bounds-words-v : goal.bounds-words-v
bounds-words-v c =
    omega (arith, c.loop-v.invariant.1.size, c.requires.1, c.requires.2)

pub find_identity-node-requires : goal.find_identity-node-requires
find_identity-node-requires c =
    let v = c.loop-v.v in
    let own = c.requires.3 v c.loop-v-test.true in (
      c.requires.0,
      subst (λ w. NameInside c.args.query.now c.args.rules.now (w / 2))
          (sym (c.loop-v.invariant.1.given.kept v (inl (omega (arith, c.requires.1))))) own,
    )

pub bounds-words-v-in-loop-v : goal.bounds-words-v-in-loop-v
bounds-words-v-in-loop-v c =
    omega (arith, c.loop-v.invariant.1.size, c.requires.1, c.requires.2)

pub loop-v-preserved : goal.loop-v-preserved
loop-v-preserved c =
    let a = c.args in (
      omega arith,
      subst (GivenSoFar a.query.now a.rules.now (identities_in a.request.now a.identities a.count) a.words.now _
          (c.loop-v.v + 1)) (sym c.mark_if-mask.ensures)
          (given_more a.query.now a.rules.now (identities_in a.request.now a.identities a.count) a.words.now c.loop-v.words
          c.loop-v.v c.loop-v.mask c.find_identity-node.result c.loop-v.invariant.1 (omega (arith, c.requires.1))
          (omega (arith, c.loop-v.invariant.1.size, c.requires.2)) c.find_identity-node.ensures),
    )

pub shape_of-words : goal.shape_of-words
shape_of-words c = c.loop-v.invariant.1.size

pub returns : goal.returns
returns c =
    let a = c.args in
    let e : c.loop-v.v ≡ a.n = omega arith in
    subst (λ n. IdentitiesGiven a.query.now a.rules.now (identities_in a.request.now a.identities a.count) a.words.now
    c.loop-v.words n c.loop-v.mask) e c.loop-v.invariant.1.given
