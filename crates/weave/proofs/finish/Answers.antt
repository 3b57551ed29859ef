-- `finish` meets its contract: identities, then ties. Assumes nothing.
use Rattle.weave.proofs.Finishing.{low_stays, finished}
use Rattle.weave.specs.Identities.{identities_in}
use native.Mathlib.Omega.{arith}
use borrow.Author.Rules.{rules}
use Rattle.weave.proofs.finish.Goals as goal

pub give_identities-given-requires : goal.give_identities-given-requires
give_identities-given-requires c =
    let given = c.requires in (given.identified, given.kept.vertices, given.kept.room, given.kept.names)

pub tied-tied-requires : goal.tied-tied-requires
tied-tied-requires c =
    let a = c.args in (
      c.requires.kept.vertices,
      c.requires.kept.edges,
      omega (arith, c.requires.kept.room, c.give_identities-given.auto.words),
      low_stays a.query.now a.rules.now (identities_in a.request.now a.identities a.count) a.words.now
          c.give_identities-given.new.words a.counts c.give_identities-given.result c.requires.kept
          c.give_identities-given.ensures c.requires.low,
    )

pub returns : goal.returns
returns c =
    let a = c.args in
    finished a.query.now a.rules.now (identities_in a.request.now a.identities a.count) a.words.now
    c.give_identities-given.new.words a.counts c.give_identities-given.result c.requires.kept
    c.give_identities-given.ensures c.tied-tied.result c.tied-tied.ensures c.all_marked.result c.all_marked.ensures
