-- `rules_tables::policies::lacks_policy` meets its contract. Assumes nothing.
use mathlib.Core.Path.{◌∙◌}
use borrow.Author.Tests.{eq-eqb, ne_eqb}
use Rattle.rules_tables.proofs.PolicyLaws.{at_least}
use Rattle.rules_tables.specs.Layout.{over_count_at}
use Rattle.book_tables.specs.View.{word_at}
use Rattle.rules_tables.proofs.policies.lacks_policy.Goals as goal

pub returns-then-words-k-eq0 : goal.returns-then-words-k-eq0
returns-then-words-k-eq0 c =
    at_least c.args.counts.policies c.policy_place.result
    ∙ rw (c.policy_place.ensures, eq-eqb (word_at c.args.words.now (over_count_at c.args.k)) 0 c.if-words-k-eq0.true)

pub returns : goal.returns
returns c = rw (ne_eqb (word_at c.args.words.now (over_count_at c.args.k)) 0 c.if-words-k-eq0.false)
