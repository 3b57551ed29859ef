-- `book_lookup::testing::owner_meets` meets its contract: what the pass by numbers comes to is what the definitions say by name. Assumes nothing.
use mathlib.Core.Path.{ap, ◌∙◌}
use Rattle.model.specs.Answers.{relation_of, value_of}
use Rattle.model.specs.Graph.{meets}
use Rattle.book_tables.proofs.OwnerLaws.{owner_few}
use Rattle.book_lookup.proofs.FoundLaws.{owner_sought, owner_looked_law, entries_ready}
use Rattle.book_lookup.proofs.testing.owner_meets.Goals as goal

pub entries_of-entries-requires : goal.entries_of-entries-requires
entries_of-entries-requires c =
    let asked = c.requires.0 in
    record { room = asked.fits.room; owned = asked.owned; few = owner_few _ c.args.words.now _ asked.fits c.args.owner }

pub test_entries-requires : goal.test_entries-requires
test_entries-requires c =
    let a = c.args in
    let asked = c.requires.0 in
    (rw c.entries_of-entries.ensures (entries_ready a.book.now a.words.now a.counts asked.fits a.owner a.number asked.owned), c.requires.1)

pub returns : goal.returns
returns c =
    let a = c.args in
    let asked = c.requires.0 in
    let told = rw c.entries_of-entries.ensures at c.test_entries.ensures in record {
      met = told.met
          ∙ ap (λ v. meets v (relation_of a.relation) (value_of a.text.now a.value))
          (owner_sought a.book.now a.words.now a.counts asked.fits a.attribute a.owner a.number asked.owned asked.declared);
      looked = told.looked ∙ owner_looked_law a.book.now a.words.now a.counts asked.fits a.attribute a.owner a.number asked.owned asked.declared;
    }
