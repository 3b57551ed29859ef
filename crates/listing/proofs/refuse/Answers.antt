-- A refusal of a list: the row words are filled.
use Rattle.listing.proofs.ListingLaws.{lists_nothing}
use Rattle.listing.proofs.refuse.Goals as goal

pub returns : goal.returns
returns c = lists_nothing _ c.args.rows.now _ c.fill.ensures
