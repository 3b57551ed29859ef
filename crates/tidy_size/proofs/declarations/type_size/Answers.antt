-- `tidy_size::declarations::type_size` meets its contract. Assumes nothing.
use Rattle.tidy_size.proofs.LengthLaws.{short_type, long_type}
use Rattle.tidy_size.proofs.declarations.type_size.Goals as goal

pub returns-then-kind-le-STR : goal.returns-then-kind-le-STR
returns-then-kind-le-STR c = short_type c.args.kind c.if-kind-le-STR.true

pub returns : goal.returns
returns c = long_type c.args.kind c.if-kind-le-STR.false
