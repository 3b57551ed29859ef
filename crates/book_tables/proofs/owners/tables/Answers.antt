use borrow.Author.Rules.{rules}
use Rattle.book_tables.proofs.owners.tables.Goals as goal

pub returns-in-Node : goal.returns-in-Node
returns-in-Node c = rw c.in-Node.is (search rules)

pub returns-in-Relationship : goal.returns-in-Relationship
returns-in-Relationship c = rw c.in-Relationship.is (search rules)
