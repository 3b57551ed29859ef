use Rattle.book_tables.proofs.owners.more_owners.Goals as goal

pub returns-in-Node : goal.returns-in-Node
returns-in-Node c = rw c.in-Node.is

pub returns-in-Relationship : goal.returns-in-Relationship
returns-in-Relationship c = rw c.in-Relationship.is
