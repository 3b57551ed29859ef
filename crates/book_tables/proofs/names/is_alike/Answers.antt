use Rattle.book_tables.proofs.names.is_alike.Goals as goal

pub returns-in-Exact : goal.returns-in-Exact
returns-in-Exact c = rw c.in-Exact.is c.same_bytes.ensures

pub returns-in-AnyCase : goal.returns-in-AnyCase
returns-in-AnyCase c = rw c.in-AnyCase.is c.same_but_case.ensures
