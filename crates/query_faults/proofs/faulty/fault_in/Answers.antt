-- `query_faults::faulty::fault_in` meets its contract, with tables of any size: a table of zeros has no name. Assumes nothing.
use Rattle.names_met.proofs.TableLaws.{holds_none}
use borrow.Author.Rules.{rules}
use Rattle.query_faults.proofs.faulty.fault_in.Goals as goal

pub fault_with-requires : goal.fault_with-requires
fault_with-requires g c = (search rules, holds_none _ _ c.requires.1, holds_none _ _ c.requires.1, holds_none _ _ c.requires.1)
