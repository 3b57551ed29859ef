-- `request::faults::is_node` meets its contract. Assumes nothing.
use Rattle.request.proofs.FaultLaws.{node_test}
use Rattle.request.proofs.faults.is_node.Goals as goal

pub returns : goal.returns
returns c =
    let a = c.args in
    node_test a.book.now a.words.now a.counts a.name.now _ c.find_node.ensures
