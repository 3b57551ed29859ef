use Rattle.book_tables.proofs.AlikeLaws.{found_exact}
use Rattle.book_tables.proofs.names.find_node.Goals as goal

pub find_alike-requires : goal.find_alike-requires
find_alike-requires c = c.requires

pub returns : goal.returns
returns c = found_exact c.args.text.now c.args.words.now c.args.counts c.args.name.now _ c.requires c.find_alike.ensures
