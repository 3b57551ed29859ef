-- The bytes of no names are all 0.
use Rattle.node_names.proofs.NameLaws.{no_names}
use Rattle.node_names.proofs.no_bytes.Goals as goal

pub returns : goal.returns
returns c = no_names
