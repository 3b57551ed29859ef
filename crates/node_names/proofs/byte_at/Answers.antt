-- A byte of a name, or 0 past it.
use mathlib.Core.Path.{sym}
use lib.ListN.{get_or-eq_default}
use Rattle.node_names.proofs.byte_at.Goals as goal

pub returns-then-name-i : goal.returns-then-name-i
returns-then-name-i c = sym (get_or-eq_default c.args.name.now 0 c.if-name-i.true)
