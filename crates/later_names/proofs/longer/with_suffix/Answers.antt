-- `later_names::longer::with_suffix` meets its contract.
use native.Mathlib.Omega.{arith}
use Rattle.later_names.proofs.SuffixLaws.{named}
use Rattle.later_names.proofs.longer.with_suffix.Goals as goal

pub returns : goal.returns
returns c = named c.args.name.now _ _ c.copy_from_slice.ensures.after (omega arith) 95 98
