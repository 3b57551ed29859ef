use Rattle.query_pieces.specs.Steps.{chain_at}
use mathlib.Core.Path.{sym, ap}
use Rattle.query_pieces.proofs.spots.in_chain.Goals as goal

pub returns-in-AtStart : goal.returns-in-AtStart
unfolding chain_at
returns-in-AtStart c = sym (ap chain_at c.in-AtStart.is)

pub returns-in-InChain : goal.returns-in-InChain
unfolding chain_at
returns-in-InChain c = sym (ap chain_at c.in-InChain.is)

pub returns-in-InWhere : goal.returns-in-InWhere
unfolding chain_at
returns-in-InWhere c = sym (ap chain_at c.in-InWhere.is)

pub returns-in-InReturn : goal.returns-in-InReturn
unfolding chain_at
returns-in-InReturn c = sym (ap chain_at c.in-InReturn.is)
