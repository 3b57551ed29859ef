use Rattle.query_pieces.specs.Steps.{spot_of}
use Rattle.query_pieces.specs.Walk.{ends_well}
use mathlib.Core.Path.{sym, ap}
use Rattle.query_pieces.proofs.spots.ends_well.Goals as goal

pub returns-in-AtStart : goal.returns-in-AtStart
unfolding ends_well spot_of
returns-in-AtStart c = sym (ap (λ x. ends_well (spot_of x)) c.in-AtStart.is)

pub returns-in-InChain : goal.returns-in-InChain
unfolding ends_well spot_of
returns-in-InChain c = sym (ap (λ x. ends_well (spot_of x)) c.in-InChain.is)

pub returns-in-InWhere : goal.returns-in-InWhere
unfolding ends_well spot_of
returns-in-InWhere c = sym (ap (λ x. ends_well (spot_of x)) c.in-InWhere.is)

pub returns-in-InReturn : goal.returns-in-InReturn
unfolding ends_well spot_of
returns-in-InReturn c = sym (ap (λ x. ends_well (spot_of x)) c.in-InReturn.is)
