-- What the contract of the node names' service speaks of.
pub mod Names
