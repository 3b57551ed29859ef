-- What the contract of the slots speaks of.
pub mod Slots
