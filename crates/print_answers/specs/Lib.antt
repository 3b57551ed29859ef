-- What the contracts of the printing functions speak of.
pub mod Identities
