-- What the contracts of services that write a book speak of.
pub mod Leaves
