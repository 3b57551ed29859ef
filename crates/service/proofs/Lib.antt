-- The reasoning behind the services' proofs.
pub mod ReaderLaws
pub mod WritingLaws
