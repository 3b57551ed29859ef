-- Laws of the readers' definitions, for the proofs of the readers and of their callers.
pub mod PlaceLaws
pub mod WordLaws
pub mod WordBytes
pub mod NumberLaws
pub mod QuoteLaws
pub mod LineLaws
pub mod LineReads
