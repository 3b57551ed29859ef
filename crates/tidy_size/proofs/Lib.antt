-- The laws behind the sizes.
pub mod LengthLaws
pub mod DigitLaws
pub mod SizeLaws
pub mod DeclarationLaws
pub mod ValueLaws
pub mod EntryLaws
pub mod OwnerLaws
pub mod TidyLaws
