-- What a list gives, by what asking gives.
pub mod ListingLaws
