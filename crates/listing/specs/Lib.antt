-- What a list gives.
pub mod Listed
