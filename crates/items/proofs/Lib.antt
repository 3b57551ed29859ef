-- Laws of items and of the rest of a list, for the proofs of the readers and of their callers.
pub mod SizeLaws
pub mod FitLaws
pub mod RestLaws
pub mod ReadLaws
pub mod NextLaws
