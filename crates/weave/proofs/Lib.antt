-- Laws of weaving that belong to no one function; Whole and Identified have those that a caller cites.
pub mod OneMore
pub mod Limits
pub mod Ranges
pub mod Adding
pub mod OneText
pub mod TieLaws
pub mod IdentityLaws
pub mod Finishing
pub mod Whole
pub mod Identified
pub mod Parts
