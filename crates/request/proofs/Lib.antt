-- Laws of a request's line.
pub mod WordLaws
pub mod PlaceLaws
pub mod ClaimLaws
pub mod FaultLaws
pub mod FormLaws
pub mod StoreLaws
pub mod ReadLaws
