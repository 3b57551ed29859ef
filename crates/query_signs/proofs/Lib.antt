pub mod MarkLaws
pub mod SignLaws
pub mod PlacedLaws
pub mod ExpectLaws
pub mod FrontLaws
