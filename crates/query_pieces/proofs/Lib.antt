pub mod Walks
pub mod Trees
pub mod Tests
pub mod StepLaws
pub mod PartLaws
pub mod SpotLaws
