-- The laws behind putting texts into buffers.
pub mod PuttingLaws
pub mod ListingLaws
pub mod ValueLaws
pub mod WholeLaws
