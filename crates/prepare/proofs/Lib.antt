-- Why what is ready is what the texts give, step by step, and what a service makes of it.
pub mod NeededLaws
pub mod StepLaws
pub mod ThroughLaws
pub mod BookLaws
